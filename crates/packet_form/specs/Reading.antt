-- Reading a packet from left to right, with the first fault that is met.
use Rattle.std.specs.Prelude.{ℕ, ◌+◌, ◌-◌, ◌*◌, ℤ, Bool, List, [], length, take, Ok, Err, Some, None, Option, nat_eq, nat_lt, if◌then◌else◌}
use Rattle.std.specs.Int.{w8, w16, w32, w64}
use Rattle.std.specs.List.{prefix_len}
use Rattle.std.specs.Str.{is_utf8}
use Rattle.gd_variant.specs.Back.{value_of}
use Rattle.gd_variant.specs.declared.value.Variant.{Variant}
use Rattle.gd_variant.specs.declared.message.Entry.{Entry}
use Rattle.gd_variant.specs.declared.message.DeltaEntry.{DeltaEntry}
use Rattle.gd_variant.specs.declared.message.Target.TheVariants as target
use Rattle.gd_variant.specs.declared.message.Plain.{Plain}
use Rattle.gd_variant.specs.declared.message.Plain.TheVariants as plain
use Rattle.gd_variant.specs.declared.message.Message.{Message}
use Rattle.gd_variant.specs.declared.message.Message.TheVariants as message
use Rattle.gd_variant.specs.declared.message.Why.TheVariants.{Utf8, Empty, Command, Width, PathEnd, Digits, Count, Size, Trailing, Nested}
use Rattle.byte_fields.specs.Fields.{fault, number_at}
use Rattle.variant_codec.specs.Readers.{Reader, raw_at, done_at, mapped_by, checked_by, then_by, list_by}
use Rattle.variant_codec.specs.Reading.{small_at, short_at}
use Rattle.packet_form.specs.declared.head.CallHead.{CallHead}
use Rattle.packet_form.specs.declared.head.Head.{Head}
use Rattle.packet_form.specs.declared.head.Head.TheVariants as head
use Rattle.packet_form.specs.Head.{is_command, has_width, head_of, is_plain, width_of, method_width}
use Rattle.packet_form.specs.Wholes.{Whole, rest_at, seen_by, ending_by, before_by, fitting_by, filled_by, region_by}
use Rattle.packet_form.specs.Tests.{is_some, is_digit, digit_of, is_zero, is_flag, is_subcommand, raw_args, ends_name, is_offset, method_end, offset_fits, entry_of, delta_entry_of}

-- ---- fields

-- the first byte
unfoldable pub first_at : Reader ℕ
first_at bytes = if nat_eq (length bytes) 0 then Err (fault 0 Empty) else number_at w8 bytes

unfoldable pub head_at : Reader Head
head_at = mapped_by head_of (checked_by has_width Width (checked_by is_command Command first_at))

-- a compressed value
unfoldable pub value_at : Reader Variant
value_at = mapped_by value_of small_at

-- compressed values up to the end
unfoldable pub values_at : Whole (List Variant)
values_at = filled_by value_at

-- so many ids of four bytes
unfoldable pub ids_at : ℕ → Reader (List ℕ)
ids_at n = list_by (λ _. number_at w32) [] n

-- a text and a zero byte, up to the end: PathEnd, then Trailing, then Utf8
unfoldable pub path_at : Whole (List ℕ)
path_at bytes =
    if nat_eq (prefix_len is_some bytes) (length bytes) then Err (fault (length bytes) PathEnd)
    else (if nat_lt (prefix_len is_some bytes + 1) (length bytes) then Err (fault (length bytes - (prefix_len is_some bytes + 1)) Trailing)
    else (if is_utf8 (take (prefix_len is_some bytes) bytes) then Ok (take (prefix_len is_some bytes) bytes) else Err (fault (length bytes) Utf8)))

-- the length of a name with its zero byte
unfoldable pub name_length_at : Reader ℕ
name_length_at = checked_by is_some PathEnd (number_at w32)

-- a name and its zero byte, one field of so many bytes
unfoldable pub name_at : ℕ → Reader (List ℕ)
name_at len = mapped_by (take (len - 1)) (checked_by (λ s. is_utf8 (take (len - 1) s)) Utf8 (checked_by (ends_name len) PathEnd (raw_at len)))

-- ---- calls

unfoldable pub count_at : Reader ℕ
count_at = checked_by is_some Count (number_at w8)

unfoldable pub counted_args_at : Reader (List Variant)
counted_args_at = then_by count_at (λ n. list_by (λ _. value_at) [] n)

unfoldable pub args_at : Bool → Whole (List Variant)
args_at raw = if raw then seen_by raw_args rest_at else ending_by Trailing counted_args_at

-- a call of a node by its number
unfoldable pub id_call_at : CallHead → ℕ → Whole Plain
id_call_at h id = before_by (number_at (method_width h.wide_method)) (λ method. seen_by (λ args. plain.Call (target.Id id) method args) (args_at h.raw))

-- a call of a node by its path, with so many bytes between the method id and the path
unfoldable pub path_call_at : CallHead → ℕ → Whole Plain
path_call_at h n =
    before_by (number_at (method_width h.wide_method)) (λ method.
    before_by (region_by n (args_at h.raw)) (λ args.
    seen_by (λ path. plain.Call (target.At path) method args) path_at))

unfoldable pub target_call_at : CallHead → ℕ → Whole Plain
target_call_at h id = if is_offset h.node id then path_call_at h (id - 2147483648 - method_end h) else id_call_at h id

unfoldable pub call_at : CallHead → Whole Plain
call_at h = fitting_by (offset_fits h) PathEnd (number_at (width_of h.node)) (target_call_at h)

-- ---- names and raw bytes

unfoldable pub digit_at : Reader ℕ
digit_at = mapped_by digit_of (checked_by is_digit Digits (number_at w8))

-- a byte of a digest, its high digit first
unfoldable pub digits_at : Reader ℕ
digits_at = then_by digit_at (λ high. mapped_by (λ low. 16 * high + low) digit_at)

unfoldable pub digest_at : Reader (List ℕ)
digest_at = list_by (λ _. digits_at) [] 16

-- the zero byte behind the digits
unfoldable pub zero_at : Reader ℕ
zero_at = checked_by is_zero Digits (number_at w8)

unfoldable pub simplify_at : Whole Plain
simplify_at =
    before_by digest_at (λ digest.
    before_by zero_at (λ _.
    before_by (number_at w32) (λ id.
    seen_by (λ path. plain.Simplify digest id path) path_at)))

-- a byte 0 or 1
unfoldable pub flag_at : Reader Bool
flag_at = mapped_by is_some (checked_by is_flag Digits (number_at w8))

unfoldable pub confirm_at : Whole Plain
confirm_at = before_by flag_at (λ ok. ending_by Trailing (mapped_by (λ id. plain.Confirm ok id) (number_at w32)))

-- ---- spawns

-- a size, and one value that fills it
unfoldable pub arg_at : Reader Variant
arg_at = then_by (number_at w32) (λ size. region_by size (ending_by Size value_at))

-- the custom argument, which stands there for scene 255 alone
unfoldable pub arg_for : ℕ → Reader (Option Variant)
arg_for scene = if nat_eq scene 255 then mapped_by (λ v. Some v) arg_at else done_at None

unfoldable pub spawn_at : Whole Plain
spawn_at =
    before_by (number_at w8) (λ scene.
    before_by (number_at w32) (λ spawner.
    before_by (number_at w32) (λ net.
    before_by (number_at w32) (λ count.
    before_by name_length_at (λ len.
    before_by (ids_at count) (λ syncs.
    before_by (name_at len) (λ name.
    before_by (arg_for scene) (λ arg.
    seen_by (λ values. plain.Spawn scene spawner net syncs name arg values) values_at))))))))

unfoldable pub despawn_at : Whole Plain
despawn_at = ending_by Trailing (mapped_by (λ net. plain.Despawn net) (number_at w32))

-- ---- samples and changes

-- a size, and values that fill it
unfoldable pub sized_values_at : Reader (List Variant)
sized_values_at = then_by (number_at w32) (λ size. region_by size values_at)

unfoldable pub entry_at : Reader Entry
entry_at = then_by (number_at w32) (λ id. mapped_by (entry_of id) sized_values_at)

unfoldable pub delta_entry_at : Reader DeltaEntry
delta_entry_at = then_by (number_at w32) (λ id. then_by (number_at w64) (λ mask. mapped_by (delta_entry_of id mask) sized_values_at))

unfoldable pub sync_at : Whole Plain
sync_at = before_by (number_at w16) (λ tick. seen_by (λ entries. plain.Sync tick entries) (filled_by entry_at))

unfoldable pub delta_at : Whole Plain
delta_at = seen_by (λ entries. plain.Delta entries) (filled_by delta_entry_at)

-- ---- whole packets

-- what stands behind a first byte; a system packet is none of these
unfoldable pub plain_of : Head → Whole Plain
plain_of (head.Call h) bytes = call_at h bytes
plain_of head.Simplify bytes = simplify_at bytes
plain_of head.Confirm bytes = confirm_at bytes
plain_of head.Raw bytes = seen_by (λ s. plain.Raw s) rest_at bytes
plain_of head.Spawn bytes = spawn_at bytes
plain_of head.Despawn bytes = despawn_at bytes
plain_of head.Sync bytes = sync_at bytes
plain_of head.Delta bytes = delta_at bytes
plain_of head.System bytes = Err (fault (length bytes) Nested)

-- a packet inside a relay
unfoldable pub inner_at : Whole Plain
inner_at = before_by (checked_by is_plain Nested head_at) plain_of

unfoldable pub subcommand_at : Reader ℕ
subcommand_at = checked_by is_subcommand Command (number_at w8)

-- the payload of a system packet
unfoldable pub payload_at : ℕ → ℤ → Whole Message
payload_at sub peer =
    if nat_eq sub 0 then seen_by (λ bytes. message.Auth peer bytes) rest_at
    else (if nat_eq sub 1 then ending_by Trailing (done_at (message.AddPeer peer))
    else (if nat_eq sub 2 then ending_by Trailing (done_at (message.DelPeer peer))
    else seen_by (λ inner. message.Relay peer inner) inner_at))

unfoldable pub system_at : Whole Message
system_at = before_by subcommand_at (λ sub. before_by short_at (payload_at sub))

unfoldable pub message_of : Head → Whole Message
message_of h = if is_plain h then seen_by (λ p. message.Plain p) (plain_of h) else system_at

unfoldable pub message_at : Whole Message
message_at = before_by head_at message_of
