-- The packet that is written for a message, and which messages have one.
use Rattle.std.specs.Prelude.{◌≡◌, ℕ, ◌+◌, ◌/◌, ◌%◌, ◌<◌, ◌≤◌, ◌^◌, ℤ, Bool, true, false, not, List, [], ◌∷◌, ◌++◌, length, Some, None, Option, nat_eq, nat_lt, if◌then◌else◌, IsTrue}
use Rattle.std.specs.List.{flat_map, AllByRecursion}
use Rattle.std.specs.Int.{w8, w16, w32, w64}
use Rattle.std.specs.Str.{is_utf8}
use Rattle.byte_fields.specs.Fields.{word}
use Rattle.byte_fields.specs.Complement.{IsWithin, half32}
use Rattle.gd_variant.specs.Tree.{plain as tree_of}
use Rattle.gd_variant.specs.Sound.{has_no_zero, is_text, is_sound}
use Rattle.gd_variant.specs.declared.value.Variant.{Variant}
use Rattle.gd_variant.specs.declared.value.Variant.TheVariants.{PackedBytes}
use Rattle.gd_variant.specs.declared.message.Entry.{Entry}
use Rattle.gd_variant.specs.declared.message.DeltaEntry.{DeltaEntry}
use Rattle.gd_variant.specs.declared.message.Target.{Target}
use Rattle.gd_variant.specs.declared.message.Target.TheVariants as target
use Rattle.gd_variant.specs.declared.message.Plain.{Plain}
use Rattle.gd_variant.specs.declared.message.Plain.TheVariants as plain
use Rattle.gd_variant.specs.declared.message.Message.{Message}
use Rattle.gd_variant.specs.declared.message.Message.TheVariants as message
use Rattle.variant_codec.specs.Written.{written_small, written_short}
use Rattle.packet_form.specs.declared.head.NodeWidth.{NodeWidth}
use Rattle.packet_form.specs.declared.head.NodeWidth.TheVariants.{One, Two, Four}
use Rattle.packet_form.specs.declared.head.CallHead.{CallHead}
use Rattle.packet_form.specs.Head.{width_of, method_width, bit, call_byte}
use Rattle.packet_form.specs.Tests.{method_end}

-- ---- values and ids

abbrev pub written_value : Variant → List ℕ
written_value v = written_small (tree_of v)

abbrev pub written_values : List Variant → List ℕ
written_values = flat_map written_value

abbrev pub ids_bytes : List ℕ → List ℕ
ids_bytes = flat_map (word w32)

-- a size, and the values
unfoldable pub sized_bytes : List Variant → List ℕ
sized_bytes values = word w32 (length (written_values values)) ++ written_values values

-- ---- calls

-- the fewest bytes of a node id and of a method id
abbrev pub fewest_node : ℕ → NodeWidth
fewest_node id = if nat_lt id 256 then One else if nat_lt id 65536 then Two else Four

abbrev pub is_wide_method : ℕ → Bool
is_wide_method method = not (nat_lt method 256)

-- no argument, or one PackedBytes that isn't empty
abbrev pub is_raw : List Variant → Bool
is_raw [] = true
is_raw (PackedBytes bytes ∷ []) = not (nat_eq (length bytes) 0)
is_raw args = false

abbrev pub raw_bytes : List Variant → List ℕ
raw_bytes (PackedBytes bytes ∷ []) = bytes
raw_bytes args = []

unfoldable pub args_bytes : List Variant → List ℕ
args_bytes args = if is_raw args then raw_bytes args else word w8 (length args) ++ written_values args

-- a path takes four bytes, for its offset
abbrev pub target_width : Target → NodeWidth
target_width (target.Id id) = fewest_node id
target_width (target.At path) = Four

abbrev pub head_for : Target → ℕ → List Variant → CallHead
head_for t method args = record { node = target_width t; wide_method = is_wide_method method; raw = is_raw args }

-- a node's id, or the offset of its path with bit 31
abbrev pub node_number : Target → ℕ → ℕ
node_number (target.Id id) offset = id
node_number (target.At path) offset = 2147483648 + offset

abbrev pub target_bytes : Target → List ℕ
target_bytes (target.Id id) = []
target_bytes (target.At path) = path ++ 0 ∷ []

unfoldable pub call_bytes : Target → ℕ → List Variant → List ℕ
call_bytes t method args =
    word w8 (call_byte (head_for t method args))
    ++ (word (width_of (target_width t)) (node_number t (method_end (head_for t method args) + length (args_bytes args)))
    ++ (word (method_width (is_wide_method method)) method ++ (args_bytes args ++ target_bytes t)))

-- ---- names

-- the lower-case digit of a number below 16
abbrev pub digit : ℕ → ℕ
digit n = if nat_lt n 10 then 48 + n else 87 + n

abbrev pub digits_of : ℕ → List ℕ
digits_of n = word w8 (digit (n / 16)) ++ word w8 (digit (n % 16))

unfoldable pub simplify_bytes : List ℕ → ℕ → List ℕ → List ℕ
simplify_bytes digest id path = word w8 1 ++ (flat_map digits_of digest ++ (word w8 0 ++ (word w32 id ++ (path ++ 0 ∷ []))))

-- ---- spawns

abbrev pub arg_bytes : Option Variant → List ℕ
arg_bytes None = []
arg_bytes (Some v) = word w32 (length (written_value v)) ++ written_value v

-- a spawn in front of the bytes of its custom argument and its values
unfoldable pub spawn_bytes : ℕ → ℕ → ℕ → List ℕ → List ℕ → List ℕ → List ℕ
spawn_bytes scene spawner net syncs name values =
    word w8 4 ++ (word w8 scene ++ (word w32 spawner ++ (word w32 net ++ (word w32 (length syncs) ++ (word w32 (length name + 1) ++ (ids_bytes syncs ++ (name ++ (0 ∷ values))))))))

-- ---- samples and changes

unfoldable pub entry_bytes : Entry → List ℕ
entry_bytes e = word w32 e.id ++ sized_bytes e.values

unfoldable pub delta_entry_bytes : DeltaEntry → List ℕ
delta_entry_bytes e = word w32 e.id ++ (word w64 e.mask ++ sized_bytes e.values)

-- ---- whole packets

abbrev pub written_plain : Plain → List ℕ
written_plain (plain.Call t method args) = call_bytes t method args
written_plain (plain.Simplify digest id path) = simplify_bytes digest id path
written_plain (plain.Confirm ok id) = word w8 2 ++ (word w8 (bit ok) ++ word w32 id)
written_plain (plain.Raw bytes) = word w8 3 ++ bytes
written_plain (plain.Spawn scene spawner net syncs name arg values) = spawn_bytes scene spawner net syncs name (arg_bytes arg ++ written_values values)
written_plain (plain.Despawn net) = word w8 5 ++ word w32 net
written_plain (plain.Sync tick entries) = word w8 6 ++ (word w16 tick ++ flat_map entry_bytes entries)
written_plain (plain.Delta entries) = word w8 22 ++ flat_map delta_entry_bytes entries

-- a system packet: its subcommand, the peer, and what follows
unfoldable pub system_bytes : ℕ → ℤ → List ℕ → List ℕ
system_bytes sub peer payload = word w8 7 ++ (word w8 sub ++ (written_short peer ++ payload))

-- the packet that is written for a message
abbrev pub written_packet : Message → List ℕ
written_packet (message.Plain p) = written_plain p
written_packet (message.Auth peer bytes) = system_bytes 0 peer bytes
written_packet (message.AddPeer peer) = system_bytes 1 peer []
written_packet (message.DelPeer peer) = system_bytes 2 peer []
written_packet (message.Relay peer inner) = system_bytes 3 peer (written_plain inner)

-- ---- which messages have a packet, apart from what their types say of numbers and texts

abbrev pub IsSound : Variant → Type 0
IsSound v = IsTrue (is_sound v)

abbrev pub AreSound : List Variant → Type 0
AreSound = AllByRecursion IsSound

abbrev pub IsTargetSound : Target → Type 0
IsTargetSound (target.Id id) = id < 2147483648
IsTargetSound (target.At path) = Unit {0}

-- a spawn has a custom argument exactly where its scene is 255
abbrev pub IsArgSound : ℕ → Option Variant → Type 0
IsArgSound scene None = nat_eq scene 255 ≡ false
IsArgSound scene (Some v) = (nat_eq scene 255 ≡ true) × IsSound v

abbrev pub IsEntrySound : Entry → Type 0
IsEntrySound e = AreSound e.values

abbrev pub IsDeltaEntrySound : DeltaEntry → Type 0
IsDeltaEntrySound e = AreSound e.values

abbrev pub IsPlainSound : Plain → Type 0
IsPlainSound (plain.Call t method args) = IsTargetSound t × (length args ≤ 255) × AreSound args
IsPlainSound (plain.Spawn scene spawner net syncs name arg values) = IsArgSound scene arg × AreSound values
IsPlainSound (plain.Sync tick entries) = AllByRecursion IsEntrySound entries
IsPlainSound (plain.Delta entries) = AllByRecursion IsDeltaEntrySound entries
IsPlainSound p = Unit {0}

abbrev pub IsMessageSound : Message → Type 0
IsMessageSound (message.Plain p) = IsPlainSound p
IsMessageSound (message.Relay peer inner) = IsPlainSound inner
IsMessageSound m = Unit {0}

-- ---- the same, with what the types say

abbrev pub AreIds : List ℕ → Type 0
AreIds = AllByRecursion (λ id. id < 2 ^ 32)

abbrev pub AreBytes : List ℕ → Type 0
AreBytes = AllByRecursion (λ b. b < 2 ^ 8)

-- text without a zero byte, whose length with one is a number of four bytes
pub record IsName (name : List ℕ) : Type 0 where
  pub zero : has_no_zero name ≡ true
  pub utf8 : is_utf8 name ≡ true
  pub short : length name + 1 < 2 ^ 32

-- the numbers and the name of a spawn
pub record FitsSpawn (scene spawner net : ℕ) (syncs name : List ℕ) : Type 0 where
  pub scene_fits : scene < 2 ^ 8
  pub spawner_fits : spawner < 2 ^ 32
  pub net_fits : net < 2 ^ 32
  pub count_fits : length syncs < 2 ^ 32
  pub syncs_fit : AreIds syncs
  pub is_name : IsName name

abbrev pub FitsTarget : Target → Type 0
FitsTarget (target.Id id) = id < 2147483648
FitsTarget (target.At path) = is_text path ≡ true

-- the numbers of an entry are numbers of their width
abbrev pub HasId : Entry → Type 0
HasId e = e.id < 2 ^ 32

abbrev pub HasNumbers : DeltaEntry → Type 0
HasNumbers e = (e.id < 2 ^ 32) × (e.mask < 2 ^ 64)

abbrev pub FitsEntry : Entry → Type 0
FitsEntry e = (e.id < 2 ^ 32) × AreSound e.values

abbrev pub FitsDeltaEntry : DeltaEntry → Type 0
FitsDeltaEntry e = (e.id < 2 ^ 32) × (e.mask < 2 ^ 64) × AreSound e.values

abbrev pub FitsPlain : Plain → Type 0
FitsPlain (plain.Call t method args) = FitsTarget t × (method < 2 ^ 16) × (length args ≤ 255) × AreSound args
FitsPlain (plain.Simplify digest id path) = (length digest ≡ 16) × AreBytes digest × (id < 2 ^ 32) × (is_text path ≡ true)
FitsPlain (plain.Confirm ok id) = id < 2 ^ 32
FitsPlain (plain.Raw bytes) = Unit {0}
FitsPlain (plain.Spawn scene spawner net syncs name arg values) = FitsSpawn scene spawner net syncs name × IsArgSound scene arg × AreSound values
FitsPlain (plain.Despawn net) = net < 2 ^ 32
FitsPlain (plain.Sync tick entries) = (tick < 2 ^ 16) × AllByRecursion FitsEntry entries
FitsPlain (plain.Delta entries) = AllByRecursion FitsDeltaEntry entries

abbrev pub FitsMessage : Message → Type 0
FitsMessage (message.Plain p) = FitsPlain p
FitsMessage (message.Auth peer bytes) = IsWithin half32 peer
FitsMessage (message.AddPeer peer) = IsWithin half32 peer
FitsMessage (message.DelPeer peer) = IsWithin half32 peer
FitsMessage (message.Relay peer inner) = IsWithin half32 peer × FitsPlain inner
