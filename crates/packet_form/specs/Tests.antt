-- Tests on fields, and what layouts make of them, which the grammar and reading share.
use Rattle.std.specs.Prelude.{ℕ, ◌+◌, ◌-◌, Bool, false, not, ◌&&◌, ◌||◌, List, [], ◌∷◌, take, slice_index, nat_eq, nat_lt, nat_le, if◌then◌else◌}
use Rattle.gd_variant.specs.Sound.{has_no_zero}
use Rattle.gd_variant.specs.declared.value.Variant.{Variant}
use Rattle.gd_variant.specs.declared.value.Variant.TheVariants.{PackedBytes}
use Rattle.gd_variant.specs.declared.message.Entry.{Entry}
use Rattle.gd_variant.specs.declared.message.DeltaEntry.{DeltaEntry}
use Rattle.packet_form.specs.declared.head.CallHead.{CallHead}
use Rattle.packet_form.specs.declared.head.NodeWidth.{NodeWidth}
use Rattle.packet_form.specs.declared.head.NodeWidth.TheVariants.{One, Two, Four}
use Rattle.packet_form.specs.Head.{method_size}

-- a number but 0
abbrev pub is_some : ℕ → Bool
is_some n = not (nat_eq n 0)

-- the last of so many bytes is zero, and none before it
abbrev pub ends_name : ℕ → List ℕ → Bool
ends_name len s = nat_eq (slice_index s (len - 1)) 0 && has_no_zero (take (len - 1) s)

-- one PackedBytes of all bytes, or nothing where there are none
abbrev pub raw_args : List ℕ → List Variant
raw_args [] = []
raw_args (b ∷ bytes) = PackedBytes (b ∷ bytes) ∷ []

-- a node id of four bytes with bit 31 set tells where the path stands in this packet
abbrev pub is_offset : NodeWidth → ℕ → Bool
is_offset One id = false
is_offset Two id = false
is_offset Four id = nat_le 2147483648 id

-- where the method id ends: behind the first byte and the node id of four bytes
abbrev pub method_end : CallHead → ℕ
method_end h = 5 + method_size h.wide_method

-- an offset is behind the method id and within the packet, of which so many bytes follow the node id
abbrev pub offset_fits : CallHead → ℕ → ℕ → Bool
offset_fits h id left = not (is_offset h.node id) || (nat_le (method_end h) (id - 2147483648) && nat_lt (id - 2147483648) (5 + left))

-- lower-case hexadecimal
abbrev pub is_digit : ℕ → Bool
is_digit n = (nat_le 48 n && nat_le n 57) || (nat_le 97 n && nat_le n 102)

abbrev pub digit_of : ℕ → ℕ
digit_of n = if nat_le n 57 then n - 48 else n - 87

abbrev pub is_zero : ℕ → Bool
is_zero n = nat_eq n 0

abbrev pub is_flag : ℕ → Bool
is_flag n = nat_le n 1

abbrev pub entry_of : ℕ → List Variant → Entry
entry_of id values = record { id = id; values = values }

abbrev pub delta_entry_of : ℕ → ℕ → List Variant → DeltaEntry
delta_entry_of id mask values = record { id = id; mask = mask; values = values }

abbrev pub is_subcommand : ℕ → Bool
is_subcommand n = nat_le n 3
