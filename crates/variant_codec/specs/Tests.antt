-- Tests on headers, lengths and keys, which the grammar and reading share.
use Rattle.std.specs.Prelude.{ℕ, zero, ◌-◌, ◌%◌, Bool, not, List, length, take, slice_index_or, nat_eq, nat_le, if◌then◌else◌}
use Rattle.std.specs.List.{list_any}
use Rattle.gd_variant.specs.Tree.{Tree, PairTree, tree_eq}

-- without one zero byte at the end
abbrev pub stripped : List ℕ → List ℕ
stripped s = if nat_eq (slice_index_or s (length s - 1) 1) 0 then take (length s - 1) s else s

-- bit 31 has to be set
abbrev pub has_names_bit : ℕ → Bool
has_names_bit n = nat_le 2147483648 n

abbrev pub is_path_flags : ℕ → Bool
is_path_flags n = nat_le n 1

-- the number in a count, without the shared bit
abbrev pub without_bit : ℕ → ℕ
without_bit n = n % 2147483648

-- whether a key is none of the keys of some pairs
abbrev pub is_new_to : List PairTree → Tree → Bool
is_new_to ps k = not (list_any (λ p. tree_eq k p.key) ps)

-- 32 levels of dictionaries and arrays, and a value inside
abbrev pub most_levels : ℕ
most_levels = 33
