-- Limits and numbers that several layers keep.
use Rattle.std.specs.Prelude.{ℕ, ℤ, pos, Bool, nat_lt}
use Rattle.gd_variant.specs.declared.value.Variant.{Variant}
use Rattle.gd_variant.specs.Size.{value_size}

-- the most bytes of a value that a property or an argument takes
abbrev pub most_value_bytes : ℕ
most_value_bytes = 65536

-- a value that is too long for a property
abbrev pub is_long : Variant → Bool
is_long v = nat_lt most_value_bytes (value_size v)
