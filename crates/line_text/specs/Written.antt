-- Values that are read as they were written.
use Rattle.std.specs.Prelude.{◌≡◌, ℕ, Bool, true, ◌&&◌, List, Ok, nat_lt}
use Rattle.std.specs.List.{list_all}
use Rattle.gd_variant.specs.declared.value.Variant.{Variant}
use Rattle.gd_variant.specs.Sound.{is_sound}
use Rattle.gd_variant.specs.Tree.{Tree, Trees, plain, opaque, dict, array, packed_bytes, none, item}
use Rattle.session_text.specs.Values.{value_of}
use Rattle.line_text.specs.Values.{value_read}

-- whether numbers are bytes
abbrev pub are_bytes : List ℕ → Bool
are_bytes bs = list_all (λ b. nat_lt b 256) bs

-- whether all bytes in a value are bytes, which the type of a value says
abbrev mutual
  pub holds_bytes : Tree → Bool
  holds_bytes (opaque code wide bytes) = are_bytes bytes
  holds_bytes (packed_bytes bytes) = are_bytes bytes
  holds_bytes (dict ts) = hold_bytes ts
  holds_bytes (array ts) = hold_bytes ts
  holds_bytes t = true

  pub hold_bytes : Trees → Bool
  hold_bytes none = true
  hold_bytes (item t ts) = holds_bytes t && hold_bytes ts

-- a sound value is read of what is written of it
abbrev pub ReadsWritten : Type 0
ReadsWritten = (v : Variant) → is_sound v ≡ true → holds_bytes (plain v) ≡ true → value_read (value_of v) ≡ Ok v
