-- The lines that tell what bytes hold.
use Rattle.std.specs.Prelude.{ℕ, List, [], ◌∷◌, codes}
use Rattle.gd_variant.specs.declared.value.Variant.{Variant}
use Rattle.serde_json.specs.Data.{string}
use Rattle.session_text.specs.Json.{hex_of, line_of, nat_of}
use Rattle.session_text.specs.Values.{value_of}

-- a value at the front of some bytes: the length of its form, the value, and its written form
abbrev pub decoded_line : ℕ → Variant → List ℕ → List ℕ
decoded_line len v written = line_of (string (codes "value") ∷ nat_of len ∷ value_of v ∷ hex_of written ∷ [])
