-- A line that is JSON, and one that isn't.
use Rattle.std.proofs.Common.{◌≡◌, ℕ, Bool, true, false, List, Ok, Err, refl}
use Rattle.std.specs.Prelude.{Some, None}
use Rattle.std.specs.Str.{is_utf8, IsUtf8}
use Rattle.std.proofs.lemmas.Str.{IsUtf8-from_is_utf8, is_utf8-from_IsUtf8}
use Rattle.serde_json.specs.Data.{Data}
use Rattle.serde_json.specs.Read.{read}
use Rattle.program_edge.specs.declared.status.LineWhy.TheVariants.{Json}
use Rattle.line_text.specs.Lines.{line_data}

pub is_json : (b : List ℕ) (d : Data) → IsUtf8 b → read b ≡ Some d → line_data b ≡ Ok d
unfolding line_data
is_json b d u r = rw (is_utf8-from_IsUtf8 b u, r) refl

no_utf8 : (b : List ℕ) (t : Bool) → is_utf8 b ≡ t → (IsUtf8 b → read b ≡ None) → line_data b ≡ Err Json
unfolding line_data
no_utf8 b true e r = rw (e, r (IsUtf8-from_is_utf8 b e)) refl
no_utf8 b false e r = rw e refl

pub no_json : (b : List ℕ) → (IsUtf8 b → read b ≡ None) → line_data b ≡ Err Json
no_json b r = no_utf8 b (is_utf8 b) refl r
