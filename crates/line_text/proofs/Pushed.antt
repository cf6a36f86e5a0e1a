-- A signed number that was pushed is the number.
use Rattle.std.proofs.Common.{◌≡◌, List, [], ◌∷◌, ◌++◌, ap, ◌∙◌, arith}
use Rattle.std.specs.Prelude.{ℤ, pos, negsuc}
use Rattle.std.specs.Int.{Width, w32, w64}
use Rattle.std.specs.Int.RustNames.{FitsSigned}
use Rattle.std.proofs.lemmas.Int.{to_z-of_z}
use mir.Val.{to_z, of_z}

pub pushed : (w : Width) (z : ℤ) (old now : List ℤ) → FitsSigned w z → now ≡ old ++ to_z w (of_z w z) ∷ [] → now ≡ old ++ z ∷ []
pushed w z old now fits e = e ∙ ap (λ y. old ++ y ∷ []) (to_z-of_z w z fits)

wider : (z : ℤ) → FitsSigned w32 z → FitsSigned w64 z
wider (pos n) h = omega arith
wider (negsuc n) h = omega arith

-- the same of a 32-bit number in a list of 64-bit ones
pub pushed_wide : (z : ℤ) (old now : List ℤ) → FitsSigned w32 z → now ≡ old ++ to_z w64 (of_z w64 (to_z w32 (of_z w32 z))) ∷ [] → now ≡ old ++ z ∷ []
pushed_wide z old now fits e = pushed w64 z old now (wider z fits) (e ∙ ap (λ y. old ++ to_z w64 (of_z w64 y) ∷ []) (to_z-of_z w32 z fits))
