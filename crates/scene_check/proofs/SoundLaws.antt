-- Default values that are known to be sound.
use Rattle.std.proofs.Common.{◌≡◌, ℕ, zero, suc, ◌<◌, Bool, true, List, [], ◌∷◌, length, get_or, refl, sym, ap, ◌∙◌, arith}
use Rattle.std.specs.List.{list_any, list_all}
use Rattle.std.proofs.lemmas.Bool.{and_parts}
use Rattle.gd_variant.specs.Sound.{is_sound}
use Rattle.scene_model.specs.declared.scene.Prop.{Prop}
use Rattle.scene_model.specs.Limits.{is_long}
use Rattle.scene_model.specs.Valid.{value_long}
use Rattle.scene_check.specs.Judged.{has_sound_value}

-- of sound values only the long ones are wrong
pub long_alone : (ps : List Prop) → list_all has_sound_value ps ≡ true → list_any (λ (p : Prop). is_long p.value) ps ≡ list_any value_long ps
long_alone [] h = refl
long_alone (p ∷ ps) h = let a = and_parts (is_sound p.value) (list_all has_sound_value ps) h in rw (a.0, long_alone ps a.1) refl

-- what passes at each place
pub passes_at : {X : Type 0} (p : X → Bool) (xs : List X) (i : ℕ) (x : X) → i < length xs → x ≡ get_or xs i x → list_all p xs ≡ true → p x ≡ true
passes_at p [] i x low is h = absurd (omega arith)
passes_at p (y ∷ ys) zero x low is h = ap p is ∙ (and_parts (p y) (list_all p ys) h).0
passes_at p (y ∷ ys) (suc i) x low is h = passes_at p ys i x (omega (arith, low)) is (and_parts (p y) (list_all p ys) h).1
