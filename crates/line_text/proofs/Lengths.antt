-- Arrays of another length.
use Rattle.std.proofs.Common.{◌≡◌, ◌<◌, ◌≤◌, List, [], ◌∷◌, length, Err, refl, arith}
use Rattle.serde_json.specs.View.{items_view}
use Rattle.serde_json.specs.declared.value.Value.{Value}
use Rattle.program_edge.specs.declared.status.LineWhy.TheVariants.{Shape}
use Rattle.line_text.specs.Parts.{two_of, three_of}

pub two_one : (vs : List Value) → 1 ≤ length vs → length vs < 2 → two_of (items_view vs) ≡ Err Shape
unfolding two_of
two_one [] l h = refl
two_one (v ∷ []) l h = refl
two_one (v ∷ w ∷ vs) l h = absurd (omega arith)

pub two_three : (vs : List Value) → 3 ≤ length vs → two_of (items_view vs) ≡ Err Shape
unfolding two_of
two_three [] h = absurd (omega arith)
two_three (v ∷ []) h = absurd (omega arith)
two_three (v ∷ w ∷ []) h = absurd (omega arith)
two_three (v ∷ w ∷ x ∷ vs) h = refl

pub three_one : (vs : List Value) → 1 ≤ length vs → length vs < 2 → three_of (items_view vs) ≡ Err Shape
unfolding three_of
three_one [] l h = refl
three_one (v ∷ []) l h = refl
three_one (v ∷ w ∷ vs) l h = absurd (omega arith)

pub three_two : (vs : List Value) → 2 ≤ length vs → length vs < 3 → three_of (items_view vs) ≡ Err Shape
unfolding three_of
three_two [] l h = absurd (omega arith)
three_two (v ∷ []) l h = absurd (omega arith)
three_two (v ∷ w ∷ []) l h = refl
three_two (v ∷ w ∷ x ∷ vs) l h = absurd (omega arith)

pub three_four : (vs : List Value) → 4 ≤ length vs → three_of (items_view vs) ≡ Err Shape
unfolding three_of
three_four [] h = absurd (omega arith)
three_four (v ∷ []) h = absurd (omega arith)
three_four (v ∷ w ∷ []) h = absurd (omega arith)
three_four (v ∷ w ∷ x ∷ []) h = absurd (omega arith)
three_four (v ∷ w ∷ x ∷ y ∷ vs) h = refl
