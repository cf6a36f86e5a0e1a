-- Items of another number.
use Rattle.std.proofs.Common.{◌≡◌, ◌<◌, ◌≤◌, List, [], ◌∷◌, length, Err, refl, arith}
use Rattle.serde_json.specs.declared.value.Value.{Value}
use Rattle.serde_json.specs.View.{items_view}
use Rattle.program_edge.specs.declared.status.LineWhy.TheVariants.{Shape}
use Rattle.line_text.specs.Operations.{four_of}
use Rattle.line_text.specs.Parts.{none_of, one_of}

pub none_more : (vs : List Value) → 1 ≤ length vs → none_of (items_view vs) ≡ Err Shape
unfolding none_of
none_more [] h = absurd (omega arith)
none_more (v ∷ vs) h = refl

pub one_more : (vs : List Value) → 2 ≤ length vs → one_of (items_view vs) ≡ Err Shape
unfolding one_of
one_more [] h = absurd (omega arith)
one_more (v ∷ []) h = absurd (omega arith)
one_more (v ∷ w ∷ vs) h = refl

pub four_less : (vs : List Value) → length vs < 4 → four_of (items_view vs) ≡ Err Shape
unfolding four_of
four_less [] h = refl
four_less (a ∷ []) h = refl
four_less (a ∷ b ∷ []) h = refl
four_less (a ∷ b ∷ c ∷ []) h = refl
four_less (a ∷ b ∷ c ∷ d ∷ vs) h = absurd (omega arith)

pub four_more : (vs : List Value) → 5 ≤ length vs → four_of (items_view vs) ≡ Err Shape
unfolding four_of
four_more [] h = absurd (omega arith)
four_more (a ∷ []) h = absurd (omega arith)
four_more (a ∷ b ∷ []) h = absurd (omega arith)
four_more (a ∷ b ∷ c ∷ []) h = absurd (omega arith)
four_more (a ∷ b ∷ c ∷ d ∷ []) h = absurd (omega arith)
four_more (a ∷ b ∷ c ∷ d ∷ e ∷ vs) h = refl
