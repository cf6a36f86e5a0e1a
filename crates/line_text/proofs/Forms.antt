-- Values that stand inside values.
use Rattle.std.proofs.Common.{◌≡◌, ◌<◌, ◌≤◌, List, [], ◌∷◌, get_or, length, Result, Ok, Err, refl, sym, ap, ◌∙◌, arith}
use Rattle.serde_json.specs.Data.{Items, no_items, item}
use Rattle.serde_json.specs.View.{items_view, members_view, view}
use Rattle.serde_json.specs.declared.value.Value.{Value}
use Rattle.serde_json.proofs.Views.{Entry}
use Rattle.gd_variant.specs.declared.value.Variant.{Variant}
use Rattle.gd_variant.specs.declared.value.Pair.{Pair}
use Rattle.gd_variant.specs.declared.value.Variant.TheViews.{roll-Pair}
use Rattle.program_edge.specs.declared.status.LineWhy.{LineWhy}
use Rattle.program_edge.specs.declared.status.LineWhy.TheVariants.{Shape}
use Rattle.line_text.specs.Reading.{◌>>=◌, each_read}
use Rattle.line_text.specs.Values.{entry_read, form_read, forms_read, keys_why, pair_read, pairs_read, tagged_read}

pub forms_are : (ds : Items) → each_read form_read ds ≡ forms_read ds
unfolding each_read forms_read
forms_are no_items = refl
forms_are (item d ds) = ap (λ (r : Result (List Variant) LineWhy). form_read d >>= λ v. (r >>= λ vs. Ok (v ∷ vs))) (forms_are ds)

pub pairs_are : (ds : Items) → each_read pair_read ds ≡ pairs_read ds
unfolding each_read pairs_read
pairs_are no_items = refl
pairs_are (item d ds) = ap (λ (r : Result (List Pair) LineWhy). pair_read d >>= λ v. (r >>= λ vs. Ok (v ∷ vs))) (pairs_are ds)

pub entry_one : (vs : List Value) → 1 ≤ length vs → length vs < 2 → entry_read (items_view vs) ≡ Err Shape
unfolding entry_read
entry_one [] l h = refl
entry_one (v ∷ []) l h = refl
entry_one (v ∷ w ∷ vs) l h = absurd (omega arith)

pub entry_three : (vs : List Value) → 3 ≤ length vs → entry_read (items_view vs) ≡ Err Shape
unfolding entry_read
entry_three [] h = absurd (omega arith)
entry_three (v ∷ []) h = absurd (omega arith)
entry_three (v ∷ w ∷ []) h = absurd (omega arith)
entry_three (v ∷ w ∷ x ∷ vs) h = refl

pub keys_many : (es : List Entry) → 1 < length es → tagged_read (members_view es) ≡ Err (keys_why (members_view es))
unfolding tagged_read
keys_many [] h = absurd (omega arith)
keys_many (e ∷ []) h = absurd (omega arith)
keys_many (e ∷ f ∷ es) h = refl

abbrev entry : Pair → Result Pair LineWhy
entry p = Ok p

pub pair_is : (k v : Variant) → entry (record { key = k; value = v }) ≡ entry (roll-Pair (record { key = k; value = v }))
pair_is k v = refl

pub forms_all : (vs : List Value) (xs : List Variant) → each_read form_read (items_view vs) ≡ Ok xs → forms_read (items_view vs) ≡ Ok xs
forms_all vs xs e = sym (forms_are (items_view vs)) ∙ e

pub pairs_all : (vs : List Value) (xs : List Pair) → each_read pair_read (items_view vs) ≡ Ok xs → pairs_read (items_view vs) ≡ Ok xs
pairs_all vs xs e = sym (pairs_are (items_view vs)) ∙ e

pub entry_two : (vs : List Value) (k v : Value) → 2 ≤ length vs → length vs < 3 → k ≡ get_or vs 0 k → v ≡ get_or vs 1 v
    → entry_read (items_view vs) ≡ (form_read (view k) >>= λ (key : Variant). (form_read (view v) >>= λ (val : Variant). Ok (record { key = key; value = val })))
unfolding entry_read
entry_two [] k v l h i j = absurd (omega arith)
entry_two (a ∷ []) k v l h i j = absurd (omega arith)
entry_two (a ∷ b ∷ []) k v l h i j = rw (i, j) refl
entry_two (a ∷ b ∷ c ∷ vs) k v l h i j = absurd (omega arith)
