-- Settings of a node that was put among others.
use Rattle.std.proofs.Common.{◌≡◌, ℕ, Bool, true, false, cond, List, [], ◌∷◌, refl, sym, ap, ap₂, ◌∙◌, Some, None}
use Rattle.std.specs.Prelude.{find, if◌then◌else◌}
use Rattle.gd_variant.specs.Words.{text_eq, put_by}
use Rattle.gd_variant.specs.declared.value.Variant.{Variant}
use Rattle.scene_model.specs.declared.scene.Prop.{Prop}
use Rattle.scene_model.specs.Lookup.{prop_names}
use Rattle.scene_model.specs.Valid.{has_twice}
use Rattle.scene_model.proofs.TextLaws.{text_eq-same}
use Rattle.peer_model.specs.Updates.{Live, live_at, assign, assign_all}
use Rattle.headless_tree.specs.Lists.{change_first}
use Rattle.headless_tree.specs.Nodes.{is_at, with_value, row_before, assigned}
use Rattle.peer_laws.specs.Shown.{settings}
use Rattle.peer_laws.proofs.Once.{change_once}
use Rattle.peer_steps.specs.Sites.{with_settings}

-- a change of the one element that passes, which was put among others
pub change_put : {X : Type 0} (test : X → Bool) (f : X → X) (before : X → X → Bool) (x : X) (ys : List X) → find test ys ≡ None → test x ≡ true → ((y : X) → before y (f x) ≡ before y x)
    → change_first test f (put_by before x ys) ≡ put_by before (f x) ys
change_put test f before x [] none passes k = ap (λ b. cond b (f x ∷ []) (x ∷ [])) passes
change_put test f before x (y ∷ ys) none passes k = step (test y) refl (λ n. change_put test f before x ys n passes k) none
  where
    here : change_first test f (x ∷ y ∷ ys) ≡ f x ∷ y ∷ ys
    here = ap (λ b. cond b (f x ∷ y ∷ ys) (x ∷ change_first test f (y ∷ ys))) passes

    placed : test y ≡ false → (b : Bool) → (change_first test f (put_by before x ys) ≡ put_by before (f x) ys) → change_first test f (cond b (y ∷ put_by before x ys) (x ∷ y ∷ ys)) ≡ cond b (y ∷ put_by before (f x) ys) (f x ∷ y ∷ ys)
    placed e true more = ap (λ b. cond b (f y ∷ put_by before x ys) (y ∷ change_first test f (put_by before x ys))) e ∙ ap (λ zs. y ∷ zs) more
    placed e false more = here

    step : (b : Bool) → test y ≡ b → (find test ys ≡ None → change_first test f (put_by before x ys) ≡ put_by before (f x) ys) → cond b (Some y) (find test ys) ≡ None → change_first test f (put_by before x (y ∷ ys)) ≡ put_by before (f x) (y ∷ ys)
    step true e more n = absurd (cc n)
    step false e more n = placed e (before y x) (more n) ∙ ap (λ b. cond b (y ∷ put_by before (f x) ys) (f x ∷ y ∷ ys)) (sym (k y))

-- an assignment leaves the names
pub assign_names : (name : List ℕ) (value : Variant) (props : List Prop) → prop_names (assign name value props) ≡ prop_names props
assign_names name value [] = refl
assign_names name value (p ∷ ps) = ap₂ (λ t ts. t ∷ ts) (same (text_eq p.name name)) (assign_names name value ps)
  where
    same : (b : Bool) → (let q : Prop = if b then record p { value = value } else p in q.name) ≡ p.name
    same true = refl
    same false = refl

-- an assignment to the one property of a name
assign_once : (name : List ℕ) (value : Variant) (props : List Prop) → has_twice (prop_names props) ≡ false → change_first (λ (p : Prop). text_eq p.name name) (with_value value) props ≡ assign name value props
assign_once name value props apart = change_once (λ (p : Prop). p.name) name (with_value value) props apart

-- a node with the value of one property
abbrev set_one : List ℕ → Variant → Live → Live
set_one name value n = record n { values = assign name value n.values }

pub one_setting : (n : Live) (nodes : List Live) (name : List ℕ) (value : Variant) → live_at nodes n.path ≡ None → has_twice (prop_names n.values) ≡ false
    → assigned n.path name value (put_by row_before n nodes) ≡ put_by row_before (set_one name value n) nodes
one_setting n nodes name value free apart =
    change_put (is_at n.path) (λ (m : Live). record m { values = change_first (λ (p : Prop). text_eq p.name name) (with_value value) m.values }) row_before n nodes free (text_eq-same n.path) (λ y. refl)
    ∙ ap (λ vs. put_by row_before (record n { values = vs }) nodes) (assign_once name value n.values apart)

-- settings in order of a node that was put among others
pub settled : (n : Live) (nodes : List Live) (sets : List Prop) → live_at nodes n.path ≡ None → has_twice (prop_names n.values) ≡ false
    → with_settings n.path sets (put_by row_before n nodes) ≡ put_by row_before (record n { values = assign_all (settings sets) n.values }) nodes
settled n nodes [] free apart = refl
settled n nodes (p ∷ ps) free apart =
    ap (λ ns. with_settings n.path ps ns) (one_setting n nodes p.name p.value free apart)
    ∙ settled (set_one p.name p.value n) nodes ps free (ap has_twice (assign_names p.name p.value n.values) ∙ apart)
