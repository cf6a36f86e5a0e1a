-- No two synchronizers of a peer have one id.
use Rattle.std.proofs.Common.{◌≡◌, true, false, List, [], ◌∷◌, ◌++◌, refl, sym, ap, ◌∙◌, subst, filter, nat_eq, nat_lt, Some}
use Rattle.std.specs.Prelude.{flat_map, is_some}
use Rattle.std.specs.List.{list_all, AllByRecursion, Contains}
use Rattle.std.proofs.lemmas.Bool.{eqb-true}
use Rattle.std.proofs.lemmas.List.Elements.{recursion_from_All, All-contains_itself}
use Rattle.gd_variant.specs.Words.{has_text, text_eq}
use Rattle.scene_model.specs.declared.scene.Node.{Node}
use Rattle.scene_model.specs.Lookup.{fixed_paths}
use Rattle.scene_model.specs.Syncs.{Syncer, fixed_syncers, fixed_bit, syncer_with}
use Rattle.scene_model.specs.Valid.{IsValidScene}
use Rattle.scene_model.proofs.TextLaws.{text_eq-same}
use Rattle.headless_tree.proofs.Numbered.{unnot}
use Rattle.peer_model.specs.Heard.{Who, Heard}
use Rattle.peer_model.specs.Rows.{OwnRow, own_rows, syncs_at}
use Rattle.peer_model.specs.Visible.{own_syncers, row_syncers_of}
use Rattle.peer_laws.proofs.Tests.{never}
use Rattle.peer_laws.proofs.Each.{all_each, every_left, every_right}
use Rattle.peer_laws.proofs.Filters.{filter_all}
use Rattle.peer_laws.proofs.Once.{found_is_has}
use Rattle.world_laws.specs.Done.{AllDone}
use Rattle.world_laws.specs.Marks.{all_syncers, own_marks, ids_in, rises, ever}
use Rattle.world_laws.proofs.Found.{all_found}
use Rattle.world_laws.proofs.Law.{every_weaker, flat_own, own_part, own_rise, part_low}
use Rattle.world_laws.proofs.Parts.{IsPart}
use Rattle.world_laws.proofs.Own.{is_unfixed, own_unfixed}
use Rattle.world_laws.proofs.Sparing.{block_nodes}
use Rattle.world_laws.proofs.Tellings.{FoundBy}
use Rattle.sight_laws.proofs.Firsts.{owned}
use Rattle.sight_laws.proofs.Lists.{of_member, every_both, every_of_all}
use Rattle.telling_laws.proofs.Several.{IsOnly}

-- ids of own rows rise, and are below those of fixed synchronizers

all_rows : (who : Who) (es : List Heard) → filter (λ (r : OwnRow). true) (own_rows who es) ≡ own_rows who es
all_rows who es = filter_all (λ (r : OwnRow). true) (own_rows who es) (all_each (λ (r : OwnRow). true) (λ r. refl) (own_rows who es))

pub own_marks_rise : (who : Who) (es : List Heard) → rises 1 (ids_in (own_marks (own_rows who es))) ≡ true
own_marks_rise who es = ap (λ rs. rises 1 (ids_in (own_marks rs))) (sym (all_rows who es)) ∙ own_rise who es (λ r. true)

pub own_marks_low : (who : Who) (es : List Heard) → AllDone who es → list_all (λ i. nat_lt i fixed_bit) (ids_in (own_marks (own_rows who es))) ≡ true
own_marks_low who es all = part_low who es all (own_marks (own_rows who es)) (subst (λ rs. IsPart (own_marks rs) (ever who es)) (all_rows who es) (own_part who es (λ r. true)))

-- each synchronizer is found by its id
own_found : (who : Who) (es : List Heard) → AllDone who es → AllByRecursion (λ (y : Syncer). syncer_with y.id (own_syncers who es) ≡ Some y) (own_syncers who es)
own_found who es all =
    let ms = own_marks (own_rows who es) in
    subst (λ ys. AllByRecursion (λ (y : Syncer). syncer_with y.id ys ≡ Some y) ys) (sym (ap (λ ys. fixed_syncers who.scene who.id ++ ys) (flat_own who (own_rows who es))))
    (every_weaker (FoundBy who.scene who.id ms) (λ (y : Syncer). syncer_with y.id (all_syncers who.scene who.id ms) ≡ Some y) (λ y h. h.there) (all_syncers who.scene who.id ms) (all_found who.scene who.id 1 ms (own_marks_rise who es) (own_marks_low who es all)))

-- so each id belongs to one
pub own_only : (who : Who) (es : List Heard) → AllDone who es → AllByRecursion (λ y. AllByRecursion (IsOnly y) (own_syncers who es)) (own_syncers who es)
own_only who es all =
    let found = own_found who es all in
    let Found : Syncer → Type 0 = λ y. syncer_with y.id (own_syncers who es) ≡ Some y in
    every_weaker Found (λ y. AllByRecursion (IsOnly y) (own_syncers who es))
    (λ y h. every_weaker Found (IsOnly y) (λ z k e. same y z (sym k ∙ ap (λ i. syncer_with i (own_syncers who es)) (sym (eqb-true y.id z.id e)) ∙ h)) (own_syncers who es) found) (own_syncers who es) found
  where
    same : (y z : Syncer) → Some z ≡ Some y → z ≡ y
    same y z h = cc

-- members

pub flat_every : {X Y : Type 0} (P : Y → Type 0) (f : X → List Y) (xs : List X) → AllByRecursion P (flat_map f xs) → AllByRecursion (λ x. AllByRecursion P (f x)) xs
flat_every P f [] h = tt
flat_every P f (x ∷ xs) h = (every_left P (f x) (flat_map f xs) h, flat_every P f xs (every_right P (f x) (flat_map f xs) h))

own_themselves : (who : Who) (es : List Heard) → AllByRecursion (Contains (own_syncers who es)) (own_syncers who es)
own_themselves who es = recursion_from_All (Contains (own_syncers who es)) (own_syncers who es) (All-contains_itself (own_syncers who es))

pub fixed_member : (who : Who) (es : List Heard) (y : Syncer) → Contains (fixed_syncers who.scene who.id) y → Contains (own_syncers who es) y
fixed_member who es y has = of_member (Contains (own_syncers who es)) (fixed_syncers who.scene who.id) y (every_left (Contains (own_syncers who es)) (fixed_syncers who.scene who.id) (flat_map (row_syncers_of who) (own_rows who es)) (own_themselves who es)) has

-- what is true of all own synchronizers is true of those of each row
rows_every : (who : Who) (es : List Heard) (P : Syncer → Type 0) → AllByRecursion P (own_syncers who es) → AllByRecursion (λ r. AllByRecursion P (row_syncers_of who r)) (own_rows who es)
rows_every who es P h = flat_every P (row_syncers_of who) (own_rows who es) (every_right P (fixed_syncers who.scene who.id) (flat_map (row_syncers_of who) (own_rows who es)) h)

pub row_member : (who : Who) (es : List Heard) (r : OwnRow) (y : Syncer) → Contains (own_rows who es) r → Contains (row_syncers_of who r) y → Contains (own_syncers who es) y
row_member who es r y has mine = of_member (Contains (own_syncers who es)) (row_syncers_of who r) y
    (of_member (λ q. AllByRecursion (Contains (own_syncers who es)) (row_syncers_of who q)) (own_rows who es) r (rows_every who es (Contains (own_syncers who es)) (own_themselves who es)) has) mine

-- the nodes of a row's synchronizers
pub serves : (who : Who) (r : OwnRow) → AllByRecursion (λ (z : Syncer). z.node ≡ r.path) (row_syncers_of who r)
serves who r = block_nodes (λ t. t ≡ r.path) r.path refl 0 r.ids (syncs_at who.scene (Some r.place))

module _ (who : Who) (es : List Heard) (all : AllDone who es) where
  -- a synchronizer is the only one with its id, among the fixed ones and among those of each row
  pub only_fixed : (y : Syncer) → Contains (own_syncers who es) y → AllByRecursion (IsOnly y) (fixed_syncers who.scene who.id)
  only_fixed y has = every_left (IsOnly y) (fixed_syncers who.scene who.id) (flat_map (row_syncers_of who) (own_rows who es)) (of_member (λ x. AllByRecursion (IsOnly x) (own_syncers who es)) (own_syncers who es) y (own_only who es all) has)

  pub only_row : (y : Syncer) (q : OwnRow) → Contains (own_syncers who es) y → Contains (own_rows who es) q → AllByRecursion (IsOnly y) (row_syncers_of who q)
  only_row y q has mine = of_member (λ x. AllByRecursion (IsOnly y) (row_syncers_of who x)) (own_rows who es) q
      (rows_every who es (IsOnly y) (of_member (λ x. AllByRecursion (IsOnly x) (own_syncers who es)) (own_syncers who es) y (own_only who es all) has)) mine

  -- none of a row has the id of a synchronizer that serves another node
  pub other_row : (y : Syncer) (q : OwnRow) → Contains (own_syncers who es) y → Contains (own_rows who es) q → (y.node ≡ q.path → true ≡ false) → AllByRecursion (λ (z : Syncer). nat_eq y.id z.id ≡ false) (row_syncers_of who q)
  other_row y q has mine apart = every_both (IsOnly y) (λ (z : Syncer). z.node ≡ q.path) (λ (z : Syncer). nat_eq y.id z.id ≡ false)
      (λ z only at. never (nat_eq y.id z.id) (λ e. apart (ap (λ (x : Syncer). x.node) (sym (only e)) ∙ at))) (row_syncers_of who q) (only_row y q has mine) (serves who q)

  pub row_apart : (r q : OwnRow) (y : Syncer) → Contains (own_rows who es) r → Contains (row_syncers_of who r) y → Contains (own_rows who es) q → text_eq r.path q.path ≡ false → AllByRecursion (λ (z : Syncer). nat_eq y.id z.id ≡ false) (row_syncers_of who q)
  row_apart r q y has of mine other = other_row y q (row_member who es r y has of) mine
      (λ e. sym (ap (text_eq r.path) (sym e ∙ of_member (λ (z : Syncer). z.node ≡ r.path) (row_syncers_of who r) y (serves who r) of) ∙ text_eq-same r.path) ∙ other)

  pub fixed_apart : IsValidScene who.scene → (q : OwnRow) (y : Syncer) → Contains (fixed_syncers who.scene who.id) y → Contains (own_rows who es) q → AllByRecursion (λ (z : Syncer). nat_eq y.id z.id ≡ false) (row_syncers_of who q)
  fixed_apart v q y fixed mine = other_row y q (fixed_member who es y fixed) mine
      (λ e. sym (sym (found_is_has (λ (n : Node). n.path) y.node who.scene.nodes) ∙ ap is_some (owned who v y fixed).there)
      ∙ ap (λ t. has_text t (fixed_paths who.scene)) e ∙ unnot (has_text q.path (fixed_paths who.scene)) (of_member (λ r. is_unfixed who r ≡ true) (own_rows who es) q (every_of_all (is_unfixed who) (own_rows who es) (own_unfixed who es all)) mine))
