-- The values that a peer has at first are there: each on-change property is one of its node.
use Rattle.std.proofs.Common.{◌≡◌, ℕ, ℤ, true, false, List, [], ◌∷◌, refl, sym, ap, ap₂, ◌∙◌, subst, map, is_some, Option, Some, None}
use Rattle.std.specs.Prelude.{flat_map, option_and_then}
use Rattle.std.specs.List.{list_all, AllByRecursion, Contains}
use Rattle.std.proofs.lemmas.Bool.{and_parts}
use Rattle.std.proofs.lemmas.List.Folds.{list_all-map}
use Rattle.gd_variant.specs.Words.{or_else, has_nat}
use Rattle.gd_variant.specs.declared.value.Variant.{Variant}
use Rattle.gd_variant.specs.declared.value.Variant.TheVariants.{Nil}
use Rattle.scene_model.specs.declared.scene.Node.{Node}
use Rattle.scene_model.specs.Lookup.{fixed_node, value_in}
use Rattle.scene_model.specs.Syncs.{Syncer, fixed_syncers, change_props}
use Rattle.scene_model.specs.Valid.{IsValidScene, has_twice}
use Rattle.peer_model.specs.Heard.{Who, Heard}
use Rattle.peer_model.specs.Peers.{is_up, was_up}
use Rattle.peer_model.specs.Rows.{OwnRow, own_rows, row_paths}
use Rattle.peer_model.specs.Values.{default_value}
use Rattle.peer_model.specs.Visible.{sees, row_syncers_of, visible_rows}
use Rattle.peer_model.specs.Changes.{is_frame, numbers_of, value_told}
use Rattle.peer_laws.proofs.Each.{all-filter, every_left, every_right}
use Rattle.peer_laws.proofs.Once.{filter_once}
use Rattle.world_laws.specs.Done.{AllDone}
use Rattle.world_laws.specs.Marks.{all_syncers, mark_syncers, own_marks}
use Rattle.world_laws.proofs.Law.{marks_are_seen, flat_own}
use Rattle.world_laws.proofs.Own.{own_apart, own_unfixed, is_unfixed}
use Rattle.world_laws.proofs.Properties.{AreThere, all_are_there}
use Rattle.sight_laws.specs.Told.{told_to, fixed_first_told, row_first_value}
use Rattle.sight_laws.proofs.Firsts.{sync_fixed_at_first, sync_fixed_stays, sync_row_shown}
use Rattle.sight_laws.proofs.Lists.{of_member}
use Rattle.sight_laws.proofs.ToldRows.{told_whole}
use Rattle.telling_laws.proofs.Ids.{flat_every}
use Rattle.telling_laws.proofs.Nexts.{seen_is}

-- values that are there

somes : (f : List ℕ → Option Variant) (ps : List (List ℕ)) → list_all (λ p. is_some (f p)) ps ≡ true → map Some (map (λ p. or_else (f p) Nil) ps) ≡ map f ps
somes f [] h = refl
somes f (p ∷ ps) h =
    let parts = and_parts (is_some (f p)) (list_all (λ q. is_some (f q)) ps) h in
    ap₂ (λ x xs. x ∷ xs) (one (f p) parts.0) (somes f ps parts.1)
  where
    one : (o : Option Variant) → is_some o ≡ true → Some (or_else o Nil) ≡ o
    one None k = absurd (cc k)
    one (Some v) k = refl

-- the same values of the same properties are there
same_there : (f g : List ℕ → Option Variant) (ps : List (List ℕ)) → map f ps ≡ map g ps → list_all (λ p. is_some (f p)) ps ≡ true → list_all (λ p. is_some (g p)) ps ≡ true
same_there f g ps same h = sym (list_all-map is_some g ps) ∙ ap (list_all is_some) (sym same) ∙ list_all-map is_some f ps ∙ h

-- what a peer that is up was told of each synchronizer that it may know

module _ (who : Who) (es : List Heard) (v : IsValidScene who.scene) (all : AllDone who es) (b : ℤ) (up : is_up es b ≡ true) where
  told_there : AllByRecursion (AreThere (told_to who es b)) (all_syncers who.scene who.id (own_marks (visible_rows who es b)))
  told_there = all_are_there who.scene who.id (told_to who es b) v (told_whole who es b) (visible_rows who es b) (marks_are_seen who es b v all up)
      (ap (λ rs. has_twice (row_paths rs)) (seen_is who es b up) ∙ filter_once (λ (r : OwnRow). r.path) (sees who es b) (own_rows who es) (own_apart who es all))
      (ap (list_all (is_unfixed who)) (seen_is who es b up) ∙ all-filter (is_unfixed who) (sees who es b) (own_rows who es) (own_unfixed who es all))

  pub fixed_there : (y : Syncer) → Contains (fixed_syncers who.scene who.id) y → AreThere (told_to who es b) y
  fixed_there y has = of_member (AreThere (told_to who es b)) (fixed_syncers who.scene who.id) y (every_left (AreThere (told_to who es b)) (fixed_syncers who.scene who.id) (flat_map (mark_syncers who.scene) (own_marks (visible_rows who es b))) told_there) has

  pub row_there : (r : OwnRow) (y : Syncer) → Contains (visible_rows who es b) r → Contains (row_syncers_of who r) y → AreThere (told_to who es b) y
  row_there r y has mine = of_member (AreThere (told_to who es b)) (row_syncers_of who r) y
      (of_member (λ q. AllByRecursion (AreThere (told_to who es b)) (row_syncers_of who q)) (visible_rows who es b) r
      (flat_every (AreThere (told_to who es b)) (row_syncers_of who) (visible_rows who es b) (subst (AllByRecursion (AreThere (told_to who es b))) (sym (flat_own who (visible_rows who es b)))
      (every_right (AreThere (told_to who es b)) (fixed_syncers who.scene who.id) (flat_map (mark_syncers who.scene) (own_marks (visible_rows who es b))) told_there))) has) mine

-- the values of a new peer

pub first_fixed : (who : Who) (es : List Heard) (e : Heard) (b : ℤ) (y : Syncer) → IsValidScene who.scene → AllDone who (e ∷ es) → is_frame e ≡ false → is_up (e ∷ es) b ≡ true → was_up es b ≡ false → Contains (fixed_syncers who.scene who.id) y
    → map Some (map (default_value who y.node) (change_props y.def)) ≡ fixed_first_told who y
first_fixed who es e b y v all plain up new has =
    let f : List ℕ → Option Variant = λ p. option_and_then (λ (n : Node). value_in n.props p) (fixed_node who.scene y.node) in
    somes f (change_props y.def) (same_there (value_told (told_to who (e ∷ es) b) y.node) f (change_props y.def) (sync_fixed_stays who es e b y v has plain ∙ sync_fixed_at_first who es b y v has new) (fixed_there who (e ∷ es) v all b up y has))

-- the values of a row that is shown
pub first_row : (who : Who) (es : List Heard) (e : Heard) (b : ℤ) (r : OwnRow) (y : Syncer) → IsValidScene who.scene → AllDone who (e ∷ es) → is_frame e ≡ false → is_up (e ∷ es) b ≡ true
    → Contains (visible_rows who (e ∷ es) b) r → Contains (row_syncers_of who r) y → has_nat r.num (numbers_of (visible_rows who es b)) ≡ false
    → list_all (λ p. is_some (row_first_value who (e ∷ es) r p)) (change_props y.def) ≡ true
first_row who es e b r y v all plain up seen mine new =
    same_there (value_told (told_to who (e ∷ es) b) y.node) (row_first_value who (e ∷ es) r) (change_props y.def) (sync_row_shown who es e b r y v all plain up seen mine new) (row_there who (e ∷ es) v all b up r y seen mine)
