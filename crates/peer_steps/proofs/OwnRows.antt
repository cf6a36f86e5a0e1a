-- Own rows by their numbers, own rows and fixed nodes by their paths, as they are kept and as they stand in the tree.
use Rattle.std.proofs.Common.{◌≡◌, ℕ, ◌+◌, ◌<◌, Bool, true, false, cond, List, [], ◌∷◌, refl, sym, ap, ◌∙◌, map, nat_eq, nat_lt, is_some, arith, Some, None}
use Rattle.std.specs.Prelude.{find, option_map, option_and_then, if◌then◌else◌}
use Rattle.std.specs.List.{AllByRecursion, Contains}
use Rattle.std.proofs.lemmas.Bool.{and_parts, ltb-true, eq-eqb, ne_eqb, leb-true}
use Rattle.gd_variant.specs.Words.{text_eq, has_text, or_else}
use Rattle.scene_model.specs.declared.scene.Node.{Node}
use Rattle.scene_model.specs.Lookup.{fixed_node, fixed_paths, sync_of}
use Rattle.scene_model.specs.Valid.{IsValidScene}
use Rattle.scene_model.proofs.TextLaws.{text_eq-true}
use Rattle.peer_model.specs.Heard.{Who, Heard}
use Rattle.peer_model.specs.Rows.{OwnRow, own_rows}
use Rattle.peer_model.specs.Updates.{Live}
use Rattle.peer_model.specs.View.{tree_of, node_at, own_live, fixed_now}
use Rattle.peer_model.specs.Refusals.{named_syncs}
use Rattle.peer_model.proofs.Nodes.{fixed_is_there}
use Rattle.headless_tree.specs.Nodes.{is_row_of}
use Rattle.headless_tree.proofs.Numbered.{find_passes}
use Rattle.peer_laws.specs.Built.{AllAccepted}
use Rattle.peer_laws.specs.Facts.{Facts}
use Rattle.peer_laws.proofs.Tests.{some_of, then_some}
use Rattle.peer_laws.proofs.Once.{found_is_has}
use Rattle.peer_laws.proofs.OwnValues.{find_mapped, find_contains, own_row_at}
use Rattle.world_laws.specs.Marks.{rises}
use Rattle.sight_laws.specs.Sights.{RowSight, row_sight}
use Rattle.sight_laws.specs.Seen.{all_sights}
use Rattle.sight_laws.proofs.Lists.{of_member}
use Rattle.sight_laws.proofs.Stepping.{own_nums_rise}
use Rattle.sight_laws.proofs.Kept.{row_sight_found}
use Rattle.peer_steps.specs.declared.rows.SpawnedRow.{SpawnedRow}
use Rattle.peer_steps.specs.Rows.{kept_row}
use Rattle.peer_steps.specs.Track.{number_at, row_with, shown_of}

-- elements whose numbers rise are found by them

found_later : {X : Type 0} (num : X → ℕ) (x : X) (n : ℕ) (xs ys : List X) → num x < n → rises n (map num ys) ≡ true → AllByRecursion (λ y. find (λ z. nat_eq (num z) (num y)) xs ≡ Some y) ys
    → AllByRecursion (λ y. find (λ z. nat_eq (num z) (num y)) (x ∷ xs) ≡ Some y) ys
found_later num x n xs [] l r all = tt
found_later num x n xs (y ∷ ys) l r all =
    let parts = and_parts _ (rises (num y + 1) (map num ys)) r in
    let low = leb-true n (num y) parts.0 in
    (ap (λ b. cond b (Some x) (find (λ z. nat_eq (num z) (num y)) xs)) (ne_eqb (num x) (num y) (λ e. omega (arith, e, l, low))) ∙ all.0, found_later num x (num y + 1) xs ys (omega (arith, l, low)) parts.1 all.1)

each_found : {X : Type 0} (num : X → ℕ) (n : ℕ) (xs : List X) → rises n (map num xs) ≡ true → AllByRecursion (λ x. find (λ z. nat_eq (num z) (num x)) xs ≡ Some x) xs
each_found num n [] r = tt
each_found num n (x ∷ xs) r =
    let parts = and_parts _ (rises (num x + 1) (map num xs)) r in
    (ap (λ b. cond b (Some x) (find (λ z. nat_eq (num z) (num x)) xs)) (eq-eqb (num x) (num x) refl), found_later num x (num x + 1) xs xs (omega arith) parts.1 (each_found num (num x + 1) xs parts.1))

-- an own row is found by its number
pub own_found : (who : Who) (es : List Heard) (r : OwnRow) → Contains (own_rows who es) r → find (λ (x : OwnRow). nat_eq x.num r.num) (own_rows who es) ≡ Some r
own_found who es r has = of_member (λ (x : OwnRow). find (λ (z : OwnRow). nat_eq z.num x.num) (own_rows who es) ≡ Some x) (own_rows who es) r (each_found (λ (x : OwnRow). x.num) 1 (own_rows who es) (own_nums_rise who es)) has

-- as it is kept
pub kept_found : (who : Who) (es : List Heard) (r : OwnRow) → Contains (own_rows who es) r → row_with r.num (map (kept_row who) (own_rows who es)) ≡ Some (kept_row who r)
kept_found who es r has = find_mapped (λ (x : SpawnedRow). nat_eq x.num r.num) (kept_row who) (own_rows who es) ∙ ap (option_map (kept_row who)) (own_found who es r has)

-- to which peers a row is shown
pub shown_is : (who : Who) (es : List Heard) (r : OwnRow) → Contains (own_rows who es) r → shown_of r.num (all_sights who es) ≡ (row_sight who es r).shown
shown_is who es r has = ap (λ o. or_else (option_map (λ (v : RowSight). v.shown) o) []) (row_sight_found who es r has)

-- the own row at a path

-- a row of this peer stands at a path
pub record IsOwnAt (who : Who) (es : List Heard) (path : List ℕ) : Type 0 where
  pub row : OwnRow
  pub has : Contains (own_rows who es) row
  pub path_is : row.path ≡ path
  pub there : node_at who es path ≡ Some (own_live who es row)

pub own_at : (who : Who) (es : List Heard) → IsValidScene who.scene → AllAccepted who es → Facts who es → (path : List ℕ) (n : Live) → node_at who es path ≡ Some n → is_row_of who.id n ≡ true → IsOwnAt who es path
own_at who es v all f path n there own =
    let found = own_row_at who es v all f path n there own in
    record {
      row = found.0;
      has = find_contains (λ (r : OwnRow). text_eq r.path path) (own_rows who es) found.0 found.1;
      path_is = text_eq-true found.0.path path (find_passes (λ (r : OwnRow). text_eq r.path path) (own_rows who es) found.0 found.1);
      there = there ∙ ap Some (sym found.2);
    }

-- its number is the one at the path
pub number_is : (who : Who) (es : List Heard) (path : List ℕ) → (own : IsOwnAt who es path) → number_at (tree_of who es) path ≡ own.row.num
number_is who es path own = ap (λ o. or_else (option_map (λ (n : Live). n.num) o) 0) own.there

-- the fixed node at a path

-- a fixed node stands at a path, and has a synchronizer, which is named by its first place
pub record IsFixedAt (who : Who) (path : List ℕ) (k : ℕ) : Type 0 where
  pub node : Node
  pub there : fixed_node who.scene path ≡ Some node
  pub syncs : is_some (sync_of node) ≡ true
  pub first : k ≡ 0

-- so it is where a synchronizer is named at a node that wasn't spawned
pub fixed_at : (who : Who) (es : List Heard) (path : List ℕ) (k : ℕ) (n : Live) → n.place ≡ None → node_at who es path ≡ Some n → nat_lt k (named_syncs who n) ≡ true → IsFixedAt who path k
fixed_at who es path k n unplaced there low =
    let at = text_eq-true n.path path (find_passes (λ (m : Live). text_eq m.path path) (tree_of who es) n there) in
    let count : named_syncs who n ≡ (if is_some (option_and_then sync_of (fixed_node who.scene n.path)) then 1 else 0) = rw unplaced refl in
    let lower = sym (ap (nat_lt k) (count ∙ ap (λ p. if is_some (option_and_then sync_of (fixed_node who.scene p)) then 1 else 0) at)) ∙ low in
    let first = first_of_one k (is_some (option_and_then sync_of (fixed_node who.scene path))) lower in
    let def = some_of (option_and_then sync_of (fixed_node who.scene path)) first.1 in
    let node = then_some sync_of (fixed_node who.scene path) def.0 def.1 in
    record { node = node.0; there = node.1; syncs = ap is_some node.2; first = first.0 }
  where
    first_of_one : (i : ℕ) (t : Bool) → nat_lt i (if t then 1 else 0) ≡ true → (i ≡ 0) × (t ≡ true)
    first_of_one i true h = (omega (arith, ltb-true i 1 h), refl)
    first_of_one i false h = absurd (omega (arith, ltb-true i 0 h))

-- and its path is one of the fixed ones
pub fixed_has : (who : Who) (path : List ℕ) (k : ℕ) → (at : IsFixedAt who path k) → has_text path (fixed_paths who.scene) ≡ true
fixed_has who path k at = sym (found_is_has (λ (m : Node). m.path) path who.scene.nodes) ∙ ap is_some at.there

-- it stands there with its authority
pub fixed_stands : (who : Who) (es : List Heard) (path : List ℕ) (k : ℕ) (n : Live) → (at : IsFixedAt who path k) → node_at who es path ≡ Some n → n.auth ≡ at.node.auth
fixed_stands who es path k n at there = same (fixed_now who es at.node) (sym there ∙ fixed_is_there who es path at.node at.there)
  where
    same : (m : Live) → Some n ≡ Some m → n.auth ≡ m.auth
    same m h = let is : n ≡ m = cc in ap (λ (x : Live). x.auth) is
