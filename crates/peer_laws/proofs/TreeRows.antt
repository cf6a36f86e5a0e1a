-- The tree after a despawn of this peer, and after a setting of visibility: its row goes, or nothing changes.
use Rattle.std.proofs.Common.{◌≡◌, ℕ, ℤ, Bool, true, false, cond, not, ◌&&◌, ◌||◌, List, [], ◌∷◌, ◌++◌, refl, sym, ap, ap₂, ◌∙◌, map, filter, Option, Some, None}
use Rattle.std.specs.Prelude.{flat_map, is_none, if◌then◌else◌}
use Rattle.std.specs.List.{list_all}
use Rattle.std.specs.Ordering.{int_eq}
use Rattle.std.proofs.lemmas.Bool.{and_parts}
use Rattle.std.proofs.lemmas.List.Elements.{filter-append}
use Rattle.std.proofs.lemmas.List.Folds.{list_all-map}
use Rattle.gd_variant.specs.Words.{some_is}
use Rattle.scene_model.specs.declared.event.Op.TheVariants.{Despawn, Public, For, Filter, Frame}
use Rattle.scene_model.specs.declared.outcome.Refusal.TheVariants.{NoNode, NotSpawned, NotAuthority}
use Rattle.scene_model.specs.Valid.{IsValidScene}
use Rattle.scene_model.proofs.TextLaws.{text_eq-sym}
use Rattle.peer_model.specs.Heard.{Who, Heard, does}
use Rattle.peer_model.specs.Rows.{OwnRow, own_rows}
use Rattle.peer_model.specs.Updates.{Live}
use Rattle.peer_model.specs.View.{view, own_live, rows_of, fixed_now, authorities, tree_of, node_at}
use Rattle.peer_model.specs.Refusals.{owns, is_spawned}
use Rattle.headless_tree.specs.Nodes.{is_at, is_row_of, without_spawned}
use Rattle.headless_tree.specs.Nodes.{is_spawned as was_spawned}
use Rattle.headless_tree.specs.Lists.{without_first}
use Rattle.headless_tree.proofs.Order.{all_weaker}
use Rattle.peer_laws.specs.Built.{Accepts, AllAccepted}
use Rattle.peer_laws.specs.Facts.{Facts, leaves}
use Rattle.peer_laws.proofs.Tests.{no_row, not_false}
use Rattle.peer_laws.proofs.Numbers.{int_is}
use Rattle.peer_laws.proofs.Joined.{flat_agree, filter-flat}
use Rattle.peer_laws.proofs.Each.{all_split, all_of_flat}
use Rattle.peer_laws.proofs.Filters.{filter_all}
use Rattle.peer_laws.proofs.Once.{without_once, only_there}
use Rattle.peer_laws.proofs.Rows.{rows_kept, rows_despawn}
use Rattle.peer_laws.proofs.Views.{rows_are_of}

-- the tree with these own rows
abbrev tree_with : Who → List Heard → List OwnRow → List Live
tree_with who es rows = map (fixed_now who es) who.scene.nodes ++ flat_map (λ c. if int_eq c who.id then map (own_live who es) rows else (view who es c).rows) (authorities who es)

-- settings of visibility

pub rows_public : (who : Who) (es : List Heard) (p : List ℕ) (k : ℕ) (on : Bool) → own_rows who (does (Public p k on) ∷ es) ≡ own_rows who es
rows_public who es p k on = rows_kept who es (does (Public p k on)) (λ q. refl) refl

pub rows_for : (who : Who) (es : List Heard) (p : List ℕ) (k : ℕ) (b : ℤ) (on : Bool) → own_rows who (does (For p k b on) ∷ es) ≡ own_rows who es
rows_for who es p k b on = rows_kept who es (does (For p k b on)) (λ q. refl) refl

pub rows_filter : (who : Who) (es : List Heard) (p : List ℕ) (k : ℕ) (peers : List ℤ) → own_rows who (does (Filter p k peers) ∷ es) ≡ own_rows who es
rows_filter who es p k peers = rows_kept who es (does (Filter p k peers)) (λ q. refl) refl

pub tree_public : (who : Who) (es : List Heard) (p : List ℕ) (k : ℕ) (on : Bool) → tree_of who (does (Public p k on) ∷ es) ≡ tree_of who es
tree_public who es p k on = ap (tree_with who es) (rows_public who es p k on)

pub tree_for : (who : Who) (es : List Heard) (p : List ℕ) (k : ℕ) (b : ℤ) (on : Bool) → tree_of who (does (For p k b on) ∷ es) ≡ tree_of who es
tree_for who es p k b on = ap (tree_with who es) (rows_for who es p k b on)

pub tree_filter : (who : Who) (es : List Heard) (p : List ℕ) (k : ℕ) (peers : List ℤ) → tree_of who (does (Filter p k peers) ∷ es) ≡ tree_of who es
tree_filter who es p k peers = ap (tree_with who es) (rows_filter who es p k peers)

-- frames

pub rows_frame : (who : Who) (es : List Heard) → own_rows who (does Frame ∷ es) ≡ own_rows who es
rows_frame who es = rows_kept who es (does Frame) (λ q. refl) refl

pub tree_frame : (who : Who) (es : List Heard) → tree_of who (does Frame ∷ es) ≡ tree_of who es
tree_frame who es = ap (tree_with who es) (rows_frame who es)

-- despawns

or_none : (a : Bool) → (a || false) ≡ a
or_none true = refl
or_none false = refl

filter_mapped : {X Y : Type 0} (f : X → Y) (p : Y → Bool) (q : X → Bool) (xs : List X) → ((x : X) → q x ≡ p (f x)) → map f (filter q xs) ≡ filter p (map f xs)
filter_mapped f p q [] h = refl
filter_mapped f p q (x ∷ xs) h = ap (λ b. map f (cond b (x ∷ filter q xs) (filter q xs))) (h x) ∙ step (p (f x)) (filter_mapped f p q xs h)
  where
    step : (b : Bool) → map f (filter q xs) ≡ filter p (map f xs) → map f (cond b (x ∷ filter q xs) (filter q xs)) ≡ cond b (f x ∷ filter p (map f xs)) (filter p (map f xs))
    step true more = ap (λ ys. f x ∷ ys) more
    step false more = more

module _ (who : Who) (es : List Heard) (path : List ℕ) where
  -- whether a node isn't the one that goes
  abbrev stays : Live → Bool
  stays n = not (is_at path n)

  -- whether a node that stands at the path is a row of this peer
  abbrev is_own_there : Live → Bool
  is_own_there n = not (is_at path n) || is_row_of who.id n

  fixed_stay : list_all is_own_there (map (fixed_now who es) who.scene.nodes) ≡ true → filter stays (map (fixed_now who es) who.scene.nodes) ≡ map (fixed_now who es) who.scene.nodes
  fixed_stay h = filter_all stays (map (fixed_now who es) who.scene.nodes)
      (list_all-map stays (fixed_now who es) who.scene.nodes
      ∙ all_weaker (λ n. is_own_there (fixed_now who es n)) (λ n. stays (fixed_now who es n)) (λ n k. sym (or_none (stays (fixed_now who es n))) ∙ k) who.scene.nodes (sym (list_all-map is_own_there (fixed_now who es) who.scene.nodes) ∙ h))

  others_stay : (c : ℤ) (ns : List Live) → int_eq c who.id ≡ false → list_all (is_row_of c) ns ≡ true → list_all is_own_there ns ≡ true → ns ≡ filter stays ns
  others_stay c [] other h k = refl
  others_stay c (n ∷ ns) other h k =
      let row = and_parts (is_row_of c n) (list_all (is_row_of c) ns) h in
      let own = and_parts (is_own_there n) (list_all is_own_there ns) k in
      let auth = (and_parts (was_spawned n) (int_eq n.auth c) row.0).1 in
      ap₂ (λ b ms. cond b (n ∷ ms) ms) (sym (elsewhere (is_at path n) (was_spawned n) (int_eq n.auth who.id) own.0 (ap (λ a. int_eq a who.id) (int_is n.auth c auth) ∙ other))) (others_stay c ns other row.1 own.1)
    where
      elsewhere : (at spawned own : Bool) → (not at || (spawned && own)) ≡ true → own ≡ false → not at ≡ true
      elsewhere false spawned own l e = refl
      elsewhere true true true l e = absurd (cc e)
      elsewhere true true false l e = l
      elsewhere true false own l e = l

  rows_stay : IsValidScene who.scene → AllAccepted who es → (c : ℤ) → list_all is_own_there (rows_of who es c) ≡ true
      → (if int_eq c who.id then map (own_live who es) (filter (leaves (does (Despawn path))) (own_rows who es)) else (view who es c).rows) ≡ filter stays (rows_of who es c)
  rows_stay v all c h = step (int_eq c who.id) refl (rows_are_of who es v all c) h
    where
      step : (mine : Bool) → int_eq c who.id ≡ mine
          → list_all (is_row_of c) (if mine then map (own_live who es) (own_rows who es) else (view who es c).rows) ≡ true
          → list_all is_own_there (if mine then map (own_live who es) (own_rows who es) else (view who es c).rows) ≡ true
          → (if mine then map (own_live who es) (filter (leaves (does (Despawn path))) (own_rows who es)) else (view who es c).rows) ≡ filter stays (if mine then map (own_live who es) (own_rows who es) else (view who es c).rows)
      step true e k l = filter_mapped (own_live who es) stays (leaves (does (Despawn path))) (own_rows who es) (λ r. ap not (text_eq-sym path r.path))
      step false e k l = others_stay c (view who es c).rows e k l

  -- what is known of an accepted despawn: a row of this peer stands at the path
  pub despawn_is_own : Accepts who es (does (Despawn path)) → (is_spawned (node_at who es path) ≡ true) × (some_is (is_row_of who.id) (node_at who es path) ≡ true)
  despawn_is_own h =
      let first = no_row (is_none (node_at who es path)) NoNode _ h.no_refusal in
      let second = no_row (not (is_spawned (node_at who es path))) NotSpawned _ first.1 in
      let third = no_row (not (owns who (node_at who es path))) NotAuthority _ second.1 in
      let spawned = not_false (is_spawned (node_at who es path)) second.0 in
      (spawned, both (node_at who es path) spawned (not_false (owns who (node_at who es path)) third.0))
    where
      both : (n : Option Live) → is_spawned n ≡ true → owns who n ≡ true → some_is (is_row_of who.id) n ≡ true
      both None k l = k
      both (Some n) k l = ap₂ (λ a b. a && b) k l

  -- a despawn takes the node at the path
  pub tree_despawn_here : IsValidScene who.scene → AllAccepted who es → Facts who es → Accepts who es (does (Despawn path)) → tree_of who (does (Despawn path) ∷ es) ≡ without_spawned path (tree_of who es)
  tree_despawn_here v all f h =
      let fixed = map (fixed_now who es) who.scene.nodes in
      let rows = flat_map (rows_of who es) (authorities who es) in
      let own = despawn_is_own h in
      let there = only_there (λ (n : Live). n.path) path (is_row_of who.id) (tree_of who es) f.apart own.1 in
      let parts = all_split is_own_there fixed rows there in
      ap (tree_with who es) (rows_despawn who es path)
      ∙ ap₂ (λ ns ms. ns ++ ms) (sym (fixed_stay parts.0))
      (flat_agree (λ c. list_all is_own_there (rows_of who es c)) (λ c. if int_eq c who.id then map (own_live who es) (filter (leaves (does (Despawn path))) (own_rows who es)) else (view who es c).rows)
      (λ c. filter stays (rows_of who es c)) (authorities who es) (all_of_flat is_own_there (rows_of who es) (authorities who es) parts.1) (rows_stay v all)
      ∙ sym (filter-flat stays (rows_of who es) (authorities who es)))
      ∙ sym (filter-append stays fixed rows)
      ∙ sym (without_once (λ (n : Live). n.path) path (tree_of who es) f.apart)
      ∙ sym (ap (λ b. cond b (without_first (is_at path) (tree_of who es)) (tree_of who es)) own.0)

-- the tree after a despawn
pub tree_despawn : (who : Who) (es : List Heard) → IsValidScene who.scene → AllAccepted who es → Facts who es → (path : List ℕ) → Accepts who es (does (Despawn path))
    → tree_of who (does (Despawn path) ∷ es) ≡ without_spawned path (tree_of who es)
tree_despawn who es v all f path h = tree_despawn_here who es path v all f h
