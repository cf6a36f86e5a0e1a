-- The tree, one link event later: a peer that comes brings nothing, one that goes takes its rows.
use Rattle.std.proofs.Common.{◌≡◌, ℤ, Bool, true, false, cond, not, ◌&&◌, ◌||◌, List, [], ◌∷◌, ◌++◌, refl, sym, ap, ◌∙◌, map, filter}
use Rattle.std.specs.Prelude.{flat_map, int_lt, if◌then◌else◌}
use Rattle.std.specs.List.{list_all}
use Rattle.std.specs.Ordering.{int_eq}
use Rattle.std.proofs.lemmas.List.Elements.{filter-append}
use Rattle.std.proofs.lemmas.List.Folds.{list_all-map}
use Rattle.gd_variant.specs.Words.{put_by}
use Rattle.scene_model.specs.Valid.{IsValidScene}
use Rattle.peer_model.specs.Heard.{Who, Heard, comes, goes, received_from}
use Rattle.peer_model.specs.Peers.{is_up, peers_up}
use Rattle.peer_model.specs.Rows.{own_rows}
use Rattle.peer_model.specs.Updates.{Live, applied}
use Rattle.peer_model.specs.View.{view, updates_from, all_sampled, rows_while, own_live, rows_of, fixed_now, authorities, tree_of}
use Rattle.peer_model.proofs.Links.{up_after_comes, up_after_goes}
use Rattle.peer_model.proofs.Rows.{rows_after_comes, rows_after_goes}
use Rattle.peer_model.proofs.Nodes.{no_rows}
use Rattle.headless_tree.specs.Nodes.{is_row_of, without_rows}
use Rattle.peer_laws.specs.Built.{Accepts, AllAccepted}
use Rattle.peer_laws.specs.Facts.{Facts}
use Rattle.peer_laws.proofs.Tests.{not_false}
use Rattle.peer_laws.proofs.Each.{all_each, none_weaker}
use Rattle.peer_laws.proofs.Numbers.{int_same, int_is, int_comm}
use Rattle.peer_laws.proofs.Sorted.{filter-put, rising_sorted}
use Rattle.peer_laws.proofs.Joined.{flat_each, flat-filter, filter-flat, flat_skip_under}
use Rattle.peer_laws.proofs.Filters.{filter_all, filter_none}
use Rattle.peer_laws.proofs.Ups.{ups_come, ups_go, ups_apart, come_is_new, go_is_up, not_this}
use Rattle.peer_laws.proofs.Authorities.{row_other}
use Rattle.peer_laws.proofs.Views.{rows_are_of}
use Rattle.headless_tree.proofs.Order.{all_weaker}

-- what a peer's updates made, with the samples, while the peer is up
abbrev sampled : Who → List Heard → ℤ → List Live
sampled who es c = all_sampled who.scene c (received_from who es c) (applied who.scene c (updates_from who es c)) (applied who.scene c (updates_from who es c)).rows

-- a peer from which nothing came has no rows
nothing_of : (who : Who) (es : List Heard) (c : ℤ) → int_eq c who.id ≡ false → received_from who es c ≡ [] → rows_of who es c ≡ []
nothing_of who es c other none = ap (λ b. if b then map (own_live who es) (own_rows who es) else (view who es c).rows) other ∙ no_rows who es c none

-- a peer that comes

come_view : (who : Who) (es : List Heard) (b c : ℤ) → received_from who es b ≡ [] → (view who (comes b ∷ es) c).rows ≡ (view who es c).rows
come_view who es b c none = step (int_eq c b) refl
  where
    step : (t : Bool) → int_eq c b ≡ t → (view who (comes b ∷ es) c).rows ≡ (view who es c).rows
    step true e = let nothing : received_from who es c ≡ [] = ap (received_from who es) (int_is c b e) ∙ none in no_rows who (comes b ∷ es) c nothing ∙ sym (no_rows who es c nothing)
    step false e = ap (λ u. rows_while u (sampled who es c)) (up_after_comes es b c ∙ ap (λ t. t || is_up es c) e)

come_rows : (who : Who) (es : List Heard) (b c : ℤ) → received_from who es b ≡ [] → rows_of who (comes b ∷ es) c ≡ rows_of who es c
come_rows who es b c none = elim (int_eq c who.id) as (λ t. (if t then map (own_live who (comes b ∷ es)) (own_rows who (comes b ∷ es)) else (view who (comes b ∷ es) c).rows) ≡ (if t then map (own_live who es) (own_rows who es) else (view who es c).rows)) [
  | true ↦ ap (map (own_live who es)) (rows_after_comes who es b)
  | false ↦ come_view who es b c none
]

-- a peer that comes brings no node
pub tree_come : (who : Who) (es : List Heard) → Facts who es → (b : ℤ) → Accepts who es (comes b) → tree_of who (comes b ∷ es) ≡ tree_of who es
tree_come who es f b h =
    let new = come_is_new who es b h in
    let none = f.silent b new.1 in
    ap (λ rows. map (fixed_now who es) who.scene.nodes ++ rows)
    (flat_each (rows_of who (comes b ∷ es)) (rows_of who es) (λ c. come_rows who es b c none) (put_by int_lt who.id (peers_up (comes b ∷ es)))
    ∙ ap (λ us. flat_map (rows_of who es) (put_by int_lt who.id us)) (ups_come es b new.1)
    ∙ flat_skip_under (rows_of who es) who.id b (nothing_of who es b new.0 none) (peers_up es))

-- a peer that goes

go_own : (who : Who) (es : List Heard) (b : ℤ) → map (own_live who (goes b ∷ es)) (own_rows who (goes b ∷ es)) ≡ map (own_live who es) (own_rows who es)
go_own who es b = ap (map (own_live who es)) (rows_after_goes who es b)

stays_up : (who : Who) (es : List Heard) (b c : ℤ) → int_eq c b ≡ false → rows_of who (goes b ∷ es) c ≡ rows_of who es c
stays_up who es b c other = elim (int_eq c who.id) as (λ t. (if t then map (own_live who (goes b ∷ es)) (own_rows who (goes b ∷ es)) else (view who (goes b ∷ es) c).rows) ≡ (if t then map (own_live who es) (own_rows who es) else (view who es c).rows)) [
  | true ↦ go_own who es b
  | false ↦ ap (λ u. rows_while u (sampled who es c)) (up_after_goes es b c ∙ ap (λ t. not t && is_up es c) other)
]

gone : (who : Who) (es : List Heard) (b : ℤ) → int_eq b who.id ≡ false → rows_of who (goes b ∷ es) b ≡ []
gone who es b other =
    ap (λ t. if t then map (own_live who (goes b ∷ es)) (own_rows who (goes b ∷ es)) else (view who (goes b ∷ es) b).rows) other
    ∙ ap (λ u. rows_while u (sampled who es b)) (up_after_goes es b b ∙ ap (λ t. not t && is_up es b) (int_same b))

go_rows : (who : Who) (es : List Heard) → IsValidScene who.scene → AllAccepted who es → (b : ℤ) → int_eq b who.id ≡ false → (c : ℤ) → rows_of who (goes b ∷ es) c ≡ without_rows b (rows_of who es c)
go_rows who es v all b other c = step (int_eq c b) refl
  where
    step : (t : Bool) → int_eq c b ≡ t → rows_of who (goes b ∷ es) c ≡ without_rows b (rows_of who es c)
    step true e =
        ap (rows_of who (goes b ∷ es)) (int_is c b e) ∙ gone who es b other
        ∙ sym (filter_none (λ (n : Live). not (is_row_of b n)) (rows_of who es c) (none_weaker (is_row_of b) (λ (n : Live). not (is_row_of b n)) (λ n k. ap not k) (rows_of who es c) (ap (λ x. list_all (is_row_of x) (rows_of who es c)) (sym (int_is c b e)) ∙ rows_are_of who es v all c)))
    step false e = stays_up who es b c e ∙ sym (filter_all (λ (n : Live). not (is_row_of b n)) (rows_of who es c) (kept (rows_of who es c) (rows_are_of who es v all c) e))
      where
        kept : (ns : List Live) → list_all (is_row_of c) ns ≡ true → int_eq c b ≡ false → list_all (λ (n : Live). not (is_row_of b n)) ns ≡ true
        kept ns k e = all_weaker (is_row_of c) (λ (n : Live). not (is_row_of b n)) (λ n l. ap not (row_other c b n e l)) ns k

-- a peer that goes takes its rows with it
pub tree_go : (who : Who) (es : List Heard) → IsValidScene who.scene → AllAccepted who es → Facts who es → (b : ℤ) → Accepts who es (goes b) → tree_of who (goes b ∷ es) ≡ without_rows b (tree_of who es)
tree_go who es v all f b h =
    let other = not_this who es f b (go_is_up who es b h) in
    let stays : ℤ → Bool = λ c. not (int_eq c b) in
    let keeps : Live → Bool = λ n. not (is_row_of b n) in
    let fixed = map (fixed_now who es) who.scene.nodes in
    ap (λ rows. fixed ++ rows)
    (ap (λ us. flat_map (rows_of who (goes b ∷ es)) (put_by int_lt who.id us)) (ups_go es b)
    ∙ ap (flat_map (rows_of who (goes b ∷ es))) (sym (filter-put stays who.id (peers_up es) (rising_sorted (peers_up es) (ups_apart who es all)) ∙ ap (λ t. cond t (put_by int_lt who.id (filter stays (peers_up es))) (filter stays (peers_up es))) (ap not (int_comm who.id b ∙ other))))
    ∙ flat-filter stays (rows_of who (goes b ∷ es)) (λ c e. ap (rows_of who (goes b ∷ es)) (int_is c b (not_false (int_eq c b) e)) ∙ gone who es b other) (authorities who es)
    ∙ flat_each (rows_of who (goes b ∷ es)) (λ c. without_rows b (rows_of who es c)) (go_rows who es v all b other) (authorities who es)
    ∙ sym (filter-flat keeps (rows_of who es) (authorities who es)))
    ∙ ap (λ ns. ns ++ without_rows b (flat_map (rows_of who es) (authorities who es))) (sym (filter_all keeps fixed (list_all-map keeps (fixed_now who es) who.scene.nodes ∙ all_each (λ n. keeps (fixed_now who es n)) (λ n. refl) who.scene.nodes)))
    ∙ sym (filter-append keeps fixed (flat_map (rows_of who es) (authorities who es)))
