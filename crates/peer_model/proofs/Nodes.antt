-- What stands at a path, where nothing was received.
use Rattle.std.proofs.Common.{◌≡◌, ℕ, ℤ, Bool, true, false, cond, ◌||◌, List, [], ◌∷◌, ◌++◌, refl, ap, ◌∙◌, map, reverse, Some}
use Rattle.std.specs.Prelude.{find, flat_map, option_map, int_lt}
use Rattle.std.specs.List.{list_any}
use Rattle.std.specs.Ordering.{int_eq}
use Rattle.std.proofs.lemmas.Bool.Decides.{Decides-int_eq}
use Rattle.gd_variant.specs.Words.{text_eq}
use Rattle.gd_variant.specs.declared.message.Plain.{Plain}
use Rattle.scene_model.specs.declared.scene.Node.{Node}
use Rattle.scene_model.specs.Lookup.{fixed_node}
use Rattle.peer_model.specs.Heard.{Who, Heard, received_from}
use Rattle.peer_model.specs.Peers.{is_up, peers_up}
use Rattle.peer_model.specs.Updates.{Live, applied}
use Rattle.peer_model.specs.View.{view, seen_while, rows_while, updates_in, rows_of, authorities, fixed_now, node_at}
use Rattle.scene_model.proofs.ListLaws.{any-put_by}

none_while : (b : Bool) → rows_while b [] ≡ []
none_while true = refl
none_while false = refl

-- a peer from which nothing was received has no rows here
pub no_rows : (who : Who) (es : List Heard) (c : ℤ) → received_from who es c ≡ [] → (view who es c).rows ≡ []
no_rows who es c h = ap (λ (ps : List Plain). (seen_while who.scene c ps (is_up es c) (applied who.scene c (flat_map updates_in (reverse ps)))).rows) h ∙ none_while (is_up es c)

pub this_is_there : (who : Who) (es : List Heard) → list_any (λ c. int_eq c who.id) (authorities who es) ≡ true
this_is_there who es = any-put_by (λ c. int_eq c who.id) int_lt who.id (peers_up es) ∙ ap (λ b. b || list_any (λ c. int_eq c who.id) (peers_up es)) ((Decides-int_eq who.id who.id).1 refl)

-- a fixed node is what stands at its path
found_first : (f : Node → Live) → ((n : Node) → (f n).path ≡ n.path) → (p : List ℕ) (n : Node) (nodes : List Node) (rest : List Live) → find (λ (m : Node). text_eq m.path p) nodes ≡ Some n → find (λ (m : Live). text_eq m.path p) (map f nodes ++ rest) ≡ Some (f n)
found_first f same p n [] rest h = absurd (cc h)
found_first f same p n (x ∷ xs) rest h = ap (λ t. cond (text_eq t p) (Some (f x)) (find (λ (m : Live). text_eq m.path p) (map f xs ++ rest))) (same x) ∙ step (text_eq x.path p) (λ k. found_first f same p n xs rest k) h
  where
    step : (b : Bool) → (find (λ (m : Node). text_eq m.path p) xs ≡ Some n → find (λ (m : Live). text_eq m.path p) (map f xs ++ rest) ≡ Some (f n)) → cond b (Some x) (find (λ (m : Node). text_eq m.path p) xs) ≡ Some n → cond b (Some (f x)) (find (λ (m : Live). text_eq m.path p) (map f xs ++ rest)) ≡ Some (f n)
    step true more k = ap (option_map f) k
    step false more k = more k

pub fixed_is_there : (who : Who) (es : List Heard) (p : List ℕ) (n : Node) → fixed_node who.scene p ≡ Some n → node_at who es p ≡ Some (fixed_now who es n)
fixed_is_there who es p n h = found_first (fixed_now who es) (λ m. refl) p n who.scene.nodes (flat_map (rows_of who es) (authorities who es)) h
