-- The values of an own row stand in the tree, so that the packet that shows it has them.
use Rattle.std.proofs.Common.{◌≡◌, ℕ, suc, ℤ, Bool, true, false, cond, ◌||◌, List, [], ◌∷◌, refl, sym, ap, ◌∙◌, map, filter, arith, Option, Some, None}
use Rattle.std.specs.Prelude.{find, flat_map, option_map, option_and_then, if◌then◌else◌}
use Rattle.std.specs.List.{list_all, All, Contains, AllByRecursion}
use Rattle.std.specs.Ordering.{int_eq}
use Rattle.std.proofs.lemmas.List.Elements.{All-from_recursion, All-contains}
use Rattle.std.proofs.lemmas.Bool.{true≢false, or_parts}
use Rattle.std.proofs.lemmas.List.Sums.{AllPass-from_list_all}
use Rattle.gd_variant.specs.Words.{text_eq, has_text, or_else}
use Rattle.gd_variant.specs.declared.value.Variant.TheVariants.{Nil}
use Rattle.scene_model.specs.declared.scene.Prop.{Prop}
use Rattle.scene_model.specs.Lookup.{scene_at, has_prop, value_in}
use Rattle.scene_model.specs.Valid.{IsValidScene, has_twice}
use Rattle.scene_model.proofs.TextLaws.{text_eq-sym, text_eq-true, text_eq-same}
use Rattle.peer_model.specs.Heard.{Who, Heard}
use Rattle.peer_model.specs.Rows.{OwnRow, own_rows, syncs_at}
use Rattle.peer_model.specs.Values.{own_value, props_in}
use Rattle.peer_model.specs.Updates.{Live, Show, live_at, all_spawn_props}
use Rattle.peer_model.specs.Changes.{show_of}
use Rattle.peer_model.specs.View.{view, own_values, own_live, fixed_now, rows_of, authorities, tree_of, node_at}
use Rattle.peer_model.specs.Answer.{update_packet}
use Rattle.peer_model.proofs.Nodes.{this_is_there}
use Rattle.headless_tree.specs.Nodes.{value_at, is_row_of}
use Rattle.peer_laws.specs.Built.{AllAccepted}
use Rattle.peer_laws.proofs.Numbers.{int_same}
use Rattle.peer_laws.proofs.Views.{tree_rows_under, this_among}
use Rattle.peer_laws.specs.Facts.{Facts, paths_of}
use Rattle.peer_laws.specs.Shown.{show_packet}
use Rattle.peer_laws.proofs.Joined.{map_agree}
use Rattle.peer_laws.proofs.Each.{of_each, every_right, every_of, every_unmapped}
use Rattle.peer_laws.proofs.Scenes.{spawn_props_named}

-- nodes whose paths are apart are found by them

found_later : (y : Live) (xs zs : List Live) → has_text y.path (paths_of zs) ≡ false → AllByRecursion (λ (x : Live). live_at xs x.path ≡ Some x) zs → AllByRecursion (λ (x : Live). live_at (y ∷ xs) x.path ≡ Some x) zs
found_later y xs [] h all = tt
found_later y xs (z ∷ zs) h all =
    let parts = or_parts (text_eq y.path z.path) (has_text y.path (paths_of zs)) h in
    (ap (λ b. cond b (Some y) (live_at xs z.path)) parts.0 ∙ all.0, found_later y xs zs parts.1 all.1)

each_found : (xs : List Live) → has_twice (paths_of xs) ≡ false → AllByRecursion (λ (x : Live). live_at xs x.path ≡ Some x) xs
each_found [] h = tt
each_found (x ∷ xs) h =
    let parts = or_parts (has_text x.path (paths_of xs)) (has_twice (paths_of xs)) h in
    (ap (λ b. cond b (Some x) (live_at xs x.path)) (text_eq-same x.path), found_later x xs xs parts.0 (each_found xs parts.1))

rows_here : (who : Who) (es : List Heard) (c : ℤ) → int_eq c who.id ≡ true → rows_of who es c ≡ map (own_live who es) (own_rows who es)
rows_here who es c e = ap (λ b. if b then map (own_live who es) (own_rows who es) else (view who es c).rows) e

own_found : (who : Who) (es : List Heard) → has_twice (paths_of (tree_of who es)) ≡ false → AllByRecursion (λ (r : OwnRow). live_at (tree_of who es) r.path ≡ Some (own_live who es r)) (own_rows who es)
own_found who es apart =
    let P : Live → Type 0 = λ (x : Live). live_at (tree_of who es) x.path ≡ Some x in
    every_unmapped P (own_live who es) (own_rows who es)
    (every_of P (rows_of who es) (λ c. int_eq c who.id) (map (own_live who es) (own_rows who es)) (rows_here who es) (authorities who es) (this_is_there who es)
    (every_right P (map (fixed_now who es) who.scene.nodes) (flat_map (rows_of who es) (authorities who es)) (each_found (tree_of who es) apart)))

-- an own row stands at its path
pub own_row_there : (who : Who) (es : List Heard) → Facts who es → (r : OwnRow) → Contains (own_rows who es) r → live_at (tree_of who es) r.path ≡ Some (own_live who es r)
own_row_there who es facts r has =
    let P : OwnRow → Type 0 = λ (x : OwnRow). live_at (tree_of who es) x.path ≡ Some (own_live who es x) in
    All-contains P (own_rows who es) r (All-from_recursion P (own_rows who es) (own_found who es facts.apart)) has

-- what a search finds is found among what passes another test, where it passes that
find_kept : {X : Type 0} (p q : X → Bool) (xs : List X) (x : X) → find p xs ≡ Some x → q x ≡ true → find p (filter q xs) ≡ Some x
find_kept p q [] x h k = absurd (cc h)
find_kept p q (y ∷ ys) x h k = step (p y) refl (q y) refl (λ l. find_kept p q ys x l k) h
  where
    step : (a : Bool) → p y ≡ a → (b : Bool) → q y ≡ b → (find p ys ≡ Some x → find p (filter q ys) ≡ Some x) → cond a (Some y) (find p ys) ≡ Some x → find p (cond b (y ∷ filter q ys) (filter q ys)) ≡ Some x
    step true e true f more l = ap (λ c. cond c (Some y) (find p (filter q ys))) e ∙ l
    step true e false f more l = let same : y ≡ x = cc in absurd (true≢false (sym k ∙ ap q (sym same) ∙ f))
    step false e true f more l = ap (λ c. cond c (Some y) (find p (filter q ys))) e ∙ more l
    step false e false f more l = more l

pub find_mapped : {X Y : Type 0} (p : Y → Bool) (f : X → Y) (xs : List X) → find p (map f xs) ≡ option_map f (find (λ x. p (f x)) xs)
find_mapped p f [] = refl
find_mapped p f (x ∷ xs) = elim (p (f x)) as (λ b. cond b (Some (f x)) (find p (map f xs)) ≡ option_map f (cond b (Some x) (find (λ y. p (f y)) xs))) [ true ↦ refl | false ↦ find_mapped p f xs ]

some_mapped : {X Y : Type 0} (f : X → Y) (o : Option X) (y : Y) → option_map f o ≡ Some y → (x : X) × (o ≡ Some x) × (f x ≡ y)
some_mapped f None y h = absurd (cc h)
some_mapped f (Some x) y h = (x, refl, cc)

pub find_contains : {X : Type 0} (p : X → Bool) (xs : List X) (x : X) → find p xs ≡ Some x → Contains xs x
find_contains p [] x h = absurd (cc h)
find_contains p (y ∷ ys) x h = step (p y) h (λ l. find_contains p ys x l)
  where
    step : (b : Bool) → cond b (Some y) (find p ys) ≡ Some x → (find p ys ≡ Some x → Contains ys x) → Contains (y ∷ ys) x
    step true l more = let same : y ≡ x = cc in (0, omega arith, same)
    step false l more = let w = more l in let low = w.1 in (suc w.0, omega (arith, low), w.2)

-- where a spawned node of this peer stands, it is an own row
pub own_row_at : (who : Who) (es : List Heard) → IsValidScene who.scene → AllAccepted who es → Facts who es → (path : List ℕ) (n : Live) → node_at who es path ≡ Some n → is_row_of who.id n ≡ true
    → (r : OwnRow) × (find (λ (r : OwnRow). text_eq r.path path) (own_rows who es) ≡ Some r) × (own_live who es r ≡ n)
own_row_at who es v all f path n there own =
    some_mapped (own_live who es) (find (λ (r : OwnRow). text_eq r.path path) (own_rows who es)) n
    (sym (find_mapped (λ (m : Live). text_eq m.path path) (own_live who es) (own_rows who es))
    ∙ ap (find (λ (m : Live). text_eq m.path path)) (sym (tree_rows_under who es v all f who.id (this_among who es) ∙ rows_here who es who.id (int_same who.id)))
    ∙ find_kept (λ (m : Live). text_eq m.path path) (is_row_of who.id) (tree_of who es) n there own)

-- values

pub own_value_in : (who : Who) (es : List Heard) (path p : List ℕ) (props : List Prop) → has_prop p props ≡ true → value_in (own_values who es path props) p ≡ Some (own_value who es path p)
own_value_in who es path p [] h = absurd (cc h)
own_value_in who es path p (q ∷ qs) h = step (text_eq q.name p) refl (sym (ap (λ b. b || has_prop p qs) (text_eq-sym p q.name)) ∙ h) (λ e. own_value_in who es path p qs e)
  where
    step : (b : Bool) → text_eq q.name p ≡ b → (b || has_prop p qs) ≡ true → (has_prop p qs ≡ true → value_in (own_values who es path qs) p ≡ Some (own_value who es path p))
        → option_map (λ (x : Prop). x.value) (cond b (Some (record { name = q.name; value = own_value who es path q.name })) (find (λ (x : Prop). text_eq x.name p) (own_values who es path qs))) ≡ Some (own_value who es path p)
    step true e some more = ap (λ n. Some (own_value who es path n)) (text_eq-true q.name p e)
    step false e some more = more some

-- a value of the node at a path, where it is this own row
pub value_there : (who : Who) (es : List Heard) (nodes : List Live) (r : OwnRow) → live_at nodes r.path ≡ Some (own_live who es r) → (p : List ℕ) → has_prop p (props_in (scene_at who.scene r.place)) ≡ true → value_at nodes r.path p ≡ Some (own_value who es r.path p)
value_there who es nodes r there p h = ap (option_and_then (λ (n : Live). value_in n.values p)) there ∙ own_value_in who es r.path p (props_in (scene_at who.scene r.place)) h

-- what a Show says of an own row that stands at its path are the values in the tree
pub shown_from : (who : Who) (es : List Heard) (nodes : List Live) (r : OwnRow) → IsValidScene who.scene → live_at nodes r.path ≡ Some (own_live who es r) → update_packet (Show (show_of who es r)) ≡ show_packet who nodes r
shown_from who es nodes r valid there =
    let names = all_spawn_props (syncs_at who.scene (Some r.place)) in
    ap (λ vs. update_packet (Show (record (show_of who es r) { values = vs })))
    (map_agree (own_value who es r.path) (λ p. or_else (value_at nodes r.path p) Nil) names
    (each_agrees names (spawn_props_named who.scene valid r.place)))
  where
    each_agrees : (ps : List (List ℕ)) → list_all (λ p. has_prop p (props_in (scene_at who.scene r.place))) ps ≡ true → All (λ p. own_value who es r.path p ≡ or_else (value_at nodes r.path p) Nil) ps
    each_agrees ps h = of_each (λ p. own_value who es r.path p ≡ or_else (value_at nodes r.path p) Nil) ps
        (λ p has. sym (ap (λ o. or_else o Nil) (value_there who es nodes r there p (All-contains (λ x. has_prop x (props_in (scene_at who.scene r.place)) ≡ true) ps p (AllPass-from_list_all (λ x. has_prop x (props_in (scene_at who.scene r.place))) ps h) has))))
