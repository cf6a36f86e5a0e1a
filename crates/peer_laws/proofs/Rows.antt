-- Own rows and the next number, one event later; and own rows have lower numbers than the next one.
use Rattle.std.proofs.Common.{◌≡◌, ℕ, suc, ◌+◌, ◌≤◌, ◌<◌, ℤ, Bool, true, false, cond, not, ◌||◌, List, [], ◌∷◌, ◌++◌, refl, sym, ap, ap₂, ◌∙◌, length, map, filter, arith, Option, Some, None}
use Rattle.std.specs.Prelude.{Result}
use Rattle.std.specs.List.{list_any, list_all}
use Rattle.std.proofs.lemmas.Bool.{ltb-true, lt-ltb, and_from}
use Rattle.std.proofs.lemmas.List.Elements.{filter-append}
use Rattle.std.proofs.lemmas.List.Folds.{list_all-map}
use Rattle.std.proofs.lemmas.List.Sums.{sum_by-cons}
use Rattle.std.proofs.lemmas.List.{append-nil}
use Rattle.gd_variant.specs.declared.value.Variant.{Variant}
use Rattle.gd_variant.specs.declared.message.Message.{Message}
use Rattle.gd_variant.specs.declared.message.Bad.{Bad}
use Rattle.scene_model.specs.declared.event.Class.{Class}
use Rattle.scene_model.specs.declared.event.SpawnOp.{SpawnOp}
use Rattle.scene_model.specs.declared.event.Op.TheVariants.{Spawn, Custom, Despawn, Set}
use Rattle.peer_model.specs.Heard.{Who, Heard, does, comes, goes, gets}
use Rattle.peer_model.specs.Rows.{OwnRow, own_rows, next_number, numbers_taken, count_from, row_made, made_rows, row_here, row_in, stays, despawns, spawn_in, spawned_scene, syncs_at}
use Rattle.peer_model.proofs.Rows.{alive, alive-append, SameGone, rows_after}
pub use Rattle.peer_model.proofs.Rows.{rows_after_comes as rows_come, rows_after_goes as rows_go, rows_after_spawn as rows_spawn}
use Rattle.headless_tree.proofs.Order.{all_weaker}
use Rattle.peer_laws.specs.Facts.{is_below, new_rows, leaves}
use Rattle.peer_laws.proofs.Each.{all_joined, all-filter}

-- own rows

left_here : (who : Who) (es : List Heard) (e : Heard) (xs : List Heard) (o : Option SpawnOp) → alive (row_here who (e ∷ xs) es o) ≡ filter (leaves e) (alive (row_here who xs es o))
left_here who es e xs None = refl
left_here who es e xs (Some o) = step (despawns r.path e) refl (list_any (despawns r.path) xs)
  where
    r : OwnRow
    r = row_made who es o

    step : (b : Bool) → despawns r.path e ≡ b → (c : Bool) → map row_in (cond (not (b || c)) ((r, e ∷ xs) ∷ []) []) ≡ filter (leaves e) (map row_in (cond (not c) ((r, xs) ∷ []) []))
    step true h true = refl
    step true h false = sym (ap (λ b. cond (not b) (r ∷ []) []) h)
    step false h true = refl
    step false h false = sym (ap (λ b. cond (not b) (r ∷ []) []) h)

left_made : (who : Who) (es : List Heard) (e : Heard) (xs : List Heard) → alive (made_rows who (e ∷ xs) es) ≡ filter (leaves e) (alive (made_rows who xs es))
left_made who [] e xs = refl
left_made who (d ∷ es) e xs =
    alive-append (made_rows who (e ∷ (xs ++ d ∷ [])) es) (row_here who (e ∷ xs) es (spawn_in d))
    ∙ ap₂ (λ rs qs. rs ++ qs) (left_made who es e (xs ++ d ∷ [])) (left_here who es e xs (spawn_in d))
    ∙ sym (filter-append (leaves e) (alive (made_rows who (xs ++ d ∷ []) es)) (alive (row_here who xs es (spawn_in d))))
    ∙ ap (filter (leaves e)) (sym (alive-append (made_rows who (xs ++ d ∷ []) es) (row_here who xs es (spawn_in d))))

made_alive : (who : Who) (es : List Heard) (o : Option SpawnOp) → alive (row_here who [] es o) ≡ new_rows who es o
made_alive who es None = refl
made_alive who es (Some o) = refl

-- an event leaves the rows that it doesn't despawn, and adds the one that it makes
pub own_later : (who : Who) (es : List Heard) (e : Heard) → own_rows who (e ∷ es) ≡ filter (leaves e) (own_rows who es) ++ new_rows who es (spawn_in e)
own_later who es e = alive-append (made_rows who (e ∷ []) es) (row_here who [] es (spawn_in e)) ∙ ap₂ (λ rs qs. rs ++ qs) (left_made who es e []) (made_alive who es (spawn_in e))

-- an event that despawns and spawns nothing leaves the rows
pub rows_kept : (who : Who) (es : List Heard) (e : Heard) → SameGone (e ∷ []) [] → spawn_in e ≡ None → own_rows who (e ∷ es) ≡ own_rows who es
rows_kept who es e same none = rows_after who es e same ∙ ap (λ o. own_rows who es ++ alive (row_here who [] es o)) none ∙ append-nil (own_rows who es)

pub rows_set : (who : Who) (es : List Heard) (path prop : List ℕ) (value : Variant) → own_rows who (does (Set path prop value) ∷ es) ≡ own_rows who es
rows_set who es path prop value = rows_kept who es (does (Set path prop value)) (λ p. refl) refl

pub rows_receive : (who : Who) (es : List Heard) (from : ℤ) (class : Class) (bytes : List ℕ) (read : Result Message Bad) → own_rows who (gets from class bytes read ∷ es) ≡ own_rows who es
rows_receive who es from class bytes read = rows_kept who es (gets from class bytes read) (λ p. refl) refl

pub rows_custom : (who : Who) (es : List Heard) (o : SpawnOp) → own_rows who (does (Custom o) ∷ es) ≡ own_rows who es ++ row_made who es o ∷ []
rows_custom who es o = rows_after who es (does (Custom o)) (λ p. refl)

pub rows_despawn : (who : Who) (es : List Heard) (path : List ℕ) → own_rows who (does (Despawn path) ∷ es) ≡ filter (leaves (does (Despawn path))) (own_rows who es)
rows_despawn who es path = own_later who es (does (Despawn path)) ∙ append-nil (filter (leaves (does (Despawn path))) (own_rows who es))

-- a row has an id for each synchronizer of its scene
pub length-count_from : {X : Type 0} (n : ℕ) (xs : List X) → length (count_from n xs) ≡ length xs
length-count_from n [] = refl
length-count_from n (x ∷ xs) = ap suc (length-count_from (n + 1) xs)

-- the next number

pub next_later : (who : Who) (es : List Heard) (e : Heard) → next_number who (e ∷ es) ≡ next_number who es + numbers_taken who e
next_later who es e = omega (arith, sum_by-cons (numbers_taken who) e es)

-- an event that spawns nothing takes no number
pub next_kept : (who : Who) (es : List Heard) (e : Heard) → numbers_taken who e ≡ 0 → next_number who (e ∷ es) ≡ next_number who es
next_kept who es e none = omega (arith, next_later who es e, none)

pub next_come : (who : Who) (es : List Heard) (b : ℤ) → next_number who (comes b ∷ es) ≡ next_number who es
next_come who es b = omega (arith, next_later who es (comes b))

pub next_go : (who : Who) (es : List Heard) (b : ℤ) → next_number who (goes b ∷ es) ≡ next_number who es
next_go who es b = omega (arith, next_later who es (goes b))

pub next_set : (who : Who) (es : List Heard) (path prop : List ℕ) (value : Variant) → next_number who (does (Set path prop value) ∷ es) ≡ next_number who es
next_set who es path prop value = omega (arith, next_later who es (does (Set path prop value)))

pub next_receive : (who : Who) (es : List Heard) (from : ℤ) (class : Class) (bytes : List ℕ) (read : Result Message Bad) → next_number who (gets from class bytes read ∷ es) ≡ next_number who es
next_receive who es from class bytes read = omega (arith, next_later who es (gets from class bytes read))

pub next_spawn : (who : Who) (es : List Heard) (o : SpawnOp) → next_number who (does (Spawn o) ∷ es) ≡ next_number who es + 1 + length (syncs_at who.scene (spawned_scene who o))
next_spawn who es o = omega (arith, next_later who es (does (Spawn o)))

pub next_custom : (who : Who) (es : List Heard) (o : SpawnOp) → next_number who (does (Custom o) ∷ es) ≡ next_number who es + 1 + length (syncs_at who.scene (spawned_scene who o))
next_custom who es o = omega (arith, next_later who es (does (Custom o)))

-- own rows are below the next number, whatever came before

below_more : (m n : ℕ) → m ≤ n → (r : OwnRow) → is_below m r ≡ true → is_below n r ≡ true
below_more m n h r k = lt-ltb r.num n (omega (arith, h, ltb-true r.num m k))

row_below : (who : Who) (after es : List Heard) (o : SpawnOp) (n : ℕ) → next_number who es < n → list_all (λ m. is_below n (row_in m)) (row_here who after es (Some o)) ≡ true
row_below who after es o n h = and_from (is_below n (row_made who es o)) true (lt-ltb (next_number who es) n h) refl

here_below : (who : Who) (after es : List Heard) (e : Heard) → list_all (λ m. is_below (next_number who (e ∷ es)) (row_in m)) (row_here who after es (spawn_in e)) ≡ true
here_below who after es (does (Spawn o)) = row_below who after es o (next_number who (does (Spawn o) ∷ es)) (omega (arith, next_later who es (does (Spawn o))))
here_below who after es (does (Custom o)) = row_below who after es o (next_number who (does (Custom o) ∷ es)) (omega (arith, next_later who es (does (Custom o))))
here_below who after es e = refl

made_below : (who : Who) (after es : List Heard) → list_all (λ m. is_below (next_number who es) (row_in m)) (made_rows who after es) ≡ true
made_below who after [] = refl
made_below who after (e ∷ es) = all_joined (λ m. is_below (next_number who (e ∷ es)) (row_in m)) (made_rows who (after ++ e ∷ []) es) (row_here who after es (spawn_in e))
    (all_weaker (λ m. is_below (next_number who es) (row_in m)) (λ m. is_below (next_number who (e ∷ es)) (row_in m)) (λ m k. below_more (next_number who es) (next_number who (e ∷ es)) (omega (arith, next_later who es e)) (row_in m) k) (made_rows who (after ++ e ∷ []) es) (made_below who (after ++ e ∷ []) es))
    (here_below who after es e)

-- own rows have lower numbers than the next one
pub below_of : (who : Who) (es : List Heard) → list_all (is_below (next_number who es)) (own_rows who es) ≡ true
below_of who es = list_all-map (is_below (next_number who es)) row_in (filter stays (made_rows who [] es)) ∙ all-filter (λ m. is_below (next_number who es) (row_in m)) stays (made_rows who [] es) (made_below who [] es)
