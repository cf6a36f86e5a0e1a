-- Which synchronizer of a peer an id means, among the nodes of the tree and among the rows of the peer.
use Rattle.std.proofs.Common.{◌≡◌, ℕ, zero, suc, ◌+◌, ◌<◌, ℤ, Bool, true, false, cond, not, ◌&&◌, ◌||◌, List, [], ◌∷◌, ◌++◌, refl, sym, ap, ◌∙◌, map, nat_eq, arith, is_some, Option, Some, None}
use Rattle.std.specs.Prelude.{find, filter_map, flat_map, option_and_then, option_map, position, slice_get, zip}
use Rattle.std.specs.List.{list_any, cons_option, position_or_len, AllByRecursion}
use Rattle.std.specs.Ordering.{int_eq}
use Rattle.std.proofs.lemmas.Bool.{or_from, or_parts, eqb-true, eq-eqb, ne_eqb, true≢false}
use Rattle.gd_variant.specs.Words.{has_nat, numbered}
use Rattle.scene_model.specs.declared.scene.Scene.{Scene}
use Rattle.scene_model.specs.declared.scene.Node.{Node}
use Rattle.scene_model.specs.declared.scene.SyncDef.{SyncDef}
use Rattle.scene_model.specs.Lookup.{sync_of}
use Rattle.scene_model.specs.Nodes.{Live}
use Rattle.scene_model.specs.Syncs.{Syncer, fixed_bit, fixed_syncer, fixed_syncers, row_syncer, sync_id, syncer_with}
use Rattle.peer_model.specs.Rows.{syncs_at}
use Rattle.peer_model.specs.Updates.{live_syncers, replica_syncers}
use Rattle.headless_tree.specs.Nodes.{is_row_of}
use Rattle.headless_tree.specs.Numbers.{has_number}
use Rattle.headless_tree.proofs.Places.{found_at, found_within, get_some}
use Rattle.peer_laws.specs.Facts.{rows_under}
use Rattle.peer_laws.proofs.Places.{find_here, find_past}
use Rattle.peer_laws.proofs.Tests.{never}
use Rattle.peer_steps.proofs.ViewIds.{SharesNone, Unshared, numbers}

-- the node that a synchronizer serves, and what it replicates
abbrev pub aim : Syncer → List ℕ × SyncDef
aim y = (y.node, y.def)

abbrev pub aimed : List ℕ → SyncDef → List ℕ × SyncDef
aimed path d = (path, d)

num_comm : (i j : ℕ) → nat_eq i j ≡ nat_eq j i
num_comm i j = step (nat_eq i j) refl
  where
    step : (b : Bool) → nat_eq i j ≡ b → nat_eq i j ≡ nat_eq j i
    step true e = e ∙ sym (eq-eqb j i (sym (eqb-true i j e)))
    step false e = e ∙ sym (never (nat_eq j i) (λ f. sym (eq-eqb i j (sym (eqb-true j i f))) ∙ e))

-- synchronizers of one row

pub row_lacks : (path : List ℕ) (id k : ℕ) (ids : List ℕ) (ds : List SyncDef) → has_nat id ids ≡ false → list_any (λ (y : Syncer). nat_eq y.id id) (map (row_syncer path) (numbered k (zip ids ds))) ≡ false
row_lacks path id k [] [] h = refl
row_lacks path id k [] (d ∷ ds) h = refl
row_lacks path id k (i ∷ ids) [] h = refl
row_lacks path id k (i ∷ ids) (d ∷ ds) h =
    let parts = or_parts (nat_eq id i) (has_nat id ids) h in
    or_from (nat_eq i id) (list_any (λ (y : Syncer). nat_eq y.id id) (map (row_syncer path) (numbered (k + 1) (zip ids ds)))) (num_comm i id ∙ parts.0) (row_lacks path id (k + 1) ids ds parts.1)

-- the one with an id stands where the id stands
pub row_at : (path : List ℕ) (id k : ℕ) (ids : List ℕ) (ds : List SyncDef) → has_nat id ids ≡ true
    → option_map aim (syncer_with id (map (row_syncer path) (numbered k (zip ids ds)))) ≡ option_map (aimed path) (slice_get ds (position_or_len (nat_eq id) ids))
row_at path id k [] ds h = absurd (cc h)
row_at path id k (i ∷ ids) [] h = step (position_or_len (nat_eq id) (i ∷ ids))
  where
    step : (j : ℕ) → None ≡ option_map (aimed path) (slice_get [] j)
    step zero = refl
    step (suc j) = refl
row_at path id k (i ∷ ids) (d ∷ ds) h = step (nat_eq id i) refl h (λ l. row_at path id (k + 1) ids ds l)
  where
    y : Syncer
    y = row_syncer path (k, (i, d))

    later : nat_eq id i ≡ false → slice_get (d ∷ ds) (position_or_len (nat_eq id) (i ∷ ids)) ≡ slice_get ds (position_or_len (nat_eq id) ids)
    later e = ap (λ b. slice_get (d ∷ ds) (cond (not b) (1 + position_or_len (nat_eq id) ids) 0)) e ∙ (let f : 1 + position_or_len (nat_eq id) ids ≡ suc (position_or_len (nat_eq id) ids) = omega arith in ap (slice_get (d ∷ ds)) f)

    step : (b : Bool) → nat_eq id i ≡ b → (b || has_nat id ids) ≡ true
        → (has_nat id ids ≡ true → option_map aim (syncer_with id (map (row_syncer path) (numbered (k + 1) (zip ids ds)))) ≡ option_map (aimed path) (slice_get ds (position_or_len (nat_eq id) ids)))
        → option_map aim (cond (nat_eq i id) (Some y) (syncer_with id (map (row_syncer path) (numbered (k + 1) (zip ids ds))))) ≡ option_map (aimed path) (slice_get (d ∷ ds) (position_or_len (nat_eq id) (i ∷ ids)))
    step true e l more = ap (λ b. option_map aim (cond b (Some y) (syncer_with id (map (row_syncer path) (numbered (k + 1) (zip ids ds)))))) (num_comm i id ∙ e) ∙ sym (ap (λ b. option_map (aimed path) (slice_get (d ∷ ds) (cond (not b) (1 + position_or_len (nat_eq id) ids) 0))) e)
    step false e l more = ap (λ b. option_map aim (cond b (Some y) (syncer_with id (map (row_syncer path) (numbered (k + 1) (zip ids ds)))))) (num_comm i id ∙ e) ∙ more l ∙ sym (ap (option_map (aimed path)) (later e))

-- synchronizers of rows

live_lacks : (s : Scene) (id : ℕ) (n : Live) → has_nat id (numbers n) ≡ false → list_any (λ (y : Syncer). nat_eq y.id id) (live_syncers s n) ≡ false
live_lacks s id n h = row_lacks n.path id 0 n.ids (syncs_at s n.place) (or_parts (nat_eq id n.num) (has_nat id n.ids) h).1

rest_lacks : (s : Scene) (id : ℕ) (n : Live) (rows : List Live) → has_nat id (numbers n) ≡ true → AllByRecursion (SharesNone n) rows → syncer_with id (flat_map (live_syncers s) rows) ≡ None
rest_lacks s id n [] h k = refl
rest_lacks s id n (m ∷ rows) h k = find_past (λ (y : Syncer). nat_eq y.id id) (live_syncers s m) (flat_map (live_syncers s) rows) (live_lacks s id m (k.0 id h)) ∙ rest_lacks s id n rows h k.1

-- the row that has the number has the synchronizer
pub row_meant_is : (s : Scene) (c : ℤ) (id : ℕ) (nodes : List Live) → Unshared (rows_under c nodes) → syncer_with id (flat_map (live_syncers s) (rows_under c nodes)) ≡ option_and_then (λ n. syncer_with id (live_syncers s n)) (find (has_number c id) nodes)
row_meant_is s c id [] h = refl
row_meant_is s c id (n ∷ ns) h = step (is_row_of c n) refl h (λ k. row_meant_is s c id ns k)
  where
    mine : (b : Bool) → has_nat id (numbers n) ≡ b → AllByRecursion (SharesNone n) (rows_under c ns) × Unshared (rows_under c ns) → syncer_with id (flat_map (live_syncers s) (rows_under c ns)) ≡ option_and_then (λ m. syncer_with id (live_syncers s m)) (find (has_number c id) ns)
        → syncer_with id (live_syncers s n ++ flat_map (live_syncers s) (rows_under c ns)) ≡ option_and_then (λ m. syncer_with id (live_syncers s m)) (cond b (Some n) (find (has_number c id) ns))
    mine true e k more = by (syncer_with id (live_syncers s n)) refl
      where
        by : (o : Option Syncer) → syncer_with id (live_syncers s n) ≡ o → syncer_with id (live_syncers s n ++ flat_map (live_syncers s) (rows_under c ns)) ≡ syncer_with id (live_syncers s n)
        by (Some y) f = find_here (λ (z : Syncer). nat_eq z.id id) (live_syncers s n) (flat_map (live_syncers s) (rows_under c ns)) y f ∙ sym f
        by None f = find_past (λ (z : Syncer). nat_eq z.id id) (live_syncers s n) (flat_map (live_syncers s) (rows_under c ns)) (none_found (live_syncers s n) f) ∙ rest_lacks s id n (rows_under c ns) e k.0 ∙ sym f
          where
            none_found : (ys : List Syncer) → find (λ (z : Syncer). nat_eq z.id id) ys ≡ None → list_any (λ (z : Syncer). nat_eq z.id id) ys ≡ false
            none_found [] g = refl
            none_found (z ∷ zs) g = one (nat_eq z.id id) g (none_found zs)
              where
                one : (t : Bool) → cond t (Some z) (find (λ (x : Syncer). nat_eq x.id id) zs) ≡ None → (find (λ (x : Syncer). nat_eq x.id id) zs ≡ None → list_any (λ (x : Syncer). nat_eq x.id id) zs ≡ false) → (t || list_any (λ (x : Syncer). nat_eq x.id id) zs) ≡ false
                one true l m = absurd (cc l)
                one false l m = m l
    mine false e k more = find_past (λ (z : Syncer). nat_eq z.id id) (live_syncers s n) (flat_map (live_syncers s) (rows_under c ns)) (live_lacks s id n e) ∙ more

    step : (b : Bool) → is_row_of c n ≡ b → Unshared (cond b (n ∷ rows_under c ns) (rows_under c ns)) → (Unshared (rows_under c ns) → syncer_with id (flat_map (live_syncers s) (rows_under c ns)) ≡ option_and_then (λ m. syncer_with id (live_syncers s m)) (find (has_number c id) ns))
        → syncer_with id (flat_map (live_syncers s) (cond (is_row_of c n) (n ∷ rows_under c ns) (rows_under c ns))) ≡ option_and_then (λ m. syncer_with id (live_syncers s m)) (cond (is_row_of c n && has_nat id (numbers n)) (Some n) (find (has_number c id) ns))
    step true e k later =
        ap (λ b. syncer_with id (flat_map (live_syncers s) (cond b (n ∷ rows_under c ns) (rows_under c ns)))) e
        ∙ mine (has_nat id (numbers n)) refl k (later k.1)
        ∙ sym (ap (λ b. option_and_then (λ m. syncer_with id (live_syncers s m)) (cond (b && has_nat id (numbers n)) (Some n) (find (has_number c id) ns))) e)
    step false e k later =
        ap (λ b. syncer_with id (flat_map (live_syncers s) (cond b (n ∷ rows_under c ns) (rows_under c ns)))) e
        ∙ later k
        ∙ sym (ap (λ b. option_and_then (λ m. syncer_with id (live_syncers s m)) (cond (b && has_nat id (numbers n)) (Some n) (find (has_number c id) ns))) e)

-- fixed synchronizers

-- ids of fixed synchronizers aren't below the bit
fixed_high : (auth : ℤ) (id i : ℕ) (ns : List Node) → id < fixed_bit → list_any (λ (y : Syncer). nat_eq y.id id) (filter_map (fixed_syncer auth) (numbered i ns)) ≡ false
fixed_high auth id i [] h = refl
fixed_high auth id i (n ∷ ns) h = step (int_eq n.auth auth) refl (sync_of n) refl (fixed_high auth id (i + 1) ns h)
  where
    step : (b : Bool) → int_eq n.auth auth ≡ b → (o : Option SyncDef) → sync_of n ≡ o → list_any (λ (y : Syncer). nat_eq y.id id) (filter_map (fixed_syncer auth) (numbered (i + 1) ns)) ≡ false
        → list_any (λ (y : Syncer). nat_eq y.id id) (cons_option (fixed_syncer auth (i, n)) (filter_map (fixed_syncer auth) (numbered (i + 1) ns))) ≡ false
    step false e o f more = rw e more
    step true e None f more = rw (e, f) more
    step true e (Some d) f more = rw (e, f) (or_from (nat_eq (fixed_bit + i) id) _ (ne_eqb (fixed_bit + i) id (λ g. omega (arith, h, g))) more)

-- the one at a place has its id
fixed_at : (auth : ℤ) (m i : ℕ) (ns : List Node) (n : Node) (d : SyncDef) → slice_get ns m ≡ Some n → sync_of n ≡ Some d → int_eq n.auth auth ≡ true → option_map aim (syncer_with (sync_id (i + m)) (filter_map (fixed_syncer auth) (numbered i ns))) ≡ Some (d.of, d)
fixed_at auth m i [] n d at is own = absurd (cc at)
fixed_at auth zero i (x ∷ ns) n d at is own =
    let same : x ≡ n = cc in
    let mine : int_eq x.auth auth ≡ true = ap (λ (z : Node). int_eq z.auth auth) same ∙ own in
    let sync : sync_of x ≡ Some d = ap sync_of same ∙ is in
    rw (mine, sync) (ap (λ b. option_map aim (cond b (Some (record { path = x.path; place = 0; id = sync_id i; node = d.of; def = d })) (syncer_with (sync_id (i + 0)) (filter_map (fixed_syncer auth) (numbered (i + 1) ns))))) (eq-eqb (sync_id i) (sync_id (i + 0)) (let e : fixed_bit + i ≡ fixed_bit + (i + 0) = omega arith in e)))
fixed_at auth (suc m) i (x ∷ ns) n d at is own = step (int_eq x.auth auth) refl (sync_of x) refl (ap (λ j. option_map aim (syncer_with (sync_id j) (filter_map (fixed_syncer auth) (numbered (i + 1) ns)))) (let e : i + suc m ≡ (i + 1) + m = omega arith in e) ∙ fixed_at auth m (i + 1) ns n d at is own)
  where
    step : (b : Bool) → int_eq x.auth auth ≡ b → (o : Option SyncDef) → sync_of x ≡ o → option_map aim (syncer_with (sync_id (i + suc m)) (filter_map (fixed_syncer auth) (numbered (i + 1) ns))) ≡ Some (d.of, d)
        → option_map aim (syncer_with (sync_id (i + suc m)) (cons_option (fixed_syncer auth (i, x)) (filter_map (fixed_syncer auth) (numbered (i + 1) ns)))) ≡ Some (d.of, d)
    step false e o f more = rw e more
    step true e None f more = rw (e, f) more
    step true e (Some g) f more = rw (e, f) (ap (λ b. option_map aim (cond b (Some (record { path = x.path; place = 0; id = sync_id i; node = g.of; def = g })) (syncer_with (sync_id (i + suc m)) (filter_map (fixed_syncer auth) (numbered (i + 1) ns))))) (ne_eqb (sync_id i) (sync_id (i + suc m)) (λ k. omega (arith, k))) ∙ more)

-- what an id below the bit means is a row's
pub low_meant : (s : Scene) (c : ℤ) (id : ℕ) (rows : List Live) → id < fixed_bit → syncer_with id (replica_syncers s c rows) ≡ syncer_with id (flat_map (live_syncers s) rows)
low_meant s c id rows h = find_past (λ (y : Syncer). nat_eq y.id id) (fixed_syncers s c) (flat_map (live_syncers s) rows) (fixed_high c id 1 s.nodes h)

-- what the id of a fixed synchronizer of the authority means is it
pub high_meant : (s : Scene) (c : ℤ) (j : ℕ) (rows : List Live) (n : Node) (d : SyncDef) → slice_get s.nodes j ≡ Some n → sync_of n ≡ Some d → int_eq n.auth c ≡ true → option_map aim (syncer_with (sync_id (suc j)) (replica_syncers s c rows)) ≡ Some (d.of, d)
high_meant s c j rows n d at is own = step (syncer_with (sync_id (suc j)) (fixed_syncers s c)) refl
  where
    here : option_map aim (syncer_with (sync_id (suc j)) (fixed_syncers s c)) ≡ Some (d.of, d)
    here = ap (λ k. option_map aim (syncer_with (sync_id k) (fixed_syncers s c))) (let e : suc j ≡ 1 + j = omega arith in e) ∙ fixed_at c j 1 s.nodes n d at is own

    step : (o : Option Syncer) → syncer_with (sync_id (suc j)) (fixed_syncers s c) ≡ o → option_map aim (syncer_with (sync_id (suc j)) (replica_syncers s c rows)) ≡ Some (d.of, d)
    step None e = absurd (cc (sym (ap (option_map aim) e) ∙ here))
    step (Some y) e = ap (option_map aim) (find_here (λ (z : Syncer). nat_eq z.id (sync_id (suc j))) (fixed_syncers s c) (flat_map (live_syncers s) rows) y e) ∙ sym (ap (option_map aim) e) ∙ here

-- what isn't found, and what is
pub none_found : {X : Type 0} (p : X → Bool) (xs : List X) → find p xs ≡ None → list_any p xs ≡ false
none_found p [] h = refl
none_found p (x ∷ xs) h = step (p x) h (none_found p xs)
  where
    step : (b : Bool) → cond b (Some x) (find p xs) ≡ None → (find p xs ≡ None → list_any p xs ≡ false) → (b || list_any p xs) ≡ false
    step true k more = absurd (cc k)
    step false k more = more k

pub none_find : {X : Type 0} (p : X → Bool) (xs : List X) → list_any p xs ≡ false → find p xs ≡ None
none_find p [] h = refl
none_find p (x ∷ xs) h = let parts = or_parts (p x) (list_any p xs) h in ap (λ b. cond b (Some x) (find p xs)) parts.0 ∙ none_find p xs parts.1

-- the node that is found by a number has it
pub found_number : (c : ℤ) (id : ℕ) (nodes : List Live) (n : Live) → find (has_number c id) nodes ≡ Some n → has_number c id n ≡ true
found_number c id [] n h = absurd (cc h)
found_number c id (m ∷ ms) n h = step (has_number c id m) refl h (found_number c id ms n)
  where
    step : (b : Bool) → has_number c id m ≡ b → cond b (Some m) (find (has_number c id) ms) ≡ Some n → (find (has_number c id) ms ≡ Some n → has_number c id n ≡ true) → has_number c id n ≡ true
    step true e k more = let same : m ≡ n = cc in ap (has_number c id) (sym same) ∙ e
    step false e k more = more k

-- an id that stands at a place is among the ids
pub placed_has : (id : ℕ) (ids : List ℕ) (j : ℕ) → position (nat_eq id) ids ≡ Some j → has_nat id ids ≡ true
placed_has id ids j g = any (has_nat id ids) refl
  where
    any : (b : Bool) → has_nat id ids ≡ b → has_nat id ids ≡ true
    any true l = l
    any false l = absurd (true≢false (sym (get_some ids j (found_within (nat_eq id) ids j g)) ∙ ap is_some (found_at (nat_eq id) ids j g ∙ none_find (nat_eq id) ids l)))
