-- What a frame collects: the Tells of the definitions, in order, and what counts as told then.
use Rattle.std.proofs.Common.{◌≡◌, ℕ, ◌+◌, ◌≤◌, ℤ, Bool, true, false, cond, List, [], ◌∷◌, ◌++◌, refl, sym, ap, ap₂, ◌∙◌, subst, map, filter, nat_eq, nat_lt, nat_le, arith, Option, Some, None}
use Rattle.std.specs.Prelude.{flat_map, option_map, if◌then◌else◌}
use Rattle.std.specs.List.{list_all, cons_option, AllByRecursion}
use Rattle.std.specs.Ordering.{int_eq}
use Rattle.std.proofs.lemmas.Bool.{and_parts, or_parts, ne_eqb, eq-eqb, leb-true, ltb-true, true≢false}
use Rattle.gd_variant.specs.Words.{has_nat}
use Rattle.gd_variant.specs.declared.value.Variant.{Variant}
use Rattle.gd_variant.specs.declared.message.DeltaEntry.{DeltaEntry}
use Rattle.scene_model.specs.declared.scene.SyncDef.{SyncDef}
use Rattle.scene_model.specs.declared.spawn.SyncRef.{SyncRef}
use Rattle.scene_model.specs.Nodes.{Live}
use Rattle.scene_model.specs.Syncs.{Syncer, change_props, fixed_bit, fixed_syncers}
use Rattle.peer_model.specs.Heard.{Who, Heard}
use Rattle.peer_model.specs.Rows.{own_rows}
use Rattle.peer_model.specs.Values.{own_value}
use Rattle.peer_model.specs.Visible.{own_syncers}
use Rattle.peer_model.specs.Updates.{Tell, masked}
use Rattle.peer_model.specs.Changes.{mask_of}
use Rattle.peer_laws.proofs.Each.{every_joined, every_kept}
use Rattle.world_laws.specs.Done.{AllDone}
use Rattle.world_laws.specs.Marks.{rises, own_marks, mark_syncers}
use Rattle.world_laws.proofs.Found.{syncer_ids, fixed_ids_rise, rows_ids_rise, rows_ids_low}
use Rattle.world_laws.proofs.Law.{flat_own}
use Rattle.world_laws.proofs.Rising.{none_below}
use Rattle.sight_laws.specs.Told.{told_values, tell_by}
use Rattle.sight_laws.proofs.Lists.{every_both}
use Rattle.delta_props.specs.Telling.{ToldValues, is_key, told_of, with_told, untold, value_of, told_by, told_sync, sync_named, collected}
use Rattle.telling_laws.specs.Telling.{HasOnce, Tells}
use Rattle.telling_laws.specs.Collecting.{sync_ref}
use Rattle.telling_laws.proofs.Keys.{told_other, told_once}
use Rattle.telling_laws.proofs.Several.{other_peer, other_sync}
use Rattle.telling_laws.proofs.Ids.{own_marks_rise, own_marks_low}
use Rattle.telling_laws.proofs.Telling.{tells_in, mask_now, same_untold, same_told, tells_one, counts_one}

-- ids that differ

-- none of some synchronizers has an id
abbrev pub HasNoId : ℕ → List Syncer → Type 0
HasNoId id ys = AllByRecursion (λ (z : Syncer). nat_eq id z.id ≡ false) ys

-- no two of some synchronizers have one id
abbrev pub Differ : List Syncer → Type 0
Differ [] = Unit {0}
Differ (y ∷ ys) = HasNoId y.id ys × Differ ys

lacks_id : (id : ℕ) (ys : List Syncer) → has_nat id (syncer_ids ys) ≡ false → HasNoId id ys
lacks_id id [] h = tt
lacks_id id (y ∷ ys) h = let parts = or_parts (nat_eq id y.id) (has_nat id (syncer_ids ys)) h in (parts.0, lacks_id id ys parts.1)

rising_differ : (n : ℕ) (ys : List Syncer) → rises n (syncer_ids ys) ≡ true → Differ ys
rising_differ n [] h = tt
rising_differ n (y ∷ ys) h =
    let parts = and_parts (nat_le n y.id) (rises (y.id + 1) (syncer_ids ys)) h in
    (lacks_id y.id ys (none_below (y.id + 1) y.id (omega arith) (syncer_ids ys) parts.1), rising_differ (y.id + 1) ys parts.1)

low_lacks : (id n : ℕ) (ys : List Syncer) → n ≤ id → list_all (λ i. nat_lt i n) (syncer_ids ys) ≡ true → HasNoId id ys
low_lacks id n [] h l = tt
low_lacks id n (y ∷ ys) h l =
    let parts = and_parts (nat_lt y.id n) (list_all (λ i. nat_lt i n) (syncer_ids ys)) l in
    (ne_eqb id y.id (λ e. omega (arith, h, e, ltb-true y.id n parts.0)), low_lacks id n ys h parts.1)

joined_differ : (n m : ℕ) (xs ys : List Syncer) → n ≤ m → rises m (syncer_ids xs) ≡ true → list_all (λ i. nat_lt i n) (syncer_ids ys) ≡ true → Differ ys → Differ (xs ++ ys)
joined_differ n m [] ys h r l d = d
joined_differ n m (x ∷ xs) ys h r l d =
    let parts = and_parts (nat_le m x.id) (rises (x.id + 1) (syncer_ids xs)) r in
    let low = leb-true m x.id parts.0 in (
      every_joined (λ (z : Syncer). nat_eq x.id z.id ≡ false) xs ys (lacks_id x.id xs (none_below (x.id + 1) x.id (omega arith) (syncer_ids xs) parts.1)) (low_lacks x.id n ys (omega (arith, h, low)) l),
      joined_differ n (x.id + 1) xs ys (omega (arith, h, low)) parts.1 l d,
    )

pub kept_differ : (p : Syncer → Bool) (ys : List Syncer) → Differ ys → Differ (filter p ys)
kept_differ p [] h = tt
kept_differ p (y ∷ ys) h = step (p y) (kept_differ p ys h.1)
  where
    step : (b : Bool) → Differ (filter p ys) → Differ (cond b (y ∷ filter p ys) (filter p ys))
    step true more = (every_kept (λ (z : Syncer). nat_eq y.id z.id ≡ false) p ys h.0, more)
    step false more = more

-- own synchronizers have ids of their own
pub own_differ : (who : Who) (es : List Heard) → AllDone who es → Differ (own_syncers who es)
own_differ who es all =
    let rows = flat_map (mark_syncers who.scene) (own_marks (own_rows who es)) in
    subst (λ ys. Differ (fixed_syncers who.scene who.id ++ ys)) (sym (flat_own who (own_rows who es)))
    (joined_differ fixed_bit (fixed_bit + 1) (fixed_syncers who.scene who.id) rows (omega arith) (fixed_ids_rise who.id 1 who.scene.nodes)
    (rows_ids_low who.scene fixed_bit (own_marks (own_rows who es)) (own_marks_low who es all)) (rising_differ 1 rows (rows_ids_rise who.scene 1 (own_marks (own_rows who es)) (own_marks_rise who es))))

-- one synchronizer

-- among these nodes a synchronizer serves one with the present values
pub record Serves (who : Who) (es : List Heard) (nodes : List Live) (y : Syncer) : Type 0 where
  pub node : Live
  pub there : sync_named who.scene nodes y.path y.place ≡ Some (node, y.def)
  pub values : AllByRecursion (λ p. value_of node p ≡ own_value who es y.node p) (change_props y.def)

by_other : (b c : ℤ) (id i : ℕ) (now : List ℕ → Variant) (ps : List (List ℕ)) (m : ℕ) (t : ToldValues) → is_key c i (b, id) ≡ false → told_of c i (told_by b id now ps m t).1 ≡ told_of c i t
by_other b c id i now ps m t h = step (nat_eq m 0)
  where
    result : Bool → Option DeltaEntry × ToldValues
    result e = if e then (None, t) else (Some (record { id = id; mask = m; values = map now (masked m ps) }), with_told b id (map now ps) t)

    step : (e : Bool) → told_of c i (result e).1 ≡ told_of c i t
    step true = refl
    step false = told_other c b i id (map now ps) t h

by_once : (b : ℤ) (id : ℕ) (now : List ℕ → Variant) (ps : List (List ℕ)) (m : ℕ) (t : ToldValues) → HasOnce t → HasOnce (told_by b id now ps m t).1
by_once b id now ps m t h = step (nat_eq m 0)
  where
    result : Bool → Option DeltaEntry × ToldValues
    result e = if e then (None, t) else (Some (record { id = id; mask = m; values = map now (masked m ps) }), with_told b id (map now ps) t)

    step : (e : Bool) → HasOnce (result e).1
    step true = h
    step false = told_once b id (map now ps) t h

sync_other : (b c : ℤ) (id i : ℕ) (o : Option (Live × SyncDef)) (t : ToldValues) → is_key c i (b, id) ≡ false → told_of c i (told_sync b id o t).1 ≡ told_of c i t
sync_other b c id i None t h = refl
sync_other b c id i (Some x) t h = by_other b c id i (value_of x.0) (change_props x.1) (mask_of (untold (value_of x.0) (told_of b id t) 0 (change_props x.1))) t h

sync_once : (b : ℤ) (id : ℕ) (o : Option (Live × SyncDef)) (t : ToldValues) → HasOnce t → HasOnce (told_sync b id o t).1
sync_once b id None t h = h
sync_once b id (Some x) t h = by_once b id (value_of x.0) (change_props x.1) (mask_of (untold (value_of x.0) (told_of b id t) 0 (change_props x.1))) t h

more_tells : (e : Option DeltaEntry) (es : List DeltaEntry) → map Tell (cons_option e es) ≡ tells_in e ++ map Tell es
more_tells None es = refl
more_tells (Some e) es = refl

module _ (who : Who) (es : List Heard) (nodes : List Live) (b : ℤ) where
  -- what the peer is told of a synchronizer
  abbrev one : Syncer → ToldValues → Option DeltaEntry × ToldValues
  one y t = told_sync b y.id (sync_named who.scene nodes y.path y.place) t

  one_is : (y : Syncer) (t : ToldValues) (serves : Serves who es nodes y) (tells : Tells who es t b y) → one y t ≡ told_by b y.id (own_value who es y.node) (change_props y.def) (mask_now who es b y t tells) t
  one_is y t serves tells =
      ap (λ o. told_sync b y.id o t) serves.there
      ∙ ap (λ bs. told_by b y.id (value_of serves.node) (change_props y.def) (mask_of bs) t) (same_untold (value_of serves.node) (own_value who es y.node) (told_of b y.id t) 0 (change_props y.def) serves.values)
      ∙ same_told b y.id (value_of serves.node) (own_value who es y.node) (change_props y.def) (mask_now who es b y t tells) t serves.values

  -- what was told of others
  still_tells : (y : Syncer) (t : ToldValues) (ys : List Syncer) → HasNoId y.id ys → AllByRecursion (Tells who es t b) ys → AllByRecursion (Tells who es (one y t).1 b) ys
  still_tells y t ys apart tells = every_both (λ (z : Syncer). nat_eq y.id z.id ≡ false) (Tells who es t b) (Tells who es (one y t).1 b)
      (λ z k h. ap (option_map (map Some)) (sync_other b b y.id z.id (sync_named who.scene nodes y.path y.place) t (other_sync b b z.id y.id (num_comm z.id y.id k))) ∙ h) ys apart tells
    where
      num_comm : (i j : ℕ) → nat_eq j i ≡ false → nat_eq i j ≡ false
      num_comm i j k = ne_eqb i j (λ e. true≢false (sym (eq-eqb j i (sym e)) ∙ k))

  -- the Tells are those of the definitions
  pub tells_are : (ys : List Syncer) (t : ToldValues) → Differ ys → AllByRecursion (Serves who es nodes) ys → AllByRecursion (Tells who es t b) ys
      → map Tell (collected b who.scene nodes (map sync_ref ys) t).0 ≡ flat_map (λ y. tell_by who es y (told_values who es b y)) ys
  tells_are [] t d s h = refl
  tells_are (y ∷ ys) t d s h =
      more_tells (one y t).0 (collected b who.scene nodes (map sync_ref ys) (one y t).1).0
      ∙ ap₂ (λ us vs. us ++ vs) (ap (λ (r : Option DeltaEntry × ToldValues). tells_in r.0) (one_is y t s.0 h.0) ∙ tells_one who es b y t h.0)
      (tells_are ys (one y t).1 d.1 s.1 (still_tells y t ys d.0 h.1))

  pub collected_once : (xs : List SyncRef) (t : ToldValues) → HasOnce t → HasOnce (collected b who.scene nodes xs t).1
  collected_once [] t h = h
  collected_once (x ∷ xs) t h = collected_once xs (told_sync b x.id (sync_named who.scene nodes x.path x.k) t).1 (sync_once b x.id (sync_named who.scene nodes x.path x.k) t h)

  -- what other peers were told stays, and what this one was told of other synchronizers
  pub collected_peer : (c : ℤ) (i : ℕ) (xs : List SyncRef) (t : ToldValues) → int_eq c b ≡ false → told_of c i (collected b who.scene nodes xs t).1 ≡ told_of c i t
  collected_peer c i [] t h = refl
  collected_peer c i (x ∷ xs) t h =
      collected_peer c i xs (told_sync b x.id (sync_named who.scene nodes x.path x.k) t).1 h
      ∙ sync_other b c x.id i (sync_named who.scene nodes x.path x.k) t (other_peer c b i x.id h)

  pub collected_other : (i : ℕ) (ys : List Syncer) (t : ToldValues) → HasNoId i ys → told_of b i (collected b who.scene nodes (map sync_ref ys) t).1 ≡ told_of b i t
  collected_other i [] t h = refl
  collected_other i (y ∷ ys) t h =
      collected_other i ys (one y t).1 h.1
      ∙ sync_other b b y.id i (sync_named who.scene nodes y.path y.place) t (other_sync b b i y.id h.0)

  -- the present values count as told
  pub counts : (ys : List Syncer) (t : ToldValues) → Differ ys → AllByRecursion (Serves who es nodes) ys → AllByRecursion (Tells who es t b) ys
      → AllByRecursion (λ (y : Syncer). told_of b y.id (collected b who.scene nodes (map sync_ref ys) t).1 ≡ Some (map (own_value who es y.node) (change_props y.def))) ys
  counts [] t d s h = tt
  counts (y ∷ ys) t d s h = (
    collected_other y.id ys (one y t).1 d.0 ∙ ap (λ (r : Option DeltaEntry × ToldValues). told_of b y.id r.1) (one_is y t s.0 h.0) ∙ counts_one who es b y t h.0,
    counts ys (one y t).1 d.1 s.1 (still_tells y t ys d.0 h.1),
  )
