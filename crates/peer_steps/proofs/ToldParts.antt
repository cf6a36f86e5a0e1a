-- What is kept of told values, by the own rows that are kept: the values of rows that are shown, and the synchronizers that a peer may see.
use Rattle.std.proofs.Common.{◌≡◌, ℕ, ◌+◌, ℤ, Bool, true, false, cond, ◌&&◌, ◌||◌, List, [], ◌∷◌, ◌++◌, refl, sym, ap, ap₂, ◌∙◌, subst, map, filter, is_some, Option, Some, None}
use Rattle.std.specs.Prelude.{flat_map, zip, find, option_map, if◌then◌else◌}
use Rattle.std.specs.List.{list_all, AllByRecursion, Contains}
use Rattle.std.specs.Ordering.{int_eq}
use Rattle.std.proofs.lemmas.Bool.{and_parts, true≢false}
use Rattle.std.proofs.lemmas.List.{map-append}
use Rattle.std.proofs.lemmas.List.Elements.{filter-append}
use Rattle.gd_variant.specs.Words.{first_some, has_int, has_text, numbered, or_else, some_is, text_eq}
use Rattle.gd_variant.specs.declared.value.Variant.{Variant}
use Rattle.gd_variant.specs.declared.value.Variant.TheVariants.{Nil}
use Rattle.scene_model.specs.declared.scene.Prop.{Prop}
use Rattle.scene_model.specs.declared.scene.SyncDef.{SyncDef}
use Rattle.scene_model.specs.declared.event.SpawnOp.{SpawnOp}
use Rattle.scene_model.specs.declared.event.Op.TheVariants.{Despawn}
use Rattle.scene_model.specs.Lookup.{fixed_paths, has_prop, scene_at, value_in}
use Rattle.scene_model.specs.Nodes.{Live}
use Rattle.scene_model.specs.Syncs.{Syncer, change_props, fixed_syncers, row_syncer}
use Rattle.scene_model.specs.Valid.{IsValidScene}
use Rattle.scene_model.proofs.TextLaws.{text_eq-sym}
use Rattle.peer_model.specs.Heard.{Who, Heard, does}
use Rattle.peer_model.specs.Peers.{brought_up, is_up, peers_up, taken_down}
use Rattle.peer_model.specs.Rows.{OwnRow, own_rows, row_made, spawn_in, syncs_at}
use Rattle.peer_model.specs.Values.{argument_prop, own_value, props_in}
use Rattle.peer_model.specs.Visible.{own_syncers, row_syncers_of, sees, visible_to}
use Rattle.peer_model.specs.Updates.{all_spawn_props, assign_argument}
use Rattle.peer_model.specs.Changes.{is_frame}
use Rattle.peer_model.specs.View.{tree_of}
use Rattle.headless_tree.specs.Nodes.{value_at}
use Rattle.peer_laws.specs.Facts.{Facts}
use Rattle.peer_laws.proofs.Once.{found_is_has}
use Rattle.peer_laws.proofs.Numbers.{int_is}
use Rattle.peer_laws.proofs.Ups.{has_up}
use Rattle.peer_laws.proofs.OwnValues.{own_row_there, value_there}
use Rattle.world_laws.specs.Done.{AllDone}
use Rattle.world_laws.proofs.Properties.{assign_names}
use Rattle.sight_laws.specs.Sights.{FixedSight, fixed_sight, is_visible, row_sight, sight_of}
use Rattle.sight_laws.specs.Told.{row_first_value}
use Rattle.sight_laws.specs.Seen.{SightSet, is_still, set_in}
use Rattle.sight_laws.proofs.Events.{up_alone, down_alone, set_alone, spawn_alone, up_same}
use Rattle.sight_laws.proofs.Firsts.{assigned_there}
use Rattle.sight_laws.proofs.Settings.{visible_is_kept}
use Rattle.delta_props.specs.Telling.{ToldValues, without_peer}
use Rattle.telling_laws.specs.Telling.{IsTold, over_peers, told_all, told_shift}
use Rattle.telling_laws.specs.Collecting.{sync_ref}
use Rattle.telling_laws.proofs.Events.{AreFirst, puts_still, puts_fixed_set, puts_spawn, puts_despawn, puts_row_set, puts_up, puts_down}
use Rattle.telling_laws.proofs.Firsts.{first_row}
use Rattle.telling_laws.proofs.Nexts.{own_of, told_next}
use Rattle.telling_laws.proofs.RowIds.{row_ids}
use Rattle.telling_laws.proofs.Rows.{rows_told}
use Rattle.telling_laws.proofs.Serving.{IsFixed, all_fixed, path_id}
use Rattle.peer_steps.specs.Rows.{kept_row}
use Rattle.peer_steps.specs.Tellings.{argument_for, fixed_ref, fixed_seen, row_seen, rows_seen, rows_shown, first_told, hidden_from_all, told_shifts, told_up, shown_to_all, shown_told, shown_value, syncs_seen}
use Rattle.peer_steps.specs.Track.{Track}

-- values of a row that is shown

-- a property has a value where it is named
value_named : (props : List Prop) (p : List ℕ) → is_some (value_in props p) ≡ has_prop p props
value_named props p = mapped (find (λ (q : Prop). text_eq q.name p) props) ∙ found_is_has (λ (q : Prop). q.name) p props
  where
    mapped : (o : Option Prop) → is_some (option_map (λ (q : Prop). q.value) o) ≡ is_some o
    mapped None = refl
    mapped (Some q) = refl

some_again : (o : Option Variant) → is_some o ≡ true → Some (or_else o Nil) ≡ o
some_again None h = absurd (cc h)
some_again (Some v) h = refl

-- the argument or the scene's value
argument_value : (props : List Prop) (p : List ℕ) (name : Option (List ℕ)) (arg : Option Variant) → is_some (value_in (assign_argument name arg props) p) ≡ true
    → Some (or_else (first_some (if some_is (text_eq p) name then arg else None) (value_in props p)) Nil) ≡ value_in (assign_argument name arg props) p
argument_value props p None arg h = some_again (value_in props p) h
argument_value props p (Some name) None h = step (text_eq p name)
  where
    step : (b : Bool) → Some (or_else (first_some (if b then None else None) (value_in props p)) Nil) ≡ value_in props p
    step true = some_again (value_in props p) h
    step false = some_again (value_in props p) h
argument_value props p (Some name) (Some v) h = step (text_eq p name) refl
  where
    named : has_prop p props ≡ true
    named = sym (ap (has_text p) (assign_names name v props)) ∙ sym (value_named (assign_argument (Some name) (Some v) props) p) ∙ h

    made : value_in (assign_argument (Some name) (Some v) props) p ≡ (if text_eq p name then Some v else value_in props p)
    made = assigned_there name v p props ∙ ap₂ (λ a c. if a && c then Some v else value_in props p) (text_eq-sym name p) named ∙ both (text_eq p name)
      where
        both : (a : Bool) → (if a && true then Some v else value_in props p) ≡ (if a then Some v else value_in props p)
        both true = refl
        both false = refl

    step : (b : Bool) → text_eq p name ≡ b → Some (or_else (first_some (if text_eq p name then Some v else None) (value_in props p)) Nil) ≡ value_in (assign_argument (Some name) (Some v) props) p
    step true e = ap (λ b. Some (or_else (first_some (if b then Some v else None) (value_in props p)) Nil)) e ∙ sym (made ∙ ap (λ b. if b then Some v else value_in props p) e)
    step false e =
        ap (λ b. Some (or_else (first_some (if b then Some v else None) (value_in props p)) Nil)) e
        ∙ some_again (value_in props p) (value_named props p ∙ named)
        ∙ sym (made ∙ ap (λ b. if b then Some v else value_in props p) e)

module _ (who : Who) (es : List Heard) (facts : Facts who es) (r : OwnRow) (has : Contains (own_rows who es) r) where
  abbrev props : List Prop
  props = props_in (scene_at who.scene r.place)

  value_is : (p : List ℕ) → is_some (row_first_value who es r p) ≡ true → Some (shown_value who.scene (tree_of who es) (kept_row who r) p) ≡ row_first_value who es r p
  value_is p h = step (has_text p (all_spawn_props (syncs_at who.scene (Some r.place)))) (has_prop p props) refl h
    where
      -- a property that the scene doesn't have has no value
      none : has_prop p (props_in (scene_at who.scene r.place)) ≡ false → is_some (value_in (assign_argument (argument_prop who r.made_by) r.made_by.arg (props_in (scene_at who.scene r.place))) p) ≡ false
      none e = value_named (assign_argument (argument_prop who r.made_by) r.made_by.arg (props_in (scene_at who.scene r.place))) p ∙ names (argument_prop who r.made_by) r.made_by.arg ∙ e
        where
          names : (name : Option (List ℕ)) (arg : Option Variant) → has_prop p (assign_argument name arg (props_in (scene_at who.scene r.place))) ≡ has_prop p (props_in (scene_at who.scene r.place))
          names (Some name) (Some v) = ap (has_text p) (assign_names name v (props_in (scene_at who.scene r.place)))
          names (Some name) None = refl
          names None arg = refl

      step : (a b : Bool) → has_prop p (props_in (scene_at who.scene r.place)) ≡ b → is_some (if a && b then Some (own_value who es r.path p) else value_in (assign_argument (argument_prop who r.made_by) r.made_by.arg (props_in (scene_at who.scene r.place))) p) ≡ true
          → Some (if a then or_else (value_at (tree_of who es) r.path p) Nil else or_else (first_some (argument_for who.scene (kept_row who r) p) (value_in (props_in (scene_at who.scene r.place)) p)) Nil)
          ≡ (if a && b then Some (own_value who es r.path p) else value_in (assign_argument (argument_prop who r.made_by) r.made_by.arg (props_in (scene_at who.scene r.place))) p)
      step true true e k = ap (λ o. Some (or_else o Nil)) (value_there who es (tree_of who es) r (own_row_there who es facts r has) p e)
      step true false e k = absurd (true≢false (sym k ∙ none e))
      step false b e k = argument_value (props_in (scene_at who.scene r.place)) p (argument_prop who r.made_by) r.made_by.arg k

  values_are : (ps : List (List ℕ)) → list_all (λ p. is_some (row_first_value who es r p)) ps ≡ true → map Some (map (shown_value who.scene (tree_of who es) (kept_row who r)) ps) ≡ map (row_first_value who es r) ps
  values_are [] h = refl
  values_are (p ∷ ps) h = let parts = and_parts (is_some (row_first_value who es r p)) (list_all (λ q. is_some (row_first_value who es r q)) ps) h in ap₂ (λ v vs. v ∷ vs) (value_is p parts.0) (values_are ps parts.1)

-- the values of rows that are shown, by what is kept of them
pub shown_first : (who : Who) (es : List Heard) (e : Heard) (v : IsValidScene who.scene) (all : AllDone who (e ∷ es)) → is_frame e ≡ false → Facts who (e ∷ es) → AreFirst who es e v all (λ r. shown_told who.scene (tree_of who (e ∷ es)) (kept_row who r))
shown_first who es e v all plain facts b r y up seen mine new = values_are who (e ∷ es) facts r (own_of who (e ∷ es) b r seen) (change_props y.def) (first_row who es e b r y v all plain up seen mine new)

-- rows that are shown to a new peer
rows_are : (who : Who) (nodes : List Live) (b : ℤ) (rs : List OwnRow) (t : ToldValues) → rows_shown who.scene nodes b (map (kept_row who) rs) t ≡ rows_told who b (λ r. shown_told who.scene nodes (kept_row who r)) rs t
rows_are who nodes b [] t = refl
rows_are who nodes b (r ∷ rs) t = rows_are who nodes b rs (told_all b (shown_told who.scene nodes (kept_row who r)) (row_syncers_of who r) t)

-- synchronizers that a peer may see

module _ (who : Who) (es : List Heard) (valid : IsValidScene who.scene) (b : ℤ) where
  abbrev sees_it : Syncer → Bool
  sees_it = visible_to who es b

  fixed_refs : (ys : List Syncer) → AllByRecursion (IsFixed who.scene) ys → fixed_seen b who.scene (map (fixed_sight who es) ys) ≡ map sync_ref (filter sees_it ys)
  fixed_refs [] h = refl
  fixed_refs (y ∷ ys) h = step (is_visible (sight_of who es y) b) refl (fixed_refs ys h.1)
    where
      step : (c : Bool) → is_visible (sight_of who es y) b ≡ c → fixed_seen b who.scene (map (fixed_sight who es) ys) ≡ map sync_ref (filter sees_it ys)
          → map (fixed_ref who.scene) (cond c (fixed_sight who es y ∷ filter (λ (x : FixedSight). is_visible x.sight b) (map (fixed_sight who es) ys)) (filter (λ (x : FixedSight). is_visible x.sight b) (map (fixed_sight who es) ys))) ≡ map sync_ref (cond (sees_it y) (y ∷ filter sees_it ys) (filter sees_it ys))
      step true e more =
          ap₂ (λ k i. record { path = y.path; k = k; id = i } ∷ map (fixed_ref who.scene) (filter (λ (x : FixedSight). is_visible x.sight b) (map (fixed_sight who es) ys))) (sym h.0.first) (path_id who.scene valid y h.0)
          ∙ ap (λ rs. sync_ref y ∷ rs) more ∙ sym (ap (λ c. map sync_ref (cond c (y ∷ filter sees_it ys) (filter sees_it ys))) (visible_is_kept who es b y ∙ e))
      step false e more = more ∙ sym (ap (λ c. map sync_ref (cond c (y ∷ filter sees_it ys) (filter sees_it ys))) (visible_is_kept who es b y ∙ e))

  row_refs : (path : List ℕ) (k : ℕ) (ids : List ℕ) (ds : List SyncDef) → row_seen b path k ids (map (sight_of who es) (map (row_syncer path) (numbered k (zip ids ds)))) ≡ map sync_ref (filter sees_it (map (row_syncer path) (numbered k (zip ids ds))))
  row_refs path k [] [] = refl
  row_refs path k [] (d ∷ ds) = refl
  row_refs path k (i ∷ ids) [] = refl
  row_refs path k (i ∷ ids) (d ∷ ds) = step (is_visible (sight_of who es (row_syncer path (k, (i, d)))) b) refl (row_refs path (k + 1) ids ds)
    where
      y : Syncer
      y = row_syncer path (k, (i, d))

      ys : List Syncer
      ys = map (row_syncer path) (numbered (k + 1) (zip ids ds))

      step : (c : Bool) → is_visible (sight_of who es y) b ≡ c → row_seen b path (k + 1) ids (map (sight_of who es) ys) ≡ map sync_ref (filter sees_it ys)
          → (if c then sync_ref y ∷ row_seen b path (k + 1) ids (map (sight_of who es) ys) else row_seen b path (k + 1) ids (map (sight_of who es) ys)) ≡ map sync_ref (cond (sees_it y) (y ∷ filter sees_it ys) (filter sees_it ys))
      step true e more = ap (λ rs. sync_ref y ∷ rs) more ∙ sym (ap (λ c. map sync_ref (cond c (y ∷ filter sees_it ys) (filter sees_it ys))) (visible_is_kept who es b y ∙ e))
      step false e more = more ∙ sym (ap (λ c. map sync_ref (cond c (y ∷ filter sees_it ys) (filter sees_it ys))) (visible_is_kept who es b y ∙ e))

  rows_refs : (rs : List OwnRow) → rows_seen b (map (kept_row who) rs) (map (row_sight who es) rs) ≡ map sync_ref (filter sees_it (flat_map (row_syncers_of who) rs))
  rows_refs [] = refl
  rows_refs (r ∷ rs) =
      ap₂ (λ xs ys. xs ++ ys) (row_refs r.path 0 r.ids (syncs_at who.scene (Some r.place))) (rows_refs rs)
      ∙ sym (map-append sync_ref (filter sees_it (row_syncers_of who r)) (filter sees_it (flat_map (row_syncers_of who) rs)))
      ∙ ap (map sync_ref) (sym (filter-append sees_it (row_syncers_of who r) (flat_map (row_syncers_of who) rs)))

  pub refs_are : (t : Track) → t.rows ≡ map (kept_row who) (own_rows who es) → t.sights.rows ≡ map (row_sight who es) (own_rows who es) → t.sights.fixed ≡ map (fixed_sight who es) (fixed_syncers who.scene who.id)
      → syncs_seen b who.scene t ≡ map sync_ref (filter sees_it (own_syncers who es))
  refs_are t rows seen fixed =
      ap₂ (λ xs ys. xs ++ ys) (ap (fixed_seen b who.scene) fixed ∙ fixed_refs (fixed_syncers who.scene who.id) (all_fixed who.scene who.id)) (ap₂ (rows_seen b) rows seen ∙ rows_refs (own_rows who es))
      ∙ sym (map-append sync_ref (filter sees_it (fixed_syncers who.scene who.id)) (filter sees_it (flat_map (row_syncers_of who) (own_rows who es))))
      ∙ ap (map sync_ref) (sym (filter-append sees_it (fixed_syncers who.scene who.id) (flat_map (row_syncers_of who) (own_rows who es))))

-- told values after events

-- an event that spawns, despawns, sets and tells nothing, and leaves the peers
pub still_told : (who : Who) (es : List Heard) (e : Heard) (t : ToldValues) → IsValidScene who.scene → AllDone who (e ∷ es) → is_frame e ≡ false → is_still e ≡ true → brought_up e ≡ None → taken_down e ≡ None → IsTold who es t → IsTold who (e ∷ es) t
still_told who es e t v all plain still up down told = told_next who es e t t v all plain told (puts_still who es e v all up down t told.once still)

-- a peer comes up
pub up_told : (who : Who) (es : List Heard) (e : Heard) (c : ℤ) (t : ToldValues) → IsValidScene who.scene → (all : AllDone who (e ∷ es)) → Facts who (e ∷ es) → brought_up e ≡ Some c → IsTold who es t
    → IsTold who (e ∷ es) (told_up who (tree_of who (e ∷ es)) c (map (kept_row who) (filter (sees who es c) (own_rows who es))) t)
up_told who es e c t v all facts is told =
    let plain = (up_alone e c is).2 in
    let f : OwnRow → Syncer → List Variant = λ r. shown_told who.scene (tree_of who (e ∷ es)) (kept_row who r) in
    let start = told_all c (first_told who) (fixed_syncers who.scene who.id) t in
    subst (IsTold who (e ∷ es)) (sym (rows_are who (tree_of who (e ∷ es)) c (filter (sees who es c) (own_rows who es)) start))
    (told_next who es e t (rows_told who c f (filter (sees who es c) (own_rows who es)) start) v all plain told (puts_up who es e v all f (shown_first who es e v all plain facts) t told.once c is))

-- and goes down
pub down_told : (who : Who) (es : List Heard) (e : Heard) (c : ℤ) (t : ToldValues) → IsValidScene who.scene → AllDone who (e ∷ es) → taken_down e ≡ Some c → IsTold who es t → IsTold who (e ∷ es) (without_peer c t)
down_told who es e c t v all is told = told_next who es e t (without_peer c t) v all (down_alone e c is).2 told (puts_down who es e v all t told.once c is)

-- a peer among those that pass a test
has_filtered : (p : ℤ → Bool) (b : ℤ) (bs : List ℤ) → has_int b (filter p bs) ≡ (p b && has_int b bs)
has_filtered p b [] = sym (and_false (p b))
  where
    and_false : (x : Bool) → (x && false) ≡ false
    and_false true = refl
    and_false false = refl
has_filtered p b (c ∷ bs) = step (int_eq b c) refl (p c) refl (has_filtered p b bs)
  where
    -- where it isn't this one
    other : (t : Bool) → int_eq b c ≡ false → has_int b (cond t (c ∷ filter p bs) (filter p bs)) ≡ has_int b (filter p bs)
    other true e = ap (λ x. x || has_int b (filter p bs)) e
    other false e = refl

    step : (s : Bool) → int_eq b c ≡ s → (t : Bool) → p c ≡ t → has_int b (filter p bs) ≡ (p b && has_int b bs) → has_int b (cond (p c) (c ∷ filter p bs) (filter p bs)) ≡ (p b && (int_eq b c || has_int b bs))
    step true e true f more = ap₂ (λ x y. has_int b (cond x (c ∷ filter p bs) (filter p bs))) f e ∙ ap (λ x. x || has_int b (filter p bs)) e ∙ sym (ap₂ (λ x y. x && (y || has_int b bs)) (ap p (int_is b c e) ∙ f) e)
    step true e false f more = ap (λ x. has_int b (cond x (c ∷ filter p bs) (filter p bs))) f ∙ more ∙ ap (λ x. x && has_int b bs) (ap p (int_is b c e) ∙ f) ∙ sym (ap (λ x. x && (int_eq b c || has_int b bs)) (ap p (int_is b c e) ∙ f))
    step false e t f more = other (p c) e ∙ more ∙ sym (ap (λ x. p b && (x || has_int b bs)) e)

-- a row with who sees it
shown_has : (who : Who) (es : List Heard) (b : ℤ) (r : OwnRow) → is_up es b ≡ true → has_int b (row_sight who es r).shown ≡ sees who es b r
shown_has who es b r up = has_filtered (λ c. sees who es c r) b (peers_up es) ∙ ap (λ x. sees who es b r && x) (has_up es b ∙ up) ∙ and_true (sees who es b r)
  where
    and_true : (x : Bool) → (x && true) ≡ x
    and_true true = refl
    and_true false = refl

-- a spawn, by the peers to which its row is shown
pub spawn_told_is : (who : Who) (es : List Heard) (e : Heard) (o : SpawnOp) (t : ToldValues) → IsValidScene who.scene → AllDone who (e ∷ es) → Facts who (e ∷ es) → spawn_in e ≡ Some o → IsTold who es t
    → IsTold who (e ∷ es) (shown_to_all who.scene (tree_of who (e ∷ es)) (kept_row who (row_made who es o)) (row_sight who (e ∷ es) (row_made who es o)).shown t)
spawn_told_is who es e o t v all facts is told =
    let alone = spawn_alone e o is in
    told_next who es e t (shown_to_all who.scene (tree_of who (e ∷ es)) (kept_row who (row_made who es o)) (row_sight who (e ∷ es) (row_made who es o)).shown t) v all alone.4 told
    (puts_spawn who es e v all alone.2 alone.3 (λ r. shown_told who.scene (tree_of who (e ∷ es)) (kept_row who r)) (shown_first who es e v all alone.4 facts) t told.once o is (row_sight who (e ∷ es) (row_made who es o)).shown
    (λ b up k. shown_has who (e ∷ es) b (row_made who es o) up ∙ k))

-- a despawn, by the peers to which its row was shown
pub despawn_told_is : (who : Who) (es : List Heard) (path : List ℕ) (r : OwnRow) (bs : List ℤ) (t : ToldValues) → IsValidScene who.scene → AllDone who (does (Despawn path) ∷ es) → Contains (own_rows who es) r → r.path ≡ path → IsTold who es t
    → IsTold who (does (Despawn path) ∷ es) (hidden_from_all r.ids bs t)
despawn_told_is who es path r bs t v all has at told =
    subst (λ ids. IsTold who (does (Despawn path) ∷ es) (hidden_from_all ids bs t)) (row_ids who es v all.1 r has)
    (told_next who es (does (Despawn path)) t (hidden_from_all (map (λ (z : Syncer). z.id) (row_syncers_of who r)) bs t) v all refl told (puts_despawn who es (does (Despawn path)) v all refl refl t told.once path r bs refl has at))

-- a setting of an own row
pub set_told_is : (who : Who) (es : List Heard) (e : Heard) (s : SightSet) (r : OwnRow) (t : ToldValues) → IsValidScene who.scene → AllDone who (e ∷ es) → Facts who (e ∷ es) → set_in e ≡ Some s → Contains (own_rows who es) r → r.path ≡ s.path → IsTold who es t
    → IsTold who (e ∷ es) (told_shifts who.scene (tree_of who (e ∷ es)) (kept_row who r) (row_sight who es r).shown (row_sight who (e ∷ es) r).shown (peers_up es) t)
set_told_is who es e s r t v all facts is has at told =
    let alone = set_alone e s is in
    let f : OwnRow → Syncer → List Variant = λ q. shown_told who.scene (tree_of who (e ∷ es)) (kept_row who q) in
    subst (λ ids. IsTold who (e ∷ es) (over_peers (λ b. told_shift b (f r) (row_syncers_of who r) ids (has_int b (row_sight who es r).shown) (has_int b (row_sight who (e ∷ es) r).shown)) (peers_up es) t)) (row_ids who es v all.1 r has)
    (told_next who es e t (over_peers (λ b. told_shift b (f r) (row_syncers_of who r) (map (λ (z : Syncer). z.id) (row_syncers_of who r)) (has_int b (row_sight who es r).shown) (has_int b (row_sight who (e ∷ es) r).shown)) (peers_up es) t) v all alone.4 told
    (puts_row_set who es e v all alone.2 alone.3 f (shown_first who es e v all alone.4 facts) t told.once s is r has at (peers_up es) (λ b up. has_up es b ∙ sym (up_same e es alone.2 alone.3 b) ∙ up)
    (λ b. has_int b (row_sight who es r).shown) (λ b. has_int b (row_sight who (e ∷ es) r).shown) (λ b up. shown_has who es b r up) (λ b up. shown_has who (e ∷ es) b r up)))

-- a setting of a fixed synchronizer
pub fixed_told_is : (who : Who) (es : List Heard) (e : Heard) (s : SightSet) (t : ToldValues) → IsValidScene who.scene → AllDone who (e ∷ es) → set_in e ≡ Some s → has_text s.path (fixed_paths who.scene) ≡ true → IsTold who es t → IsTold who (e ∷ es) t
fixed_told_is who es e s t v all is fixed told =
    let alone = set_alone e s is in
    told_next who es e t t v all alone.4 told (puts_fixed_set who es e v all alone.2 alone.3 t told.once s is fixed)
