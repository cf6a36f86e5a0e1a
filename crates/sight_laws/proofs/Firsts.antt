-- The values that a peer has of a synchronizer at first, and that events leave them, synchronizer by synchronizer.
use Rattle.std.proofs.Common.{◌≡◌, ℕ, ◌+◌, ℤ, Bool, true, false, cond, not, ◌&&◌, ◌||◌, List, [], ◌∷◌, refl, sym, ap, ap₂, ◌∙◌, subst, map, filter, Option, Some, None}
use Rattle.std.specs.Prelude.{zip, find, filter_map, is_none, option_map, option_and_then, if◌then◌else◌}
use Rattle.std.specs.List.{list_all, cons_option, AllByRecursion, Contains}
use Rattle.std.specs.Ordering.{int_eq}
use Rattle.std.proofs.lemmas.Bool.{and_parts, and_from, or_parts, true≢false}
use Rattle.std.proofs.lemmas.List.Elements.{recursion_from_All, All-contains_itself}
use Rattle.gd_variant.specs.Words.{text_eq, has_text, some_is, numbered}
use Rattle.gd_variant.specs.declared.value.Variant.{Variant}
use Rattle.scene_model.specs.declared.scene.Scene.{Scene}
use Rattle.scene_model.specs.declared.scene.Node.{Node}
use Rattle.scene_model.specs.declared.scene.SyncDef.{SyncDef}
use Rattle.scene_model.specs.declared.scene.CustomDef.{CustomDef}
use Rattle.scene_model.specs.declared.scene.SpawnerDef.{SpawnerDef}
use Rattle.scene_model.specs.declared.scene.Prop.{Prop}
use Rattle.scene_model.specs.declared.event.SpawnOp.{SpawnOp}
use Rattle.scene_model.specs.Lookup.{value_in, has_prop, prop_names, fixed_node, sync_of, scene_at, spawner_at}
use Rattle.scene_model.specs.Syncs.{Syncer, change_props, fixed_syncer, fixed_syncers}
use Rattle.scene_model.specs.Valid.{IsValidScene, node_why, no_target, auth_wrong}
use Rattle.scene_model.proofs.TextLaws.{text_eq-true, text_eq-sym}
use Rattle.headless_tree.proofs.Numbered.{unnot}
use Rattle.peer_model.specs.Heard.{Who, Heard}
use Rattle.peer_model.specs.Rows.{OwnRow, own_rows, spawn_in, syncs_at}
use Rattle.peer_model.specs.Values.{own_value, argument_prop, props_in}
use Rattle.peer_model.specs.Visible.{row_syncers_of, visible_rows}
use Rattle.peer_model.specs.Updates.{shown_node, shown_place, spawner_with, assign, assign_all, assign_argument, all_spawn_props}
use Rattle.peer_model.specs.Changes.{show_of, value_told}
use Rattle.peer_laws.proofs.Tests.{not_false, some_of, some_from, some_from}
use Rattle.peer_laws.proofs.Numbers.{int_is}
use Rattle.peer_laws.proofs.Each.{every_joined, every_kept}
use Rattle.peer_laws.proofs.Scenes.{nodes_right, right_node, all_right}
use Rattle.peer_laws.proofs.ScenesByNumber.{spawner_of_id}
use Rattle.world_laws.specs.Done.{AllDone}
use Rattle.world_laws.specs.Marks.{Mark, new_rows}
use Rattle.world_laws.proofs.Own.{leaves, own_later, own_shown, IsShown, allowed, spawn_in_is}
use Rattle.sight_laws.specs.Told.{told_to, row_first_value}
use Rattle.sight_laws.specs.Laws.{SyncFixedAtFirst, SyncFixedStays, SyncRowStays, SyncRowShown}
use Rattle.sight_laws.proofs.Lists.{of_member, every_true, map_same}
use Rattle.sight_laws.proofs.ToldRows.{every_visible, told_fixed_at_first, told_fixed_stays, told_row_stays, told_row_shown}
use Rattle.world_laws.proofs.Properties.{assign_names}
use Rattle.world_laws.proofs.Sparing.{block_nodes}

-- fixed synchronizers serve fixed nodes of their authority

-- a fixed node of an authority stands at a path
pub record IsOwned (s : Scene) (auth : ℤ) (path : List ℕ) : Type 0 where
  pub node : Node
  pub there : fixed_node s path ≡ Some node
  pub own : int_eq node.auth auth ≡ true

abbrev pub serves_right : Scene → Node → Bool
serves_right s n = not (no_target s n) && not (auth_wrong s n)

pub served : (s : Scene) (auth : ℤ) (n : Node) (d : SyncDef) → sync_of n ≡ Some d → int_eq n.auth auth ≡ true → serves_right s n ≡ true → IsOwned s auth d.of
served s auth n d is own right = step (fixed_node s d.of) refl
  where
    parts : (not (no_target s n) ≡ true) × (not (auth_wrong s n) ≡ true)
    parts = and_parts (not (no_target s n)) (not (auth_wrong s n)) right

    target : is_none (fixed_node s d.of) ≡ false
    target = sym (ap (some_is (λ (e : SyncDef). is_none (fixed_node s e.of))) is) ∙ (or_parts _ (some_is (λ (e : SyncDef). is_none (fixed_node s e.of)) (sync_of n)) (unnot (no_target s n) parts.0)).1

    same : some_is (λ (t : Node). not (int_eq n.auth t.auth)) (fixed_node s d.of) ≡ false
    same = sym (ap (some_is (λ (e : SyncDef). some_is (λ (t : Node). not (int_eq n.auth t.auth)) (fixed_node s e.of))) is)
        ∙ (or_parts _ (some_is (λ (e : SyncDef). some_is (λ (t : Node). not (int_eq n.auth t.auth)) (fixed_node s e.of)) (sync_of n)) (unnot (auth_wrong s n) parts.1)).1

    step : (o : Option Node) → fixed_node s d.of ≡ o → IsOwned s auth d.of
    step None e = absurd (true≢false (sym (ap is_none e) ∙ target))
    step (Some t) e = record {
      node = t;
      there = e;
      own = ap (λ z. int_eq z auth) (sym (int_is n.auth t.auth (not_false (int_eq n.auth t.auth) (sym (ap (some_is (λ (x : Node). not (int_eq n.auth x.auth))) e) ∙ same)))) ∙ own;
    }

fixed_served : (s : Scene) (auth : ℤ) (i : ℕ) (ns : List Node) → list_all (serves_right s) ns ≡ true → AllByRecursion (λ (y : Syncer). IsOwned s auth y.node) (filter_map (fixed_syncer auth) (numbered i ns))
fixed_served s auth i [] h = tt
fixed_served s auth i (n ∷ ns) h = step (fixed_served s auth (i + 1) ns parts.1) (int_eq n.auth auth) refl (sync_of n) refl
  where
    parts : (serves_right s n ≡ true) × (list_all (serves_right s) ns ≡ true)
    parts = and_parts (serves_right s n) (list_all (serves_right s) ns) h

    step : AllByRecursion (λ (y : Syncer). IsOwned s auth y.node) (filter_map (fixed_syncer auth) (numbered (i + 1) ns)) → (b : Bool) → int_eq n.auth auth ≡ b → (o : Option SyncDef) → sync_of n ≡ o
        → AllByRecursion (λ (y : Syncer). IsOwned s auth y.node) (cons_option (fixed_syncer auth (i, n)) (filter_map (fixed_syncer auth) (numbered (i + 1) ns)))
    step more false e o f = rw e more
    step more true e None f = rw (e, f) more
    step more true e (Some d) f = rw (e, f) (served s auth n d f e parts.0, more)

pub owned : (who : Who) → IsValidScene who.scene → (y : Syncer) → Contains (fixed_syncers who.scene who.id) y → IsOwned who.scene who.id y.node
owned who v y has = of_member (λ (z : Syncer). IsOwned who.scene who.id z.node) (fixed_syncers who.scene who.id) y
    (fixed_served who.scene who.id 1 who.scene.nodes (all_right (node_why who.scene) (serves_right who.scene) (λ earlier n h. let r = right_node who.scene earlier n h in and_from (not (no_target who.scene n)) (not (auth_wrong who.scene n)) (ap not r.target) (ap not r.auth)) [] who.scene.nodes (nodes_right who.scene v))) has

pub sync_fixed_at_first : SyncFixedAtFirst
sync_fixed_at_first who es b y v has never =
    let at = owned who v y has in
    map_same (value_told (told_to who es b) y.node) (λ p. option_and_then (λ (n : Node). value_in n.props p) (fixed_node who.scene y.node)) (change_props y.def)
    (every_true (λ p. value_told (told_to who es b) y.node p ≡ option_and_then (λ (n : Node). value_in n.props p) (fixed_node who.scene y.node))
    (λ p. told_fixed_at_first who es b y.node at.node p at.there at.own never ∙ sym (ap (option_and_then (λ (n : Node). value_in n.props p)) at.there)) (change_props y.def))

pub sync_fixed_stays : SyncFixedStays
sync_fixed_stays who es e b y v has plain =
    let at = owned who v y has in
    map_same (value_told (told_to who (e ∷ es) b) y.node) (value_told (told_to who es b) y.node) (change_props y.def)
    (every_true (λ p. value_told (told_to who (e ∷ es) b) y.node p ≡ value_told (told_to who es b) y.node p) (λ p. told_fixed_stays who es e b y.node at.node p at.there at.own plain) (change_props y.def))

-- synchronizers of rows serve their rows

serves_row : (who : Who) (r : OwnRow) (y : Syncer) → Contains (row_syncers_of who r) y → y.node ≡ r.path
serves_row who r y has = of_member (λ (z : Syncer). z.node ≡ r.path) (row_syncers_of who r) y (block_nodes (λ t. t ≡ r.path) r.path refl 0 r.ids (syncs_at who.scene (Some r.place))) has

pub sync_row_stays : SyncRowStays
sync_row_stays who es e b r y v all plain up seen has was =
    let at = serves_row who r y has in
    map_same (value_told (told_to who (e ∷ es) b) y.node) (value_told (told_to who es b) y.node) (change_props y.def)
    (every_true (λ p. value_told (told_to who (e ∷ es) b) y.node p ≡ value_told (told_to who es b) y.node p)
    (λ p. ap (λ q. value_told (told_to who (e ∷ es) b) q p) at ∙ told_row_stays who es e b r p v all plain up seen was ∙ sym (ap (λ q. value_told (told_to who es b) q p) at)) (change_props y.def))

-- the values of the node that a Show makes

value_first : (q : Prop) (qs : List Prop) (p : List ℕ) → value_in (q ∷ qs) p ≡ (if text_eq q.name p then Some q.value else value_in qs p)
value_first q qs p = step (text_eq q.name p)
  where
    step : (b : Bool) → option_map (λ (z : Prop). z.value) (cond b (Some q) (find (λ (z : Prop). text_eq z.name p) qs)) ≡ (if b then Some q.value else value_in qs p)
    step true = refl
    step false = refl

pub assigned_there : (name : List ℕ) (v : Variant) (p : List ℕ) (props : List Prop) → value_in (assign name v props) p ≡ (if text_eq name p && has_prop p props then Some v else value_in props p)
assigned_there name v p [] = step (text_eq name p)
  where
    step : (b : Bool) → None ≡ (if b && false then Some v else None)
    step true = refl
    step false = refl
assigned_there name v p (q ∷ qs) =
    changed (text_eq q.name name)
    ∙ core (text_eq q.name p) refl (value_in (assign name v qs) p) (assigned_there name v p qs)
    ∙ ap (λ d. if text_eq name p && (d || has_prop p qs) then Some v else value_in (q ∷ qs) p) (text_eq-sym q.name p)
  where
    changed : (c : Bool) → value_in ((if c then record q { value = v } else q) ∷ assign name v qs) p ≡ (if text_eq q.name p then (if c then Some v else Some q.value) else value_in (assign name v qs) p)
    changed true = value_first (record q { value = v }) (assign name v qs) p
    changed false = value_first q (assign name v qs) p

    same : text_eq q.name p ≡ true → text_eq q.name name ≡ text_eq name p
    same d = ap (λ t. text_eq t name) (text_eq-true q.name p d) ∙ text_eq-sym p name

    either : (b : Bool) → (if b then Some v else Some q.value) ≡ (if b && true then Some v else Some q.value)
    either true = refl
    either false = refl

    core : (d : Bool) → text_eq q.name p ≡ d → (a : Option Variant) → a ≡ (if text_eq name p && has_prop p qs then Some v else value_in qs p)
        → (if d then (if text_eq q.name name then Some v else Some q.value) else a) ≡ (if text_eq name p && (d || has_prop p qs) then Some v else value_in (q ∷ qs) p)
    core true e a h = ap (λ c. if c then Some v else Some q.value) (same e) ∙ either (text_eq name p) ∙ ap (λ o. if text_eq name p && true then Some v else o) (sym (value_first q qs p ∙ ap (λ d. if d then Some q.value else value_in qs p) e))
    core false e a h = h ∙ ap (λ o. if text_eq name p && has_prop p qs then Some v else o) (sym (value_first q qs p ∙ ap (λ d. if d then Some q.value else value_in qs p) e))

-- properties that are assigned their own values
all_assigned : (own : List ℕ → Variant) (p : List ℕ) (names : List (List ℕ)) (props : List Prop) → value_in (assign_all (zip names (map own names)) props) p ≡ (if has_text p names && has_prop p props then Some (own p) else value_in props p)
all_assigned own p [] props = refl
all_assigned own p (n ∷ ns) props =
    all_assigned own p ns (assign n (own n) props)
    ∙ ap₂ (λ t o. if has_text p ns && t then Some (own p) else o) (ap (has_text p) (assign_names n (own n) props)) (assigned_there n (own n) p props)
    ∙ step (has_text p ns) (has_prop p props) (text_eq n p) refl
    ∙ ap (λ e. if (e || has_text p ns) && has_prop p props then Some (own p) else value_in props p) (text_eq-sym n p)
  where
    step : (s t e : Bool) → text_eq n p ≡ e → (if s && t then Some (own p) else if e && t then Some (own n) else value_in props p) ≡ (if (e || s) && t then Some (own p) else value_in props p)
    step true true true h = refl
    step true true false h = refl
    step true false true h = refl
    step true false false h = refl
    step false true true h = ap (λ x. Some (own x)) (text_eq-true n p h)
    step false true false h = refl
    step false false true h = refl
    step false false false h = refl

-- each own row was made by a spawner of the scene
own_spawners : (who : Who) (es : List Heard) → AllDone who es → AllByRecursion (λ (r : OwnRow). is_none (spawner_at who.scene r.made_by.spawner) ≡ false) (own_rows who es)
own_spawners who [] all = tt
own_spawners who (e ∷ es) all = subst (AllByRecursion (λ (r : OwnRow). is_none (spawner_at who.scene r.made_by.spawner) ≡ false)) (sym (own_later who es e))
    (every_joined (λ (r : OwnRow). is_none (spawner_at who.scene r.made_by.spawner) ≡ false) (filter (leaves e) (own_rows who es)) (new_rows who es (spawn_in e)) (every_kept (λ (r : OwnRow). is_none (spawner_at who.scene r.made_by.spawner) ≡ false) (leaves e) (own_rows who es) (own_spawners who es all.1)) (step (spawn_in e) refl))
  where
    step : (o : Option SpawnOp) → spawn_in e ≡ o → AllByRecursion (λ (r : OwnRow). is_none (spawner_at who.scene r.made_by.spawner) ≡ false) (new_rows who es o)
    step None h = tt
    step (Some o) h = ((allowed who es o (spawn_in_is who es e o h all.0.no_refusal)).spawner, tt)

pub shown_value : (who : Who) (es : List Heard) → IsValidScene who.scene → AllDone who es → (r : OwnRow) → Contains (own_rows who es) r → (p : List ℕ) → value_in (shown_node who.scene who.id (show_of who es r)).values p ≡ row_first_value who es r p
shown_value who es v all r has p =
    let own = own_value who es r.path in
    let names = all_spawn_props (syncs_at who.scene (Some r.place)) in
    let place : shown_place who.scene (show_of who es r) ≡ Some r.place = ap (λ (m : Mark). m.place) (of_member (IsShown who) (own_rows who es) r (own_shown who v es all) has es) in
    let d = some_of (spawner_at who.scene r.made_by.spawner) (some_from (spawner_at who.scene r.made_by.spawner) (of_member (λ (x : OwnRow). is_none (spawner_at who.scene x.made_by.spawner) ≡ false) (own_rows who es) r (own_spawners who es all) has)) in
    let with = spawner_of_id who.scene r.made_by.spawner d.0 d.1 in
    ap (λ k. value_in (assign_all (zip (all_spawn_props (syncs_at who.scene k)) (map (own_value who es r.path) (all_spawn_props (syncs_at who.scene (Some r.place))))) (assign_argument (option_map (λ (c : CustomDef). c.prop) (option_and_then (λ (x : SpawnerDef). x.custom) (spawner_with who.scene (show_of who es r).spawner))) r.made_by.arg (props_in (option_and_then (scene_at who.scene) k)))) p) place
    ∙ ap (λ o. value_in (assign_all (zip (all_spawn_props (syncs_at who.scene (Some r.place))) (map (own_value who es r.path) (all_spawn_props (syncs_at who.scene (Some r.place))))) (assign_argument (option_map (λ (c : CustomDef). c.prop) (option_and_then (λ (x : SpawnerDef). x.custom) o)) r.made_by.arg (props_in (scene_at who.scene r.place)))) p) (with ∙ sym d.1)
    ∙ all_assigned (own_value who es r.path) p (all_spawn_props (syncs_at who.scene (Some r.place))) (assign_argument (argument_prop who r.made_by) r.made_by.arg (props_in (scene_at who.scene r.place)))
    ∙ ap (λ ns. if has_text p (all_spawn_props (syncs_at who.scene (Some r.place))) && has_text p ns then Some (own_value who es r.path p) else value_in (assign_argument (argument_prop who r.made_by) r.made_by.arg (props_in (scene_at who.scene r.place))) p) (names_kept (argument_prop who r.made_by) r.made_by.arg)
  where
    names_kept : (name : Option (List ℕ)) (arg : Option Variant) → prop_names (assign_argument name arg (props_in (scene_at who.scene r.place))) ≡ prop_names (props_in (scene_at who.scene r.place))
    names_kept (Some name) (Some x) = assign_names name x (props_in (scene_at who.scene r.place))
    names_kept (Some name) None = refl
    names_kept None arg = refl

pub sync_row_shown : SyncRowShown
sync_row_shown who es e b r y v all plain up seen has wasn't =
    let at = serves_row who r y has in
    map_same (value_told (told_to who (e ∷ es) b) y.node) (row_first_value who (e ∷ es) r) (change_props y.def)
    (every_true (λ p. value_told (told_to who (e ∷ es) b) y.node p ≡ row_first_value who (e ∷ es) r p)
    (λ p. ap (λ q. value_told (told_to who (e ∷ es) b) q p) at ∙ told_row_shown who es e b r p v all plain up seen wasn't ∙ shown_value who (e ∷ es) v all r (own_of who (e ∷ es) b r seen) p) (change_props y.def))
  where
    own_of : (who : Who) (es : List Heard) (b : ℤ) (r : OwnRow) → Contains (visible_rows who es b) r → Contains (own_rows who es) r
    own_of who es b r has = of_member (Contains (own_rows who es)) (visible_rows who es b) r (every_visible (Contains (own_rows who es)) who es b (recursion_from_All (Contains (own_rows who es)) (own_rows who es) (All-contains_itself (own_rows who es)))) has
