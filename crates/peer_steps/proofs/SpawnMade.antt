-- What a spawn makes that isn't refused.
use Rattle.std.proofs.Common.{◌≡◌, ℕ, suc, ◌+◌, ◌<◌, ◌≤◌, ℤ, Bool, true, false, cond, not, ◌&&◌, ◌||◌, List, [], ◌∷◌, refl, sym, ap, ap₂, ◌∙◌, subst, length, Option, Some, None, is_some, arith}
use Rattle.std.specs.Prelude.{option_map, option_and_then, is_none, nat_eq, nat_le, nat_lt, IfSome, if◌then◌else◌}
use Rattle.std.specs.List.{list_any, list_all}
use Rattle.std.proofs.lemmas.Bool.Decides.{nat_tests}
use Rattle.std.proofs.lemmas.Bool.{true≢false, and_parts, or_parts, or_from}
use Rattle.gd_variant.specs.declared.value.Variant.{Variant}
use Rattle.gd_variant.specs.Size.{value_size}
use Rattle.gd_variant.specs.Sound.{is_sound}
use Rattle.gd_variant.specs.Words.{text_eq, has_text, has_nat, some_is, when, first_some, or_else, place_of, put_by}
use Rattle.scene_model.specs.declared.scene.Scene.{Scene}
use Rattle.scene_model.specs.declared.scene.Prop.{Prop}
use Rattle.scene_model.specs.declared.scene.SceneDef.{SceneDef}
use Rattle.scene_model.specs.declared.scene.SpawnerDef.{SpawnerDef}
use Rattle.scene_model.specs.declared.event.SpawnOp.{SpawnOp}
use Rattle.scene_model.specs.declared.outcome.Refusal.TheVariants.{NoNode, NoSpawner, NotAuthority, NoScene, BadName, NameTaken, SpawnLimit, NodesFull, NetIdsFull, NoProp, ValueTooLong}
use Rattle.scene_model.specs.Paths.{is_name, joined}
use Rattle.scene_model.specs.Lookup.{spawner_at, scene_at, has_prop}
use Rattle.scene_model.specs.Valid.{IsValidScene, value_long, scene_why}
use Rattle.peer_model.specs.Heard.{Who}
use Rattle.peer_model.specs.Rows.{OwnRow, spawned_path, spawned_scene, syncs_at, count_from}
use Rattle.peer_model.specs.Values.{scene_made, props_in, argument_prop}
use Rattle.peer_model.specs.Updates.{Live, live_at, assign, assign_all, assign_argument}
use Rattle.peer_model.specs.View.{fits}
use Rattle.peer_model.specs.Changes.{scene_byte}
use Rattle.peer_model.specs.Refusals.{most_rows, most_net_id, owns, may_make, argument_fits}
use Rattle.headless_tree.specs.Nodes.{row_before, spawned_node, is_row_of}
use Rattle.headless_tree.specs.Numbers.{has_number, is_new, are_new}
use Rattle.headless_tree.proofs.Numbered.{all_at, and_true}
use Rattle.peer_laws.specs.Built.{is_empty}
use Rattle.peer_laws.specs.Shown.{spawned_live, settings}
use Rattle.peer_laws.proofs.Tests.{no_row, not_false, first_none, some_of}
use Rattle.peer_laws.proofs.Each.{all-put_by}
use Rattle.peer_laws.proofs.Scenes.{scene_props_apart, all_right, scenes_right, right_def}
use Rattle.peer_laws.proofs.TreeSpawns.{made_is_placed}
use Rattle.peer_laws.proofs.Rows.{length-count_from}
use Rattle.peer_steps.specs.Rights.{is_right_value, are_right, has_right_values, is_before, is_right_byte, is_right_argument, is_right_row}
use Rattle.peer_steps.specs.Arrivals.{argument_assigned}
use Rattle.peer_steps.specs.declared.rows.SpawnedRow.{SpawnedRow}
use Rattle.peer_steps.specs.declared.site.Site.{Site}
use Rattle.peer_steps.specs.Rows.{kept_row, row_of_spawn}
use Rattle.peer_steps.specs.Spawns.{is_at_limit, spawn_judged}
use Rattle.peer_steps.specs.Sites.{IsSite, IsWelcome, MaySpawn, byte_in, has_short, sets_judged, argument_judged, values_judged, room_judged, rest_judged, spawner_judged, name_judged, with_settings, site_row, props_at}
use Rattle.peer_steps.proofs.SpawnParts.{spawn_in_parts, path_of_spawn, scene_of_spawn, few_scenes}
use Rattle.peer_steps.proofs.Settled.{settled}
use Rattle.peer_steps.proofs.Putting.{with_values, argument_put, argument_apart}
use Rattle.peer_steps.proofs.Assigned.{none_from}

-- settings that aren't refused are short
pub sets_short : (props sets : List Prop) → sets_judged props sets ≡ None → list_all has_short sets ≡ true
sets_short props [] h = refl
sets_short props (p ∷ ps) h =
    let named = no_row (not (has_prop p.name props)) NoProp _ h in
    let short = no_row (not (fits p.value)) ValueTooLong _ named.1 in
    both_true (fits p.value) (list_all has_short ps) (not_false (fits p.value) short.0) (sets_short props ps short.1)
  where
    both_true : (a b : Bool) → a ≡ true → b ≡ true → (a && b) ≡ true
    both_true true b p q = q
    both_true false b p q = absurd (cc p)

within_ids : (n : ℕ) → nat_lt most_net_id n ≡ false → n ≤ 2147483647
within_ids n h = grind (arith, nat_tests)

-- by its spawner
welcome_by : (who : Who) (nodes : List Live) (rows : List SpawnedRow) (next : ℕ) (o : SpawnOp) (d : Option SpawnerDef) → spawner_at who.scene o.spawner ≡ d → some_is (may_make o) d ≡ true
    → first_some (name_judged nodes o.name (spawned_path who o)) (rest_judged who.scene rows next d o (spawned_scene who o)) ≡ None → IsWelcome who nodes next o
welcome_by who nodes rows next o None found made rest = absurd (cc made)
welcome_by who nodes rows next o (Some d) found made rest =
    let name_rest = first_none (name_judged nodes o.name (spawned_path who o)) (rest_judged who.scene rows next (Some d) o (spawned_scene who o)) rest in
    let name = no_row (not (is_name o.name)) BadName _ name_rest.0 in
    let free = no_row (is_some (live_at nodes (spawned_path who o))) NameTaken [] name.1 in
    let ids_row = when (nat_lt most_net_id (next + length (syncs_at who.scene (spawned_scene who o)))) NetIdsFull ∷ [] in
    let room_values = first_none (room_judged rows next o.spawner (Some d) (length (syncs_at who.scene (spawned_scene who o)))) (values_judged who.scene (spawned_scene who o) o) name_rest.1 in
    let limit = no_row (some_is (is_at_limit rows o.spawner) (Some d)) SpawnLimit (when (nat_le most_rows (length rows)) NodesFull ∷ ids_row) room_values.0 in
    let full = no_row (nat_le most_rows (length rows)) NodesFull ids_row limit.1 in
    let ids = no_row (nat_lt most_net_id (next + length (syncs_at who.scene (spawned_scene who o)))) NetIdsFull [] full.1 in
    let values = first_none (sets_judged (props_at who.scene (spawned_scene who o)) o.sets) (argument_judged o.arg) room_values.1 in
    record {
      spawner = d;
      found = found;
      makes = made;
      name = not_false (is_name o.name) name.0;
      free = none_from (live_at nodes (spawned_path who o)) free.0;
      room = within_ids (next + length (syncs_at who.scene (spawned_scene who o))) ids.0;
      short = sets_short (props_at who.scene (spawned_scene who o)) o.sets values.0;
      argument = not_false (argument_fits o.arg) (no_row (not (argument_fits o.arg)) ValueTooLong [] values.1).0;
    }

pub welcome : (who : Who) (nodes : List Live) (rows : List SpawnedRow) (next : ℕ) (o : SpawnOp) → spawn_judged who nodes rows next o ≡ None → IsWelcome who nodes next o
welcome who nodes rows next o h =
    let d = spawner_at who.scene o.spawner in
    let made_row = when (not (some_is (may_make o) d)) NoScene ∷ [] in
    let owned_row = when (not (owns who (live_at nodes o.spawner))) NotAuthority ∷ made_row in
    let parts = first_none (spawner_judged who nodes d o) (first_some (name_judged nodes o.name (spawned_path who o)) (rest_judged who.scene rows next d o (spawned_scene who o))) (sym (spawn_in_parts who nodes rows next o) ∙ h) in
    let node = no_row (is_none (live_at nodes o.spawner)) NoNode (when (is_none d) NoSpawner ∷ owned_row) parts.0 in
    let spawner = no_row (is_none d) NoSpawner owned_row node.1 in
    let owned = no_row (not (owns who (live_at nodes o.spawner))) NotAuthority made_row spawner.1 in
    let made = no_row (not (some_is (may_make o) d)) NoScene [] owned.1 in
    welcome_by who nodes rows next o d refl (not_false (some_is (may_make o) d) made.0) parts.1

-- the place of a listed text
pub place_below : (t : List ℕ) (ts : List (List ℕ)) (other : ℕ) → has_text t ts ≡ true → or_else (place_of t ts) other < length ts
place_below t [] other h = absurd (cc h)
place_below t (u ∷ us) other h = step (text_eq t u) (λ k. below (place_of t us) (place_below t us other k)) h
  where
    below : (p : Option ℕ) → or_else p other < length us → or_else (option_map (λ k. k + 1) p) other < suc (length us)
    below None k = omega (arith, k)
    below (Some i) k = omega (arith, k)

    step : (b : Bool) → (has_text t us ≡ true → or_else (option_map (λ k. k + 1) (place_of t us)) other < suc (length us)) → (b || has_text t us) ≡ true → or_else (cond b (Some 0) (option_map (λ k. k + 1) (place_of t us))) other < suc (length us)
    step true more k = omega arith
    step false more k = more k

-- where the node goes, and what it is made of

pub record IsPlaced (who : Who) (o : SpawnOp) (x : Site) : Type 0 where
  pub at : ℕ
  pub here : x.place ≡ Some at
  pub made : spawned_scene who o ≡ Some at

pub placed : (who : Who) (nodes : List Live) (next : ℕ) (o : SpawnOp) (x : Site) → IsValidScene who.scene → IsWelcome who nodes next o → IsSite who.scene (spawner_at who.scene o.spawner) o x → IsPlaced who o x
placed who nodes next o x v w site =
    let here = some_of (spawned_scene who o) (made_is_placed who v o w.spawner w.found w.makes) in
    record { at = here.0; here = site.place ∙ sym (scene_of_spawn who o) ∙ here.1; made = here.1 }

same_place : (who : Who) (o : SpawnOp) (x : Site) → IsPlaced who o x → x.place ≡ spawned_scene who o
same_place who o x p = p.here ∙ sym p.made

site_path : (who : Who) (o : SpawnOp) (x : Site) → IsSite who.scene (spawner_at who.scene o.spawner) o x → x.path ≡ spawned_path who o
site_path who o x site = site.path ∙ sym (path_of_spawn who o)

pub site_below : (who : Who) (o : SpawnOp) (x : Site) → IsSite who.scene (spawner_at who.scene o.spawner) o x → joined x.under o.name ≡ spawned_path who o
site_below who o x site = ap (λ u. joined u o.name) site.under ∙ sym (path_of_spawn who o)

byte_by : (who : Who) (r : OwnRow) (n : Option (List ℕ)) → r.made_by.scene ≡ n → scene_byte who r ≡ byte_in n (spawner_at who.scene r.made_by.spawner)
byte_by who r None e = rw e refl
byte_by who r (Some t) e = rw e refl

-- the row that is kept
pub made_row : (who : Who) (next : ℕ) (o : SpawnOp) (x : Site) → IsPlaced who o x → IsSite who.scene (spawner_at who.scene o.spawner) o x → site_row who.scene next o x ≡ kept_row who (row_of_spawn who next o)
made_row who next o x p site =
    ap (λ q. row_at q x.path x.byte) (same_place who o x p)
    ∙ ap₂ (λ q b. row_at (spawned_scene who o) q b) (site_path who o x site) (site.byte ∙ sym (byte_by who (row_of_spawn who next o) o.scene refl))
  where
    row_at : Option ℕ → List ℕ → ℕ → SpawnedRow
    row_at place path byte = record { num = next; ids = count_from (next + 1) (syncs_at who.scene place); path = path; place = or_else place 0; spawner = o.spawner; byte = byte; name = o.name; arg = o.arg }

defaults_at : (s : Scene) (place : Option ℕ) (at : ℕ) → place ≡ Some at → props_in (scene_at s (or_else place 0)) ≡ props_in (option_and_then (scene_at s) place)
defaults_at s place at e = rw e refl

-- the nodes with the one that is made
pub made_nodes : (who : Who) (nodes : List Live) (next : ℕ) (o : SpawnOp) (x : Site) → IsValidScene who.scene → IsWelcome who nodes next o → IsPlaced who o x → IsSite who.scene (spawner_at who.scene o.spawner) o x
    → with_settings x.path o.sets (argument_assigned x.path (argument_prop who o) o.arg (put_by row_before (spawned_node who.scene (joined x.under o.name) who.id next (count_from (next + 1) (syncs_at who.scene x.place)) (or_else x.place 0)) nodes))
    ≡ put_by row_before (spawned_live who (row_of_spawn who next o)) nodes
made_nodes who nodes next o x v w p site =
    let path = spawned_path who o in
    let prop = argument_prop who o in
    let blank : Option ℕ → Live = λ q. spawned_node who.scene path who.id next (count_from (next + 1) (syncs_at who.scene q)) (or_else q 0) in
    let n = blank (spawned_scene who o) in
    let apart = scene_props_apart who.scene v (or_else (spawned_scene who o) 0) in
    ap₂ (λ q r. with_settings q o.sets (argument_assigned q prop o.arg (put_by row_before (spawned_node who.scene r who.id next (count_from (next + 1) (syncs_at who.scene x.place)) (or_else x.place 0)) nodes))) (site_path who o x site) (site_below who o x site)
    ∙ ap (λ q. with_settings path o.sets (argument_assigned path prop o.arg (put_by row_before (blank q) nodes))) (same_place who o x p)
    ∙ ap (with_settings path o.sets) (argument_put prop o.arg n nodes w.free apart)
    ∙ settled (with_values n (assign_argument prop o.arg n.values)) nodes o.sets w.free (argument_apart prop o.arg n.values apart)
    ∙ ap (λ vs. put_by row_before (record (spawned_live who (row_of_spawn who next o)) { values = assign_all (settings o.sets) (assign_argument prop o.arg vs) }) nodes) (defaults_at who.scene (spawned_scene who o) p.at p.made)

-- properties with right values

pub assign_right : (name : List ℕ) (v : Variant) (props : List Prop) → is_right_value v ≡ true → are_right props ≡ true → are_right (assign name v props) ≡ true
assign_right name v [] right h = refl
assign_right name v (p ∷ ps) right h =
    let parts = and_parts (is_right_value p.value) (are_right ps) h in
    and_true _ (are_right (assign name v ps)) (one (text_eq p.name name) parts.0) (assign_right name v ps right parts.1)
  where
    one : (b : Bool) → is_right_value p.value ≡ true → is_right_value (let q : Prop = if b then record p { value = v } else p in q.value) ≡ true
    one true k = right
    one false k = k

pub settings_right : (sets props : List Prop) → are_right sets ≡ true → are_right props ≡ true → are_right (assign_all (settings sets) props) ≡ true
settings_right [] props h k = k
settings_right (p ∷ ps) props h k = let parts = and_parts (is_right_value p.value) (are_right ps) h in settings_right ps (assign p.name p.value props) parts.1 (assign_right p.name p.value props parts.0 k)

-- an argument is right where the property that takes it may have it
pub given_right : (name : Option (List ℕ)) (arg : Option Variant) (props : List Prop) → is_right_argument arg ≡ true → are_right props ≡ true → are_right (assign_argument name arg props) ≡ true
given_right (Some name) (Some value) props h k = assign_right name value props h k
given_right (Some name) None props h k = k
given_right None arg props h k = k

not_long_right : (p : Prop) → value_long p ≡ false → is_right_value p.value ≡ true
not_long_right p h =
    let parts = or_parts (not (is_sound p.value)) (nat_lt 65536 (value_size p.value)) h in
    and_true (is_sound p.value) (fits p.value) (not_false (is_sound p.value) parts.0) (short (value_size p.value) parts.1)
  where
    short : (n : ℕ) → nat_lt 65536 n ≡ false → nat_le n 65536 ≡ true
    short n k = grind (arith, nat_tests)

pub none_long : (props : List Prop) → list_any value_long props ≡ false → are_right props ≡ true
none_long [] h = refl
none_long (p ∷ ps) h = let parts = or_parts (value_long p) (list_any value_long ps) h in and_true (is_right_value p.value) (are_right ps) (not_long_right p parts.0) (none_long ps parts.1)

defs_right : (s : Scene) → IsValidScene s → list_all (λ (d : SceneDef). are_right d.props) s.scenes ≡ true
defs_right s v = all_right scene_why (λ (d : SceneDef). are_right d.props) (λ earlier d h. none_long d.props (right_def earlier d h).short) [] s.scenes (scenes_right s v)

def_right : (s : Scene) → IsValidScene s → (i : ℕ) (d : Option SceneDef) → scene_at s i ≡ d → are_right (props_in d) ≡ true
def_right s v i None e = refl
def_right s v i (Some d) e = all_at (λ (d : SceneDef). are_right d.props) s.scenes i d e (defs_right s v)

pub defaults_right : (s : Scene) → IsValidScene s → (place : Option ℕ) → are_right (props_in (option_and_then (scene_at s) place)) ≡ true
defaults_right s v None = refl
defaults_right s v (Some i) = def_right s v i (scene_at s i) refl

-- numbers that are new

later_new : (k next : ℕ) (ms : List ℕ) → next ≤ k → list_all (λ m. nat_lt m next) ms ≡ true → has_nat k ms ≡ false
later_new k next [] le h = refl
later_new k next (m ∷ ms) le h =
    let parts = and_parts (nat_lt m next) (list_all (λ i. nat_lt i next) ms) h in
    or_from (nat_eq k m) (has_nat k ms) (apart k m next le parts.0) (later_new k next ms le parts.1)
  where
    apart : (k m next : ℕ) → next ≤ k → nat_lt m next ≡ true → nat_eq k m ≡ false
    apart k m next le h = grind (arith, nat_tests)

new_to : (id : ℤ) (k next : ℕ) (n : Live) → next ≤ k → is_before id next n ≡ true → has_number id k n ≡ false
new_to id k next n le h = step (is_row_of id n) h
  where
    step : (b : Bool) → (not b || list_all (λ m. nat_lt m next) (n.num ∷ n.ids)) ≡ true → (b && has_nat k (n.num ∷ n.ids)) ≡ false
    step true e = later_new k next (n.num ∷ n.ids) le e
    step false e = refl

is_later : (id : ℤ) (k next : ℕ) (nodes : List Live) → next ≤ k → list_all (is_before id next) nodes ≡ true → is_new id nodes k ≡ true
is_later id k next nodes le h = ap not (none_of nodes h)
  where
    none_of : (ns : List Live) → list_all (is_before id next) ns ≡ true → list_any (has_number id k) ns ≡ false
    none_of [] e = refl
    none_of (n ∷ ns) e = let parts = and_parts (is_before id next n) (list_all (is_before id next) ns) e in or_from (has_number id k n) (list_any (has_number id k) ns) (new_to id k next n le parts.0) (none_of ns parts.1)

ids_later : {X : Type 0} (id : ℤ) (k next : ℕ) (xs : List X) (nodes : List Live) → next ≤ k → list_all (is_before id next) nodes ≡ true → list_all (is_new id nodes) (count_from k xs) ≡ true
ids_later id k next [] nodes le h = refl
ids_later id k next (x ∷ xs) nodes le h = and_true (is_new id nodes k) (list_all (is_new id nodes) (count_from (k + 1) xs)) (is_later id k next nodes le h) (ids_later id (k + 1) next xs nodes (omega (arith, le)) h)

pub numbers_new : {X : Type 0} (id : ℤ) (next : ℕ) (xs : List X) (nodes : List Live) → list_all (is_before id next) nodes ≡ true → are_new id next (count_from (next + 1) xs) nodes ≡ true
numbers_new id next xs nodes h = and_true (is_new id nodes next) (list_all (is_new id nodes) (count_from (next + 1) xs)) (is_later id next next nodes (omega arith) h) (ids_later id (next + 1) next xs nodes (omega arith) h)

lt_is : (a b : ℕ) → a < b → nat_lt a b ≡ true
lt_is a b h = grind (arith, nat_tests)

-- what a call that makes a spawn needs

module _ (who : Who) (nodes : List Live) (next : ℕ) (o : SpawnOp) (x : Site) (m : MaySpawn who nodes next o x) where
  it_is_placed : IsPlaced who o x
  it_is_placed = placed who nodes next o x m.valid m.welcome m.site

  pub spawn_room : next + length (syncs_at who.scene x.place) ≤ 2147483647
  spawn_room = rw (same_place who o x it_is_placed) m.welcome.room

  pub spawn_within : or_else x.place 0 < length who.scene.scenes
  spawn_within = within_at x.place refl m.within
    where
      within_at : (p : Option ℕ) → x.place ≡ p → IfSome p (λ i. i < length who.scene.scenes) → or_else p 0 < length who.scene.scenes
      within_at None e h = absurd (cc (sym e ∙ it_is_placed.here))
      within_at (Some i) e h = h

  pub spawn_new : are_new who.id next (count_from (next + 1) (syncs_at who.scene x.place)) nodes ≡ true
  spawn_new = numbers_new who.id next (syncs_at who.scene x.place) nodes m.before

  pub spawn_row : site_row who.scene next o x ≡ kept_row who (row_of_spawn who next o)
  spawn_row = made_row who next o x it_is_placed m.site

  pub spawn_nodes : with_settings x.path o.sets (argument_assigned x.path (argument_prop who o) o.arg (put_by row_before (spawned_node who.scene (joined x.under o.name) who.id next (count_from (next + 1) (syncs_at who.scene x.place)) (or_else x.place 0)) nodes))
      ≡ put_by row_before (spawned_live who (row_of_spawn who next o)) nodes
  spawn_nodes = made_nodes who nodes next o x m.valid m.welcome it_is_placed m.site

  pub spawn_live_right : has_right_values (spawned_live who (row_of_spawn who next o)) ≡ true
  spawn_live_right =
      let props = props_in (scene_made who o) in
      settings_right o.sets (assign_argument (argument_prop who o) o.arg props) m.sets (given_right (argument_prop who o) o.arg props m.argument (defaults_right who.scene m.valid (spawned_scene who o)))

  pub spawn_values : list_all has_right_values (put_by row_before (spawned_live who (row_of_spawn who next o)) nodes) ≡ true
  spawn_values = all-put_by has_right_values row_before (spawned_live who (row_of_spawn who next o)) nodes spawn_live_right m.values

  -- the scene of the row is the one that is made
  same_syncs : syncs_at who.scene (Some (or_else (spawned_scene who o) 0)) ≡ syncs_at who.scene (spawned_scene who o)
  same_syncs = rw it_is_placed.made refl

  listed_byte : (t : List ℕ) → o.scene ≡ Some t → scene_byte who (row_of_spawn who next o) < 255
  listed_byte t named =
      let is_listed : has_text t m.welcome.spawner.scenes ≡ true = rw named at m.welcome.makes in
      let listed = place_below t m.welcome.spawner.scenes 255 is_listed in
      let few : length m.welcome.spawner.scenes ≤ 255 = few_scenes who.scene m.valid o.spawner (Some m.welcome.spawner) (sym m.welcome.found) in
      let byte : scene_byte who (row_of_spawn who next o) ≡ or_else (place_of t m.welcome.spawner.scenes) 255 = byte_by who (row_of_spawn who next o) (Some t) named ∙ ap (byte_in (Some t)) m.welcome.found in
      subst (λ k. k < 255) (sym byte) (omega (arith, listed, few))

  -- the byte is that of a custom spawn exactly where there is an argument
  byte_right : (n : Option (List ℕ)) (a : Option Variant) → o.scene ≡ n → (is_some n && is_none a || (is_none n && (is_empty o.sets && is_some a))) ≡ true → is_right_byte (scene_byte who (row_of_spawn who next o)) a ≡ true
  byte_right (Some t) None e built = lt_is _ _ (listed_byte t e)
  byte_right (Some t) (Some v) e built = absurd (cc built)
  byte_right None None e built = absurd (true≢false (no_argument (is_empty o.sets) built))
    where
      no_argument : (b : Bool) → (b && false) ≡ true → true ≡ false
      no_argument true h = sym h
      no_argument false h = sym h
  byte_right None (Some v) e built = ap (λ k. nat_eq k 255) (byte_by who (row_of_spawn who next o) None e)

  pub spawn_row_right : is_right_row who.scene (kept_row who (row_of_spawn who next o)) ≡ true
  spawn_row_right = and_true _ _
      (and_true (is_name o.name) _ m.welcome.name (same_nat _ _ (length-count_from (next + 1) (syncs_at who.scene (spawned_scene who o)) ∙ sym (ap length same_syncs))))
      (and_true (is_right_byte (scene_byte who (row_of_spawn who next o)) o.arg && is_right_argument o.arg) (nat_lt (or_else (spawned_scene who o) 0) (length who.scene.scenes))
      (and_true (is_right_byte (scene_byte who (row_of_spawn who next o)) o.arg) (is_right_argument o.arg) (byte_right o.scene o.arg refl m.built) m.argument)
      (lt_is _ _ (subst (λ p. or_else p 0 < length who.scene.scenes) (same_place who o x it_is_placed) spawn_within)))
    where
      same_nat : (a b : ℕ) → a ≡ b → nat_eq a b ≡ true
      same_nat a b e = grind (arith, nat_tests)
