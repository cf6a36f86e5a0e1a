-- A tree and own rows that fit stay so: before any event, and after each that a peer takes.
use Rattle.std.proofs.Common.{◌≡◌, ℕ, ◌+◌, ◌<◌, ◌≤◌, ℤ, Bool, true, false, cond, not, ◌&&◌, ◌||◌, List, [], ◌∷◌, refl, ap, ◌∙◌, length, nat_eq, nat_lt, arith, Option, Some, None}
use Rattle.std.specs.Prelude.{IfSome, is_none, zip, option_and_then, position}
use Rattle.std.specs.List.{list_all}
use Rattle.std.specs.Ordering.{int_eq}
use Rattle.std.proofs.lemmas.Bool.Decides.{nat_tests}
use Rattle.std.proofs.lemmas.Bool.{and_parts, and_from}
use Rattle.std.proofs.lemmas.List.Folds.{list_all-append, list_all-map}
use Rattle.gd_variant.specs.Words.{text_eq, some_is, when}
use Rattle.gd_variant.specs.Sound.{is_sound}
use Rattle.gd_variant.specs.declared.value.Variant.{Variant}
use Rattle.scene_model.specs.declared.scene.Node.{Node}
use Rattle.scene_model.specs.declared.scene.Prop.{Prop}
use Rattle.scene_model.specs.declared.scene.Scene.{Scene}
use Rattle.scene_model.specs.declared.scene.SceneDef.{SceneDef}
use Rattle.scene_model.specs.declared.spawn.SpawnMsg.{SpawnMsg}
use Rattle.scene_model.specs.declared.event.SpawnOp.{SpawnOp}
use Rattle.scene_model.specs.declared.outcome.Fault.{Fault}
use Rattle.scene_model.specs.declared.outcome.Refusal.{Refusal}
use Rattle.scene_model.specs.declared.outcome.Refusal.TheVariants.{NoNode, NotAuthority, NoProp, ValueTooLong}
use Rattle.scene_model.specs.Lookup.{spawner_at, scene_place}
use Rattle.scene_model.specs.Paths.{joined}
use Rattle.scene_model.specs.Valid.{IsValidScene, node_why}
use Rattle.peer_model.specs.Heard.{Who}
use Rattle.peer_model.specs.Rows.{syncs_at, count_from, spawned_scene}
use Rattle.peer_model.specs.Updates.{Live, live_at, fixed_live, assign, assign_all, assign_argument, custom_prop, shown_node, shown_place, shown_props, shown_spawn_props}
use Rattle.peer_model.specs.View.{fits}
use Rattle.peer_model.specs.Refusals.{owns, has_live_prop, argument_fits}
use Rattle.headless_tree.specs.Lists.{change_first, without_first}
use Rattle.headless_tree.specs.Nodes.{TreeOf, is_at, is_row_of, row_before, with_value, assigned, fixed_nodes, has_spawned, without_spawned}
use Rattle.headless_tree.proofs.Order.{all_weaker}
use Rattle.headless_tree.proofs.Places.{found_within}
use Rattle.peer_laws.specs.Shown.{spawned_live}
use Rattle.peer_laws.proofs.Each.{all-put_by, all-filter, all_both, all_each}
use Rattle.peer_laws.proofs.Scenes.{shown_is_placed, all_right, nodes_right, right_node}
use Rattle.peer_laws.proofs.Tests.{no_row, not_false}
use Rattle.peer_steps.specs.declared.site.Site.{Site}
use Rattle.peer_steps.specs.Rows.{row_of_spawn}
use Rattle.peer_steps.specs.Rights.{is_right_value, are_right, has_right_values, is_right_argument, is_right_row, is_before}
use Rattle.peer_steps.specs.Sites.{IsSite, MaySpawn, byte_in, under_in, scene_in, who_at, own_made, after_made, has_short}
use Rattle.peer_steps.specs.declared.rows.SpawnedRow.{SpawnedRow}
use Rattle.peer_steps.specs.Arguments.{is_sound_argument, is_right_spawn}
use Rattle.peer_steps.specs.Sound.{is_sound_spawn}
use Rattle.peer_steps.specs.Spawns.{spawn_judged, shown_judged}
use Rattle.peer_steps.specs.Judged.{set_judged, set_nodes, despawn_judged, sight_judged, hidden_judged}
use Rattle.peer_steps.specs.Track.{Track, first_track, own_spawn, spawned_by, shown_spawn, shown_by, tree_without, hidden_row, hidden_by, own_despawn, despawned_by, number_at, SightChange, own_sighted, sighted_by, sight_at, track_up, track_down}
use Rattle.peer_steps.specs.Fits.{Fits}
use Rattle.peer_steps.proofs.Admitted.{IsAdmitted, admitted, values_short, argument_short}
use Rattle.peer_steps.proofs.Packets.{or_true}
use Rattle.peer_steps.proofs.PlacesOf.{place_by_key}
use Rattle.peer_steps.proofs.SpawnMade.{welcome, spawn_values, spawn_row_right, none_long, assign_right, given_right, defaults_right}

-- before any event

-- the fixed nodes of a valid scene
fixed_right : (s : Scene) → IsValidScene s → list_all has_right_values (fixed_nodes s) ≡ true
fixed_right s v = list_all-map has_right_values fixed_live s.nodes ∙ all_right (node_why s) (λ (n : Node). are_right n.props) (λ earlier n h. none_long n.props (right_node s earlier n h).short) [] s.nodes (nodes_right s v)

fixed_each : (p : Live → Bool) → ((n : Node) → p (fixed_live n) ≡ true) → (s : Scene) → list_all p (fixed_nodes s) ≡ true
fixed_each p k s = list_all-map p fixed_live s.nodes ∙ all_each (λ (n : Node). p (fixed_live n)) k s.nodes

pub fits_start : (me : ℤ) (s : Scene) → IsValidScene s → Fits me (record { scene = s; nodes = fixed_nodes s }) (first_track s me)
fits_start me s v = record { valid = v; values = fixed_right s v; rows = refl; before = fixed_each (is_before me 1) (λ n. refl) s }

-- rows that are gone

pub fits_without : (me c : ℤ) (t : TreeOf) (k : Track) → Fits me t k → Fits me (tree_without c t) k
fits_without me c t k f = record {
  valid = f.valid;
  values = all-filter has_right_values (λ (n : Live). not (is_row_of c n)) t.nodes f.values;
  rows = f.rows;
  before = all-filter (is_before me k.next) (λ (n : Live). not (is_row_of c n)) t.nodes f.before;
}

-- a row of another peer that goes
pub fits_hidden : (me c : ℤ) (net : ℕ) (t : TreeOf) (k : Track) → Fits me t k → Fits me (hidden_row c net t).1 k
fits_hidden me c net t k f = by (hidden_judged t.nodes c net)
  where
    gone : Live → Bool
    gone n = is_row_of c n && nat_eq n.num net

    by : (r : Option Fault) → Fits me (hidden_by c net t r).1 k
    by (Some r) = f
    by None = record {
      valid = f.valid;
      values = all-filter has_right_values (λ n. not (gone n)) t.nodes f.values;
      rows = f.rows;
      before = all-filter (is_before me k.next) (λ n. not (gone n)) t.nodes f.before;
    }

all_without : {X : Type 0} (p test : X → Bool) (xs : List X) → list_all p xs ≡ true → list_all p (without_first test xs) ≡ true
all_without p test [] h = refl
all_without {X = X} p test (x ∷ xs) h = step (test x) (all_without p test xs parts.1)
  where
    parts : (p x ≡ true) × (list_all p xs ≡ true)
    parts = and_parts (p x) (list_all p xs) h

    step : (b : Bool) → list_all p (without_first test xs) ≡ true → list_all p (cond b xs (x ∷ without_first test xs)) ≡ true
    step true more = parts.1
    step false more = and_from (p x) (list_all p (without_first test xs)) parts.0 more

all_unspawned : (p : Live → Bool) (path : List ℕ) (ns : List Live) → list_all p ns ≡ true → list_all p (without_spawned path ns) ≡ true
all_unspawned p path ns h = by (has_spawned ns path)
  where
    by : (b : Bool) → list_all p (cond b (without_first (is_at path) ns) ns) ≡ true
    by true = all_without p (is_at path) ns h
    by false = h

-- an own row that goes
pub fits_despawn : (me : ℤ) (path : List ℕ) (t : TreeOf) (k : Track) → Fits me t k → Fits me (own_despawn me path k t).tree (own_despawn me path k t).track
fits_despawn me path t k f = by (despawn_judged (who_at me t.scene) t.nodes path)
  where
    num : ℕ
    num = number_at t.nodes path

    by : (r : Option Refusal) → Fits me (despawned_by path num k t r).tree (despawned_by path num k t r).track
    by (Some r) = f
    by None = record {
      valid = f.valid;
      values = all_unspawned has_right_values path t.nodes f.values;
      rows = all-filter (is_right_row t.scene) (λ (r : SpawnedRow). not (nat_eq r.num num)) k.rows f.rows;
      before = all_unspawned (is_before me k.next) path t.nodes f.before;
    }

-- who sees the own rows is no part of this

pub fits_sighted : (me : ℤ) (up : List ℤ) (path : List ℕ) (n : ℕ) (c : SightChange) (t : TreeOf) (k : Track) → Fits me t k → Fits me t (own_sighted me up path n c k t).track
fits_sighted me up path n c t k f = by (sight_judged (who_at me t.scene) t.nodes path n (some_is c.is_full (sight_at k.sights (live_at t.nodes path) path n)))
  where
    by : (r : Option Refusal) → Fits me t (sighted_by up path n c k t r).track
    by (Some r) = f
    by None = record { valid = f.valid; values = f.values; rows = f.rows; before = f.before }

pub fits_up : (me b : ℤ) (t : TreeOf) (k : Track) → Fits me t k → Fits me t (track_up b k)
fits_up me b t k f = record { valid = f.valid; values = f.values; rows = f.rows; before = f.before }

pub fits_down : (me b : ℤ) (t : TreeOf) (k : Track) → Fits me t k → Fits me t (track_down b k)
fits_down me b t k f = record { valid = f.valid; values = f.values; rows = f.rows; before = f.before }

-- an assignment

all_change : {X : Type 0} (p test : X → Bool) (f : X → X) → ((x : X) → p x ≡ true → p (f x) ≡ true) → (xs : List X) → list_all p xs ≡ true → list_all p (change_first test f xs) ≡ true
all_change {X} p test f k [] h = refl
all_change {X} p test f k (x ∷ xs) h = step (test x) (all_change p test f k xs parts.1)
  where
    parts : (p x ≡ true) × (list_all p xs ≡ true)
    parts = and_parts (p x) (list_all p xs) h

    step : (b : Bool) → list_all p (change_first test f xs) ≡ true → list_all p (cond b (f x ∷ xs) (x ∷ change_first test f xs)) ≡ true
    step true more = and_from (p (f x)) (list_all p xs) (k x parts.0) parts.1
    step false more = and_from (p x) (list_all p (change_first test f xs)) parts.0 more

-- a node with another value of a property
abbrev with_prop : List ℕ → Variant → Live → Live
with_prop prop value n = record n { values = change_first (λ (p : Prop). text_eq p.name prop) (with_value value) n.values }

-- a node with another value that is right
pub right_changed : (prop : List ℕ) (value : Variant) (n : Live) → is_right_value value ≡ true → has_right_values n ≡ true → has_right_values (record n { values = change_first (λ (p : Prop). text_eq p.name prop) (with_value value) n.values }) ≡ true
right_changed prop value n right h = all_change (λ (p : Prop). is_right_value p.value) (λ (p : Prop). text_eq p.name prop) (with_value value) (λ p k. right) n.values h

fits_assigned : (me : ℤ) (path prop : List ℕ) (value : Variant) (t : TreeOf) (k : Track) → is_right_value value ≡ true → Fits me t k → Fits me (record t { nodes = assigned path prop value t.nodes }) k
fits_assigned me path prop value t k right f = record {
  valid = f.valid;
  values = all_change has_right_values (is_at path) (with_prop prop value) (λ n h. right_changed prop value n right h) t.nodes f.values;
  rows = f.rows;
  before = all_change (is_before me k.next) (is_at path) (with_prop prop value) (λ n h. h) t.nodes f.before;
}

-- a value that is assigned isn't too long
set_fits : (who : Who) (nodes : List Live) (path prop : List ℕ) (value : Variant) → set_judged who nodes path prop value ≡ None → fits value ≡ true
set_fits who nodes path prop value h =
    let n = live_at nodes path in
    let long = when (not (fits value)) ValueTooLong ∷ [] in
    let named = when (not (has_live_prop prop n)) NoProp ∷ long in
    let owned = when (not (owns who n)) NotAuthority ∷ named in
    let a = no_row (is_none n) NoNode owned h in
    let b = no_row (not (owns who n)) NotAuthority named a.1 in
    let c = no_row (not (has_live_prop prop n)) NoProp long b.1 in
    not_false (fits value) (no_row (not (fits value)) ValueTooLong [] c.1).0

pub fits_set : (who : Who) (path prop : List ℕ) (value : Variant) (t : TreeOf) (k : Track) → is_sound value ≡ true → Fits who.id t k → (r : Option Refusal) → set_judged who t.nodes path prop value ≡ r
    → Fits who.id (record t { nodes = set_nodes r path prop value t.nodes }) k
fits_set who path prop value t k sound f (Some r) judged = f
fits_set who path prop value t k sound f None judged = fits_assigned who.id path prop value t k (and_from (is_sound value) (fits value) sound (set_fits who t.nodes path prop value judged)) f

-- an own spawn

all_two : {X : Type 0} (p q r : X → Bool) → ((x : X) → p x ≡ true → q x ≡ true → r x ≡ true) → (xs : List X) → list_all p xs ≡ true → list_all q xs ≡ true → list_all r xs ≡ true
all_two p q r k [] h g = refl
all_two p q r k (x ∷ xs) h g =
    let a = and_parts (p x) (list_all p xs) h in
    let b = and_parts (q x) (list_all q xs) g in
    and_from (r x) (list_all r xs) (k x a.0 b.0) (all_two p q r k xs a.1 b.1)

right_argument : (arg : Option Variant) → is_sound_argument arg ≡ true → argument_fits arg ≡ true → is_right_argument arg ≡ true
right_argument None h k = refl
right_argument (Some v) h k = and_from (is_sound v) (fits v) h k

-- an own spawn that isn't refused can be made at its site
pub may_spawn : (me : ℤ) (t : TreeOf) (k : Track) (o : SpawnOp) (x : Site) → Fits me t k → is_right_spawn o ≡ true → list_all (λ (p : Prop). is_sound p.value) o.sets ≡ true → is_sound_argument o.arg ≡ true
    → IsSite t.scene (spawner_at t.scene o.spawner) o x → IfSome x.place (λ i. i < length t.scene.scenes) → spawn_judged (who_at me t.scene) t.nodes k.rows k.next o ≡ None → MaySpawn (who_at me t.scene) t.nodes k.next o x
may_spawn me t k o x f built sound argument site within free =
    let w = welcome (who_at me t.scene) t.nodes k.rows k.next o free in
    record {
      valid = f.valid;
      values = f.values;
      before = f.before;
      built = built;
      sets = all_two (λ (p : Prop). is_sound p.value) has_short (λ (p : Prop). is_right_value p.value) (λ p h g. and_from (is_sound p.value) (fits p.value) h g) o.sets sound w.short;
      argument = right_argument o.arg argument w.argument;
      site = site;
      within = within;
      welcome = w;
    }

below_next : {X : Type 0} (n next : ℕ) (xs : List X) → n + length xs ≤ next → list_all (λ k. nat_lt k next) (count_from n xs) ≡ true
below_next n next [] h = refl
below_next n next (x ∷ xs) h = and_from (nat_lt n next) (list_all (λ k. nat_lt k next) (count_from (n + 1) xs)) (small n next (omega (arith, h))) (below_next (n + 1) next xs (omega (arith, h)))
  where
    small : (a b : ℕ) → a < b → nat_lt a b ≡ true
    small a b k = grind (arith, nat_tests)

before_weaker : (me : ℤ) (next later : ℕ) (n : Live) → next ≤ later → is_before me next n ≡ true → is_before me later n ≡ true
before_weaker me next later n le h = step (is_row_of me n) h
  where
    lower : (k : ℕ) → nat_lt k next ≡ true → nat_lt k later ≡ true
    lower k e = grind (arith, nat_tests)

    step : (b : Bool) → (not b || list_all (λ k. nat_lt k next) (n.num ∷ n.ids)) ≡ true → (not b || list_all (λ k. nat_lt k later) (n.num ∷ n.ids)) ≡ true
    step true e = all_weaker (λ k. nat_lt k next) (λ k. nat_lt k later) lower (n.num ∷ n.ids) e
    step false e = refl

pub fits_made : (me : ℤ) (up : List ℤ) (t : TreeOf) (k : Track) (o : SpawnOp) (x : Site) → MaySpawn (who_at me t.scene) t.nodes k.next o x → Fits me t k → Fits me (spawned_by me up o k t None).tree (spawned_by me up o k t None).track
fits_made me up t k o x m f = record {
  valid = f.valid;
  values = spawn_values (who_at me t.scene) t.nodes k.next o x m;
  rows = list_all-append (is_right_row t.scene) k.rows (own_made me t.scene k.next o ∷ []) ∙ and_from (list_all (is_right_row t.scene) k.rows) _ f.rows (and_from (is_right_row t.scene (own_made me t.scene k.next o)) true (spawn_row_right (who_at me t.scene) t.nodes k.next o x m) refl);
  before = all-put_by (is_before me later) row_before made t.nodes own_before (all_weaker (is_before me k.next) (is_before me later) (λ n h. before_weaker me k.next later n (omega arith) h) t.nodes f.before);
}
  where
    later : ℕ
    later = after_made me t.scene k.next o

    made : Live
    made = spawned_live (who_at me t.scene) (row_of_spawn (who_at me t.scene) k.next o)

    below_all : {Y : Type 0} (next : ℕ) (ys : List Y) → list_all (λ k. nat_lt k (next + 1 + length ys)) (next ∷ count_from (next + 1) ys) ≡ true
    below_all next ys = and_from (nat_lt next (next + 1 + length ys)) _ (first (length ys)) (below_next (next + 1) (next + 1 + length ys) ys (omega arith))
      where
        first : (n : ℕ) → nat_lt next (next + 1 + n) ≡ true
        first n = grind (arith, nat_tests)

    own_before : is_before me (after_made me t.scene k.next o) (spawned_live (who_at me t.scene) (row_of_spawn (who_at me t.scene) k.next o)) ≡ true
    own_before = or_true (not (int_eq me me)) _ (below_all k.next (syncs_at t.scene (spawned_scene (who_at me t.scene) o)))

-- the site of a spawn
abbrev site_at : Scene → SpawnOp → Site
site_at s o = record {
  under = under_in (spawner_at s o.spawner);
  path = joined (under_in (spawner_at s o.spawner)) o.name;
  place = option_and_then (scene_place s) (scene_in o.scene (spawner_at s o.spawner));
  byte = byte_in o.scene (spawner_at s o.spawner);
}

site_within : (s : Scene) (name : Option (List ℕ)) → IfSome (option_and_then (scene_place s) name) (λ i. i < length s.scenes)
site_within s None = tt
site_within s (Some name) = within (scene_place s name) (place_by_key (λ (d : SceneDef). d.name) name s.scenes)
  where
    within : (o : Option ℕ) → position (λ (d : SceneDef). text_eq name d.name) s.scenes ≡ o → IfSome o (λ i. i < length s.scenes)
    within None e = tt
    within (Some i) e = found_within (λ (d : SceneDef). text_eq name d.name) s.scenes i e

pub fits_spawn : (me : ℤ) (up : List ℤ) (t : TreeOf) (k : Track) (o : SpawnOp) → is_right_spawn o ≡ true → list_all (λ (p : Prop). is_sound p.value) o.sets ≡ true → is_sound_argument o.arg ≡ true
    → Fits me t k → Fits me (own_spawn me up o k t).tree (own_spawn me up o k t).track
fits_spawn me up t k o built sound argument f = by (spawn_judged (who_at me t.scene) t.nodes k.rows k.next o) refl
  where
    site : Site
    site = site_at t.scene o

    by : (r : Option Refusal) → spawn_judged (who_at me t.scene) t.nodes k.rows k.next o ≡ r → Fits me (spawned_by me up o k t r).tree (spawned_by me up o k t r).track
    by (Some r) free = f
    by None free = fits_made me up t k o site
        (may_spawn me t k o site f built sound argument (record { under = refl; path = refl; place = refl; byte = refl }) (site_within t.scene (scene_in o.scene (spawner_at t.scene o.spawner))) free) f

-- a received spawn

assign_all_right : (names : List (List ℕ)) (values : List Variant) (props : List Prop) → list_all is_right_value values ≡ true → are_right props ≡ true → are_right (assign_all (zip names values) props) ≡ true
assign_all_right [] values props right h = h
assign_all_right (name ∷ names) [] props right h = h
assign_all_right (name ∷ names) (value ∷ values) props right h =
    let parts = and_parts (is_right_value value) (list_all is_right_value values) right in
    assign_all_right names values (assign name value props) parts.1 (assign_right name value props parts.0 h)

-- the node of a received spawn has right values
shown_right : (s : Scene) → IsValidScene s → (nodes : List Live) (c : ℤ) (m : SpawnMsg) → IsAdmitted s nodes c m → is_sound_spawn m ≡ true → has_right_values (shown_node s c m) ≡ true
shown_right s v nodes c m a h =
    let defs = syncs_at s (shown_place s m) in
    let sound = and_parts (is_sound_argument m.arg) (list_all is_sound m.values) h in
    assign_all_right (shown_spawn_props s m) m.values (assign_argument (custom_prop s m.spawner) m.arg (shown_props s m))
    (all_both is_sound fits m.values sound.1 (values_short defs m a.values))
    (given_right (custom_prop s m.spawner) m.arg (shown_props s m) (right_argument m.arg sound.0 (argument_short defs m a.values)) (defaults_right s v (shown_place s m)))

-- a spawn of another peer
pub fits_shown : (me c : ℤ) (t : TreeOf) (k : Track) (m : SpawnMsg) → int_eq c me ≡ false → is_sound_spawn m ≡ true → Fits me t k → Fits me (shown_spawn c m t).1 k
fits_shown me c t k m other sound f = by (shown_judged t.scene t.nodes c m) refl
  where
    by : (r : Option Fault) → shown_judged t.scene t.nodes c m ≡ r → Fits me (shown_by c m t r).1 k
    by (Some r) judged = f
    by None judged =
        let a = admitted t.scene t.nodes c m judged in
        let x = shown_node t.scene c m in
        let row : is_row_of me x ≡ false = ap (λ placed. placed && int_eq c me) (shown_is_placed t.scene f.valid m a.meant) ∙ other in
        record {
          valid = f.valid;
          values = all-put_by has_right_values row_before x t.nodes (shown_right t.scene f.valid t.nodes c m a sound) f.values;
          rows = f.rows;
          before = all-put_by (is_before me k.next) row_before x t.nodes (ap (λ b. not b || list_all (λ num. nat_lt num k.next) (m.net ∷ m.syncs)) row) f.before;
        }
