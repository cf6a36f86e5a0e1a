-- A node put into the tree and then assigned to is the node with its values put into the tree.
use Rattle.std.proofs.Common.{◌≡◌, ℕ, ℤ, false, List, [], ◌∷◌, refl, sym, ap, ap₂, ◌∙◌, is_some, Option, Some, None}
use Rattle.std.specs.Prelude.{zip, option_and_then}
use Rattle.gd_variant.specs.Words.{put_by}
use Rattle.gd_variant.specs.declared.value.Variant.{Variant}
use Rattle.scene_model.specs.declared.scene.Scene.{Scene}
use Rattle.scene_model.specs.declared.scene.Prop.{Prop}
use Rattle.scene_model.specs.declared.spawn.SpawnMsg.{SpawnMsg}
use Rattle.scene_model.specs.Lookup.{prop_names, scene_at}
use Rattle.scene_model.specs.Paths.{joined}
use Rattle.scene_model.specs.Valid.{IsValidScene, has_twice}
use Rattle.peer_model.specs.Values.{props_in}
use Rattle.peer_model.specs.Updates.{Live, live_at, assign, assign_all, assign_argument, custom_prop, shown_node, shown_path, shown_place, shown_props, shown_spawn_props}
use Rattle.headless_tree.specs.Nodes.{TreeOf, row_before, spawned_node}
use Rattle.peer_laws.proofs.Scenes.{place_props_apart}
use Rattle.peer_steps.specs.declared.making.Making.{Making}
use Rattle.peer_steps.specs.Arrivals.{IsMaking, assigned_all, argument_assigned}
use Rattle.peer_steps.proofs.Assigned.{none_from}
use Rattle.peer_steps.proofs.Settled.{assign_names, one_setting}

-- a node with other values
abbrev pub with_values : Live → List Prop → Live
with_values x vs = record x { values = vs }

pub assigned_all_put : (sets : List (List ℕ × Variant)) (x : Live) (nodes : List Live) → live_at nodes x.path ≡ None → has_twice (prop_names x.values) ≡ false
    → assigned_all x.path sets (put_by row_before x nodes) ≡ put_by row_before (with_values x (assign_all sets x.values)) nodes
assigned_all_put [] x nodes free apart = refl
assigned_all_put (a ∷ more) x nodes free apart =
    ap (assigned_all x.path more) (one_setting x nodes a.0 a.1 free apart)
    ∙ assigned_all_put more (with_values x (assign a.0 a.1 x.values)) nodes free (ap has_twice (assign_names a.0 a.1 x.values) ∙ apart)

pub argument_put : (name : Option (List ℕ)) (arg : Option Variant) (x : Live) (nodes : List Live) → live_at nodes x.path ≡ None → has_twice (prop_names x.values) ≡ false
    → argument_assigned x.path name arg (put_by row_before x nodes) ≡ put_by row_before (with_values x (assign_argument name arg x.values)) nodes
argument_put (Some name) (Some value) x nodes free apart = one_setting x nodes name value free apart
argument_put (Some name) None x nodes free apart = refl
argument_put None arg x nodes free apart = refl

pub argument_apart : (name : Option (List ℕ)) (arg : Option Variant) (props : List Prop) → has_twice (prop_names props) ≡ false → has_twice (prop_names (assign_argument name arg props)) ≡ false
argument_apart (Some name) (Some value) props apart = ap has_twice (assign_names name value props) ∙ apart
argument_apart (Some name) None props apart = apart
argument_apart None arg props apart = apart

-- the node of a spawn with its scene's defaults
abbrev pub shown_blank : Scene → ℤ → SpawnMsg → Live
shown_blank s c m = record { auth = c; num = m.net; ids = m.syncs; path = shown_path s m; place = shown_place s m; values = shown_props s m }

blank_is : (s : Scene) (c : ℤ) (m : SpawnMsg) (x : Making) → IsMaking s m x → spawned_node s (joined x.under m.name) c m.net m.syncs x.place ≡ shown_blank s c m
blank_is s c m x h = ap₂ {C = Live} (λ (u : List ℕ) (place : Option ℕ). record { auth = c; num = m.net; ids = m.syncs; path = joined u m.name; place = place; values = props_in (option_and_then (scene_at s) place) }) h.under (sym h.place)

-- the node of a spawn with its values
pub shown_put : (s : Scene) → IsValidScene s → (c : ℤ) (m : SpawnMsg) (nodes : List Live) → is_some (live_at nodes (shown_path s m)) ≡ false
    → assigned_all (shown_path s m) (zip (shown_spawn_props s m) m.values) (argument_assigned (shown_path s m) (custom_prop s m.spawner) m.arg (put_by row_before (shown_blank s c m) nodes)) ≡ put_by row_before (shown_node s c m) nodes
shown_put s v c m nodes free =
    let path = shown_path s m in
    let blank = shown_blank s c m in
    let name = custom_prop s m.spawner in
    let apart = place_props_apart s v (shown_place s m) in
    let none = none_from (live_at nodes path) free in
    ap (assigned_all path (zip (shown_spawn_props s m) m.values)) (argument_put name m.arg blank nodes none apart)
    ∙ assigned_all_put (zip (shown_spawn_props s m) m.values) (with_values blank (assign_argument name m.arg blank.values)) nodes none (argument_apart name m.arg blank.values apart)

-- the same, as the calls tell it
pub spawn_put : (t t1 t2 t3 : TreeOf) → IsValidScene t.scene → (c : ℤ) (m : SpawnMsg) (x : Making) (props : List (List ℕ)) → IsMaking t.scene m x → is_some (live_at t.nodes (shown_path t.scene m)) ≡ false → props ≡ x.props
    → t1 ≡ record t { nodes = put_by row_before (spawned_node t.scene (joined x.under m.name) c m.net m.syncs x.place) t.nodes }
    → t2 ≡ record t1 { nodes = argument_assigned x.path x.argument m.arg t1.nodes }
    → t3 ≡ record t2 { nodes = assigned_all x.path (zip props m.values) t2.nodes }
    → t3 ≡ record t { nodes = put_by row_before (shown_node t.scene c m) t.nodes }
spawn_put t t1 t2 t3 v c m x props h free listed e1 e2 e3 =
    let all : List ℕ → List (List ℕ) → Option (List ℕ) → Live → TreeOf = λ path ps name n. record t { nodes = assigned_all path (zip ps m.values) (argument_assigned path name m.arg (put_by row_before n t.nodes)) } in
    e3 ∙ ap (λ (u : TreeOf). record u { nodes = assigned_all x.path (zip props m.values) u.nodes }) (e2 ∙ ap (λ (u : TreeOf). record u { nodes = argument_assigned x.path x.argument m.arg u.nodes }) e1)
    ∙ ap (λ ps. all x.path ps x.argument (spawned_node t.scene (joined x.under m.name) c m.net m.syncs x.place)) (listed ∙ h.props)
    ∙ ap (λ path. all path (shown_spawn_props t.scene m) x.argument (spawned_node t.scene (joined x.under m.name) c m.net m.syncs x.place)) h.path
    ∙ ap₂ (λ name n. all (shown_path t.scene m) (shown_spawn_props t.scene m) name n) h.argument (blank_is t.scene c m x h)
    ∙ ap (λ ns. record t { nodes = ns }) (shown_put t.scene v c m t.nodes free)
