-- A scene that can be spawned has few synchronizers and spawn properties.
use Rattle.std.proofs.Common.{◌≡◌, ℕ, ◌≤◌, Bool, true, false, not, ◌&&◌, ◌||◌, List, [], ◌∷◌, refl, ◌∙◌, length, filter, Option, Some, None, arith}
use Rattle.std.specs.Prelude.{flat_map, nat_le, nat_lt}
use Rattle.std.specs.List.{list_any, list_all}
use Rattle.std.proofs.lemmas.Bool.{le-leb, leb-true, ltb-false, and_parts, and_from, or_parts}
use Rattle.std.proofs.lemmas.List.{length-append, length-map}
use Rattle.gd_variant.specs.Words.{has_text}
use Rattle.scene_model.specs.declared.scene.Scene.{Scene}
use Rattle.scene_model.specs.declared.scene.SceneDef.{SceneDef}
use Rattle.scene_model.specs.declared.scene.SyncDef.{SyncDef}
use Rattle.scene_model.specs.declared.scene.SyncProp.{SyncProp}
use Rattle.scene_model.specs.declared.scene.Prop.{Prop}
use Rattle.scene_model.specs.Lookup.{prop_names, scene_at}
use Rattle.scene_model.specs.Syncs.{spawn_props}
use Rattle.scene_model.specs.Valid.{IsValidScene, has_twice, most_entries, scene_why, synced, names_no_prop}
use Rattle.scene_model.proofs.ListLaws.{any-map, any-flat_map, any_ext}
use Rattle.peer_model.specs.Rows.{syncs_at}
use Rattle.peer_model.specs.Updates.{all_spawn_props}
use Rattle.headless_tree.proofs.Numbered.{all_at}
use Rattle.peer_laws.proofs.Scenes.{IsRightDef, right_def, all_right, scenes_right}
use Rattle.peer_core.proofs.Distinct.{some_outside, distinct_few}
use Rattle.peer_laws.proofs.Filters.{kept_length}

joined_few : {X Y : Type 0} (f g : X → List Y) → ((x : X) → length (f x) ≤ length (g x)) → (xs : List X) → length (flat_map f xs) ≤ length (flat_map g xs)
joined_few f g each [] = omega arith
joined_few f g each (x ∷ xs) = omega (arith, each x, joined_few f g each xs, length-append (f x) (flat_map f xs), length-append (g x) (flat_map g xs))

spawn_props_few : (d : SyncDef) → length (spawn_props d) ≤ length (synced d)
spawn_props_few d = omega (
  arith,
  length-map (filter (λ (p : SyncProp). p.spawn) d.props) (λ (p : SyncProp). p.prop),
  length-map d.props (λ (p : SyncProp). p.prop),
  kept_length (λ (p : SyncProp). p.spawn) d.props,
)

-- the properties that synchronizers name are those of their scene
all_inside : (props : List Prop) (ds : List SyncDef) → list_any (names_no_prop props) ds ≡ false → some_outside (prop_names props) (flat_map synced ds) ≡ false
all_inside props ds h =
    let outside = λ (t : List ℕ). not (has_text t (prop_names props)) in
    any-flat_map outside synced ds
    ∙ any_ext (λ (d : SyncDef). list_any outside (synced d)) (names_no_prop props) (λ d. any-map outside (λ (p : SyncProp). p.prop) d.props) ds
    ∙ h

-- whether a scene has at most 64 spawn properties and 8 synchronizers
abbrev pub is_small : SceneDef → Bool
is_small d = nat_le (length (all_spawn_props d.syncs)) 64 && nat_le (length d.syncs) 8

-- the second and the fourth of four tests of which none holds
few_rows : (a b c d : Bool) → (a || b || c || d) ≡ false → (b ≡ false) × (d ≡ false)
few_rows a b c d h =
    let last = or_parts (a || b || c) d h in
    let third = or_parts (a || b) c last.0 in
    ((or_parts a b third.0).1, last.1)

def_small : (earlier : List SceneDef) (d : SceneDef) → IsRightDef earlier d → is_small d ≡ true
def_small earlier d r =
    let rows = few_rows (nat_le most_entries (length earlier)) (nat_lt 64 (length d.props)) (nat_lt 4096 (length d.methods)) (nat_lt 8 (length d.syncs)) r.few in
    let apart = or_parts (has_twice (prop_names d.props)) (has_twice (flat_map synced d.syncs)) r.props in
    let props = ltb-false 64 (length d.props) rows.0 in
    let syncs = ltb-false 8 (length d.syncs) rows.1 in
    let names = distinct_few (prop_names d.props) (flat_map synced d.syncs) apart.1 (all_inside d.props d.syncs r.named) in
    let few = joined_few spawn_props synced spawn_props_few d.syncs in
    and_from (nat_le (length (all_spawn_props d.syncs)) 64) (nat_le (length d.syncs) 8)
    (le-leb (length (all_spawn_props d.syncs)) 64 (omega (arith, props, names, few, length-map d.props (λ (p : Prop). p.name))))
    (le-leb (length d.syncs) 8 syncs)

all_small : (s : Scene) → IsValidScene s → list_all is_small s.scenes ≡ true
all_small s v = all_right scene_why is_small (λ earlier d h. def_small earlier d (right_def earlier d h)) [] s.scenes (scenes_right s v)

-- at any place there are at most so many
pub record AreFew (ds : List SyncDef) : Type 0 where
  pub syncs : length ds ≤ 8
  pub props : length (all_spawn_props ds) ≤ 64

pub few_at : (s : Scene) → IsValidScene s → (place : ℕ) → AreFew (syncs_at s (Some place))
few_at s v place = by (scene_at s place) refl
  where
    small : (d : SceneDef) → is_small d ≡ true → AreFew d.syncs
    small d h =
        let p = and_parts (nat_le (length (all_spawn_props d.syncs)) 64) (nat_le (length d.syncs) 8) h in
        record { syncs = leb-true (length d.syncs) 8 p.1; props = leb-true (length (all_spawn_props d.syncs)) 64 p.0 }

    by : (o : Option SceneDef) → scene_at s place ≡ o → AreFew (syncs_at s (Some place))
    by None e = rw e (record { syncs = omega arith; props = omega arith })
    by (Some d) e = rw e (small d (all_at is_small s.scenes place d e (all_small s v)))
