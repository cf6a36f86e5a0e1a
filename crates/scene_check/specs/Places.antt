-- Texts with their places in a list, kept sorted.
use Rattle.std.specs.Prelude.{◌≡◌, ◌≢◌, ℕ, ◌<◌, ◌≤◌, nat_lt, Bool, false, List, [], ◌∷◌, map, length, slice_get, All, Contains, Option, Some, None, option_map, option_and_then}
use Rattle.std.specs.declared.cmp.Ordering.{Ordering}
use Rattle.std.specs.Ordering.{nat_cmp, ordering_then}
use Rattle.std.specs.Cmp.Lexicographic.{slice_cmp}
use Rattle.std.specs.List.Sorted.{IsSorted}
use denote.Ref.{Bor}
use Rattle.scene_model.specs.declared.scene.Node.{Node}
use Rattle.scene_model.specs.declared.scene.SceneDef.{SceneDef}
use Rattle.scene_model.specs.declared.scene.SpawnerDef.{SpawnerDef}
use Rattle.scene_model.specs.declared.scene.SyncDef.{SyncDef}
use Rattle.scene_model.specs.declared.scene.SyncProp.{SyncProp}
use Rattle.scene_model.specs.declared.scene.Method.{Method}
use Rattle.scene_check.specs.declared.places.Listing.{Listing}
use Rattle.scene_check.specs.declared.places.Listing.TheVariants.{Paths, Unders, Targets, Scenes, Methods}
use Rattle.scene_model.specs.Lookup.{spawner_of, sync_of}

-- the node below which a spawner spawns
abbrev pub under_of : Node → Option (List ℕ)
under_of n = option_map (λ (d : SpawnerDef). d.under) (spawner_of n)

-- a text, where a list has something in it
abbrev pub if_any : List SyncProp → List ℕ → Option (List ℕ)
if_any [] t = None
if_any (p ∷ ps) t = Some t

-- the node that a synchronizer with properties serves
abbrev pub target_of : Node → Option (List ℕ)
target_of n = option_and_then (λ (d : SyncDef). if_any d.props d.of) (sync_of n)

-- the texts by which the entries of a list are looked up: nodes by their paths
abbrev pub path_texts : List Node → List (Option (List ℕ))
path_texts nodes = map (λ (n : Node). Some n.path) nodes

-- scenes by their names
abbrev pub scene_texts : List SceneDef → List (Option (List ℕ))
scene_texts scenes = map (λ (d : SceneDef). Some d.name) scenes

-- methods by theirs
abbrev pub method_texts : List Method → List (Option (List ℕ))
method_texts methods = map (λ (m : Method). Some m.name) methods

-- the text of each entry, where it has one
abbrev pub texts_of : Listing → List (Option (List ℕ))
texts_of (Paths nodes) = path_texts nodes.now
texts_of (Unders nodes) = map under_of nodes.now
texts_of (Targets nodes) = map target_of nodes.now
texts_of (Scenes scenes) = scene_texts scenes.now
texts_of (Methods methods) = method_texts methods.now

-- a text and its place, as the sorted list has them
abbrev pub Place : Type 0
Place = Bor (List ℕ) × ℕ

-- a text with this place, where there is one
abbrev pub place_of : Option (Bor (List ℕ)) → ℕ → List Place
place_of None at = []
place_of (Some text) at = (text, at) ∷ []

-- by text, then by place
abbrev pub place_cmp : Place → Place → Ordering
place_cmp p q = ordering_then (slice_cmp nat_cmp p.0.now q.0.now) (nat_cmp p.1 q.1)

-- what stands in a list at a place
abbrev pub plain_place : Place → List ℕ × ℕ
plain_place p = (p.0.now, p.1)

-- the places of all texts of a list's front, in any order
pub record AreGathered (places : List Place) (texts : List (Option (List ℕ))) (front : ℕ) : Type 0 where
  pub few : length places ≤ front
  pub here : All (λ p. (p.1 < front) × (slice_get texts p.1 ≡ Some (Some p.0.now))) places
  pub all : (text : List ℕ) (at : ℕ) → at < front → slice_get texts at ≡ Some (Some text) → Contains (map plain_place places) (text, at)

-- the places of all texts of a list, sorted
pub record ArePlaces (places : List Place) (texts : List (Option (List ℕ))) : Type 0 where
  pub sorted : IsSorted place_cmp places
  pub here : All (λ p. slice_get texts p.1 ≡ Some (Some p.0.now)) places
  pub all : (text : List ℕ) (at : ℕ) → slice_get texts at ≡ Some (Some text) → Contains (map plain_place places) (text, at)

-- the first place from a number on at which a text stands
pub record IsFirstFrom (text : List ℕ) (from : ℕ) (texts : List (Option (List ℕ))) (at : ℕ) : Type 0 where
  pub from_on : from ≤ at
  pub here : slice_get texts at ≡ Some (Some text)
  pub not_before : (k : ℕ) → from ≤ k → k < at → slice_get texts k ≢ Some (Some text)

-- that place, or none where the text stands nowhere from there on
abbrev pub IsNext : List ℕ → ℕ → List (Option (List ℕ)) → Option ℕ → Type 0
IsNext text from texts None = (k : ℕ) → from ≤ k → slice_get texts k ≢ Some (Some text)
IsNext text from texts (Some at) = IsFirstFrom text from texts at

-- whether that place is before another
abbrev pub is_below : ℕ → Option ℕ → Bool
is_below i None = false
is_below i (Some at) = nat_lt at i
