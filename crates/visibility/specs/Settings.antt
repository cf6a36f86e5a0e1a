-- What settings of visibility make.
use Rattle.std.specs.Prelude.{◌≡◌, ℕ, ℤ, Bool, true, false, List, [], ◌∷◌, Option, Some, None, Result, Ok, Err, if◌then◌else◌}
use Rattle.std.specs.Ordering.{int_eq}
use Rattle.gd_variant.specs.Words.{text_eq}
use Rattle.scene_model.specs.declared.scene.Node.{Node}
use Rattle.scene_model.specs.declared.scene.SyncDef.{SyncDef}
use Rattle.scene_model.specs.Lookup.{sync_of}
use Rattle.sight_laws.specs.Sights.{Setting, Sight, FixedSight, first_sight, is_visible}
use Rattle.peer_steps.specs.Track.{SightChange}
use Rattle.peer_steps.specs.Steps.{public_change, for_change, filter_change}
use Rattle.visibility.specs.declared.setting.VisSetting.{VisSetting}
use Rattle.visibility.specs.declared.setting.VisSetting.TheVariants.{Public, For, Filter}
use Rattle.visibility.specs.declared.vis.VisNo.{VisNo}
use Rattle.visibility.specs.declared.vis.VisNo.TheVariants.{VisFull, OutOfMemory}

-- what a setting makes of who sees a synchronizer, and whether there is no room for it
abbrev pub change_of : VisSetting → SightChange
change_of (Public on) = public_change on
change_of (For b on) = for_change b on
change_of (Filter peers) = filter_change peers

-- a peer and what was set for it, as a setting
abbrev pub kept_setting : ℤ × Bool → Setting
kept_setting e = record { peer = e.0; on = e.1 }

-- a setting is made, or there is no room for it and nothing changes
abbrev pub Makes : Bool → Sight → Sight → Result (Unit {0}) VisNo → Sight → Type 0
Makes full made old (Ok u) new = (full ≡ false) × (new ≡ made)
Makes full made old (Err VisFull) new = (full ≡ true) × (new ≡ old)
Makes full made old (Err OutOfMemory) new = full ≡ false

-- a fixed synchronizer with a setting, where it is the one at a path
abbrev pub fixed_set : List ℕ → (Sight → Sight) → FixedSight → FixedSight
fixed_set path f x = if text_eq x.path path then record x { sight = f x.sight } else x

-- the fixed synchronizer that a node of a scene is, where this peer is its authority
abbrev pub fixed_from : ℤ → Node → List FixedSight
fixed_from me n = kept (int_eq n.auth me) (sync_of n)
  where
    kept : Bool → Option SyncDef → List FixedSight
    kept true (Some d) = record { path = n.path; sight = first_sight d } ∷ []
    kept b o = []

-- the path of a fixed synchronizer that a peer may see
abbrev pub path_seen : ℤ → Option FixedSight → Option (List ℕ)
path_seen b None = None
path_seen b (Some x) = if is_visible x.sight b then Some x.path else None
