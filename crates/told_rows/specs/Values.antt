-- Values that a peer has at first.
use Rattle.std.specs.Prelude.{Bool, ◌&&◌, ℕ, List, option_and_then}
use Rattle.std.specs.List.{list_any}
use Rattle.gd_variant.specs.Words.{or_else, first_some, text_eq}
use Rattle.gd_variant.specs.declared.value.Variant.{Variant}
use Rattle.gd_variant.specs.declared.value.Variant.TheVariants.{Nil}
use Rattle.scene_model.specs.declared.scene.Scene.{Scene}
use Rattle.scene_model.specs.declared.scene.Node.{Node}
use Rattle.scene_model.specs.declared.scene.SyncProp.{SyncProp}
use Rattle.scene_model.specs.Lookup.{fixed_node, scene_at, value_in}
use Rattle.scene_model.specs.Nodes.{props_in}
use Rattle.peer_steps.specs.declared.rows.SpawnedRow.{SpawnedRow}
use Rattle.peer_steps.specs.Tellings.{argument_for}

-- the value with which a property of the fixed node at a path begins
abbrev pub default_in : Scene → List ℕ → List ℕ → Variant
default_in s path prop = or_else (option_and_then (λ (n : Node). value_in n.props prop) (fixed_node s path)) Nil

-- whether a property of this name goes out with a spawn
abbrev pub goes_out : List ℕ → List SyncProp → Bool
goes_out name props = list_any (λ (p : SyncProp). p.spawn && text_eq name p.prop) props

-- of a property that doesn't: the argument, else the scene's
abbrev pub other_value : Scene → SpawnedRow → List ℕ → Variant
other_value s r p = or_else (first_some (argument_for s r p) (value_in (props_in (scene_at s r.place)) p)) Nil
