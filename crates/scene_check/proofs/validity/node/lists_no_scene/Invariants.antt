use Rattle.std.proofs.Common.{◌≡◌, false, take}
use Rattle.std.specs.Prelude.{is_none}
use Rattle.std.specs.List.{list_any}
use Rattle.scene_model.specs.Lookup.{scene_named}
use Rattle.scene_check.proofs.validity.node.lists_no_scene.Given as goal

-- each name so far is a scene's
abbrev pub invariant-loop-name : goal.invariant-loop-name
invariant-loop-name l = list_any (λ name. is_none (scene_named l.index.scene.now name)) (take l.name-index l.names) ≡ false
