use Rattle.std.proofs.Common.{◌≡◌, take}
use Rattle.peer_model.specs.Updates.{all_spawn_props}
use Rattle.peer_laws.specs.Shown.{values_in}
use Rattle.peer_core.proofs.sending.spawn_values.Given as goal

abbrev pub invariant-loop-def : goal.invariant-loop-def
invariant-loop-def l = l.values ≡ values_in l.tree.nodes l.path (all_spawn_props (take l.def-index l.defs))
