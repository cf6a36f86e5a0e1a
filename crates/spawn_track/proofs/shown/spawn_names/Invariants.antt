use Rattle.std.proofs.Common.{◌≡◌, take}
use Rattle.peer_model.specs.Updates.{all_spawn_props}
use Rattle.spawn_track.proofs.shown.spawn_names.Given as goal

abbrev pub invariant-loop-def : goal.invariant-loop-def
invariant-loop-def l = l.names ≡ all_spawn_props (take l.def-index l.defs)
