use Rattle.std.proofs.Common.{◌≡◌, take}
use Rattle.peer_steps.specs.Sites.{with_settings}
use Rattle.spawn_track.proofs.making.put_sets.Given as goal

abbrev pub invariant-loop-set : goal.invariant-loop-set
invariant-loop-set l = l.tree ≡ record l.initial.tree { nodes = with_settings l.path (take l.set-index l.sets) l.initial.tree.nodes }
