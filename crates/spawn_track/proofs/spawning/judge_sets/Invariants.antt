use Rattle.std.proofs.Common.{◌≡◌, drop}
use Rattle.peer_steps.specs.Sites.{sets_judged}
use Rattle.spawn_track.proofs.spawning.judge_sets.Given as goal

abbrev pub invariant-loop-set : goal.invariant-loop-set
invariant-loop-set l = sets_judged l.props (drop l.set-index l.sets) ≡ sets_judged l.props l.sets
