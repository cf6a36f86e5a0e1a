use Rattle.std.proofs.Common.{◌≡◌, ◌++◌, drop}
use Rattle.peer_steps.specs.Tellings.{fixed_seen}
use Rattle.spawn_track.proofs.seeing.push_all_fixed.Given as goal

abbrev pub invariant-loop-place : goal.invariant-loop-place
invariant-loop-place l = l.syncs ++ fixed_seen l.peer l.tree.scene (drop l.place l.sights.fixed) ≡ l.fn.syncs ++ fixed_seen l.peer l.tree.scene l.sights.fixed
