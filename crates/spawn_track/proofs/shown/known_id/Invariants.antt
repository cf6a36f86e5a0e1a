use Rattle.std.proofs.Common.{◌≡◌, [], ◌∷◌, drop}
use Rattle.peer_steps.proofs.Knowns.{first_new, new_for}
use Rattle.spawn_track.proofs.shown.known_id.Given as goal

abbrev pub invariant-loop-id : goal.invariant-loop-id
invariant-loop-id l = first_new (new_for l.from l.tree.nodes) l.seen.keys (drop l.id-index l.ids) ≡ first_new (new_for l.from l.tree.nodes) [] (l.spawn.net ∷ l.spawn.syncs)
