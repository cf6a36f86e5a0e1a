use Rattle.std.proofs.Common.{ap, ◌∙◌}
use Rattle.peer_steps.specs.Kept.{Kept}
use Rattle.peer_steps.specs.Rights.{is_right_row}
use Rattle.peer_core.proofs.Taken.{at_right, told_here}
use Rattle.peer_core.proofs.peer.Peer.tell_shifts.Goals as goal

pub shift_row-requires-clause-row : goal.shift_row-requires-clause-row
shift_row-requires-clause-row c = at_right (is_right_row c.self.inside.tree.scene) c.self.inside.tree.nodes c.args.path.now c.self.inside.track.rows c.in-Some.row.now c.in-Some.ensures (c.self.invariant (ap (λ (k : Kept). k.spent) c.self.view_is ∙ c.requires)).fits.rows

pub returns-in_ok-packets-in-Some : goal.returns-in_ok-packets-in-Some
returns-in_ok-packets-in-Some c = told_here c.args.self.now c.self.inside.spent c.self.inside.peers c.self.inside.tree c.self.inside.track c.self.inside.told c.args.path.now c.in-Some.row.now c.args.before.now c.shown-after.result.now c.up_now.result.now c.in_ok-packets-in-Some.packets c.done.result
    c.self.view_is c.in-Some.ensures c.shown-after.ensures c.up_now.ensures c.in_ok-packets-in-Some.ensures c.done.ensures
