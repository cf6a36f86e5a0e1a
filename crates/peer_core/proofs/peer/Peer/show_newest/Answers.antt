use Rattle.std.proofs.Common.{ap, ◌∙◌}
use Rattle.peer_steps.specs.Kept.{Kept}
use Rattle.peer_steps.specs.Rights.{is_right_row}
use Rattle.peer_core.proofs.Taken.{one_right}
use Rattle.peer_core.proofs.peer.Peer.show_newest.Goals as goal

pub show_to_each-requires-clause-row : goal.show_to_each-requires-clause-row
show_to_each-requires-clause-row c = one_right (is_right_row c.self.inside.tree.scene) c.rows.result.now c.self.inside.track.rows _ c.in-Some.row.now c.in-Some.ensures.value c.rows.ensures (c.self.invariant (ap (λ (k : Kept). k.spent) c.self.view_is ∙ c.requires)).fits.rows
