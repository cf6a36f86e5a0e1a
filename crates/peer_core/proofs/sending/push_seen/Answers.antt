use Rattle.peer_steps.specs.Rights.{is_right_row}
use Rattle.peer_core.proofs.Taken.{seen_right}
use Rattle.peer_core.proofs.sending.push_seen.Goals as goal

pub push_shown-requires-clause-row : goal.push_shown-requires-clause-row
push_shown-requires-clause-row c = seen_right (is_right_row c.args.tree.now.scene) c.args.peer.now c.args.place c.args.track.now c.in-Some.row.now c.in-Some.ensures c.requires.rows
