use Rattle.std.proofs.Common.{sym, ◌∙◌, ◌∷◌, arith}
use Rattle.peer_steps.proofs.Knowns.{known_here, known_there, known_nowhere}
use Rattle.spawn_track.proofs.shown.known_id.Goals as goal

pub returns-then-is_known : goal.returns-then-is_known
returns-then-is_known c = known_here c.args.from.now c.args.tree.now.nodes c.args.spawn.now.net c.args.spawn.now.syncs (sym c.if-is_known.true ∙ c.is_known.ensures)

pub returns-then-is_seen : goal.returns-then-is_seen
returns-then-is_seen c = known_there c.args.from.now c.args.tree.now.nodes c.loop-id.seen.keys c.as_slice-ids.result.now (c.args.spawn.now.net ∷ c.args.spawn.now.syncs) c.loop-id.id-index c.loop-id-test.true c.loop-id.invariant (sym c.is_seen.ensures ∙ c.if-is_seen.true)

pub returns : goal.returns
returns c = known_nowhere c.args.from.now c.args.tree.now.nodes c.loop-id.seen.keys c.as_slice-ids.result.now (c.args.spawn.now.net ∷ c.args.spawn.now.syncs) c.loop-id.id-index (omega (arith, c.loop-id-test.false)) c.loop-id.invariant
