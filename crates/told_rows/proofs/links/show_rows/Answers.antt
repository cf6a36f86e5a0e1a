use Rattle.told_rows.proofs.Steps.{rows_on}
use Rattle.told_rows.proofs.links.show_rows.Goals as goal

pub loop-place-preserved : goal.loop-place-preserved
loop-place-preserved c = rows_on c.args.tree.now.scene c.args.tree.now.nodes c.args.peer.now c.args.track.now.rows c.args.track.now.sights.rows c.loop-place.place c.loop-place.told c.show_seen.new.told _ c.loop-place.invariant c.in_ok-show_seen.ensures
