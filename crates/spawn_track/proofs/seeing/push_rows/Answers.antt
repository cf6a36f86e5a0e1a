use Rattle.spawn_track.proofs.SeenSyncs.{rows_on}
use Rattle.spawn_track.proofs.seeing.push_rows.Goals as goal

pub loop-place-preserved : goal.loop-place-preserved
loop-place-preserved c = rows_on c.args.peer.now c.args.rows.now c.args.sights.now.rows c.loop-place.place c.index-rows-place.result c.args.syncs.now c.loop-place.syncs c.push_row.new.syncs c.loop-place-test.true c.index-rows-place.is c.loop-place.invariant c.in_ok-push_row.ensures
