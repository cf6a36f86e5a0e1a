use Rattle.std.specs.Prelude.{slice_get}
use Rattle.spawn_track.proofs.SeenSyncs.{row_on}
use Rattle.spawn_track.proofs.seeing.push_row.Goals as goal

pub loop-k-preserved : goal.loop-k-preserved
loop-k-preserved c = row_on c.args.peer.now c.args.row.now.path c.args.row.now.ids (slice_get c.args.sights.now.rows c.args.place) c.loop-k.k c.args.syncs.now c.loop-k.syncs c.push_seen.new.syncs c.sees_sync.result c.loop-k.invariant c.sees_sync.ensures c.in_ok-push_seen.ensures
