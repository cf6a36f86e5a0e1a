use Rattle.spawn_track.proofs.SeenSyncs.{fixed_on}
use Rattle.spawn_track.proofs.seeing.push_all_fixed.Goals as goal

pub loop-place-preserved : goal.loop-place-preserved
loop-place-preserved c = fixed_on c.args.peer.now c.args.tree.now.scene c.args.sights.now.fixed c.loop-place.place c.args.syncs.now c.loop-place.syncs c.push_fixed.new.syncs _ c.loop-place.invariant c.fixed_seen.ensures c.in_ok-push_fixed.ensures
