use Rattle.std.proofs.Common.{rules}
use Rattle.hub_callers.proofs.Own.{shuffled, none_lost}
use Rattle.hub_callers.proofs.serving.close_both.Goals as goal

pub returns : goal.returns
returns c = λ v w es fs vm wm vn wn s t.
    let j = c.close.result.1.entries.items in
    let sh = shuffled c.args.whole v w c.args.first c.args.second c.meet.new.seat c.meet-2.new.seat j es fs c.requires.none.0 c.requires.none.1 vm wm vn wn s t c.meet.ensures.met c.meet-2.ensures.met c.close.ensures.seen c.close.ensures.places in (
      sh,
      c.close.ensures.stands (none_lost j es fs sh),
    )
