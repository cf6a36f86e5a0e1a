use Rattle.std.proofs.Common.{arith}
use Rattle.sound_check.proofs.Distinct.{seen_on, seen_stops}
use Rattle.sound_check.proofs.keys.are_distinct.Goals as goal

pub bounds-pairs-at : goal.bounds-pairs-at
bounds-pairs-at c = omega (arith, c.loop-at.invariant.within)

pub split_at-requires-in-loop-at : goal.split_at-requires-in-loop-at
split_at-requires-in-loop-at c = omega (arith, c.loop-at.invariant.within)

pub loop-at-preserved : goal.loop-at-preserved
loop-at-preserved c =
    seen_on c.loop-at.seen c.is_fresh.new.seen c.loop-at.later.now c.split_at-in-loop-at.result.1.now c.args.pairs.now c.loop-at.at _ c.index-pairs-at.result c.in_ok-is_fresh.field-0 (omega arith) c.index-pairs-at.is c.split_at-in-loop-at.ensures.back
    c.in_ok-is_fresh.ensures.keeps c.in_ok-is_fresh.ensures.adds c.in_ok-is_fresh.ensures.fresh c.if-not-branch.false c.loop-at.invariant

pub returns-then-not-branch : goal.returns-then-not-branch
returns-then-not-branch c =
    seen_stops c.loop-at.seen c.loop-at.later.now c.args.pairs.now c.loop-at.at _ c.index-pairs-at.result c.in_ok-is_fresh.field-0 (omega arith) c.index-pairs-at.is c.in_ok-is_fresh.ensures.fresh c.if-not-branch.true c.loop-at.invariant
