use Rattle.std.proofs.Common.{ap, sym, ◌∙◌, map}
use Rattle.gd_variant.specs.Tree.{plain, plain_pair}
use Rattle.variant_codec.specs.Reading.{value_at, pair_by}
use Rattle.variant_codec.proofs.KnownKeys.{known_more, known_push, at_slice}
use Rattle.variant_codec.proofs.Loop.{goes_on_seen}
use Rattle.variant_codec.proofs.reading.+reading.Goals as goal

pub items_of-loop-preserved : goal.items_of-loop-preserved
items_of-loop-preserved t c =
    goes_on_seen plain (λ _. value_at c.args.levels) c.loop.items c.push.new.self c.args.count c.loop.counter c.loop.rest.now c.in_ok-item.item c.in_ok-item.after.now c.args.bytes.now c.loop-test.true c.in_ok-item.ensures c.in_ok-push.ensures.ok c.loop.invariant

pub few_pairs_of-loop-preserved : goal.few_pairs_of-loop-preserved
few_pairs_of-loop-preserved t c =
    goes_on_seen plain_pair (pair_by (value_at c.args.levels)) c.loop.items c.push.new.self c.args.count c.loop.counter c.loop.rest.now c.in_ok-item.item c.in_ok-item.after.now c.args.bytes.now c.loop-test.true
    (ap (λ ps. pair_by (value_at c.args.levels) (map plain_pair ps) c.loop.rest.now) (sym c.as_slice.ensures) ∙ c.in_ok-item.ensures) c.in_ok-push.ensures.ok c.loop.invariant

pub fresh_pair_of-returns-clause-knows : goal.fresh_pair_of-returns-clause-knows
fresh_pair_of-returns-clause-knows t c = λ known.
    known_more c.args.seen.now c.fresh_key_of.new.seen (map plain_pair c.args.before.now) _ c.in_ok-key.ensures.keeps c.in_ok-key.ensures.adds known

pub many_pairs_of-loop-preserved : goal.many_pairs_of-loop-preserved
many_pairs_of-loop-preserved t c =
    let known = at_slice c.loop.seen c.loop.items c.as_slice.result.now c.as_slice.ensures c.loop.invariant.known in
    record {
      reads =
          goes_on_seen plain_pair (pair_by (value_at c.args.levels)) c.loop.items c.push.new.self c.args.count c.loop.counter c.loop.rest.now c.in_ok-item.item c.in_ok-item.after.now c.args.bytes.now c.loop-test.true
          (ap (λ ps. pair_by (value_at c.args.levels) (map plain_pair ps) c.loop.rest.now) (sym c.as_slice.ensures) ∙ c.in_ok-item.ensures.gives known) c.in_ok-push.ensures.ok c.loop.invariant.reads;
      known = known_push c.fresh_pair_of.new.seen c.loop.items c.push.new.self c.as_slice.result.now c.in_ok-item.item c.as_slice.ensures c.in_ok-push.ensures.ok (c.in_ok-item.ensures.knows known);
    }
