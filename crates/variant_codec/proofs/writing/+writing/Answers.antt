use Rattle.std.proofs.Common.{false, ap, sym, ◌∙◌}
use Rattle.gd_variant.specs.declared.value.Variant.TheVariants.{Dict}
use Rattle.gd_variant.specs.Tree.{plains, plain_pairs}
use Rattle.variant_codec.specs.Header.{header}
use Rattle.variant_codec.specs.Written.{written_all}
use Rattle.variant_codec.proofs.Puts.{item_more, pair_more, count_plains, half_of_pairs, counted, dict_put}
use Rattle.variant_codec.proofs.writing.+writing.Goals as goal

pub put_items-loop-item-preserved : goal.put_items-loop-item-preserved
put_items-loop-item-preserved t c =
    item_more c.args.items.now c.loop-item.item-index c.item-item.result c.args.out.now.items c.loop-item.out.items c.put.new.out.items c.loop-item-test.true c.item-item.is c.loop-item.invariant c.in_ok-put.ensures

pub put_pairs-loop-pair-preserved : goal.put_pairs-loop-pair-preserved
put_pairs-loop-pair-preserved t c =
    pair_more c.args.pairs.now c.loop-pair.pair-index c.pair-item.result c.args.out.now.items c.loop-pair.out.items c.put.new.out.items c.put-in-loop-pair.new.out.items c.loop-pair-test.true c.pair-item.is
    c.loop-pair.invariant c.in_ok-put.ensures c.in_ok-put-2.ensures

pub put_array-returns : goal.put_array-returns
put_array-returns t c =
    counted c.put_items.result _ _ c.args.out.now.items c.put_header.new.out.items c.put_count.new.out.items c.put_items.new.out.items (header 28 false) (written_all (plains c.args.items.now))
    c.in_ok-put_header.ensures c.in_ok-put_count.ensures (sym (count_plains c.args.items.now)) c.put_items.ensures

pub put_dict-returns : goal.put_dict-returns
put_dict-returns t c =
    counted c.put_pairs.result _ _ c.args.out.now.items c.put_header.new.out.items c.put_count.new.out.items c.put_pairs.new.out.items (header 27 false) (written_all (plain_pairs c.args.pairs.now))
    c.in_ok-put_header.ensures c.in_ok-put_count.ensures (half_of_pairs c.args.pairs.now) c.put_pairs.ensures

pub put-returns-in-Dict : goal.put-returns-in-Dict
put-returns-in-Dict t c =
    dict_put c.put_dict.result c.args.value.now c.as_slice-in-Dict.result.now c.args.out.now.items c.put_dict.new.out.items (c.in-Dict.is ∙ ap Dict (sym c.as_slice-in-Dict.ensures)) c.put_dict.ensures
