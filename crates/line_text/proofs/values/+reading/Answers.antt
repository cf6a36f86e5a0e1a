use Rattle.std.proofs.Common.{Err, sym, ap, ◌∙◌, arith}
use Rattle.serde_json.specs.View.{items_view}
use Rattle.std.proofs.lemmas.Result.{err_from_is_err_and}
use Rattle.line_text.specs.Values.{form_read, pair_read}
use Rattle.line_text.proofs.Each.{reads_all, reads_fail, reads_on, reads_start}
use Rattle.line_text.proofs.Forms.{entry_one, entry_two, entry_three, forms_all, forms_are, keys_many, pair_is, pairs_all, pairs_are}
use Rattle.line_text.proofs.Steps.{fails_first}
use Rattle.line_text.proofs.values.+reading.Goals as goal

pub forms_of-loop-item-init : goal.forms_of-loop-item-init
forms_of-loop-item-init t c = reads_start form_read c.new-all.result c.args.items.now c.new-all.ensures

pub forms_of-returns-in_err-value : goal.forms_of-returns-in_err-value
forms_of-returns-in_err-value t c =
    let p = err_from_is_err_and c.from_residual.result c.from_residual.ensures.1 in
    rw (p.1, p.2, sym (forms_are (items_view c.args.items.now))) (reads_fail c.in_err-value.field-0.0 form_read c.loop-item.all c.args.items.now c.loop-item.item-index c.item-item.result c.loop-item-test.true c.item-item.is c.in_err-value.ensures c.loop-item.invariant)

pub forms_of-loop-item-preserved : goal.forms_of-loop-item-preserved
forms_of-loop-item-preserved t c =
    reads_on form_read c.loop-item.all c.push.new.self c.args.items.now c.loop-item.item-index c.item-item.result c.in_ok-value.value c.loop-item-test.true c.item-item.is c.in_ok-value.ensures c.in_ok-push.ensures.ok c.loop-item.invariant

pub entries_of-loop-item-init : goal.entries_of-loop-item-init
entries_of-loop-item-init t c = reads_start pair_read c.new-all.result c.args.items.now c.new-all.ensures

pub entries_of-returns-in_err-pair : goal.entries_of-returns-in_err-pair
entries_of-returns-in_err-pair t c =
    let p = err_from_is_err_and c.from_residual.result c.from_residual.ensures.1 in
    rw (p.1, p.2, sym (pairs_are (items_view c.args.items.now))) (reads_fail c.in_err-pair.field-0.0 pair_read c.loop-item.all c.args.items.now c.loop-item.item-index c.item-item.result c.loop-item-test.true c.item-item.is c.in_err-pair.ensures c.loop-item.invariant)

pub entries_of-loop-item-preserved : goal.entries_of-loop-item-preserved
entries_of-loop-item-preserved t c =
    reads_on pair_read c.loop-item.all c.push.new.self c.args.items.now c.loop-item.item-index c.item-item.result c.in_ok-pair.pair c.loop-item-test.true c.item-item.is c.in_ok-pair.ensures c.in_ok-push.ensures.ok c.loop-item.invariant

pub entry_from-returns-in-len1 : goal.entry_from-returns-in-len1
entry_from-returns-in-len1 t c = entry_one c.args.items.now c.in-len1.len_at_least c.in-len1.len_below

pub entry_from-returns-in-len3-up : goal.entry_from-returns-in-len3-up
entry_from-returns-in-len3-up t c = entry_three c.args.items.now c.in-len3-up.len_at_least

pub entries_of-returns : goal.entries_of-returns
entries_of-returns t c =
    pairs_all c.args.items.now c.loop-item.all (reads_all pair_read c.loop-item.all c.args.items.now c.loop-item.item-index c.loop-item-test.false c.loop-item.invariant)

pub forms_of-returns : goal.forms_of-returns
forms_of-returns t c =
    forms_all c.args.items.now c.loop-item.all (reads_all form_read c.loop-item.all c.args.items.now c.loop-item.item-index c.loop-item-test.false c.loop-item.invariant)

pub entry_from-returns-in_err-key-in-len2 : goal.entry_from-returns-in_err-key-in-len2
entry_from-returns-in_err-key-in-len2 t c =
    let p = err_from_is_err_and c.from_residual.result c.from_residual.ensures.1 in
    rw (p.1, p.2, entry_two c.args.items.now c.key-item.result c.value-item.result c.in-len2.len_at_least c.in-len2.len_below c.key-item.is c.value-item.is)
    (fails_first c.in_err-key-in-len2.field-0.0 _ _ c.in_err-key-in-len2.ensures)

pub entry_from-returns-in_err-value-in-len2 : goal.entry_from-returns-in_err-value-in-len2
entry_from-returns-in_err-value-in-len2 t c =
    let p = err_from_is_err_and c.from_residual-in_err-value-in-len2.result c.from_residual-in_err-value-in-len2.ensures.1 in
    rw (p.1, p.2, entry_two c.args.items.now c.key-item.result c.value-item.result c.in-len2.len_at_least c.in-len2.len_below c.key-item.is c.value-item.is, c.in_ok-key-in-len2.ensures)
    (fails_first c.in_err-value-in-len2.field-0.0 _ _ c.in_err-value-in-len2.ensures)

pub entry_from-returns-in_ok-value-in-len2 : goal.entry_from-returns-in_ok-value-in-len2
entry_from-returns-in_ok-value-in-len2 t c =
    rw (entry_two c.args.items.now c.key-item.result c.value-item.result c.in-len2.len_at_least c.in-len2.len_below c.key-item.is c.value-item.is, c.in_ok-key-in-len2.ensures, c.in_ok-value-in-len2.ensures)
    (pair_is c.in_ok-key-in-len2.key c.in_ok-value-in-len2.value)

pub tagged_of-returns-then-len-gt1 : goal.tagged_of-returns-then-len-gt1
tagged_of-returns-then-len-gt1 t c =
    keys_many c.args.members.now.entries (omega (arith, c.if-len-gt1.true, c.len.ensures.len)) ∙ ap Err (sym c.why_of_keys.ensures)
