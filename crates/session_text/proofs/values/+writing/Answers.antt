use Rattle.std.proofs.Common.{OnOk, sym, ap, ◌∙◌, subst}
use Rattle.gd_variant.specs.declared.value.Variant.TheVariants.{Dict, Array}
use Rattle.session_text.specs.Tokens.{Adds, tokens_of}
use Rattle.session_text.specs.Values.{pair_of, value_of}
use Rattle.session_text.proofs.Nested.{array_data, dict_data}
use Rattle.session_text.proofs.Told.{each_told}
use Rattle.session_text.proofs.values.+writing.Goals as goal

pub pairs-returns : goal.pairs-returns
pairs-returns t c =
    each_told c.end_list.result c.args.line.now c.begin_list.new.line c.each_pair.new.line c.end_list.new.line pair_of c.args.pairs.now c.in_ok-begin_list.ensures c.in_ok-each_pair.ensures c.end_list.ensures

pub values-returns : goal.values-returns
values-returns t c =
    each_told c.end_list.result c.args.line.now c.begin_list.new.line c.each_value.new.line c.end_list.new.line value_of c.args.values.now c.in_ok-begin_list.ensures c.in_ok-each_value.ensures c.end_list.ensures

pub value-returns-in-Dict : goal.value-returns-in-Dict
value-returns-in-Dict t c =
    subst (λ d. OnOk c.dictionary.result (Adds c.args.line.now c.dictionary.new.line (tokens_of d))) (dict_data c.args.value.now c.as_slice.result.now (c.in-Dict.is ∙ ap Dict (sym c.as_slice.ensures))) c.dictionary.ensures

pub value-returns-in-Array : goal.value-returns-in-Array
value-returns-in-Array t c =
    subst (λ d. OnOk c.values.result (Adds c.args.line.now c.values.new.line (tokens_of d))) (array_data c.args.value.now c.as_slice-in-Array.result.now (c.in-Array.is ∙ ap Array (sym c.as_slice-in-Array.ensures))) c.values.ensures
