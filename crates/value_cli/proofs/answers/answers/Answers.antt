use Rattle.std.proofs.Common.{◌++◌, ap, ◌∙◌}
use Rattle.std.proofs.lemmas.Iterator.Consumers.{YieldsList-end}
use Rattle.std.proofs.lemmas.Iterator.Splits.{YieldsList-from_lines}
use Rattle.std.specs.Str.Iter.{lines_rest}
use Rattle.value_cli.specs.Answers.{Answers}
use Rattle.value_cli.proofs.Told.{each_all, each_more}
use Rattle.value_cli.proofs.answers.answers.Goals as goal

pub loop-line-preserved : goal.loop-line-preserved
loop-line-preserved c =
    each_more Answers (λ x. x.now) c.loop-line.yielded c.in-Some.line c.loop-line.out.items c.in_ok-told.told c.loop-line.invariant c.in_ok-told.ensures (c.in_ok-extend_from_slice.ensures.items ∙ ap (λ more. c.loop-line.out.items ++ more) c.as_slice.ensures)

pub returns : goal.returns
returns c =
    let all = YieldsList-from_lines c.args.text.now (ap lines_rest c.into_iter-line-iterator.ensures.into_iter_gives ∙ c.lines-line-items.ensures.rest) in
    let seen = YieldsList-end all c.loop-line.yielded _ c.loop-line.yielded_by _ _ c.in-None.is c.next.ensures.steps in
    each_all Answers c.loop-line.invariant seen.0 c.from_vec.ensures
