use Rattle.std.proofs.Common.{[], ◌∷◌, sym, ap, subst, ◌∙◌, get_or, w32, SFits, rules}
use Rattle.std.proofs.lemmas.Int.{to_z-of_z}
use Rattle.std.specs.Prelude.{is_none}
use Rattle.headless_tree.specs.Numbers.{KeepsOthers, path_under}
use Rattle.headless_tree.proofs.Keeping.{written_more, at_place}
use Rattle.headless_tree.proofs.numbers.Numbers.forget.Goals as goal

pub loop-id-preserved : goal.loop-id-preserved
loop-id-preserved c =
    let fits : SFits w32 c.args.node.now.auth = search rules in
    let seen = to_z-of_z w32 c.args.node.now.auth fits in
    let id = get_or c.as_slice-id-items.result.now c.loop-id.id-index 0 in
    written_more is_none c.args.node.now.auth c.args.node.now.num c.as_slice-id-items.result.now c.loop-id.id-index id c.args.self.now c.loop-id.self c.take-in-loop-id.new.self
    c.loop-id-test.true (at_place c.as_slice-id-items.result.now c.loop-id.id-index c.loop-id-test.true) c.loop-id.invariant
    (ap (λ z. is_none (path_under c.take-in-loop-id.new.self z id)) (sym seen) ∙ ap is_none c.take-in-loop-id.ensures.gone)
    (subst (λ z. KeepsOthers z (id ∷ []) c.loop-id.self c.take-in-loop-id.new.self) seen c.take-in-loop-id.ensures.others)
