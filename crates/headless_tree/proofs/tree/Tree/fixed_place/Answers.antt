use Rattle.std.proofs.Common.{refl, sym, ap, ◌∙◌, cond, Some, None}
use Rattle.std.proofs.lemmas.Bool.{lt-ltb, le-ltb}
use Rattle.headless_tree.proofs.Fixed.{fixed_placed}
use Rattle.headless_tree.proofs.tree.Tree.fixed_place.Goals as goal

pub returns-then-place-len-clause-place : goal.returns-then-place-len-clause-place
returns-then-place-len-clause-place c =
    let place = c.in-Some.place in
    sym (fixed_placed c.args.self.now _ c.args.path.now c.len.result (Some place) c.self.view_is c.self.invariant.3 c.self.invariant.4 c.len.ensures (sym c.in-Some.ensures.place) ∙ ap (λ b. cond b (Some place) None) (lt-ltb place c.len.result c.if-place-len.true))

pub returns-else-place-len-clause-place : goal.returns-else-place-len-clause-place
returns-else-place-len-clause-place c =
    let place = c.in-Some.place in
    sym (fixed_placed c.args.self.now _ c.args.path.now c.len.result (Some place) c.self.view_is c.self.invariant.3 c.self.invariant.4 c.len.ensures (sym c.in-Some.ensures.place) ∙ ap (λ b. cond b (Some place) None) (le-ltb place c.len.result c.if-place-len.false))

pub returns-in-None-clause-place : goal.returns-in-None-clause-place
returns-in-None-clause-place c = sym (fixed_placed c.args.self.now _ c.args.path.now _ None c.self.view_is c.self.invariant.3 c.self.invariant.4 refl (sym c.in-None.ensures.place))
