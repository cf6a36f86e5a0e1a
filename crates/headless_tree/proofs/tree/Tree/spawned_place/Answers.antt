use Rattle.std.proofs.Common.{sym, ap, ◌∙◌}
use Rattle.gd_variant.specs.Words.{some_is}
use Rattle.headless_tree.specs.Nodes.{TreeOf, is_spawned}
use Rattle.headless_tree.proofs.Spots.{live_found, none_spawned}
use Rattle.headless_tree.proofs.tree.Tree.spawned_place.Goals as goal

pub returns-then-is_spawned-clause-answer : goal.returns-then-is_spawned-clause-answer
returns-then-is_spawned-clause-answer c =
    let same = ap (λ (t : TreeOf). t.nodes) (sym c.self.view_is) in
    sym (ap (some_is is_spawned) (live_found c.self.inside.nodes.items c.args.self.now.nodes c.args.path.now c.in-Some.place c.index.result.now same (sym c.in-Some.ensures.place) c.index.ensures) ∙ sym c.if-is_spawned.ensures)

pub returns-else-is_spawned-clause-answer : goal.returns-else-is_spawned-clause-answer
returns-else-is_spawned-clause-answer c =
    let same = ap (λ (t : TreeOf). t.nodes) (sym c.self.view_is) in
    sym (ap (some_is is_spawned) (live_found c.self.inside.nodes.items c.args.self.now.nodes c.args.path.now c.in-Some.place c.index.result.now same (sym c.in-Some.ensures.place) c.index.ensures) ∙ sym c.if-is_spawned.ensures)

pub returns-in-None-clause-answer : goal.returns-in-None-clause-answer
returns-in-None-clause-answer c = sym (none_spawned c.args.self.now.nodes c.args.path.now (sym c.in-None.ensures.place))
