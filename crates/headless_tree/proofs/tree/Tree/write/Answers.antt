use Rattle.std.proofs.Common.{sym, ◌∙◌, map}
use Rattle.std.specs.List.{slice_set}
use Rattle.headless_tree.specs.Nodes.{live}
use Rattle.headless_tree.proofs.Spots.{written, paths_stay, only_values, low_in}
use Rattle.headless_tree.proofs.Order.{order_same}
use Rattle.headless_tree.proofs.Fixed.{keeps_same}
use Rattle.headless_tree.proofs.Numbered.{once_same, numbered_same}
use Rattle.headless_tree.proofs.Exact.{only_same}
use Rattle.headless_tree.proofs.tree.Tree.write.Goals as goal

pub invariant_of-self : goal.invariant_of-self
invariant_of-self c =
    let same = only_values c.self.inside.nodes.items c.args.place c.index_mut.result.now c.set.new.self c.index_mut.ensures.value in
    let after = slice_set c.self.inside.nodes.items c.args.place (record c.index_mut.result.now { values = c.set.new.self }) in (
      c.self.invariant.0 ∙ sym (paths_stay c.self.inside.nodes.items c.args.place c.index_mut.result.now c.set.new.self c.index_mut.ensures.value),
      once_same (map live after) (map live c.self.inside.nodes.items) same c.self.invariant.1,
      numbered_same c.self.inside.numbers (map live after) (map live c.self.inside.nodes.items) same c.self.invariant.2,
      order_same (map live after) (map live c.self.inside.nodes.items) same c.self.invariant.3,
      keeps_same c.self.inside.scene (map live after) (map live c.self.inside.nodes.items) same c.self.invariant.4,
      c.self.invariant.5,
      only_same c.self.inside.numbers (map live after) (map live c.self.inside.nodes.items) same c.self.invariant.6,
    )

pub returns : goal.returns
returns c = written c.args.self.now c.self.inside.scene c.self.inside.nodes.items c.args.place c.args.prop c.args.value c.index_mut.result.now c.set.new.self c.self.view_is (low_in c.args.self.now c.self.inside.scene c.self.inside.nodes.items c.args.place c.self.view_is c.requires.node) c.index_mut.ensures.value c.set.ensures
