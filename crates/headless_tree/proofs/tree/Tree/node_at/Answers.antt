use Rattle.std.proofs.Common.{List, sym, ap, ◌∙◌}
use Rattle.std.specs.Prelude.{option_map, slice_get}
use Rattle.headless_tree.specs.declared.node.NodeNow.{NodeNow}
use Rattle.headless_tree.specs.Nodes.{TreeOf, live, is_at}
use Rattle.headless_tree.proofs.Places.{node_there, not_found}
use Rattle.headless_tree.proofs.tree.Tree.node_at.Goals as goal

pub returns-in-Some : goal.returns-in-Some
returns-in-Some c =
    ap (option_map live) (c.at.ensures ∙ ap (λ (ns : List NodeNow). slice_get ns c.in-Some.place) c.as_slice.ensures.value)
    ∙ node_there c.self.inside.nodes.items c.args.self.now.nodes c.args.path.now c.in-Some.place (ap (λ (t : TreeOf). t.nodes) (sym c.self.view_is)) (sym c.in-Some.ensures.place)

pub returns-in-None : goal.returns-in-None
returns-in-None c = sym (not_found (is_at c.args.path.now) c.args.self.now.nodes (sym c.in-None.ensures.place))
