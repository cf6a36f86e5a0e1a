use Rattle.std.proofs.Common.{List, ap, ◌∙◌}
use Rattle.scene_model.specs.Nodes.{Live}
use Rattle.headless_tree.specs.Nodes.{TreeOf}
use Rattle.headless_tree.proofs.Spots.{spot_assigned}
use Rattle.headless_tree.proofs.tree.Tree.assign.Goals as goal

pub returns-in-Ok : goal.returns-in-Ok
returns-in-Ok c = (c.in-Ok.ensures.0, c.write.ensures ∙ ap {B = TreeOf} (λ (ns : List Live). record { scene = c.args.self.now.scene; nodes = ns }) (spot_assigned c.args.self.now.nodes c.args.path.now c.args.prop.now c.args.value c.in-Ok.place c.in-Ok.at c.in-Ok.ensures.1))
