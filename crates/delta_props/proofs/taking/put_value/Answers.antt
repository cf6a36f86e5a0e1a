use Rattle.std.proofs.Common.{ap, sym, ◌∙◌, List}
use Rattle.scene_model.specs.Nodes.{Live}
use Rattle.headless_tree.specs.Nodes.{TreeOf}
use Rattle.delta_props.specs.Taking.{prop_at}
use Rattle.delta_props.proofs.Judged.{put_found, put_missing}
use Rattle.delta_props.proofs.taking.put_value.Goals as goal

pub returns-in-Ok : goal.returns-in-Ok
returns-in-Ok c =
    c.in-Ok.ensures.1 ∙ ap {B = TreeOf} (λ (ns : List Live). record { scene = c.args.tree.now.scene; nodes = ns })
    (put_found c.args.tree.now.nodes c.args.place c.in-Some.to (prop_at c.args.tree.now.scene c.args.at c.args.j) c.args.value (sym c.in-Some.ensures))

pub returns-in-None : goal.returns-in-None
returns-in-None c =
    ap {B = TreeOf} (λ (ns : List Live). record { scene = c.args.tree.now.scene; nodes = ns }) (put_missing c.args.tree.now.nodes c.args.place (prop_at c.args.tree.now.scene c.args.at c.args.j) c.args.value (sym c.in-None.ensures))
