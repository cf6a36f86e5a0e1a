use Rattle.std.proofs.Common.{sym}
use Rattle.headless_tree.specs.Nodes.{live}
use Rattle.delta_props.proofs.Few.{named_few}
use Rattle.delta_props.proofs.told.Told.tell_named.Goals as goal

pub tell-requires : goal.tell-requires
tell-requires c = record { few = named_few c.args.tree.now.scene c.requires c.args.tree.now.nodes c.args.sync.now.path c.args.sync.now.k (live c.in-Some.node.now, c.in-Some.def.now) (sym c.in-Some.ensures) }
