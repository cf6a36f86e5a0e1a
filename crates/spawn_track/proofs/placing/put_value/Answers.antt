use Rattle.peer_steps.proofs.Assigned.{tree_kept}
use Rattle.spawn_track.proofs.placing.put_value.Goals as goal

pub returns-in-Err : goal.returns-in-Err
returns-in-Err c = tree_kept c.args.tree.now c.assign.new.self c.args.path.now c.args.prop.now c.as_str.result.now c.as_str-2.result.now c.args.value c.in-Err.field-0 c.requires c.as_str.ensures.same c.as_str-2.ensures.same c.in-Err.ensures
