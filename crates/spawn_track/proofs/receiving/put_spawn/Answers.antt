use Rattle.spawn_track.proofs.Steps.{shown_fault, shown_made}
use Rattle.spawn_track.proofs.receiving.put_spawn.Goals as goal

pub returns-in_ok-put_shown-in-Ok : goal.returns-in_ok-put_shown-in-Ok
returns-in_ok-put_shown-in-Ok c = shown_made c.args.from.now c.args.spawn c.args.tree.now c.put_shown.new.tree c.in_ok-making.field-0 c.in-Ok.making c.in-Ok.is c.in_ok-making.ensures c.in_ok-put_shown-in-Ok.ensures.ok

pub returns-in-Err : goal.returns-in-Err
returns-in-Err c = shown_fault c.args.from.now c.args.spawn c.args.tree.now c.in_ok-making.field-0 c.in-Err.fault c.in-Err.is c.in_ok-making.ensures
