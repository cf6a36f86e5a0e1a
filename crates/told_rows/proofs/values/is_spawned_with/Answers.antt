use Rattle.std.proofs.Common.{sym, ◌∙◌}
use Rattle.told_rows.proofs.Goes.{spawn_any}
use Rattle.told_rows.proofs.values.is_spawned_with.Goals as goal

pub returns : goal.returns
returns c = c.any_has.ensures ∙ sym (spawn_any c.args.name.now c.args.defs.now)
