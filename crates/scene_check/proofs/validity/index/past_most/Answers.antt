use Rattle.std.proofs.Common.{sym}
use Rattle.std.proofs.lemmas.List.{drop_all, take_rest}
use Rattle.scene_check.proofs.validity.index.past_most.Goals as goal

pub returns-then-items-le-MOST_ENTRIES : goal.returns-then-items-le-MOST_ENTRIES
returns-then-items-le-MOST_ENTRIES g c = sym (drop_all 4096 c.args.items.now c.if-items-le-MOST_ENTRIES.true)

pub returns-else-items-le-MOST_ENTRIES : goal.returns-else-items-le-MOST_ENTRIES
returns-else-items-le-MOST_ENTRIES g c = take_rest c.args.items.now 4096
