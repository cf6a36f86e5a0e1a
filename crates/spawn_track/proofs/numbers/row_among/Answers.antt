use Rattle.std.proofs.Common.{sym, ◌∙◌, nat_eq}
use Rattle.headless_tree.proofs.Places.{found_at, not_found}
use Rattle.peer_steps.specs.declared.rows.SpawnedRow.{SpawnedRow}
use Rattle.spawn_track.proofs.numbers.row_among.Goals as goal

pub returns-in-Some : goal.returns-in-Some
returns-in-Some c = c.at.ensures ∙ found_at (λ (r : SpawnedRow). nat_eq r.num c.args.num) c.args.rows.now c.in-Some.place (sym c.in-Some.ensures.place)

pub returns-in-None : goal.returns-in-None
returns-in-None c = sym (not_found (λ (r : SpawnedRow). nat_eq r.num c.args.num) c.args.rows.now (sym c.in-None.ensures.place))
