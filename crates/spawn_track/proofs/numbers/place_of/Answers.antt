use Rattle.std.proofs.Common.{sym}
use Rattle.peer_steps.specs.declared.rows.SpawnedRow.{SpawnedRow}
use Rattle.visibility.proofs.Rises.{within, number_there, number_missing, number_past}
use Rattle.spawn_track.proofs.numbers.place_of.Goals as goal

pub returns-then-has_number-clause-place : goal.returns-then-has_number-clause-place
returns-then-has_number-clause-place c = number_there (λ (r : SpawnedRow). r.num) c.args.num c.args.rows.now c.count_before-place.result c.in-Some.row.now c.requires c.count_before-place.ensures.count c.in-Some.ensures (sym c.if-has_number.ensures)

pub returns-then-has_number-clause-within : goal.returns-then-has_number-clause-within
returns-then-has_number-clause-within c = within c.args.rows.now c.count_before-place.result c.in-Some.row.now c.in-Some.ensures

pub returns-else-has_number-clause-place : goal.returns-else-has_number-clause-place
returns-else-has_number-clause-place c = number_missing (λ (r : SpawnedRow). r.num) c.args.num c.args.rows.now c.count_before-place.result c.in-Some.row.now c.requires c.count_before-place.ensures.count c.in-Some.ensures (sym c.if-has_number.ensures)

pub returns-in-None-clause-place : goal.returns-in-None-clause-place
returns-in-None-clause-place c = number_past (λ (r : SpawnedRow). r.num) c.args.num c.args.rows.now c.count_before-place.result c.requires c.count_before-place.ensures.count c.in-None.ensures
