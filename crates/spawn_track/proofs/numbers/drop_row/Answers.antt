use Rattle.std.proofs.Common.{not, nat_eq, rules, tests}
use Rattle.std.proofs.lemmas.Fn.{filter_same}
use Rattle.peer_steps.specs.declared.rows.SpawnedRow.{SpawnedRow}
use Rattle.spawn_track.proofs.numbers.drop_row.Goals as goal

pub returns : goal.returns
returns c = filter_same _ (λ (r : SpawnedRow). not (nat_eq r.num c.args.num)) _ (λ x b f' k. search (rules, tests)) _ _ c.retain.ensures.filtered
