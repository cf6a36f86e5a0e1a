use Rattle.value_cli.specs.declared.repeats.Work.TheVariants.{Decode}
use Rattle.value_cli.specs.Works.{GoesOver}
use Rattle.value_cli.proofs.repeats.decoded.Given as goal

abbrev pub invariant-loop : goal.invariant-loop
invariant-loop l = GoesOver Decode l.bytes l.len
