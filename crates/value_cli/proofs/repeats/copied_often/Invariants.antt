use Rattle.std.proofs.Common.{◌≡◌}
use Rattle.value_cli.proofs.repeats.copied_often.Given as goal

abbrev pub invariant-loop : goal.invariant-loop
invariant-loop l = l.copy ≡ l.bytes
