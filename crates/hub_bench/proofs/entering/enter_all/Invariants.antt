use Rattle.std.proofs.Common.{◌≡◌}
use Rattle.hub_bench.proofs.entering.enter_all.Given as goal

abbrev pub invariant-loop-value : goal.invariant-loop-value
invariant-loop-value g l = record {
  own : l.seat.hub ≡ l.hub;
}
