use Rattle.std.proofs.Common.{◌≡◌, ◌-◌, ◌^◌, min, take, sum_by}
use Rattle.shared_hub.specs.Weight.{value_weight}
use Rattle.shared_hub.proofs.weight.values_len.Given as goal

abbrev pub invariant-loop-value : goal.invariant-loop-value
invariant-loop-value l = record {
  sum : l.sum ≡ min (sum_by value_weight (take l.value-index l.values)) (2 ^ 64 - 1);
}
