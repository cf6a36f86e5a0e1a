use Rattle.std.proofs.Common.{◌≡◌, ◌-◌, ◌^◌, min, take, sum_by}
use Rattle.shared_hub.specs.Weight.{prop_weight}
use Rattle.shared_hub.proofs.weight.props_len.Given as goal

abbrev pub invariant-loop-prop : goal.invariant-loop-prop
invariant-loop-prop l = record {
  sum : l.sum ≡ min (sum_by prop_weight (take l.prop-index l.props)) (2 ^ 64 - 1);
}
