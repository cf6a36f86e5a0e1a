use Rattle.std.proofs.Common.{◌≡◌, ◌≤◌, ◌-◌, ◌++◌, ℤ, length, filter, take}
use Rattle.turn_hub.specs.History.{is_for}
use Rattle.turn_hub.specs.Boxes.{Apart, waiting}
use Rattle.turn_hub.proofs.outboxes.put_all.Given as goal

abbrev pub invariant-loop-count : goal.invariant-loop-count
invariant-loop-count g l = record {
  within : l.count ≤ length l.packets;
  apart : Apart l.boxes.items;
  put : (q : ℤ) → waiting l.boxes.items q ≡ waiting l.fn.boxes.items q ++ filter (is_for g.M.Machine.words q) (take l.count l.packets);
}

abbrev pub decreases-loop-count : goal.decreases-loop-count
decreases-loop-count g l = length l.packets - l.count
