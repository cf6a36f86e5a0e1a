use Rattle.std.proofs.Common.{◌≡◌, ◌≤◌, ◌++◌, ℤ, List, length, filter, take}
use Rattle.turn_hub.specs.History.{is_for}
use Rattle.turn_hub.specs.Boxes.{Apart, waiting}
use Rattle.turn_hub.proofs.outboxes.take_back.Given as goal

abbrev pub invariant-loop-left : goal.invariant-loop-left
invariant-loop-left g l = record {
  within : l.left ≤ length l.packets;
  apart : Apart l.boxes.items;
  back : (f : ℤ → List _) → ((q : ℤ) → waiting l.fn.boxes.items q ≡ f q ++ filter (is_for g.M.Machine.words q) (take l.fn.count l.packets)) → (q : ℤ) → waiting l.boxes.items q ≡ f q ++ filter (is_for g.M.Machine.words q) (take l.left l.packets);
}

abbrev pub decreases-loop-left : goal.decreases-loop-left
decreases-loop-left g l = l.left
