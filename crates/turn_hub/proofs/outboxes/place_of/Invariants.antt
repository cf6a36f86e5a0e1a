use Rattle.std.proofs.Common.{◌≡◌, false, take}
use Rattle.turn_hub.specs.Boxes.{has_box}
use Rattle.turn_hub.proofs.outboxes.place_of.Given as goal

abbrev pub invariant-loop-i : goal.invariant-loop-i
invariant-loop-i g l = record {
  none : has_box l.link (take l.i l.boxes) ≡ false;
}
