use Rattle.std.proofs.Common.{◌≡◌, ◌-◌, ◌^◌, min, take}
use Rattle.turn_hub.specs.History.{size_of}
use Rattle.turn_hub.proofs.outboxes.size_within.Given as goal

abbrev pub invariant-loop-packet : goal.invariant-loop-packet
invariant-loop-packet g l = record {
  sum : l.sum ≡ min (size_of g.M.Machine.words (take l.packet-index l.packets)) (2 ^ 64 - 1);
}
