use Rattle.std.proofs.Common.{◌≡◌, take}
use Rattle.world_steps.specs.Steps.{put_with}
use Rattle.mp_world.proofs.flight.count_packets.Given as goal

-- the packets so far are counted
abbrev pub invariant-loop-packet : goal.invariant-loop-packet
invariant-loop-packet l = l.put ≡ put_with l.fn.put (take l.packet-index l.packets)
