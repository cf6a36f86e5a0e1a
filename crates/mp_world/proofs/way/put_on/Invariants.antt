use Rattle.std.proofs.Common.{◌≡◌, take}
use Rattle.world_steps.specs.Steps.{waiting_with}
use Rattle.mp_world.proofs.way.put_on.Given as goal

abbrev pub invariant-loop-packet : goal.invariant-loop-packet
invariant-loop-packet l = l.waiting.items ≡ waiting_with l.fn.waiting.items (take l.packet-index l.packets) l.link
