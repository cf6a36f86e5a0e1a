use Rattle.std.proofs.Common.{◌≡◌, ◌++◌, flat_map, take}
use Rattle.session_text.specs.Outcomes.{packet_line}
use Rattle.session_text.proofs.outcomes.push_packets.Given as goal

abbrev pub invariant-loop-packet : goal.invariant-loop-packet
invariant-loop-packet l = l.out.items ≡ l.fn.out.items ++ flat_map (packet_line l.peer) (take l.packet-index l.packets)
