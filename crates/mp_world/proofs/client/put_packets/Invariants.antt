use Rattle.std.proofs.Common.{◌≡◌}
use Rattle.mp_world.proofs.Puts.{put_front}
use Rattle.mp_world.proofs.client.put_packets.Given as goal

-- the clients before the place have their packets
abbrev pub invariant-loop-place : goal.invariant-loop-place
invariant-loop-place l = l.clients.items ≡ put_front l.packets l.place l.fn.clients.items
