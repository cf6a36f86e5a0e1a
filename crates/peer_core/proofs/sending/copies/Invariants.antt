use Rattle.std.proofs.Common.{◌≡◌, map, take, None}
use Rattle.scene_model.specs.declared.event.Class.TheVariants.{Reliable}
use Rattle.peer_core.proofs.sending.copies.Given as goal

abbrev pub invariant-loop-peer : goal.invariant-loop-peer
invariant-loop-peer l = l.out ≡ map (λ b. record { link = b; to = b; class = Reliable; tick = None; bytes = l.packet }) (take l.peer-index l.peers)
