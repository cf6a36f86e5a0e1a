use Rattle.std.proofs.Common.{◌∙◌, ap}
use Rattle.gd_variant.specs.Words.{has_int}
use Rattle.peer_steps.specs.Peers.{is_bad_peer}
use Rattle.relay_sys.proofs.Apart.{put_apart}
use Rattle.relay_sys.proofs.peers.Peers.put.Goals as goal

pub invariant_of-self-2 : goal.invariant_of-self-2
invariant_of-self-2 c = ap (has_int c.self.inside.me) c.in_ok-put_number.ensures.ok
    ∙ put_apart (record { me = c.self.inside.me; come = c.self.inside.come.keys; up = c.self.inside.up.items }) c.args.peer.now (ap (λ p. is_bad_peer p c.args.peer.now) c.self.view_is ∙ c.requires) c.self.invariant
