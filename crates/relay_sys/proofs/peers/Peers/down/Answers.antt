use Rattle.std.proofs.Common.{◌∙◌, ap, not}
use Rattle.std.specs.Ordering.{int_eq}
use Rattle.gd_variant.specs.Words.{has_int}
use Rattle.relay_sys.proofs.Apart.{left_apart}
use Rattle.relay_sys.proofs.peers.Peers.down.Goals as goal

pub invariant_of-self : goal.invariant_of-self
invariant_of-self c = ap (has_int c.self.inside.me) c.drop_number.ensures ∙ left_apart c.self.inside.me (λ b. not (int_eq b c.args.peer.now)) c.self.inside.up.items c.self.invariant
