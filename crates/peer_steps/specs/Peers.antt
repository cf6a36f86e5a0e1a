-- The other peers that one peer knows, and what a link that comes up or goes down makes of them.
use Rattle.std.specs.Prelude.{ℤ, pos, Bool, not, ◌&&◌, ◌||◌, List, [], ◌∷◌, ◌++◌, filter, length, Option, Some, None, nat_le, int_lt, if◌then◌else◌}
use Rattle.std.specs.Ordering.{int_eq}
use Rattle.gd_variant.specs.Words.{has_int, when, first_of, put_by}
use Rattle.scene_model.specs.declared.outcome.Refusal.{Refusal}
use Rattle.scene_model.specs.declared.outcome.Refusal.TheVariants.{BadPeer, PeersFull}
use Rattle.peer_model.specs.Heard.{server}
use Rattle.peer_model.specs.Refusals.{most_clients}

-- a peer's own number, those that ever came up, in that order, and those that are up, in rising order
pub record Peers : Type 0 where
  pub me : ℤ
  pub come : List ℤ
  pub up : List ℤ

-- before any came up
abbrev pub no_peers : ℤ → Peers
no_peers me = record { me = me; come = []; up = [] }

-- a peer came up
abbrev pub with_peer : ℤ → Peers → Peers
with_peer b p = record p { come = p.come ++ b ∷ []; up = put_by int_lt b p.up }

-- a peer went down
abbrev pub without_peer : ℤ → Peers → Peers
without_peer b p = record p { up = filter (λ c. not (int_eq c b)) p.up }

-- a peer that can't come up: its number is none, this peer's own, or one that was up before
abbrev pub is_bad_peer : Peers → ℤ → Bool
is_bad_peer p b = int_lt b (pos 1) || int_eq b p.me || has_int b p.come

-- why a peer isn't taken up
abbrev pub comes_judged : Peers → ℤ → Option Refusal
comes_judged p b = first_of (when (is_bad_peer p b) BadPeer ∷ when (int_eq p.me server && nat_le most_clients (length p.up)) PeersFull ∷ [])

-- the peers after one came up, unless it is refused
abbrev pub peers_after : Option Refusal → ℤ → Peers → Peers
peers_after (Some r) b p = p
peers_after None b p = with_peer b p

-- a peer that comes up: why it isn't taken, and the peers then
abbrev pub peer_comes : ℤ → Peers → Option Refusal × Peers
peer_comes b p = (comes_judged p b, peers_after (comes_judged p b) b p)

-- a peer that goes down: whether it was up, and the peers then
abbrev pub peer_goes : ℤ → Peers → Bool × Peers
peer_goes b p = (has_int b p.up, if has_int b p.up then without_peer b p else p)
