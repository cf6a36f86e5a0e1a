-- What the calls that ask for a peer and take one up answer.
use Rattle.std.specs.Prelude.{◌≡◌, ℤ, Some, None, Result, Ok, Err, if◌then◌else◌}
use Rattle.gd_variant.specs.Words.{has_int}
use Rattle.scene_model.specs.declared.outcome.Refusal.TheVariants as refusal
use Rattle.peer_steps.specs.Peers.{Peers, peer_comes}
use Rattle.relay_sys.specs.declared.peers.PeerState.{PeerState}
use Rattle.relay_sys.specs.declared.peers.PeerState.TheVariants.{Never, Up, Gone}
use Rattle.relay_sys.specs.declared.peers.PeersNo.{PeersNo}
use Rattle.relay_sys.specs.declared.peers.PeersNo.TheVariants.{BadPeer, PeersFull, OutOfMemory}

-- how a peer stands to the one that knows it
abbrev pub state_in : Peers → ℤ → PeerState
state_in p b = if has_int b p.up then Up else if has_int b p.come then Gone else Never

-- a peer is taken up, or it isn't and nothing changes; where memory runs out, the number alone is as it was
abbrev pub TakesUp : Peers → ℤ → Result (Unit {0}) PeersNo → Peers → Type 0
TakesUp old b (Ok u) new = (None, new) ≡ peer_comes b old
TakesUp old b (Err BadPeer) new = (Some refusal.BadPeer, new) ≡ peer_comes b old
TakesUp old b (Err PeersFull) new = (Some refusal.PeersFull, new) ≡ peer_comes b old
TakesUp old b (Err OutOfMemory) new = new.me ≡ old.me
