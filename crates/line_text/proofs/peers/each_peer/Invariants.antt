use Rattle.std.specs.Prelude.{◌≡◌, true}
use Rattle.std.specs.List.{list_all}
use Rattle.line_text.specs.Peers.{peer_read}
use Rattle.line_text.specs.Held.{is_peer}
use Rattle.line_text.proofs.Each.{Reads}
use Rattle.line_text.proofs.peers.each_peer.Given as goal

-- what the first items give: numbers of peers
abbrev pub invariant-loop-item : goal.invariant-loop-item
invariant-loop-item l = Reads peer_read l.all l.item-index l.items × (list_all is_peer l.all ≡ true)
