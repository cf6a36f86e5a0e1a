use Rattle.std.proofs.Common.{◌≡◌, ◌+◌, take}
use Rattle.peer_model.specs.Rows.{count_from}
use Rattle.spawn_track.proofs.making.ids_from.Given as goal

abbrev pub invariant-loop-def : goal.invariant-loop-def
invariant-loop-def l = (l.ids ≡ count_from l.first (take l._def-index l.defs)) × (l.next ≡ l.first + l._def-index)
