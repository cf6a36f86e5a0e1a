use Rattle.std.proofs.Common.{◌≡◌, ◌++◌, filter, take}
use Rattle.sight_laws.specs.Sights.{any_sees}
use Rattle.visibility.proofs.rows.push_seen.Given as goal

abbrev pub invariant-loop-peer : goal.invariant-loop-peer
invariant-loop-peer l = l.shown.items ≡ l.initial.shown.items ++ filter (any_sees l.syncs) (take l.peer-index l.up)
