use Rattle.std.proofs.Common.{◌≡◌, take}
use Rattle.hub_callers.specs.Entries.{Entries}
use Rattle.hub_callers.proofs.serving.serve.Given as goal

abbrev pub invariant-loop-event : goal.invariant-loop-event
invariant-loop-event g l = record {
  own : l.seat.hub ≡ l.hub;
  served : Entries l.fn.seat l.seat (take l.event-index l.events);
}
