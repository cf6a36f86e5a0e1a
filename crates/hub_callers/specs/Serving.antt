-- What two callers did together.
use Rattle.std.specs.Prelude.{List, map, OnOk}
use Rattle.scene_model.specs.declared.event.Event.{Event}
use Rattle.peer_steps.specs.Kept.{Kept}
use Rattle.turn_hub.specs.declared.entry.Did.{Did}
use Rattle.turn_hub.specs.History.{events_of, past}
use Rattle.shared_hub.specs.Peer.{Stands}
use Rattle.hub_callers.specs.declared.serving.Served.{Served}
use Rattle.hub_callers.specs.declared.job.ServeJob.{ServeJob}
use Rattle.hub_callers.specs.Entries.{entry, Entries}
use Rattle.hub_callers.specs.Shuffle.{Shuffle}

-- the journal is the entries of two lists of events, shuffled, and the peer stands for it
abbrev pub IsOfBoth : Kept → List (Did Event) → List Event → List Event → Type 0
IsOfBoth peer j es fs = Shuffle j (map entry es) (map entry fs) × Stands peer (events_of (past j))

-- a job that was refused nothing entered all its events
abbrev pub Gives : ServeJob → Served → Type 0
Gives job out = OnOk out.end (Entries job.seat out.seat job.events.items)
