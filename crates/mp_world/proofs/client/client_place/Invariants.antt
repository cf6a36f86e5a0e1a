use Rattle.std.proofs.Common.{◌≡◌, take}
use Rattle.std.specs.Prelude.{None}
use Rattle.world_steps.specs.Steps.{place_of}
use Rattle.mp_world.proofs.client.client_place.Given as goal

-- nobody before the place has the number
abbrev pub invariant-loop-place : goal.invariant-loop-place
invariant-loop-place l = place_of l.number (take l.place l.clients.items) ≡ None
