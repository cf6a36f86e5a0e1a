use Rattle.turn_hub.proofs.Turns.{own_grows}
use Rattle.turn_hub.proofs.calls.own_entries_grow.Goals as goal

pub returns : goal.returns
returns g c = own_grows
