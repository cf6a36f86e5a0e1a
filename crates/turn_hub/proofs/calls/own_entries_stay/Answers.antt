use Rattle.turn_hub.proofs.Turns.{own_stays}
use Rattle.turn_hub.proofs.calls.own_entries_stay.Goals as goal

pub returns : goal.returns
returns g c = own_stays
