use Rattle.packet_form.proofs.Written.{round_trip}
use Rattle.packet_form.proofs.laws.round_trip.Goals as goal

pub returns : goal.returns
returns c = round_trip
