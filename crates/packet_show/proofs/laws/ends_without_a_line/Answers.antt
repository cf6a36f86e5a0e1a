use Rattle.packet_show.proofs.Stops.{done_within, hex_lines, long_beyond}
use Rattle.packet_show.proofs.laws.ends_without_a_line.Goals as goal

pub returns-clause-done : goal.returns-clause-done
returns-clause-done c = done_within

pub returns-clause-input_long : goal.returns-clause-input_long
returns-clause-input_long c = long_beyond

pub returns-clause-hex : goal.returns-clause-hex
returns-clause-hex c = hex_lines
