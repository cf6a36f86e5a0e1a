use Rattle.std.proofs.Common.{refl}
use Rattle.hex.specs.Hex.{decode_pairs}
use Rattle.line_runs.specs.Output.{read_in}
use Rattle.packet_show.specs.Shown.{shown}
use Rattle.packet_show.proofs.laws.small_inputs.Goals as goal

pub returns-clause-empty : goal.returns-clause-empty
unfolding read_in shown decode_pairs
returns-clause-empty c = refl

pub returns-clause-empty_line : goal.returns-clause-empty_line
unfolding read_in shown decode_pairs
returns-clause-empty_line c = refl

pub returns-clause-not_hex : goal.returns-clause-not_hex
unfolding read_in shown decode_pairs
returns-clause-not_hex c = refl

pub returns-clause-odd : goal.returns-clause-odd
unfolding read_in shown decode_pairs
returns-clause-odd c = refl

pub returns-clause-longest : goal.returns-clause-longest
unfolding read_in shown decode_pairs
returns-clause-longest c = refl

pub returns-clause-too_long : goal.returns-clause-too_long
unfolding read_in shown decode_pairs
returns-clause-too_long c = refl

pub returns-clause-whole : goal.returns-clause-whole
unfolding read_in shown decode_pairs
returns-clause-whole c = refl

pub returns-clause-longer : goal.returns-clause-longer
unfolding read_in shown decode_pairs
returns-clause-longer c = refl

pub returns-clause-feed_behind : goal.returns-clause-feed_behind
unfolding read_in shown decode_pairs
returns-clause-feed_behind c = refl

pub returns-clause-ends_there : goal.returns-clause-ends_there
unfolding read_in shown decode_pairs
returns-clause-ends_there c = refl

pub returns-clause-not_judged : goal.returns-clause-not_judged
unfolding read_in shown decode_pairs
returns-clause-not_judged c = refl

pub returns-clause-long_judged : goal.returns-clause-long_judged
unfolding read_in shown decode_pairs
returns-clause-long_judged c = refl
