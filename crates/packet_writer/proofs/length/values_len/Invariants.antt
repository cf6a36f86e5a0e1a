use Rattle.std.proofs.Common.{◌≡◌, take, length}
use Rattle.std.specs.Prelude.{min}
use Rattle.packet_form.specs.Written.{written_values}
use Rattle.packet_writer.proofs.length.values_len.Given as goal

-- the length of those in front
abbrev pub invariant-loop-value : goal.invariant-loop-value
invariant-loop-value l = l.total ≡ min (length (written_values (take l.value-index l.values))) 8388609
