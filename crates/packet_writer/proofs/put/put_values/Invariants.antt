use Rattle.std.proofs.Common.{◌≡◌, ◌++◌, take}
use Rattle.packet_form.specs.Written.{written_values}
use Rattle.packet_writer.proofs.put.put_values.Given as goal

-- the values in front are written
abbrev pub invariant-loop-value : goal.invariant-loop-value
invariant-loop-value l = l.out.items ≡ l.fn.out.items ++ written_values (take l.value-index l.values)
