use Rattle.std.proofs.Common.{◌≡◌, take, length}
use Rattle.std.specs.Prelude.{min}
use Rattle.std.specs.List.{flat_map}
use Rattle.packet_writer.proofs.parts.parts_len.Given as goal

-- the length of those in front
abbrev pub invariant-loop-part : goal.invariant-loop-part
invariant-loop-part g l = l.total ≡ min (length (flat_map g.T.Writable.written (take l.part-index l.parts))) 8388609
