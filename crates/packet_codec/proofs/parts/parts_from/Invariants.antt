use Rattle.std.proofs.Common.{length}
use Rattle.packet_form.specs.Wholes.{filling_by}
use Rattle.packet_codec.proofs.Filling.{Fills}
use Rattle.packet_codec.proofs.parts.parts_from.Given as goal

abbrev pub decreases-loop-rest : goal.decreases-loop-rest
decreases-loop-rest g l = length l.rest

-- what was read, and what is left, make the whole
abbrev pub invariant-loop-rest : goal.invariant-loop-rest
invariant-loop-rest g l = Fills g.T.Readable.reading l.parts l.rest (filling_by g.T.Readable.reading (length l.bytes) l.bytes)
