use Rattle.std.proofs.Common.{◌≡◌, ◌++◌, take}
use Rattle.packet_form.specs.Written.{ids_bytes, AreIds}
use Rattle.packet_writer.proofs.put.put_ids.Given as goal

-- the ids in front are written, and fit
abbrev pub invariant-loop-id : goal.invariant-loop-id
invariant-loop-id l = record {
  put : l.out.items ≡ l.fn.out.items ++ ids_bytes (take l.id-index l.ids);
  fit : AreIds (take l.id-index l.ids);
}
