use Rattle.std.proofs.Common.{◌≡◌, ◌++◌, take}
use Rattle.std.specs.List.{flat_map, AllByRecursion}
use Rattle.packet_writer.proofs.parts.put_parts.Given as goal

-- the parts in front are put, and they fit
abbrev pub invariant-loop-part : goal.invariant-loop-part
invariant-loop-part g l = record {
  put : l.out.items ≡ l.fn.out.items ++ flat_map g.T.Writable.written (take l.part-index l.parts);
  fit : AllByRecursion g.T.Writable.fits (take l.part-index l.parts);
}
