use Rattle.std.proofs.Common.{◌≡◌, ◌++◌, take}
use Rattle.std.specs.List.{flat_map}
use Rattle.packet_form.specs.Written.{digits_of, AreBytes}
use Rattle.packet_writer.proofs.write_names.put_digest.Given as goal

-- the digits of the bytes in front are written
abbrev pub invariant-loop-byte : goal.invariant-loop-byte
invariant-loop-byte l = record {
  put : l.out.items ≡ l.fn.out.items ++ flat_map digits_of (take l.byte-index l.digest);
  fits : AreBytes (take l.byte-index l.digest);
}
