use Rattle.std.proofs.Common.{◌≡◌, ◌-◌, [], take, length}
use Rattle.variant_codec.specs.Readers.{list_by}
use Rattle.packet_form.specs.Reading.{digits_at}
use Rattle.packet_codec.proofs.names.digest_from.Given as goal

-- what is left goes on from the numbers in front
abbrev pub invariant-loop-i : goal.invariant-loop-i
invariant-loop-i l = record {
  len : length l.digest ≡ 16;
  reads : list_by (λ _. digits_at) (take l.i l.digest) (16 - l.i) l.rest ≡ list_by (λ _. digits_at) [] 16 l.bytes;
}
