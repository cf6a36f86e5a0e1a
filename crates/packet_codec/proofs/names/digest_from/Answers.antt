use Rattle.std.proofs.Common.{◌+◌, [], take, set, Ok, ap, ◌∙◌, arith}
use Rattle.std.proofs.lemmas.List.{take_more_set, length-set, take_all}
use Rattle.variant_codec.proofs.Loop.{goes_on, is_done}
use Rattle.packet_form.specs.Reading.{digits_at, digest_at}
use Rattle.packet_codec.proofs.names.digest_from.Goals as goal

pub loop-i-preserved : goal.loop-i-preserved
loop-i-preserved c = record {
  len = length-set c.loop-i.digest c.loop-i.i c.in_ok-byte.byte ∙ c.loop-i.invariant.len;
  reads =
      goes_on (λ _. digits_at) (take c.loop-i.i c.loop-i.digest) (take (c.loop-i.i + 1) (set c.loop-i.digest c.loop-i.i c.in_ok-byte.byte)) 16 c.loop-i.i c.loop-i.rest.now c.in_ok-byte.byte c.in_ok-byte.after.now [] c.args.bytes.now
      c.loop-i-test.true c.in_ok-byte.ensures (take_more_set c.loop-i.digest c.loop-i.i c.in_ok-byte.byte (omega (arith, c.loop-i.invariant.len, c.loop-i-test.true))) c.loop-i.invariant.reads;
}

pub returns : goal.returns
unfolding digest_at
returns c =
    is_done (λ _. digits_at) (take c.loop-i.i c.loop-i.digest) 16 c.loop-i.i c.loop-i.rest.now [] c.args.bytes.now c.loop-i-test.false c.loop-i.invariant.reads
    ∙ ap (λ ds. Ok (ds, c.loop-i.rest.now)) (take_all c.loop-i.i c.loop-i.digest (omega (arith, c.loop-i.invariant.len, c.loop-i-test.false)))
