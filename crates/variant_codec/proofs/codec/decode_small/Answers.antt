use Rattle.std.proofs.Common.{arith}
use Rattle.variant_codec.specs.Written.{written_small}
use Rattle.variant_codec.proofs.Forms.{small_written_spells}
use Rattle.variant_codec.proofs.Top.{compressed, found, forms, reads_written, rightly, faults}
use Rattle.variant_codec.proofs.codec.decode_small.Goals as goal

pub returns-clause-found : goal.returns-clause-found
returns-clause-found c = found compressed c.args.b.now c.decoded_small.result (λ i. omega (arith, c.type_inv.b i)) c.requires c.decoded_small.ensures

pub returns-clause-forms : goal.returns-clause-forms
returns-clause-forms c = forms compressed c.args.b.now c.decoded_small.result c.decoded_small.ensures

pub returns-clause-written : goal.returns-clause-written
returns-clause-written c = reads_written compressed written_small small_written_spells c.args.b.now c.decoded_small.result c.decoded_small.ensures

pub returns-clause-bad : goal.returns-clause-bad
returns-clause-bad c = rightly compressed c.args.b.now c.decoded_small.result (λ i. omega (arith, c.type_inv.b i)) c.decoded_small.ensures

pub returns-clause-faults : goal.returns-clause-faults
returns-clause-faults c = faults compressed c.args.b.now c.decoded_small.result c.decoded_small.ensures
