use Rattle.std.proofs.Common.{arith}
use Rattle.variant_codec.specs.Written.{written}
use Rattle.variant_codec.proofs.Forms.{written_spells}
use Rattle.variant_codec.proofs.Top.{binary, found, forms, reads_written, rightly, faults}
use Rattle.variant_codec.proofs.codec.decode.Goals as goal

pub returns-clause-found : goal.returns-clause-found
returns-clause-found c = found binary c.args.b.now c.decoded.result (λ i. omega (arith, c.type_inv.b i)) c.requires c.decoded.ensures

pub returns-clause-forms : goal.returns-clause-forms
returns-clause-forms c = forms binary c.args.b.now c.decoded.result c.decoded.ensures

pub returns-clause-written : goal.returns-clause-written
returns-clause-written c = reads_written binary written written_spells c.args.b.now c.decoded.result c.decoded.ensures

pub returns-clause-bad : goal.returns-clause-bad
returns-clause-bad c = rightly binary c.args.b.now c.decoded.result (λ i. omega (arith, c.type_inv.b i)) c.decoded.ensures

pub returns-clause-faults : goal.returns-clause-faults
returns-clause-faults c = faults binary c.args.b.now c.decoded.result c.decoded.ensures
