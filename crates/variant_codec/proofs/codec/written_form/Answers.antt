use Rattle.variant_codec.proofs.Top.{written_forms}
use Rattle.variant_codec.proofs.codec.written_form.Goals as goal

pub returns : goal.returns
returns c = written_forms
