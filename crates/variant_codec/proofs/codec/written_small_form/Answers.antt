use Rattle.variant_codec.proofs.Top.{small_written_forms}
use Rattle.variant_codec.proofs.codec.written_small_form.Goals as goal

pub returns : goal.returns
returns c = small_written_forms
