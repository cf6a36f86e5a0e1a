use Rattle.variant_codec.proofs.Top.{binary, none_begins}
use Rattle.variant_codec.proofs.codec.no_form_begins_another.Goals as goal

pub returns : goal.returns
returns c = none_begins binary
