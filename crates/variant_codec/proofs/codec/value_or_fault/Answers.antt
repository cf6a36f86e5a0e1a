use Rattle.variant_codec.proofs.Top.{binary, value_or_fault}
use Rattle.variant_codec.proofs.codec.value_or_fault.Goals as goal

pub returns : goal.returns
returns c = value_or_fault binary
