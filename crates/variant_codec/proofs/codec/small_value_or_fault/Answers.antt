use Rattle.variant_codec.proofs.Top.{compressed, value_or_fault}
use Rattle.variant_codec.proofs.codec.small_value_or_fault.Goals as goal

pub returns : goal.returns
returns c = value_or_fault compressed
