use Rattle.variant_codec.proofs.Low.{word_low}
use Rattle.variant_codec.proofs.writing.put_count.Goals as goal

pub returns : goal.returns
returns c = rw (← word_low c.args.count) c.put_u32.ensures
