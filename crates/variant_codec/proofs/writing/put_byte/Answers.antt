use Rattle.byte_fields.proofs.Fields.{word_byte}
use Rattle.variant_codec.proofs.writing.put_byte.Goals as goal

pub returns : goal.returns
returns c = rw (← word_byte c.args.byte c.ranges.byte.fits) c.put_u8.ensures
