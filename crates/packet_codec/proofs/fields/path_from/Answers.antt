use Rattle.std.proofs.lemmas.List.Sums.{prefix_len-le-length}
use Rattle.packet_form.specs.Tests.{is_some}
use Rattle.packet_codec.proofs.Texts.{front_passes}
use Rattle.packet_codec.proofs.fields.path_from.Goals as goal

pub split_at-requires : goal.split_at-requires
split_at-requires c = rw c.before_zero-len.ensures (prefix_len-le-length is_some c.args.bytes.now)

pub text_from-requires : goal.text_from-requires
text_from-requires c = rw (c.split_at.ensures.front, c.before_zero-len.ensures) (front_passes is_some c.args.bytes.now)
