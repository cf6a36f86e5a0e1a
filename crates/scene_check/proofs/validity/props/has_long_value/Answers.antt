use Rattle.std.proofs.Common.{◌∙◌}
use Rattle.scene_check.proofs.SoundLaws.{long_alone}
use Rattle.scene_check.proofs.validity.props.has_long_value.Goals as goal

pub returns-then-judged : goal.returns-then-judged
returns-then-judged c = c.any_is_long.ensures ∙ long_alone c.args.props.now (c.requires c.if-judged.true)
