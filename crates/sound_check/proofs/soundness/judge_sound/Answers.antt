use Rattle.std.proofs.Common.{arith, ◌∙◌}
use Rattle.gd_variant.specs.Tree.{plain}
use Rattle.gd_variant.proofs.Judged.{is_too_long, is_sound_where_right}
use Rattle.sound_check.proofs.Parts.{fits_is}
use Rattle.sound_check.proofs.soundness.judge_sound.Goals as goal

pub returns : goal.returns
returns c =
    is_sound_where_right (plain c.args.value.now) c.in_ok-right.right (omega arith) (omega arith) (c.in_ok-right.ensures ∙ fits_is (plain c.args.value.now) (omega arith))

pub returns-then-len_of-gt8388608 : goal.returns-then-len_of-gt8388608
returns-then-len_of-gt8388608 c = is_too_long (plain c.args.value.now) (omega arith)
