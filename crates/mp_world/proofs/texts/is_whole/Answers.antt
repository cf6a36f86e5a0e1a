use Rattle.std.proofs.Common.{ap, sym, ◌∙◌}
use Rattle.std.specs.Str.{is_utf8}
use Rattle.std.proofs.lemmas.Bool.{and_from}
use Rattle.std.proofs.lemmas.Str.{is_utf8-from_IsUtf8}
use Rattle.gd_variant.specs.Sound.{has_no_zero, is_text}
use Rattle.mp_world.proofs.texts.is_whole.Goals as goal

pub returns : goal.returns
returns c = sym (ap is_text c.as_str-text.ensures.same) ∙ and_from (has_no_zero c.as_str-text.result.now) (is_utf8 c.as_str-text.result.now) c.as_str-text.ensures.zero (is_utf8-from_IsUtf8 c.as_str-text.result.now c.as_str-text.utf8)
