use Rattle.std.proofs.Common.{◌≡◌, List, ℕ, true, sym, ap, ◌∙◌}
use Rattle.std.specs.Str.{IsUtf8}
use Rattle.std.proofs.lemmas.Bool.{and_from}
use Rattle.std.proofs.lemmas.Str.{is_utf8-from_IsUtf8}
use Rattle.gd_variant.specs.Text.{HasNoZero}
use Rattle.gd_variant.specs.Sound.{has_no_zero, is_text}
use Rattle.gd_variant.proofs.soundness.is_whole_text.Goals as goal

whole : (s t : List ℕ) → s ≡ t → HasNoZero s → IsUtf8 s → true ≡ is_text t
whole s t e zero utf8 = sym (and_from (has_no_zero s) _ zero (is_utf8-from_IsUtf8 s utf8)) ∙ ap is_text e

pub returns : goal.returns
returns c = whole c.as_str-text.result.now c.args.text.now c.as_str-text.ensures.same c.as_str-text.ensures.zero c.as_str-text.utf8
