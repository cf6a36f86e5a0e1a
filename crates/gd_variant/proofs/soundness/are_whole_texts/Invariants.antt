use Rattle.std.proofs.Common.{◌≡◌, true, take}
use Rattle.std.specs.List.{list_all}
use Rattle.gd_variant.specs.Sound.{is_text}
use Rattle.gd_variant.proofs.soundness.are_whole_texts.Given as goal

-- the texts in front are texts
abbrev pub invariant-loop-text : goal.invariant-loop-text
invariant-loop-text l = list_all is_text (take l.text-index l.texts) ≡ true
