use Rattle.std.proofs.Common.{◌≡◌, true}
use Rattle.std.specs.List.{list_all}
use Rattle.gd_variant.specs.Sound.{is_text, is_sound}
use Rattle.line_text.specs.Held.{prop_names, prop_values}
use Rattle.line_text.specs.Operations.{setting_read}
use Rattle.line_text.proofs.Each.{Reads}
use Rattle.line_text.proofs.operations.each_setting.Given as goal

-- what the first items give: settings with texts and sound values
abbrev pub invariant-loop-item : goal.invariant-loop-item
invariant-loop-item l = Reads setting_read l.all l.item-index l.items × (list_all is_text (prop_names l.all) ≡ true) × (list_all is_sound (prop_values l.all) ≡ true)
