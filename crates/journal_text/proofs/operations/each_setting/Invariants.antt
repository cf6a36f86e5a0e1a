use Rattle.std.proofs.Common.{flat_map, take}
use Rattle.session_text.specs.Tokens.{Adds, tokens_of}
use Rattle.line_text.specs.WrittenLines.{setting_data}
use Rattle.journal_text.proofs.operations.each_setting.Given as goal

abbrev pub invariant-loop-prop : goal.invariant-loop-prop
invariant-loop-prop l = Adds l.fn.line l.line (flat_map (λ p. tokens_of (setting_data p)) (take l.prop-index l.props))
