use Rattle.line_text.specs.WrittenLines.{setting_data}
use Rattle.session_text.proofs.Told.{each_told}
use Rattle.journal_text.proofs.operations.settings.Goals as goal

pub returns : goal.returns
returns c =
    each_told c.end_list.result c.args.line.now c.begin_list.new.line c.each_setting.new.line c.end_list.new.line setting_data c.args.props.now c.in_ok-begin_list.ensures c.in_ok-each_setting.ensures c.end_list.ensures
