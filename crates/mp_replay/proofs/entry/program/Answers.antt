use Rattle.std.proofs.Common.{◌∙◌}
use Rattle.mp_replay.proofs.entry.program.Goals as goal

pub returns : goal.returns
returns g c = record {
  end = c.run_words-status.result;
  runs = c.run_words-status.ensures;
  says = c.tell.ensures;
  number_is = c.from.ensures ∙ c.exit_code.ensures;
}
