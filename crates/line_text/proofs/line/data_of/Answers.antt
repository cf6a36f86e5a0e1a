use Rattle.std.proofs.Common.{sym, ◌∙◌}
use Rattle.std.proofs.lemmas.Bool.{false≢true}
use Rattle.line_text.proofs.Decoding.{is_json, no_json}
use Rattle.line_text.proofs.line.data_of.Goals as goal

pub returns-in-Ok : goal.returns-in-Ok
returns-in-Ok c = is_json c.args.line.now _ c.in-Ok.ensures.ok.0 c.in-Ok.ensures.ok.1

pub returns-else-is_memory : goal.returns-else-is_memory
returns-else-is_memory c = no_json c.args.line.now (λ u. c.in-Err.ensures.err (λ m. let t = c.is_memory.ensures.1 m in false≢true (sym c.if-is_memory.false ∙ t)) u)
