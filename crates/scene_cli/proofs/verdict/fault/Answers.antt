use Rattle.std.proofs.Common.{◌≡◌, IfOk, string_bytes, sym, ap₂, subst, ◌∙◌}
use Rattle.std.proofs.lemmas.Bool.{false≢true}
use Rattle.program_edge.specs.declared.status.LineWhy.TheVariants as why
use Rattle.line_text.specs.Lines.{line_data}
use Rattle.line_text.proofs.Decoding.{is_json, no_json}
use Rattle.scene_cli.specs.Verdicts.{fault_text}
use Rattle.scene_cli.proofs.verdict.fault.Goals as goal

pub returns-in-Ok : goal.returns-in-Ok
returns-in-Ok c =
    let read = is_json c.args.line.now _ c.in-Ok.ensures.ok.0 c.in-Ok.ensures.ok.1 in
    subst (λ w. IfOk c.bad_entry.result (λ text. string_bytes text ≡ fault_text w (line_data c.args.line.now))) (sym c.in-Scene.is)
    (subst (λ d. IfOk c.bad_entry.result (λ text. string_bytes text ≡ fault_text (why.Scene c.in-Scene.bad) d)) (sym read) c.bad_entry.ensures)

pub returns-in_ok-from_str-in-Err : goal.returns-in_ok-from_str-in-Err
returns-in_ok-from_str-in-Err c =
    let unread = no_json c.args.line.now (λ u. c.in-Err.ensures.err (λ m. false≢true (sym c.if-is_memory.false ∙ c.is_memory.ensures.1 m)) u) in
    c.in_ok-from_str-in-Err.ensures.ok ∙ c.fault_words-in-Err.ensures ∙ sym (ap₂ fault_text c.in-Scene.is unread)
