use Rattle.std.proofs.Common.{[], ◌∷◌, codes, rules, sym, ap, ◌∙◌}
use Rattle.serde_json.specs.Data.{string}
use Rattle.session_text.specs.Json.{hex_of, int_of}
use Rattle.session_text.specs.Messages.{message_cells}
use Rattle.session_text.specs.Tokens.{Adds, tokens_of}
use Rattle.session_text.proofs.Told.{three_behind}
use Rattle.session_text.proofs.messages.message_cells.Goals as goal

pub returns-in_ok-hexadecimal-in-Auth : goal.returns-in_ok-hexadecimal-in-Auth
returns-in_ok-hexadecimal-in-Auth c =
    let bytes = c.as_slice.result.now in
    let peer : Adds c.text.new.line c.int.new.line (tokens_of (int_of c.in-Auth.peer)) = search rules in
    three_behind c.args.line.now c.text.new.line c.int.new.line c.hexadecimal.new.line (string (codes "auth")) (int_of c.in-Auth.peer) (hex_of bytes) (message_cells c.args.m.now)
    (ap message_cells c.in-Auth.is ∙ ap (λ told. string (codes "auth") ∷ int_of c.in-Auth.peer ∷ hex_of told ∷ []) (sym c.as_slice.ensures))
    c.in_ok-text-in-Auth.ensures peer c.in_ok-hexadecimal-in-Auth.ensures
