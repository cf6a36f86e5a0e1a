use Rattle.std.proofs.Common.{[], ◌∷◌, codes, sym, ap, ◌∙◌}
use Rattle.serde_json.specs.Data.{string}
use Rattle.session_text.specs.Json.{hex_of}
use Rattle.session_text.specs.Messages.{plain_cells}
use Rattle.session_text.proofs.Told.{two_behind}
use Rattle.session_text.proofs.messages.plain_cells.Goals as goal

pub returns-in_ok-hexadecimal-in-Raw : goal.returns-in_ok-hexadecimal-in-Raw
returns-in_ok-hexadecimal-in-Raw c =
    let bytes = c.as_slice-in-Raw.result.now in
    two_behind c.args.line.now c.text-in-Raw.new.line c.hexadecimal-in-Raw.new.line (string (codes "raw")) (hex_of bytes) (plain_cells c.args.plain.now)
    (ap plain_cells c.in-Raw.is ∙ ap (λ told. string (codes "raw") ∷ hex_of told ∷ []) (sym c.as_slice-in-Raw.ensures))
    c.in_ok-text-in-Raw.ensures c.in_ok-hexadecimal-in-Raw.ensures
