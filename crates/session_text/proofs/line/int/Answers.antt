use Rattle.std.proofs.Common.{[], ◌∷◌, ◌++◌, to_z-of_z, ap, ◌∙◌}
use Rattle.std.specs.Fmt.{signed_decimal}
use Rattle.json.specs.Token.{number}
use Rattle.session_text.proofs.Told.{int_tokens}
use Rattle.session_text.proofs.line.int.Goals as goal

pub returns : goal.returns
returns c =
    (c.in_ok-i64.ensures.room.0, c.in_ok-i64.ensures.ok ∙ ap (λ z. c.args.line.now.tokens ++ number (signed_decimal z) ∷ []) (to_z-of_z c.ranges.n) ∙ ap (λ ts. c.args.line.now.tokens ++ ts) (int_tokens c.args.n))
