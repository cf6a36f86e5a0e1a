use Rattle.std.proofs.Common.{◌++◌, [], ◌∷◌, ap, ap₂, ◌∙◌, append_assoc}
use Rattle.json.specs.Print.{print}
use Rattle.session_text.proofs.Told.{line_text}
use Rattle.session_text.proofs.line.end.Goals as goal

pub returns : goal.returns
returns c cells is =
    c.in_ok-push.ensures.items
    ∙ ap (λ text. text ++ 10 ∷ []) (c.into_inner-text.ensures.items ∙ ap₂ (λ text ts. text ++ print ts) c.in_ok-end_array.ensures.room.0 c.in_ok-end_array.ensures.ok)
    ∙ append_assoc c.args.line.before _ _
    ∙ ap (λ text. c.args.line.before ++ text) (line_text c.args.line.tokens cells is)
