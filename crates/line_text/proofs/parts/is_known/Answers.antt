use Rattle.std.proofs.Common.{sym, ap, ◌∙◌}
use Rattle.gd_variant.specs.Words.{text_eq}
use Rattle.line_text.proofs.Known.{known_here}
use Rattle.line_text.proofs.parts.is_known.Goals as goal

pub returns-then-same : goal.returns-then-same
returns-then-same c =
    known_here c.args.key.now c.args.known.now c.loop-name.name-index _ c.as_bytes.result.now c.loop-name-test.true c.as_bytes.ensures.value
    (ap (λ s. text_eq s c.as_bytes.result.now) (sym c.as_bytes-key.ensures.value) ∙ sym c.same.ensures ∙ c.if-same.true)
