use Rattle.std.proofs.Common.{sym, ap, ◌∙◌, arith}
use Rattle.program_edge.specs.Lines.{Reader, is_line_feed}
use Rattle.program_edge.proofs.Prefixes.{position-none}
use Rattle.program_edge.proofs.lines.LineReader.is_ready.Goals as goal

pub returns-in-None-2-clause-open : goal.returns-in-None-2-clause-open
returns-in-None-2-clause-open c =
    let most = ap (λ (r : Reader). r.most) c.self.view_is in
    let ended = ap (λ (r : Reader). r.ended) c.self.view_is in (
      λ none. record {
        no_feed = position-none is_line_feed c.args.self.now.bytes c.in-None.ensures.place;
        short = omega (arith, c.held-held.ensures, c.if-held-most.false, most);
        more = sym ended ∙ none;
      },
      λ is. ended ∙ is.more,
    )
