use Rattle.std.proofs.Common.{◌≡◌, sym, ap, ◌∙◌, arith}
use Rattle.program_edge.specs.Lines.{Reader, is_line_feed}
use Rattle.program_edge.proofs.Prefixes.{position-none}
use Rattle.program_edge.proofs.FirstLines.{line_read, feed_too_far, held_too_long, nothing_left, last_read}
use Rattle.program_edge.proofs.lines.LineReader.ready.Goals as goal

bytes_of : {r s : Reader} → r ≡ s → r.bytes ≡ s.bytes
bytes_of e = ap (λ (r : Reader). r.bytes) e

most_of : {r s : Reader} → r ≡ s → r.most ≡ s.most
most_of e = ap (λ (r : Reader). r.most) e

ended_of : {r s : Reader} → r ≡ s → r.ended ≡ s.ended
ended_of e = ap (λ (r : Reader). r.ended) e

pub returns-in_ok-split_line-in-Some-clause-settles : goal.returns-in_ok-split_line-in-Some-clause-settles
returns-in_ok-split_line-in-Some-clause-settles c =
    let same = c.find_line_feed.ensures.same in
    let after = c.in_ok-split_line-in-Some.ensures.rest in
    let most : c.self.inside.most ≡ c.args.self.now.most = most_of c.self.view_is in
    record {
      most = most_of after ∙ most_of same;
      ended = ended_of after ∙ ended_of same;
      line = λ rest ended. line_read _ c.in-Some.count _ _ _ rest _ (bytes_of same) c.in-Some.ensures.place (omega (arith, c.if-count-most.true)) c.in_ok-split_line-in-Some.ensures.line (bytes_of after);
    }

pub returns-in-Some-2-clause-settles : goal.returns-in-Some-2-clause-settles
returns-in-Some-2-clause-settles c =
    let same = c.find_line_feed.ensures.same in
    let most : c.self.inside.most ≡ c.args.self.now.most = most_of c.self.view_is in
    record {
      most = most_of same;
      ended = ended_of same;
      line = λ rest ended. feed_too_far _ c.in-Some.count _ _ rest (bytes_of same) c.in-Some.ensures.place (omega (arith, c.if-count-most.false));
    }

pub returns-in-None-clause-settles : goal.returns-in-None-clause-settles
returns-in-None-clause-settles c =
    let same = c.find_line_feed.ensures.same in
    let most : c.self.inside.most ≡ c.args.self.now.most = most_of c.self.view_is in
    record {
      most = most_of same;
      ended = ended_of same;
      line = λ rest ended. held_too_long _ _ _ rest (bytes_of same) c.in-None.ensures.place (omega (arith, c.held-held.ensures, c.if-held-most.true));
    }

pub returns-in-None-3-clause-settles : goal.returns-in-None-3-clause-settles
returns-in-None-3-clause-settles c =
    let same = c.find_line_feed.ensures.same in
    record {
      most = most_of same;
      ended = ended_of same;
      line = λ rest ended. nothing_left _ _ _ rest (bytes_of same) (omega (arith, c.held-held.ensures, c.if-held-eq0.true)) (ended (sym (ended_of c.self.view_is) ∙ c.if-not-ended.false));
    }

pub returns-in_ok-split_line-in-None-4-clause-settles : goal.returns-in_ok-split_line-in-None-4-clause-settles
returns-in_ok-split_line-in-None-4-clause-settles c =
    let same = c.find_line_feed.ensures.same in
    let after = c.in_ok-split_line-in-None-4.ensures.rest in
    let most : c.self.inside.most ≡ c.args.self.now.most = most_of c.self.view_is in
    record {
      most = most_of after ∙ most_of same;
      ended = ended_of after ∙ ended_of same;
      line = λ rest ended. last_read _ c.held-held.result _ _ _ rest _ (bytes_of same) c.held-held.ensures c.in-None.ensures.place (omega (arith, c.if-held-eq0.false)) (omega (arith, c.if-held-most.false)) (ended (sym (ended_of c.self.view_is) ∙ c.if-not-ended.false)) c.in_ok-split_line-in-None-4.ensures.line (bytes_of after);
    }

pub returns-in-None-2-clause-settles : goal.returns-in-None-2-clause-settles
returns-in-None-2-clause-settles c =
    let most : c.self.inside.most ≡ c.args.self.now.most = most_of c.self.view_is in (
      c.find_line_feed.ensures.same,
      record {
        no_feed = position-none is_line_feed c.args.self.now.bytes c.in-None.ensures.place;
        short = omega (arith, c.held-held.ensures, c.if-held-most.false);
        more = sym (ended_of c.self.view_is) ∙ c.if-not-ended.true;
      },
    )
