use Rattle.std.proofs.Common.{◌≡◌, ◌+◌, sym, ap, ◌∙◌, drop, arith, length-drop}
use Rattle.std.specs.Prelude.{ℕ, List}
use Rattle.std.specs.List.{position}
use Rattle.std.proofs.lemmas.List.{drop-drop}
use Rattle.program_edge.specs.Lines.{is_line_feed, Reader}
use Rattle.program_edge.proofs.Prefixes.{found_behind, none_behind, position-found, position-is_none}
use Rattle.program_edge.proofs.lines.LineReader.find_line_feed.Goals as goal

-- what stands behind the bytes that were searched before
behind : (items rest found : List ℕ) (at clean : ℕ) → found ≡ items → rest ≡ drop (at + clean) found → rest ≡ drop clean (drop at items)
behind items rest found at clean same e = e ∙ ap (drop (at + clean)) same ∙ sym (drop-drop clean at items)

pub invariant_of-self : goal.invariant_of-self
invariant_of-self c =
    let i = c.self.inside in
    let bytes = drop i.at i.buffer.items in
    let place = found_behind is_line_feed bytes i.clean c.in-Some.count c.self.invariant.clean (c.in-Some.ensures ∙ ap (position is_line_feed) (behind i.buffer.items _ _ i.at i.clean c.deref.ensures.value c.split_at.ensures.back)) in
    let found = position-found is_line_feed bytes (i.clean + c.in-Some.count) place in
    let len = length-drop i.at i.buffer.items in
    record {
      within = omega (arith, found.0, found.1, len);
      clean = omega (arith, found.0);
      full = c.self.invariant.full;
      bounded = c.self.invariant.bounded;
    }

pub invariant_of-self-in-None : goal.invariant_of-self-in-None
invariant_of-self-in-None c =
    let i = c.self.inside in
    let none = none_behind is_line_feed (drop i.at i.buffer.items) i.clean c.self.invariant.clean (c.in-None.ensures ∙ ap (position is_line_feed) (behind i.buffer.items _ _ i.at i.clean c.deref.ensures.value c.split_at.ensures.back)) in
    let len = length-drop i.at i.buffer.items in
    let whole = i.buffer.ok.0 in
    record {
      within = omega (arith, c.len.ensures, whole, c.self.invariant.within);
      clean = omega (arith, none, len, c.len.ensures, whole);
      full = c.self.invariant.full;
      bounded = c.self.invariant.bounded;
    }

pub returns-in-Some-clause-place : goal.returns-in-Some-clause-place
returns-in-Some-clause-place c =
    let i = c.self.inside in
    found_behind is_line_feed (drop i.at i.buffer.items) i.clean c.in-Some.count c.self.invariant.clean (c.in-Some.ensures ∙ ap (position is_line_feed) (behind i.buffer.items _ _ i.at i.clean c.deref.ensures.value c.split_at.ensures.back))
    ∙ ap (λ (r : Reader). position is_line_feed r.bytes) c.self.view_is

pub returns-in-None-clause-place : goal.returns-in-None-clause-place
returns-in-None-clause-place c =
    let i = c.self.inside in
    position-is_none is_line_feed (drop i.at i.buffer.items) (none_behind is_line_feed (drop i.at i.buffer.items) i.clean c.self.invariant.clean (c.in-None.ensures ∙ ap (position is_line_feed) (behind i.buffer.items _ _ i.at i.clean c.deref.ensures.value c.split_at.ensures.back)))
    ∙ ap (λ (r : Reader). position is_line_feed r.bytes) c.self.view_is
