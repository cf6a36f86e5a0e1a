use Rattle.std.proofs.Common.{◌≡◌, ◌≤◌, ◌++◌, sym, ap, ◌∙◌, subst, take, drop, length, arith, length-append}
use Rattle.std.specs.Prelude.{ℕ, List}
use Rattle.std.proofs.lemmas.List.{length-take}
use Rattle.program_edge.specs.Lines.{Reader}
use Rattle.program_edge.proofs.FirstLines.{keeps_reading}
use Rattle.program_edge.proofs.lines.LineReader.refill.Goals as goal

-- what stands in the buffer is as it was before the piece, and the piece
added : (kept front whole more : List ℕ) → kept ≡ front ++ more → front ≡ whole → kept ≡ whole ++ more
added kept front whole more e f = e ∙ ap (λ (x : List ℕ). x ++ more) f

-- the piece that was lent keeps its length
lent : (items now given : List ℕ) (n : ℕ) → length items ≡ 65536 → n ≡ length items → length now ≡ length given → given ≡ items → length (take n (now ++ drop (length now) items)) ≡ 65536
lent items now given n full whole same e = omega (arith, length-take n (now ++ drop (length now) items), length-append now (drop (length now) items), ap length e)

pub invariant_of-self-else-count-eq0 : goal.invariant_of-self-else-count-eq0
invariant_of-self-else-count-eq0 g c =
    let P : Reader → Type 0 = λ r. length r.bytes ≤ r.most in
    let more : List ℕ = take c.in_ok-count.count c.append_piece.new.piece in
    keeps_reading _ c.self.inside.buffer.items c.self.inside.at _ c.self.inside.piece.items _ more _ c.self.invariant
    (subst P (sym c.self.view_is) c.requires.short)
    (added _ _ _ more c.in_ok-count.ensures.added c.discard_front.ensures)
    (omega (arith, length-take c.in_ok-count.count c.append_piece.new.piece, c.in_ok-count.ensures.bound, c.append_piece.auto.piece, ap length c.as_mut_slice.ensures.value, c.self.invariant.full))
    (lent c.self.inside.piece.items _ _ _ c.self.invariant.full c.self.inside.piece.ok.0 c.append_piece.auto.piece c.as_mut_slice.ensures.value)
