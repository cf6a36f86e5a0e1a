use Rattle.std.proofs.Common.{rules, arith, ap, sym, ◌∙◌, ◌≡◌, ◌<◌, ◌+◌, ◌-◌, ◌++◌, ℕ, take, filter, w32, to_z, of_z, length}
use Rattle.std.proofs.lemmas.List.{append-nil}
use Rattle.std.proofs.lemmas.Int.{to_z-of_z}
use Rattle.turn_hub.specs.History.{is_for}
use Rattle.turn_hub.proofs.Boxes.{back_one}
use Rattle.turn_hub.proofs.outboxes.take_back.Goals as goal

pub loop-left-preserved : goal.loop-left-preserved
loop-left-preserved g c =
    let n : ℕ = c.loop-left.left - 1 in
    let w = g.M.Machine.words in
    let ps = c.args.packets.now in
    let more : n + 1 ≡ c.loop-left.left = omega (arith, c.loop-left-test.true) in
    let le : n < length ps = omega (arith, c.loop-left-test.true, c.loop-left.invariant.within) in
    let at : to_z w32 (of_z w32 c.link.result) ≡ w.link c.index-packets-left.result = to_z-of_z w32 c.link.result (search rules) ∙ c.link.ensures in record {
      within = omega (arith, c.loop-left.invariant.within);
      apart = c.take_last.ensures.apart;
      back = λ f h.
          back_one w c.loop-left.boxes.items c.take_last.new.boxes.items ps n c.index-packets-left.result _ f le c.index-packets-left.is at c.take_last.ensures.others c.take_last.ensures.last
          (λ q. c.loop-left.invariant.back f h q ∙ ap (λ (m : ℕ). f q ++ filter (is_for w q) (take m ps)) (sym more));
    }

pub returns-clause-back : goal.returns-clause-back
returns-clause-back g c = λ f h q.
    let w = g.M.Machine.words in
    let z : c.loop-left.left ≡ 0 = omega (arith, c.loop-left-test.false) in
    c.loop-left.invariant.back f h q ∙ ap (λ (m : ℕ). f q ++ filter (is_for w q) (take m c.args.packets.now)) z ∙ append-nil (f q)
