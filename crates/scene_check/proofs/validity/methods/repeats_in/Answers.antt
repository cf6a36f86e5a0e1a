use Rattle.std.proofs.Common.{◌+◌, List, ℕ, Bool, is_some, sym, subst, ◌∙◌, map, drop}
use Rattle.scene_model.specs.declared.scene.Method.{Method}
use Rattle.scene_check.specs.Places.{IsNext, method_texts}
use Rattle.scene_model.specs.Valid.{has_twice}
use Rattle.scene_check.proofs.RepeatLaws.{names_left, first_true, second_left}
use Rattle.scene_check.proofs.validity.methods.repeats_in.Goals as goal

-- what is left of the names from a place on
abbrev rest : List Method → ℕ → Bool
rest ms i = has_twice (map (λ (m : Method). m.name) (drop i ms))

pub returns-then-is_some : goal.returns-then-is_some
returns-then-is_some c =
    let ms = c.args.methods.now in
    let i = c.loop-at.at in
    let next = subst (λ (t : List ℕ). IsNext t (i + 1) (method_texts ms) c.next_place.result) c.bytes_of.ensures (c.next_place.ensures (method_texts ms) c.requires.placed) in
    let e = names_left ms i c.index-methods-at.result (rest ms 0) c.next_place.result c.loop-at-test.true c.index-methods-at.is c.loop-at.invariant next in
    first_true (is_some c.next_place.result) (rest ms (i + 1)) (rest ms 0) e (sym c.is_some.ensures ∙ c.if-is_some.true)

pub loop-at-preserved : goal.loop-at-preserved
loop-at-preserved c =
    let ms = c.args.methods.now in
    let i = c.loop-at.at in
    let next = subst (λ (t : List ℕ). IsNext t (i + 1) (method_texts ms) c.next_place.result) c.bytes_of.ensures (c.next_place.ensures (method_texts ms) c.requires.placed) in
    let e = names_left ms i c.index-methods-at.result (rest ms 0) c.next_place.result c.loop-at-test.true c.index-methods-at.is c.loop-at.invariant next in
    second_left (is_some c.next_place.result) (rest ms (i + 1)) (rest ms 0) e (sym c.is_some.ensures ∙ c.if-is_some.false)
