use Rattle.std.proofs.Common.{sym, ◌∙◌}
use Rattle.scene_check.specs.Places.{Place}
use Rattle.scene_model.proofs.TextLaws.{text_eq-true, text_eq-other}
use Rattle.scene_check.proofs.PlaceLaws.{searchable, found_equal, found_next, found_other, found_none, past_end}
use Rattle.scene_check.proofs.places.next_place.Goals as goal

pub returns-in-Ok : goal.returns-in-Ok
returns-in-Ok c = λ texts h. found_equal c.args.places.now texts (c.args.text, c.args.from) c.in-Ok.field-0 h c.in-Ok.ensures.bound (c.in-Ok.ensures.ok (c.args.text, c.args.from))

pub returns-in-Some : goal.returns-in-Some
returns-in-Some c = λ texts h.
    let x : Place = (c.args.text, c.args.from) in
    let f = c.in-Some.place.now in
    found_next c.args.places.now texts x f c.in-Err.after h (sym c.in-Some.ensures) (text_eq-true f.0.now c.args.text.now (sym c.same_bytes.ensures ∙ c.if-same_bytes.true)) (c.in-Err.ensures.position (searchable c.args.places.now x h.sorted))

pub returns-in-Some-2 : goal.returns-in-Some-2
returns-in-Some-2 c = λ texts h.
    let x : Place = (c.args.text, c.args.from) in
    let f = c.in-Some.place.now in
    found_other c.args.places.now texts x f c.in-Err.after h (sym c.in-Some.ensures) (text_eq-other f.0.now c.args.text.now (sym c.same_bytes.ensures ∙ c.if-same_bytes.false)) (c.in-Err.ensures.position (searchable c.args.places.now x h.sorted))

pub returns-in-None : goal.returns-in-None
returns-in-None c = λ texts h.
    let x : Place = (c.args.text, c.args.from) in
    found_none c.args.places.now texts x c.in-Err.after h (past_end c.args.places.now c.in-Err.after (sym c.in-None.ensures)) (c.in-Err.ensures.position (searchable c.args.places.now x h.sorted))
