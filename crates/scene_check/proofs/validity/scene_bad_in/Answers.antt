use Rattle.std.proofs.Common.{◌<◌, List, length, get_or, ap, subst, ◌∙◌, arith}
use Rattle.scene_model.specs.declared.scene.SceneDef.{SceneDef}
use Rattle.scene_model.specs.Valid.{scene_why}
use Rattle.scene_model.proofs.EntryLaws.{right_more, scene_is_early}
use Rattle.scene_check.specs.Judged.{def_is_sound}
use Rattle.scene_check.proofs.SoundLaws.{passes_at}
use Rattle.scene_check.proofs.validity.scene_bad_in.Goals as goal

pub scene_why-requires-clause-sound : goal.scene_why-requires-clause-sound
scene_why-requires-clause-sound c =
    let ds = c.args.index.now.scene.now.scenes in
    let low = subst (λ (xs : List SceneDef). c.loop-at.at < length xs) c.as_slice-scenes.ensures c.loop-at-test.true in
    let is = c.index-scenes-at.is ∙ ap (λ (xs : List SceneDef). get_or xs c.loop-at.at c.index-scenes-at.result) c.as_slice-scenes.ensures in
    λ judged. passes_at def_is_sound ds c.loop-at.at c.index-scenes-at.result low is (c.requires.sound judged).scenes

pub loop-at-preserved : goal.loop-at-preserved
loop-at-preserved c =
    let ds = c.args.index.now.scene.now.scenes in
    let low = subst (λ (xs : List SceneDef). c.loop-at.at < length xs) c.as_slice-scenes.ensures c.loop-at-test.true in
    let is = c.index-scenes-at.is ∙ ap (λ (xs : List SceneDef). get_or xs c.loop-at.at c.index-scenes-at.result) c.as_slice-scenes.ensures in
    right_more scene_why ds c.loop-at.at c.index-scenes-at.result low is c.loop-at.invariant c.in_default.ensures (scene_is_early ds c.loop-at.at c.index-scenes-at.result (omega (arith, low)) c.in_default.ensures)
