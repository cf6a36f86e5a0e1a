use Rattle.std.proofs.Common.{List, ap, take, drop, ◌∙◌}
use Rattle.std.specs.Prelude.{find, slice_get}
use Rattle.gd_variant.specs.Words.{text_eq}
use Rattle.scene_model.specs.declared.scene.SceneDef.{SceneDef}
use Rattle.scene_check.specs.Places.{scene_texts}
use Rattle.scene_check.proofs.IndexLaws.{named_found, named_past}
use Rattle.scene_check.proofs.validity.index.scene_named.Goals as goal

pub returns-in-Some : goal.returns-in-Some
returns-in-Some c =
    let xs = c.args.index.now.scene.now.scenes in
    c.at.ensures ∙ ap (λ (ys : List SceneDef). slice_get ys c.in-Some.found) c.as_slice-scenes.ensures
    ∙ named_found (λ (x : SceneDef). x.name) xs c.args.name.now c.in-Some.found (c.in-Some.ensures (take 4096 (scene_texts xs)) c.requires.scenes)

pub returns-in-None : goal.returns-in-None
returns-in-None c =
    let xs = c.args.index.now.scene.now.scenes in
    c.find_scene.ensures ∙ ap (λ (ys : List SceneDef). find (λ (x : SceneDef). text_eq x.name c.args.name.now) ys) (c.past_most.ensures ∙ ap (drop 4096) c.as_slice-scenes.ensures)
    ∙ named_past (λ (x : SceneDef). x.name) xs c.args.name.now (c.in-None.ensures (take 4096 (scene_texts xs)) c.requires.scenes)
