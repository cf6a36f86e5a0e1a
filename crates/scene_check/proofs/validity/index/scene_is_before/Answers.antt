use Rattle.std.proofs.Common.{take, ◌∙◌}
use Rattle.scene_model.specs.declared.scene.SceneDef.{SceneDef}
use Rattle.scene_check.specs.Places.{scene_texts}
use Rattle.scene_check.proofs.IndexLaws.{named_before}
use Rattle.scene_check.proofs.validity.index.scene_is_before.Goals as goal

pub returns : goal.returns
returns c =
    let xs = c.args.index.now.scene.now.scenes in
    c.is_before.ensures ∙ named_before (λ (x : SceneDef). x.name) xs c.args.name.now c.args.at c.next_place.result c.requires.front (c.next_place.ensures (take 4096 (scene_texts xs)) c.requires.indexed.scenes)
