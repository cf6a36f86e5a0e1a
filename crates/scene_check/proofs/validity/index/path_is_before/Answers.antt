use Rattle.std.proofs.Common.{take, ◌∙◌}
use Rattle.scene_model.specs.declared.scene.Node.{Node}
use Rattle.scene_check.specs.Places.{path_texts}
use Rattle.scene_check.proofs.IndexLaws.{named_before}
use Rattle.scene_check.proofs.validity.index.path_is_before.Goals as goal

pub returns : goal.returns
returns c =
    let xs = c.args.index.now.scene.now.nodes in
    c.is_before.ensures ∙ named_before (λ (x : Node). x.path) xs c.args.path.now c.args.at c.next_place.result c.requires.front (c.next_place.ensures (take 4096 (path_texts xs)) c.requires.indexed.paths)
