use Rattle.std.proofs.Common.{List, ap, take, drop, ◌∙◌}
use Rattle.std.specs.Prelude.{find, slice_get}
use Rattle.gd_variant.specs.Words.{text_eq}
use Rattle.scene_model.specs.declared.scene.Node.{Node}
use Rattle.scene_check.specs.Places.{path_texts}
use Rattle.scene_check.proofs.IndexLaws.{named_found, named_past}
use Rattle.scene_check.proofs.validity.index.node_at.Goals as goal

pub returns-in-Some : goal.returns-in-Some
returns-in-Some c =
    let xs = c.args.index.now.scene.now.nodes in
    c.at.ensures ∙ ap (λ (ys : List Node). slice_get ys c.in-Some.found) c.as_slice-nodes.ensures
    ∙ named_found (λ (x : Node). x.path) xs c.args.path.now c.in-Some.found (c.in-Some.ensures (take 4096 (path_texts xs)) c.requires.paths)

pub returns-in-None : goal.returns-in-None
returns-in-None c =
    let xs = c.args.index.now.scene.now.nodes in
    c.find_node.ensures ∙ ap (λ (ys : List Node). find (λ (x : Node). text_eq x.path c.args.path.now) ys) (c.past_most.ensures ∙ ap (drop 4096) c.as_slice-nodes.ensures)
    ∙ named_past (λ (x : Node). x.path) xs c.args.path.now (c.in-None.ensures (take 4096 (path_texts xs)) c.requires.paths)
