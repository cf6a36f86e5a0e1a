use Rattle.std.proofs.Common.{map, take, ◌∙◌}
use Rattle.scene_check.specs.Places.{under_of}
use Rattle.scene_check.proofs.IndexLaws.{under_before}
use Rattle.scene_check.proofs.validity.index.under_is_before.Goals as goal

pub returns : goal.returns
returns c =
    let nodes = c.args.index.now.scene.now.nodes in
    c.is_before.ensures ∙ under_before nodes c.args.under.now c.args.at c.next_place.result c.requires.front (c.next_place.ensures (take 4096 (map under_of nodes)) c.requires.indexed.unders)
