use Rattle.std.proofs.Common.{sym, ◌∙◌, arith}
use Rattle.peer_steps.proofs.PlacesOf.{scene_found, scenes_few}
use Rattle.spawn_track.proofs.lookup.scene_place.Goals as goal

pub overflow_cast-result : goal.overflow_cast-result
overflow_cast-result c = let few = scenes_few c.args.tree.now.scene c.requires in omega (arith, few, c.in-Some.ensures.within)

pub returns-in-Some-clause-place : goal.returns-in-Some-clause-place
returns-in-Some-clause-place c = sym c.in-Some.is ∙ scene_found c.args.tree.now.scene c.args.name.now c.as_str.result.now c.scene_place.result c.scene_place.ensures.place c.as_str.ensures.same

pub returns-in-None-clause-place : goal.returns-in-None-clause-place
returns-in-None-clause-place c = sym c.in-None.is ∙ scene_found c.args.tree.now.scene c.args.name.now c.as_str.result.now c.scene_place.result c.scene_place.ensures.place c.as_str.ensures.same
