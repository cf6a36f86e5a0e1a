use Rattle.std.proofs.Common.{ap, sym, ◌∙◌, arith, ◌+◌}
use Rattle.std.specs.Prelude.{option_map}
use Rattle.gd_variant.specs.Words.{or_else}
use Rattle.scene_model.specs.Syncs.{sync_id}
use Rattle.peer_steps.proofs.PlacesOf.{id_found, nodes_few}
use Rattle.spawn_track.proofs.lookup.fixed_id.Goals as goal

pub overflow_cast-result : goal.overflow_cast-result
overflow_cast-result c = let few = nodes_few c.args.tree.now.scene c.requires in omega (arith, few, c.in-Some.ensures.within)

pub overflow_add-result : goal.overflow_add-result
overflow_add-result c = let few = nodes_few c.args.tree.now.scene c.requires in omega (arith, few, c.in-Some.ensures.within)

pub overflow_add-result-in-Some : goal.overflow_add-result-in-Some
overflow_add-result-in-Some c = let few = nodes_few c.args.tree.now.scene c.requires in omega (arith, few, c.in-Some.ensures.within)

pub returns-in-Some : goal.returns-in-Some
returns-in-Some c = ap sync_id (ap (λ o. or_else (option_map (λ i. i + 1) o) 0) (sym c.in-Some.is) ∙ id_found c.args.tree.now.scene c.args.path.now c.as_str.result.now c.fixed_place.result c.fixed_place.ensures.place c.as_str.ensures.same)

pub returns-in-None : goal.returns-in-None
returns-in-None c = ap sync_id (ap (λ o. or_else (option_map (λ i. i + 1) o) 0) (sym c.in-None.is) ∙ id_found c.args.tree.now.scene c.args.path.now c.as_str.result.now c.fixed_place.result c.fixed_place.ensures.place c.as_str.ensures.same)
