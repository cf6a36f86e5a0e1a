use Rattle.std.proofs.Common.{ap, sym, ◌∙◌}
use Rattle.gd_variant.specs.Words.{or_else}
use Rattle.peer_steps.proofs.PlacesOf.{place_found}
use Rattle.spawn_track.proofs.spawning.byte_of.Goals as goal

pub returns-in-Some : goal.returns-in-Some
returns-in-Some c = ap (λ o. or_else o 255) (sym c.in-Some.is ∙ place_found c.args.name.now c.args.def.now.scenes c.as_slice.result.now c.text_place.result c.text_place.ensures.place c.as_slice.ensures)

pub returns-in-None : goal.returns-in-None
returns-in-None c = ap (λ o. or_else o 255) (sym c.in-None.is ∙ place_found c.args.name.now c.args.def.now.scenes c.as_slice.result.now c.text_place.result c.text_place.ensures.place c.as_slice.ensures)
