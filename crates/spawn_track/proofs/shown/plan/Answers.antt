use Rattle.std.proofs.Common.{sym, ◌∙◌}
use Rattle.peer_steps.proofs.Planned.{place_is_there}
use Rattle.spawn_track.proofs.shown.plan.Goals as goal

pub unreachable-requires : goal.unreachable-requires
unreachable-requires c = place_is_there c.args.tree.now.scene c.requires.valid c.args.spawn.now.spawner c.args.spawn.now.scene c.args.def.now c.args.name.now c.requires.spawner c.requires.named (sym c.scene_place.ensures.place ∙ c.in-None.is)
