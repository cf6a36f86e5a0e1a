use Rattle.std.proofs.Common.{List, ap, sym, ◌∙◌}
use Rattle.peer_steps.specs.declared.rows.SpawnedRow.{SpawnedRow}
use Rattle.peer_steps.specs.Sites.{who_at}
use Rattle.peer_steps.specs.Spawns.{spawn_judged}
use Rattle.peer_steps.proofs.Fitting.{may_spawn}
use Rattle.spawn_track.proofs.making.spawn_row.Goals as goal

pub make_spawn-requires : goal.make_spawn-requires
make_spawn-requires c = may_spawn c.args.me.now c.args.tree.now (record { next = c.args.next.now; rows = c.args.rows.now.items; sights = c.args.sights.now }) c.args.op.now c.in_ok-site.site
    c.requires.fits c.requires.right c.requires.sound c.requires.argument c.in_ok-site.ensures.site c.in_ok-site.ensures.within
    (ap (λ (rs : List SpawnedRow). spawn_judged (who_at c.args.me.now c.args.tree.now.scene) c.args.tree.now.nodes rs c.args.next.now c.args.op.now) (sym c.deref.ensures.value) ∙ sym c.judge_spawn.ensures ∙ c.in-None.is)
