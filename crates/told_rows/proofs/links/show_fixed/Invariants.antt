use Rattle.std.proofs.Common.{◌≡◌, ◌+◌, drop}
use Rattle.std.specs.Prelude.{filter_map}
use Rattle.gd_variant.specs.Words.{numbered}
use Rattle.scene_model.specs.Syncs.{fixed_syncer, fixed_syncers}
use Rattle.telling_laws.specs.Telling.{told_all}
use Rattle.peer_steps.specs.Tellings.{first_told}
use Rattle.peer_steps.specs.Sites.{who_at}
use Rattle.told_rows.proofs.links.show_fixed.Given as goal

abbrev pub invariant-loop-place : goal.invariant-loop-place
invariant-loop-place l = told_all l.peer (first_told (who_at l.me l.tree.scene)) (filter_map (fixed_syncer l.me) (numbered (l.place + 1) (drop l.place l.tree.scene.nodes))) l.told ≡ told_all l.peer (first_told (who_at l.me l.tree.scene)) (fixed_syncers l.tree.scene l.me) l.fn.told
