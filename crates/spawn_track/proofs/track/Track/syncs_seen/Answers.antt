use Rattle.std.proofs.Common.{ap, ◌∙◌}
use Rattle.std.specs.List.{list_all}
use Rattle.peer_steps.specs.Rights.{is_right_row}
use Rattle.peer_steps.specs.Track.{Track}
use Rattle.spawn_track.proofs.SeenSyncs.{all_few}
use Rattle.spawn_track.proofs.track.Track.syncs_seen.Goals as goal

pub seen_syncs-requires-clause-few : goal.seen_syncs-requires-clause-few
seen_syncs-requires-clause-few c = all_few c.args.tree.now.scene c.requires.valid c.as_slice.result.now (ap (list_all (is_right_row c.args.tree.now.scene)) (c.as_slice.ensures.value ∙ ap (λ (t : Track). t.rows) c.self.view_is) ∙ c.requires.rows)
