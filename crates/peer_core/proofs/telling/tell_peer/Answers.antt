use Rattle.std.proofs.Common.{List, ap, ◌∙◌}
use Rattle.std.specs.List.{list_all}
use Rattle.gd_variant.specs.declared.message.DeltaEntry.{DeltaEntry}
use Rattle.delta_props.specs.Telling.{ToldValues}
use Rattle.peer_steps.specs.Tellings.{syncs_seen}
use Rattle.peer_core.specs.Parts.{is_right_entry}
use Rattle.peer_core.proofs.ToldEntries.{frame_right}
use Rattle.peer_core.proofs.telling.tell_peer.Goals as goal

pub push_entries-requires : goal.push_entries-requires
push_entries-requires c =
    ap (λ (r : List DeltaEntry × ToldValues). list_all is_right_entry r.0) c.in_ok-entries.ensures
    ∙ frame_right c.args.peer.now c.args.tree.now.scene c.args.tree.now.nodes (syncs_seen c.args.peer.now c.args.tree.now.scene c.args.track.now) c.args.told.now c.requires.valid c.requires.values
