use Rattle.std.proofs.Common.{◌≡◌, ◌++◌, List, drop}
use Rattle.scene_model.specs.declared.outcome.Out.{Out}
use Rattle.delta_props.specs.Telling.{ToldValues}
use Rattle.peer_core.specs.Forms.{packet_form}
use Rattle.peer_core.specs.Parts.{frame_parts}
use Rattle.peer_core.proofs.telling.tell_frame.Given as goal

abbrev pub invariant-loop-peer : goal.invariant-loop-peer
invariant-loop-peer l =
    ◌≡◌ {A = List Out × ToldValues} (l.out ++ (frame_parts packet_form l.tree l.track (drop l.peer-index l.up) l.told).0, (frame_parts packet_form l.tree l.track (drop l.peer-index l.up) l.told).1)
    (frame_parts packet_form l.tree l.track l.up l.fn.told)
