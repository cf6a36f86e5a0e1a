use Rattle.std.proofs.Common.{drop}
use Rattle.peer_steps.proofs.Assigning.{IsAssigning}
use Rattle.spawn_track.proofs.receiving.put_values.Given as goal

abbrev pub invariant-loop-prop : goal.invariant-loop-prop
invariant-loop-prop l = IsAssigning l.path l.fn.tree (drop l.prop-index l.props) l.values l.tree l.props l.fn.values
