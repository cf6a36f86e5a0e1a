use Rattle.delta_props.specs.Taking.{props_at}
use Rattle.delta_props.proofs.Putting.{IsPutting}
use Rattle.delta_props.proofs.taking.put_values.Given as goal

abbrev pub invariant-loop-j : goal.invariant-loop-j
invariant-loop-j l = IsPutting l.fn.tree l.place l.mask (props_at l.fn.tree.scene l.at) l.fn.values l.tree l.j l.rest l.values
