use Rattle.std.proofs.Common.{◌≡◌, ◌+◌, ◌≤◌, length, drop}
use Rattle.peer_model.specs.Updates.{masked}
use Rattle.delta_props.specs.Telling.{changes_in}
use Rattle.delta_props.specs.Taking.{halved}
use Rattle.delta_props.proofs.taking.spread.Given as goal

abbrev pub invariant-loop-prop : goal.invariant-loop-prop
invariant-loop-prop l = (l.count + length (masked l.rest (changes_in (drop l.prop-index l.props))) ≡ length (masked l.mask (changes_in l.props)))
    × (halved (changes_in (drop l.prop-index l.props)) l.rest ≡ halved (changes_in l.props) l.mask) × (l.count ≤ l.prop-index)
