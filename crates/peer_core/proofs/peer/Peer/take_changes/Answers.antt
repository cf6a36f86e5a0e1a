use Rattle.peer_core.proofs.ToldEntries.{changed_is, changed_right}
use Rattle.peer_core.proofs.peer.Peer.take_changes.Goals as goal

pub invariant_of-self : goal.invariant_of-self
invariant_of-self c = λ live. changed_right c.self.inside.peers c.self.inside.tree c.take_entries-fault.new.tree c.self.inside.track c.args.from.now c.args.entries c.take_entries-fault.result c.requires.sound c.take_entries-fault.ensures (c.self.invariant live)

pub returns-clause-taken : goal.returns-clause-taken
returns-clause-taken c = changed_is c.args.self.now c.self.inside.spent c.self.inside.peers c.self.inside.tree c.take_entries-fault.new.tree c.self.inside.track c.self.inside.told c.args.from.now c.args.entries c.take_entries-fault.result c.fault_or_quiet.result
    c.self.view_is c.take_entries-fault.ensures c.fault_or_quiet.ensures
