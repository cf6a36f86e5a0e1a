use Rattle.std.proofs.Common.{ap, not}
use Rattle.sight_laws.specs.Sights.{Sight}
use Rattle.visibility.proofs.Kept.{full_new, full_old}
use Rattle.visibility.proofs.vis.Vis.is_full_for.Goals as goal

pub returns-then-not-contains_key : goal.returns-then-not-contains_key
returns-then-not-contains_key c = full_new c.args.peer.now c.self.inside.set.entries c.args.self.now c.contains_key.result c.len.result (ap (λ (y : Sight). y.set) c.self.view_is) c.contains_key.ensures c.len.ensures.len (ap not c.if-not-contains_key.true)

pub returns-else-not-contains_key : goal.returns-else-not-contains_key
returns-else-not-contains_key c = full_old c.args.peer.now c.self.inside.set.entries c.args.self.now c.contains_key.result (ap (λ (y : Sight). y.set) c.self.view_is) c.contains_key.ensures (ap not c.if-not-contains_key.false)
