use Rattle.std.proofs.Common.{List, ap, ◌∙◌}
use Rattle.sight_laws.specs.Sights.{RowSight, Sights}
use Rattle.visibility.proofs.Kept.{fixed_all}
use Rattle.visibility.proofs.sights.Sights.new.Goals as goal

pub returns : goal.returns
returns c = ap {B = Sights} (λ (rs : List RowSight). record { rows = rs; fixed = c.in_ok-fixed.fixed.items }) c.new.ensures.items ∙ fixed_all c.args.scene.now c.args.me.now c.as_slice.result.now c.in_ok-fixed.fixed.items c.as_slice.ensures c.in_ok-fixed.ensures
