use Rattle.gd_variant.proofs.Equal.{is_same_value}
use Rattle.gd_variant.proofs.equality.same.Goals as goal

pub returns-clause-value : goal.returns-clause-value
returns-clause-value c = is_same_value c.args.a.now c.args.b.now c.equal.result (c.equal.ensures.0, c.equal.ensures.1)
