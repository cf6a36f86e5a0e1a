use Rattle.scene_check.proofs.PathLaws.{parent_found}
use Rattle.scene_check.proofs.paths.parent_of.Goals as goal

pub returns-then-path-at-eq-SLASH : goal.returns-then-path-at-eq-SLASH
returns-then-path-at-eq-SLASH c = parent_found c.args.path.now c.loop-at.at c.loop-at-test.true c.loop-at.invariant.within c.loop-at.invariant.none c.if-path-at-eq-SLASH.true
