use Rattle.std.proofs.Common.{ap, ◌∙◌, sym, arith}
use Rattle.std.proofs.lemmas.List.{take_all}
use Rattle.scene_check.proofs.PathLaws.{has_slash, cut_at, names_whole}
use Rattle.scene_check.proofs.paths.slash_in.Goals as goal

pub returns-then-byte-eq-SLASH : goal.returns-then-byte-eq-SLASH
returns-then-byte-eq-SLASH c = cut_at c.args.path.now c.loop-at.at c.loop-at-test.true c.if-byte-eq-SLASH.true c.loop-at.invariant

pub returns : goal.returns
returns c = names_whole c.args.path.now (ap has_slash (sym (take_all c.loop-at.at c.args.path.now (omega arith))) ∙ c.loop-at.invariant)
