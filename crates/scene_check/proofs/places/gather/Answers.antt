use Rattle.std.proofs.Common.{List, subst, sym, ◌+◌}
use Rattle.scene_check.specs.Places.{Place, texts_of, AreGathered}
use Rattle.scene_check.proofs.PlaceLaws.{gathered_more}
use Rattle.scene_check.proofs.places.gather.Goals as goal

pub loop-at-preserved : goal.loop-at-preserved
loop-at-preserved c =
    subst (λ (ps : List Place). AreGathered ps (texts_of c.args.list) (c.loop-at.at + 1)) (sym c.note.ensures)
    (gathered_more c.loop-at.places.items (texts_of c.args.list) c.loop-at.at c.text.result c.loop-at.invariant c.text.ensures)
