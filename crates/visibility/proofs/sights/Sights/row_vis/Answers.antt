use Rattle.std.proofs.Common.{ap, ◌∙◌}
use Rattle.std.specs.Prelude.{option_and_then, slice_get}
use Rattle.sight_laws.specs.Sights.{RowSight, Sights}
use Rattle.visibility.proofs.Kept.{row_found, row_unfound}
use Rattle.visibility.proofs.sights.Sights.row_vis.Goals as goal

pub returns-in-Some : goal.returns-in-Some
returns-in-Some c = c.vis_in.ensures ∙ ap (option_and_then (λ (r : RowSight). slice_get r.syncs c.args.k)) (row_found c.args.num c.self.inside.rows.items c.as_slice.result.now c.args.self.now.rows c.in-Some.place c.index.result.now c.as_slice.ensures.value (ap (λ (v : Sights). v.rows) c.self.view_is) c.in-Some.ensures.place c.in-Some.ensures.within c.index.ensures)

pub returns-in-None : goal.returns-in-None
returns-in-None c = ap (option_and_then (λ (r : RowSight). slice_get r.syncs c.args.k)) (row_unfound c.args.num c.self.inside.rows.items c.as_slice.result.now c.args.self.now.rows c.as_slice.ensures.value (ap (λ (v : Sights). v.rows) c.self.view_is) c.in-None.ensures.place)
