use Rattle.std.proofs.Common.{List, sym, ap, ◌∙◌}
use Rattle.sight_laws.specs.Sights.{RowSight, Sights, row_set, with_row_set}
use Rattle.visibility.specs.Rising.{rise_by_number}
use Rattle.visibility.specs.Settings.{change_of}
use Rattle.visibility.proofs.Kept.{row_changes, none_changes}
use Rattle.visibility.proofs.sights.Sights.set_row.Goals as goal

pub returns-in_ok-set-in-Some : goal.returns-in_ok-set-in-Some
returns-in_ok-set-in-Some c =
    ap {B = Sights} (λ (rs : List RowSight). record { rows = rs; fixed = c.self.inside.fixed.items }) (row_changes c.args.num (row_set c.args.up.now c.args.k (change_of c.args.setting.now).change) c.as_slice.result.now c.self.inside.rows.items c.in-Some.place c.index_mut.result.now _
    c.as_slice.ensures.value (ap (λ (v : Sights). rise_by_number v.rows) c.self.view_is ∙ c.requires) c.in-Some.ensures.place c.in-Some.ensures.within c.index_mut.ensures.value c.in_ok-set-in-Some.ensures)
    ∙ ap (with_row_set c.args.up.now c.args.num c.args.k (change_of c.args.setting.now).change) c.self.view_is

pub returns-in-None : goal.returns-in-None
returns-in-None c =
    sym c.self.view_is
    ∙ ap {B = Sights} (λ (rs : List RowSight). record { rows = rs; fixed = c.self.inside.fixed.items }) (none_changes c.args.num (row_set c.args.up.now c.args.k (change_of c.args.setting.now).change) c.as_slice.result.now c.self.inside.rows.items c.as_slice.ensures.value c.in-None.ensures.place)
    ∙ ap (with_row_set c.args.up.now c.args.num c.args.k (change_of c.args.setting.now).change) c.self.view_is
