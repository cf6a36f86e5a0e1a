use Rattle.std.proofs.Common.{Option, List, [], sym, ap, ◌∙◌}
use Rattle.std.specs.Prelude.{option_map}
use Rattle.gd_variant.specs.Words.{or_else}
use Rattle.sight_laws.specs.Sights.{RowSight, Sights, without_row}
use Rattle.visibility.specs.Rising.{rise_by_number}
use Rattle.visibility.proofs.Kept.{row_found, row_unfound, row_goes, none_goes}
use Rattle.visibility.proofs.sights.Sights.take_row.Goals as goal

pub returns-in-Some-clause-shown : goal.returns-in-Some-clause-shown
returns-in-Some-clause-shown c = c.shown_in.ensures ∙ ap (λ (o : Option RowSight). or_else (option_map (λ (r : RowSight). r.shown) o) []) (row_found c.args.num c.self.inside.rows.items c.as_slice.result.now c.args.self.now.rows c.in-Some.place c.remove.result c.as_slice.ensures.value (ap (λ (v : Sights). v.rows) c.self.view_is) c.in-Some.ensures.place c.in-Some.ensures.within c.remove.ensures.value)

pub returns-in-Some-clause-rows : goal.returns-in-Some-clause-rows
returns-in-Some-clause-rows c =
    ap {B = Sights} (λ (rs : List RowSight). record { rows = rs; fixed = c.self.inside.fixed.items }) (row_goes c.args.num c.as_slice.result.now c.self.inside.rows.items c.remove.new.self.items c.in-Some.place c.as_slice.ensures.value (ap (λ (v : Sights). rise_by_number v.rows) c.self.view_is ∙ c.requires) c.in-Some.ensures.place c.remove.ensures.items)
    ∙ ap (without_row c.args.num) c.self.view_is

pub returns-in-None-clause-shown : goal.returns-in-None-clause-shown
returns-in-None-clause-shown c = c.new.ensures.items ∙ ap (λ (o : Option RowSight). or_else (option_map (λ (r : RowSight). r.shown) o) []) (row_unfound c.args.num c.self.inside.rows.items c.as_slice.result.now c.args.self.now.rows c.as_slice.ensures.value (ap (λ (v : Sights). v.rows) c.self.view_is) c.in-None.ensures.place)

pub returns-in-None-clause-rows : goal.returns-in-None-clause-rows
returns-in-None-clause-rows c =
    sym c.self.view_is
    ∙ ap {B = Sights} (λ (rs : List RowSight). record { rows = rs; fixed = c.self.inside.fixed.items }) (none_goes c.args.num c.as_slice.result.now c.self.inside.rows.items c.as_slice.ensures.value c.in-None.ensures.place)
    ∙ ap (without_row c.args.num) c.self.view_is
