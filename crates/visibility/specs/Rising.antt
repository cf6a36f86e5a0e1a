-- Lists whose elements stand by their numbers.
use Rattle.std.specs.Prelude.{ℕ, Bool, true, ◌&&◌, List, [], ◌∷◌, map, nat_lt}
use Rattle.std.specs.List.{list_all}
use Rattle.sight_laws.specs.Sights.{RowSight}

-- each number is below those behind it
abbrev pub do_rise : List ℕ → Bool
do_rise [] = true
do_rise (n ∷ ns) = list_all (nat_lt n) ns && do_rise ns

-- rows stand by number
abbrev pub rise_by_number : List RowSight → Bool
rise_by_number rows = do_rise (map (λ (r : RowSight). r.num) rows)
