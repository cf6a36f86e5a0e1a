-- Rows stand by number.
use Rattle.std.specs.Prelude.{◌≡◌, ℕ, Bool, true, List, map, nat_lt, Option, Some, None, option_map, option_and_then, if◌then◌else◌}
use Rattle.std.specs.List.{list_all}
use Rattle.gd_variant.specs.Words.{or_else}
use Rattle.peer_model.specs.Updates.{Live, live_at}
use Rattle.sight_laws.specs.Sights.{RowSight}
use Rattle.peer_steps.specs.declared.rows.SpawnedRow.{SpawnedRow}
use Rattle.peer_steps.specs.Track.{Track, is_row, row_with}
use Rattle.visibility.specs.Rising.{do_rise, rise_by_number}

-- the numbers of rows
abbrev pub numbers_in : List SpawnedRow → List ℕ
numbers_in rows = map (λ (r : SpawnedRow). r.num) rows

-- rows stand by number
abbrev pub rows_rise : List SpawnedRow → Bool
rows_rise rows = do_rise (numbers_in rows)

-- numbers are below another one
abbrev pub are_below : ℕ → List ℕ → Bool
are_below next ns = list_all (λ n. nat_lt n next) ns

-- the numbers of rows that are seen
abbrev pub numbers_seen : List RowSight → List ℕ
numbers_seen rows = map (λ (r : RowSight). r.num) rows

-- the rows stand by number, below the next one, and so do those that are seen
pub record IsTracked (t : Track) : Type 0 where
  pub rows : rows_rise t.rows ≡ true
  pub below : are_below t.next (numbers_in t.rows) ≡ true
  pub seen : rise_by_number t.sights.rows ≡ true
  pub under : are_below t.next (numbers_seen t.sights.rows) ≡ true

-- the number of a node, where it was spawned
abbrev pub row_number_of : Option Live → Option ℕ
row_number_of n = if is_row n then Some (or_else (option_map (λ (m : Live). m.num) n) 0) else None

-- the own row whose node stands at a path
abbrev pub row_at : List Live → List ℕ → List SpawnedRow → Option SpawnedRow
row_at nodes path rows = option_and_then (λ num. row_with num rows) (row_number_of (live_at nodes path))
