-- A line as JSON.
use Rattle.std.specs.Prelude.{ℕ, List, Option, Some, None, Result, Ok, Err, if◌then◌else◌}
use Rattle.std.specs.Str.{is_utf8}
use Rattle.serde_json.specs.Data.{Data}
use Rattle.serde_json.specs.Read.{read}
use Rattle.program_edge.specs.declared.status.LineWhy.{LineWhy}
use Rattle.program_edge.specs.declared.status.LineWhy.TheVariants.{Json}

abbrev pub found : Option Data → Result Data LineWhy
found None = Err Json
found (Some d) = Ok d

-- the value that serde_json reads of a line
unfoldable pub line_data : List ℕ → Result Data LineWhy
line_data bytes = if is_utf8 bytes then found (read bytes) else Err Json
