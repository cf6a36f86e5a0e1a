-- What a line of a session is.
use Rattle.std.specs.Prelude.{ℕ, ℤ, pos, List, [], ◌∷◌, Result, Ok, Err, codes, if◌then◌else◌}
use Rattle.std.specs.Str.{bytes_eq}
use Rattle.serde_json.specs.Data.{Data, Items, no_items, item}
use Rattle.gd_variant.specs.Words.{has_text}
use Rattle.scene_model.specs.declared.world.WorldEvent.TheVariants as event
use Rattle.program_edge.specs.declared.status.LineWhy.{LineWhy}
use Rattle.program_edge.specs.declared.status.LineWhy.TheVariants.{Shape, Name, NotBuilt}
use Rattle.line_text.specs.declared.sessions.SessionLine.{SessionLine}
use Rattle.line_text.specs.declared.sessions.SessionLine.TheVariants as line
use Rattle.line_text.specs.Reading.{Reading, ◌>>=◌}
use Rattle.line_text.specs.Parts.{none_of, one_of, two_of}
use Rattle.line_text.specs.Peers.{peer_read}
use Rattle.line_text.specs.Lines.{line_data}
use Rattle.line_text.specs.Operations.{worded_read, op_read}

-- a client connects
unfoldable pub connect_read : Items → Result SessionLine LineWhy
connect_read items = do
  _ ← none_of items
  Ok (line.Event event.Connect)

-- a client goes
unfoldable pub down_read : Items → Result SessionLine LineWhy
down_read items = do
  d ← one_of items
  peer ← peer_read d
  Ok (line.Event (event.Down peer))

-- an operation at a peer
unfoldable pub at_peer_read : Items → Result SessionLine LineWhy
at_peer_read items = do
  ds ← two_of items
  peer ← peer_read ds.0
  op ← op_read ds.1
  Ok (line.Event (event.Op peer op))

-- the next reliable packet on the link from one peer to another
unfoldable pub rel_read : Items → Result SessionLine LineWhy
rel_read items = do
  ds ← two_of items
  from ← peer_read ds.0
  to ← peer_read ds.1
  Ok (line.Event (event.Rel from to))

-- the report of a peer
unfoldable pub report_read : Items → Result SessionLine LineWhy
report_read items = do
  d ← one_of items
  peer ← peer_read d
  Ok (line.Report peer)

-- the words of lines that aren't built yet
abbrev pub later_lines : List (List ℕ)
later_lines = codes "loose" ∷ codes "forge" ∷ []

-- a line by its word, of what stands behind the word
unfoldable pub line_by : List ℕ → Items → Result SessionLine LineWhy
line_by word items =
    if bytes_eq word (codes "connect") then connect_read items
    else if bytes_eq word (codes "down") then down_read items
    else if bytes_eq word (codes "op") then at_peer_read items
    else if bytes_eq word (codes "rel") then rel_read items
    else if bytes_eq word (codes "report") then report_read items
    else if has_text word later_lines then Err NotBuilt
    else Err Name

unfoldable pub line_read : Reading SessionLine
line_read d = do
  parts ← worded_read d
  line_by parts.0 parts.1

-- a line of bytes
unfoldable pub session_line_read : List ℕ → Result SessionLine LineWhy
session_line_read bytes = do
  d ← line_data bytes
  line_read d
