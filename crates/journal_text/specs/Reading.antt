-- What a line of a journal is.
use Rattle.std.specs.Prelude.{ℕ, ℤ, List, Result, Ok, Err, codes, if◌then◌else◌}
use Rattle.std.specs.Str.{bytes_eq}
use Rattle.serde_json.specs.Data.{Items}
use Rattle.program_edge.specs.declared.status.LineWhy.{LineWhy}
use Rattle.program_edge.specs.declared.status.LineWhy.TheVariants.{Name}
use Rattle.line_text.specs.Reading.{Reading, ◌>>=◌}
use Rattle.line_text.specs.Lines.{line_data}
use Rattle.line_text.specs.Operations.{op_read, worded_read}
use Rattle.line_text.specs.Parts.{bytes_read, nat_read, three_of, two_of}
use Rattle.line_text.specs.Parts.{none_of, one_of}
use Rattle.line_text.specs.Peers.{peer_read}
use Rattle.line_text.specs.Words.{class_read}
use Rattle.journal_text.specs.declared.lines.JournalLine.{JournalLine}
use Rattle.journal_text.specs.declared.lines.JournalLine.TheVariants as entry

-- the number of a peer, and nothing else
unfoldable pub only_peer_read : Items → Result ℤ LineWhy
only_peer_read items = do
  d ← one_of items
  peer_read d

-- the peer whose journal it is
unfoldable pub named_read : Items → Result JournalLine LineWhy
named_read items = do
  p ← only_peer_read items
  Ok (entry.Peer p)

-- a peer comes up
unfoldable pub up_read : Items → Result JournalLine LineWhy
up_read items = do
  p ← only_peer_read items
  Ok (entry.Up p)

-- a peer goes down
unfoldable pub down_read : Items → Result JournalLine LineWhy
down_read items = do
  p ← only_peer_read items
  Ok (entry.Down p)

-- an operation of the peer
unfoldable pub operation_read : Items → Result JournalLine LineWhy
operation_read items = do
  d ← one_of items
  op ← op_read d
  Ok (entry.Op op)

-- a packet on the link from a peer
unfoldable pub got_read : Items → Result JournalLine LineWhy
got_read items = do
  ds ← three_of items
  from ← peer_read ds.0
  class ← class_read ds.1
  bytes ← bytes_read ds.2
  Ok (entry.Got from class bytes)

-- packets were taken out: of which link, and how many
unfoldable pub took_read : Items → Result JournalLine LineWhy
took_read items = do
  ds ← two_of items
  peer ← peer_read ds.0
  count ← nat_read 0 18446744073709551615 ds.1
  Ok (entry.Took peer count)

-- the end of the journal
unfoldable pub end_read : Items → Result JournalLine LineWhy
end_read items = do
  _ ← none_of items
  Ok entry.End

-- a line by its word, of what stands behind the word
unfoldable pub entry_by : List ℕ → Items → Result JournalLine LineWhy
entry_by word items =
    if bytes_eq word (codes "peer") then named_read items
    else if bytes_eq word (codes "up") then up_read items
    else if bytes_eq word (codes "down") then down_read items
    else if bytes_eq word (codes "op") then operation_read items
    else if bytes_eq word (codes "got") then got_read items
    else if bytes_eq word (codes "took") then took_read items
    else if bytes_eq word (codes "end") then end_read items
    else Err Name

unfoldable pub entry_read : Reading JournalLine
entry_read d = do
  parts ← worded_read d
  entry_by parts.0 parts.1

-- a line of bytes
unfoldable pub journal_line_read : List ℕ → Result JournalLine LineWhy
journal_line_read bytes = do
  d ← line_data bytes
  entry_read d
