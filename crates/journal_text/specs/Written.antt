-- How a line of a journal is written, and that it is read back.
use Rattle.std.specs.Prelude.{◌≡◌, ℕ, ◌<◌, ◌^◌, Bool, true, List, [], ◌∷◌, ◌++◌, Ok, codes}
use Rattle.std.specs.List.{list_all}
use Rattle.serde_json.specs.Data.{Data, string}
use Rattle.session_text.specs.Json.{hex_of, int_of, line_of, nat_of}
use Rattle.session_text.specs.Reasons.{class_name}
use Rattle.line_text.specs.Held.{op_values}
use Rattle.line_text.specs.Written.{are_bytes}
use Rattle.line_text.specs.WrittenLines.{has_bytes, op_data}
use Rattle.journal_text.specs.Held.{IsGivenEntry}
use Rattle.journal_text.specs.Reading.{journal_line_read}
use Rattle.journal_text.specs.declared.lines.JournalLine.{JournalLine}
use Rattle.journal_text.specs.declared.lines.JournalLine.TheVariants as entry

-- the items of a line, its word first
abbrev pub entry_cells : JournalLine → List Data
entry_cells (entry.Peer p) = string (codes "peer") ∷ int_of p ∷ []
entry_cells (entry.Up p) = string (codes "up") ∷ int_of p ∷ []
entry_cells (entry.Down p) = string (codes "down") ∷ int_of p ∷ []
entry_cells (entry.Op o) = string (codes "op") ∷ op_data o ∷ []
entry_cells (entry.Got from class bytes) = string (codes "got") ∷ int_of from ∷ string (class_name class) ∷ hex_of bytes ∷ []
entry_cells (entry.Took p count) = string (codes "took") ∷ int_of p ∷ nat_of count ∷ []
entry_cells entry.End = string (codes "end") ∷ []

-- a line with its line feed
abbrev pub journal_line : JournalLine → List ℕ
journal_line l = line_of (entry_cells l)

-- what the types of a line say: bytes are bytes, and a count has 64 bits
abbrev pub IsTypedEntry : JournalLine → Type 0
IsTypedEntry (entry.Op o) = list_all has_bytes (op_values o) ≡ true
IsTypedEntry (entry.Got from class bytes) = are_bytes bytes ≡ true
IsTypedEntry (entry.Took p count) = count < 2 ^ 64
IsTypedEntry l = Unit {0}

-- a text and a line feed were written, and the text is read as this line
pub record IsReadBack (l : JournalLine) : Type 0 where
  pub text : List ℕ
  pub written : journal_line l ≡ text ++ 10 ∷ []
  pub reads : journal_line_read text ≡ Ok l

-- a line that holds what a line may hold is read of what is written of it
abbrev pub ReadsJournals : Type 0
ReadsJournals = (l : JournalLine) → IsGivenEntry l → IsTypedEntry l → IsReadBack l
