-- What a line of a journal holds.
use Rattle.std.specs.Prelude.{◌≡◌, true}
use Rattle.line_text.specs.Held.{IsGiven, is_peer}
use Rattle.journal_text.specs.declared.lines.JournalLine.{JournalLine}
use Rattle.journal_text.specs.declared.lines.JournalLine.TheVariants as entry

-- numbers of peers are those of peers, and an operation is built, its texts are texts, and its values are sound
abbrev pub IsGivenEntry : JournalLine → Type 0
IsGivenEntry (entry.Peer p) = is_peer p ≡ true
IsGivenEntry (entry.Up p) = is_peer p ≡ true
IsGivenEntry (entry.Down p) = is_peer p ≡ true
IsGivenEntry (entry.Op o) = IsGiven o
IsGivenEntry (entry.Got from class bytes) = is_peer from ≡ true
IsGivenEntry (entry.Took p count) = is_peer p ≡ true
IsGivenEntry entry.End = Unit {0}
