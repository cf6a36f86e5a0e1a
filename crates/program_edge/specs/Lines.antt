-- The lines of an input. A line ends with a line feed, which is none of its bytes; the last may lack it.
use Rattle.std.specs.Prelude.{◌≡◌, ℕ, ◌+◌, ◌-◌, ◌≤◌, drop, List, [], ◌∷◌, ◌++◌, Bool, true, false, if◌then◌else◌, nat_eq, nat_lt, length, Option, Some, None, Result, Ok, Err}
use Rattle.std.specs.List.{position_or_len, before_first, after_first}
use Rattle.gd_variant.specs.declared.text.OutOfMemory.{OutOfMemory}
use Rattle.program_edge.specs.Causes.{Rose}
use Rattle.program_edge.specs.declared.lines.NextLine.{NextLine}
use Rattle.program_edge.specs.declared.lines.NextLine.TheVariants.{Line, Last, Long, End}
use Rattle.program_edge.specs.declared.lines.ReadStop.{ReadStop}
use Rattle.program_edge.specs.declared.lines.ReadStop.TheVariants as stop

abbrev pub is_line_feed : ℕ → Bool
is_line_feed byte = nat_eq byte 10

-- what stands at the front of an input
pub data FirstLine : Type 0 where
  a_line : List ℕ → List ℕ → FirstLine
  last_line : List ℕ → FirstLine
  too_long : FirstLine
  no_line : FirstLine

-- The bytes of the first line and what follows its line feed; or all bytes, where no line feed stands in
-- them; or the first line has more bytes than `most`; or nothing is there.
unfoldable pub first_line : ℕ → List ℕ → FirstLine
first_line most [] = no_line
first_line most (b ∷ bs) =
    if nat_lt most (position_or_len is_line_feed (b ∷ bs)) then too_long
    else if nat_lt (position_or_len is_line_feed (b ∷ bs)) (length (b ∷ bs)) then a_line (before_first is_line_feed (b ∷ bs)) (after_first is_line_feed (b ∷ bs))
    else last_line (b ∷ bs)

-- What a reader of lines has: the greatest number of a line's bytes, the bytes that it took and didn't
-- hand out yet, how many bytes it holds in memory, those included that it handed out and didn't let go yet,
-- and whether its source came to the end.
pub record Reader : Type 0 where
  pub most : ℕ
  pub bytes : List ℕ
  pub kept : ℕ
  pub ended : Bool

-- a reader that took nothing yet
abbrev pub fresh : ℕ → Reader
fresh most = record { most = most; bytes = []; kept = 0; ended = false }

-- how much a reader can still take before the first line is known
abbrev pub room : Reader → ℕ
room reader = (reader.most + 1 - length reader.bytes) + (if reader.ended then 0 else 1)

-- The parts of a reader: the buffer, where the bytes begin that weren't handed out, how many of them are
-- known to be no line feeds, and the piece that the source fills.
pub record IsReading (most : ℕ) (buffer : List ℕ) (at searched : ℕ) (piece : List ℕ) : Type 0 where
  pub within : at + searched ≤ length buffer
  pub clean : searched ≤ position_or_len is_line_feed (drop at buffer)
  pub full : length piece ≡ 65536
  pub bounded : length buffer ≤ most + 65536

-- the bytes that are yet to be read, where the source tells what it has left
abbrev pub unread : Reader → Option (List ℕ) → Option (List ℕ)
unread reader None = None
unread reader (Some left) = Some (if reader.ended then reader.bytes else (reader.bytes ++ left))

-- what `next` answers over these unread bytes, and what is unread afterwards
abbrev pub ReadsLine : ℕ → List ℕ → Result NextLine ReadStop → Option (List ℕ) → Type 0
ReadsLine most bytes (Ok (Line l)) after = (rest : List ℕ) × (first_line most bytes ≡ a_line l rest) × (after ≡ Some rest)
ReadsLine most bytes (Ok (Last l)) after = (first_line most bytes ≡ last_line l) × (after ≡ Some [])
ReadsLine most bytes (Ok Long) after = (first_line most bytes ≡ too_long) × (after ≡ Some bytes)
ReadsLine most bytes (Ok End) after = (first_line most bytes ≡ no_line) × (after ≡ Some bytes)
ReadsLine most bytes (Err e) after = after ≡ Some bytes

-- `Failed` comes only where the source's count rose in this call; the count never falls
pub record HasReadCause {T : Type 0} (before now : ℕ) (result : Result T ReadStop) : Type 0 where
  pub later : before ≤ now
  pub failed : result ≡ Err stop.Failed → Rose before now

-- The bytes that are held don't decide what is next: they have no line feed, are not too many, and more may follow.
pub record IsOpen (reader : Reader) : Type 0 where
  pub no_feed : position_or_len is_line_feed reader.bytes ≡ length reader.bytes
  pub short : length reader.bytes ≤ reader.most
  pub more : reader.ended ≡ false

-- The bytes that are held decide what is next, whatever follows them; at the end of the source nothing does.
pub record Settled (old : Reader) (found : NextLine) (new : Reader) : Type 0 where
  pub most : new.most ≡ old.most
  pub ended : new.ended ≡ old.ended
  pub line : (rest : List ℕ) → (old.ended ≡ true → rest ≡ []) → ReadsLine old.most (old.bytes ++ rest) (Ok found) (Some (new.bytes ++ rest))

abbrev pub Settles : Reader → Result (Option NextLine) OutOfMemory → Reader → Type 0
Settles old (Ok (Some found)) new = Settled old found new
Settles old (Ok None) new = (new ≡ old) × IsOpen old
Settles old (Err e) new = new ≡ old
