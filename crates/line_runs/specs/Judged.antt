-- The lines of an input that a run judges. Of a longer input only the first bytes, `limit` of them, are judged.
use Rattle.std.specs.Prelude.{ℕ, Bool, true, List, [], ◌∷◌, ◌++◌, length, take, if◌then◌else◌, nat_le}
use Rattle.program_edge.specs.Lines.{is_line_feed}

-- The bytes of a line that are judged, and whether the line ends there: its line feed is one of the judged bytes, or the input ends with them.
pub record Judged : Type 0 where
  pub line : List ℕ
  pub ends : Bool

-- a byte in front of the first line
abbrev pub before_all : Bool → ℕ → List Judged → List Judged
before_all whole b [] = record { line = b ∷ []; ends = whole } ∷ []
before_all whole b (l ∷ ls) = record { line = b ∷ l.line; ends = l.ends } ∷ ls

-- the lines of some bytes, which are the whole input or the front of it. A line feed is none of a line's bytes.
abbrev pub lines_of : Bool → List ℕ → List Judged
lines_of whole [] = []
lines_of whole (b ∷ bs) = if is_line_feed b then record { line = []; ends = true } ∷ lines_of whole bs else before_all whole b (lines_of whole bs)

-- whether all bytes of an input are judged
abbrev pub is_whole : ℕ → List ℕ → Bool
is_whole limit input = nat_le (length input) limit

-- the judged lines of an input
abbrev pub judged : ℕ → List ℕ → List Judged
judged limit input = lines_of (is_whole limit input) (take limit input)

-- a line that is judged whole
abbrev pub whole_line : List ℕ → Judged
whole_line l = record { line = l; ends = true }

-- the same of lines that are listed newest first, in their order
abbrev pub whole_lines : List (List ℕ) → List Judged
whole_lines [] = []
whole_lines (l ∷ ls) = whole_lines ls ++ whole_line l ∷ []
