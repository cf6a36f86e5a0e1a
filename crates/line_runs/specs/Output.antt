-- What a run over lines writes, and what stops it, by what each line gives after those before it.
-- Lines are listed newest first.
use Rattle.std.specs.Prelude.{◌≡◌, ℕ, ◌+◌, Bool, true, false, List, [], ◌∷◌, ◌++◌, length, Option, Some, Result, Ok, Err, if◌then◌else◌, nat_lt}
use Rattle.std.specs.List.{concat}
use Rattle.program_edge.specs.declared.status.LineWhy.{LineWhy}
use Rattle.program_edge.specs.declared.status.Status.{Status}
use Rattle.program_edge.specs.declared.status.Status.TheVariants as status
use Rattle.line_runs.specs.Judged.{Judged, is_whole, judged, whole_lines}

-- what a line gives after the lines before it, or why it isn't in the grammar
abbrev pub Telling : Type 0
Telling = List (List ℕ) → List ℕ → Result (List ℕ) LineWhy

-- What lines come to: the texts that they give, up to one that stops the run, and how it ends where no call fails and memory is enough.
pub record Read : Type 0 where
  pub texts : List (List ℕ)
  pub end : Status

-- A command over lines: what a line gives after the lines before it, whether it ends the input, so that nothing behind it is judged, and what the end of the input gives behind all lines.
pub record Command : Type 0 where
  pub told : Telling
  pub is_last : List (List ℕ) → List ℕ → Bool
  pub closing : List (List ℕ) → Read

-- no line ends the input before its end
abbrev pub never_last : List (List ℕ) → List ℕ → Bool
never_last ls l = false

-- nothing more is run
abbrev pub stops : Status → Read
stops s = record { texts = []; end = s }

-- texts, and what comes behind
abbrev pub behind : List (List ℕ) → Read → Read
behind texts r = record { texts = texts ++ r.texts; end = r.end }

-- line n, by what it gives
abbrev pub read_by : ℕ → Result (List ℕ) LineWhy → Read → Read
read_by n (Err why) rest = stops (status.BadLine n why)
read_by n (Ok text) rest = behind (text ∷ []) rest

-- the number of the line behind these
abbrev pub next_number : List (List ℕ) → ℕ
next_number ls = length ls + 1

-- line n, by whether it has too many bytes, whether it ends within the judged ones, and what it gives
abbrev pub read_line : ℕ → Bool → Bool → Result (List ℕ) LineWhy → Read → Read
read_line n true ends given rest = stops (status.LineLong n)
read_line n false ends given rest = if ends then read_by n given rest else stops status.InputLong

-- what comes behind a line, by whether it ends the input
abbrev pub behind_line : Command → List (List ℕ) → List ℕ → Read → Read
behind_line c ls l rest = if c.is_last ls l then c.closing (l ∷ ls) else rest

-- the lines behind these. `whole` says whether all bytes of the input are judged.
abbrev pub read_on : Command → ℕ → Bool → List (List ℕ) → List Judged → Read
read_on c longest whole ls [] = if whole then c.closing ls else stops status.InputLong
read_on c longest whole ls (l ∷ more) =
    read_line (next_number ls) (nat_lt longest (length l.line)) l.ends (c.told ls l.line) (behind_line c ls l.line (read_on c longest whole (l.line ∷ ls) more))

-- some bytes behind these lines, of which at most `limit` are judged
abbrev pub read_from : Command → ℕ → ℕ → List (List ℕ) → List ℕ → Read
read_from c longest limit ls bytes = read_on c longest (is_whole limit bytes) ls (judged limit bytes)

-- an input
unfoldable pub read_in : Command → ℕ → ℕ → List ℕ → Read
read_in c longest limit input = read_from c longest limit [] input

-- whole lines were written: the first of the texts
pub record WholeLines (r : Read) (held : List ℕ) (now : Option (List ℕ)) : Type 0 where
  pub before : List (List ℕ)
  pub after : List (List ℕ)
  pub texts : r.texts ≡ before ++ after
  pub put : now ≡ Some (held ++ concat before)

-- some of the first bytes were written
pub record SomeBytes (r : Read) (held : List ℕ) (now : Option (List ℕ)) : Type 0 where
  pub text : List ℕ
  pub more : List ℕ
  pub front : text ++ more ≡ concat r.texts
  pub put : now ≡ Some (held ++ text)

-- all texts were written, and the run ended as it had to
pub record Ended (r : Read) (held : List ℕ) (s : Status) (now : Option (List ℕ)) : Type 0 where
  pub end : r.end ≡ s
  pub put : now ≡ Some (held ++ concat r.texts)

-- how a run over these lines ends, and what its sink holds then
abbrev pub EndsAs : Read → List ℕ → Status → Option (List ℕ) → Type 0
EndsAs r held status.ReadFault now = WholeLines r held now
EndsAs r held status.OutOfMemory now = WholeLines r held now
EndsAs r held status.WriteFault now = SomeBytes r held now
EndsAs r held s now = Ended r held s now

-- The first of some judged lines were taken, and something is known of them. What was written is the front of what they gave, and of what the end of the input gives behind them.
pub record FirstTaken (knows : List (List ℕ) → Type 0) (c : Command) (judges : List Judged) (r : Read) (written : List ℕ) : Type 0 where
  pub lines : List (List ℕ)
  pub later : List Judged
  pub first : judges ≡ whole_lines lines ++ later
  pub known : knows lines
  pub texts : List (List ℕ)
  pub others : List (List ℕ)
  pub gave : r.texts ≡ texts ++ others
  pub each : length texts ≡ length lines
  pub more : List ℕ
  pub front : written ++ more ≡ concat texts ++ concat (c.closing lines).texts

-- What a run of a command over an input comes to: how it ends, what it wrote, and what is known of the lines that gave it.
pub record RunsTo (knows : List (List ℕ) → Type 0) (c : Command) (longest limit : ℕ) (input held : List ℕ) (s : Status) (now : Option (List ℕ)) : Type 0 where
  pub ends : EndsAs (read_in c longest limit input) held s now
  pub written : List ℕ
  pub put : now ≡ Some (held ++ written)
  pub taken : FirstTaken knows c (judged limit input) (read_in c longest limit input) written
