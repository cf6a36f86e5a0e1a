-- What one line adds to a run, and what a run keeps from line to line.
use Rattle.std.specs.Prelude.{◌≡◌, ℕ, ◌+◌, ◌<◌, Bool, true, false, List, ◌∷◌, [], ◌++◌, length, take, Option, Some, None, Result, Ok, Err}
use Rattle.std.specs.List.{concat}
use Rattle.gd_variant.specs.declared.text.OutOfMemory.{OutOfMemory}
use Rattle.program_edge.specs.declared.status.LineWhy.{LineWhy}
use Rattle.program_edge.specs.declared.stop.LineStop.{LineStop}
use Rattle.program_edge.specs.declared.stop.LineStop.TheVariants as stop
use Rattle.program_edge.specs.declared.status.Status.{Status}
use Rattle.program_edge.specs.declared.status.Status.TheVariants as status
use Rattle.line_runs.specs.Ends.{MayEnd}
use Rattle.line_runs.specs.Judged.{Judged, judged, whole_line, whole_lines}
use Rattle.line_runs.specs.Output.{Command, EndsAs, Read, behind, next_number, read_from, read_in}
use Rattle.line_runs.specs.declared.taker.Behind.{Behind}
use Rattle.line_runs.specs.declared.taker.Behind.TheVariants as following
use Rattle.line_runs.specs.declared.run.Step.{Step}
use Rattle.line_runs.specs.declared.run.Step.TheVariants.{Goes, Ends}

-- bytes begin with these
abbrev pub BeginsWith : List ℕ → List ℕ → Type 0
BeginsWith front bytes = take (length front) bytes ≡ front

-- A line was taken, and what it gives was added to a text.
pub record Gave (given : Result (List ℕ) LineWhy) (old new : List ℕ) (taken : Type 0) : Type 0 where
  pub text : List ℕ
  pub gives : given ≡ Ok text
  pub put : new ≡ old ++ text
  pub took : taken

-- What is answered to a line that gives this and, where `last`, ends the input. After a line that was taken the command has taken it.
abbrev pub Takes : Result (List ℕ) LineWhy → Bool → List ℕ → Result Behind LineStop → List ℕ → Type 0 → Type 0
Takes given last old (Ok following.Lines) new taken = (last ≡ false) × Gave given old new taken
Takes given last old (Ok following.End) new taken = (last ≡ true) × Gave given old new taken
Takes given last old (Err (stop.LineBad why)) new taken = given ≡ Err why
Takes given last old (Err stop.OutOfMemory) new taken = Unit {0}

-- the reasons of an answer
abbrev pub MayStop : (LineWhy → Type 0) → Result Behind LineStop → Type 0
MayStop reasons (Err (stop.LineBad why)) = reasons why
MayStop reasons result = Unit {0}

-- what is answered at the end of an input that gives this
abbrev pub Closes : Read → List ℕ → Result Status OutOfMemory → List ℕ → Type 0
Closes r old (Ok s) new = (r.end ≡ s) × (new ≡ old ++ concat r.texts)
Closes r old (Err e) new = Unit {0}

-- What was written of a text that waits: its first bytes, and the rest still waits; or the writing broke off.
abbrev pub PutsWaiting : Option (List ℕ) → Option Status → List ℕ → List ℕ → Option (List ℕ) → Type 0
PutsWaiting None result waits left now = Unit {0}
PutsWaiting (Some held) None waits left now = (w : List ℕ) × (w ++ left ≡ waits) × (now ≡ Some (held ++ w))
PutsWaiting (Some held) (Some status.WriteFault) waits left now = (k : ℕ) × (now ≡ Some (held ++ take k waits))
PutsWaiting (Some held) (Some s) waits left now = ⊥

-- line n isn't in the grammar
pub record Stopped (n : ℕ) (given : Result (List ℕ) LineWhy) (m : ℕ) (why : LineWhy) (old new : List ℕ) : Type 0 where
  pub gives : given ≡ Err why
  pub number : m ≡ n
  pub same : new ≡ old

-- what a run makes of the bytes of line n
abbrev pub TakesLine : ℕ → Result (List ℕ) LineWhy → Bool → List ℕ → Result Behind Status → List ℕ → Type 0 → Type 0
TakesLine n given last old (Ok following.Lines) new taken = (last ≡ false) × Gave given old new taken
TakesLine n given last old (Ok following.End) new taken = (last ≡ true) × Gave given old new taken
TakesLine n given last old (Err (status.BadLine m why)) new taken = Stopped n given m why old new
TakesLine n given last old (Err status.OutOfMemory) new taken = new ≡ old
TakesLine n given last old (Err s) new taken = ⊥

-- how a run may end at a line
abbrev pub MayStep : (LineWhy → Type 0) → Type 0 → ℕ → ℕ → Step → Type 0
MayStep reasons fills source later (Goes left) = Unit {0}
MayStep reasons fills source later (Ends s) = MayEnd reasons fills source later 0 0 s

-- fewer bytes are judged behind a line than from it on
abbrev pub IsShorter : ℕ → Step → Type 0
IsShorter judges (Goes left) = left < judges
IsShorter judges (Ends s) = Unit {0}

-- One line more was read and taken. `took` says which lines were taken.
pub record StepOn (c : Command) (took : List (List ℕ) → Type 0) (longest limit left : ℕ) (ls : List (List ℕ)) (bytes old new : List ℕ) (unread : Option (List ℕ)) : Type 0 where
  pub line : List ℕ
  pub text : List ℕ
  pub rest : List ℕ
  pub first : judged limit bytes ≡ whole_line line ∷ judged left rest
  pub reads : read_from c longest limit ls bytes ≡ behind (text ∷ []) (read_from c longest left (line ∷ ls) rest)
  pub remains : unread ≡ Some rest
  pub put : new ≡ old ++ text
  pub taken : took (line ∷ ls)

-- Of judged lines behind those of a list some were taken, and something is known of all that were. What was added to a text is the front of what they gave, and of what the end of the input gives behind them.
pub record TakenOn (knows : List (List ℕ) → Type 0) (c : Command) (judges : List Judged) (r : Read) (ls : List (List ℕ)) (added : List ℕ) : Type 0 where
  pub lines : List (List ℕ)
  pub later : List Judged
  pub first : whole_lines ls ++ judges ≡ whole_lines lines ++ later
  pub known : knows lines
  pub texts : List (List ℕ)
  pub others : List (List ℕ)
  pub gave : r.texts ≡ texts ++ others
  pub each : length ls + length texts ≡ length lines
  pub more : List ℕ
  pub front : added ++ more ≡ concat texts ++ concat (c.closing lines).texts

-- a run ended at the next line
pub record StepEnds (knows : List (List ℕ) → Type 0) (c : Command) (longest limit : ℕ) (ls : List (List ℕ)) (bytes old : List ℕ) (s : Status) (new : List ℕ) : Type 0 where
  pub ends : EndsAs (read_from c longest limit ls bytes) old s (Some new)
  pub added : List ℕ
  pub put : new ≡ old ++ added
  pub taken : TakenOn knows c (judged limit bytes) (read_from c longest limit ls bytes) ls added

-- What a run makes of the next line, where these bytes stand behind the lines that were taken and `limit` of them are judged.
abbrev pub Steps : Command → (List (List ℕ) → Type 0) → (List (List ℕ) → Type 0) → ℕ → ℕ → List (List ℕ) → List ℕ → List ℕ → Step → List ℕ → Option (List ℕ) → Type 0
Steps c took knows longest limit ls bytes old (Goes left) new unread = StepOn c took longest limit left ls bytes old new unread
Steps c took knows longest limit ls bytes old (Ends s) new unread = StepEnds knows c longest limit ls bytes old s new

-- what a run has done so far: the lines, the texts, what is unread, and what was written; the rest of the texts waits
pub record Kept (c : Command) (took : List (List ℕ) → Type 0) (longest limit : ℕ) (input : List ℕ) (left n : ℕ) (held waits : List ℕ) (unread now : Option (List ℕ)) : Type 0 where
  pub lines : List (List ℕ)
  pub texts : List (List ℕ)
  pub rest : List ℕ
  pub written : List ℕ
  pub number : n ≡ next_number lines
  pub first : judged limit input ≡ whole_lines lines ++ judged left rest
  pub reads : read_in c longest limit input ≡ behind texts (read_from c longest left lines rest)
  pub each : length texts ≡ length lines
  pub remains : unread ≡ Some rest
  pub put : now ≡ Some (held ++ written)
  pub waiting : written ++ waits ≡ concat texts
  pub taken : took lines
