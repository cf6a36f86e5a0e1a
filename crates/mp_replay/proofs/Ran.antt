-- What a run over words is to the program.
use Rattle.std.proofs.Common.{◌≡◌, List, refl, inl, inr, subst}
use Rattle.std.specs.Prelude.{Result, Ok, Err, String, Vec}
use Rattle.std.specs.declared.alloc.Global.{Global}
use Rattle.std.specs.declared.io.ErrorKind.{ErrorKind}
use Rattle.program_edge.specs.declared.status.Status.{Status}
use Rattle.mp_replay.specs.Program.{Does, Runs, Stream, WordsOf}

-- what was done over the words was what they ask for
pub words_run : (r : Result (List (String Global)) ErrorKind) (v : Vec (String Global) Global) (words : List (String Global)) (input after output now : Stream) (s : Status) → WordsOf r (Ok v) → words ≡ v.items → Does words input after output now s → Runs r input after output now s
words_run (Ok ws) v words input after output now s e is does = inl (let P : List (String Global) → Type 0 = λ ws. Does ws input after output now s in subst P e (subst P is does))
words_run (Err k) v words input after output now s e is does = absurd e

-- without words nothing was done
pub no_words : (r : Result (List (String Global)) ErrorKind) (end : Status) (input after output : Stream) → WordsOf r (Err end) → Runs r input after output output end
no_words (Ok ws) end input after output e = inr (record { ends = e; untouched = refl })
no_words (Err k) end input after output e = record { ends = e; untouched = refl }
