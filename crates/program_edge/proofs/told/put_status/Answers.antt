use Rattle.std.proofs.Common.{◌≡◌, sym, subst, ℕ, List}
use Rattle.std.specs.Prelude.{Option, Result}
use Rattle.program_edge.specs.Pieces.{PutsAll}
use Rattle.program_edge.specs.Statuses.{told_text}
use Rattle.program_edge.specs.declared.status.Status.{Status}
use Rattle.program_edge.proofs.told.put_status.Goals as goal

-- the line of the status that it is
told_of : {E : Type 0} (s t : Status) (before after : Option (List ℕ)) (result : Result (Unit {0}) E) → s ≡ t → PutsAll before result (told_text t) after → PutsAll before result (told_text s) after
told_of s t before after result is put =
    let P : Status → Type 0 = λ x. PutsAll before result (told_text x) after in subst P (sym is) put

pub returns-in-PoolFull-clause-bytes : goal.returns-in-PoolFull-clause-bytes
returns-in-PoolFull-clause-bytes g c = told_of c.args.status _ _ _ _ c.in-PoolFull.is c.put_numbered-in-PoolFull.ensures.bytes

pub returns-in-OutOfMemory-clause-bytes : goal.returns-in-OutOfMemory-clause-bytes
returns-in-OutOfMemory-clause-bytes g c = told_of c.args.status _ _ _ _ c.in-OutOfMemory.is c.put_line-in-OutOfMemory.ensures.bytes

pub returns-in-BadGreeting-clause-bytes : goal.returns-in-BadGreeting-clause-bytes
returns-in-BadGreeting-clause-bytes g c = told_of c.args.status _ _ _ _ c.in-BadGreeting.is c.put_line-in-BadGreeting.ensures.bytes
