-- That what is said to be known of the lines of a replay holds: a proof, which stands here since the law of `LineTaker` cites it.
use Rattle.std.specs.Prelude.{◌≡◌, ℕ, Bool, true, false, not, ◌&&◌, cond, List, [], ◌∷◌, Option, Some, None, Result, Ok, Err}
use Rattle.std.proofs.Common.{subst}
use Rattle.scene_model.specs.declared.world.WorldEvent.{WorldEvent}
use Rattle.scene_model.specs.Valid.{IsValidScene}
use Rattle.program_edge.specs.declared.status.LineWhy.{LineWhy}
use Rattle.peer_core.specs.Forms.{packet_form}
use Rattle.world_model.specs.Answers.{happened, world_answer}
use Rattle.line_text.specs.Sessions.{session_line_read}
use Rattle.line_text.specs.declared.sessions.SessionLine.{SessionLine}
use Rattle.line_text.specs.declared.sessions.SessionLine.TheVariants as line
use Rattle.world_steps.specs.Scripts.{Happened}
use Rattle.world_steps.specs.Steps.{Parts}
use Rattle.world_steps.proofs.Reports.{replicas_settle}
use Rattle.mp_replay.specs.Sessions.{Holds, HoldsIn, Known, LinesHold, Session, SessionHolds, Took, after_line, event_fills, one_line_more, session_of, world_of}

-- a script that happened is all that it needs
session_holds : (s : Session) → IsValidScene s.scene → Happened s.scene s.script → SessionHolds s
session_holds s v h = record { valid = v; happened = h; settled = replicas_settle s.scene v s.script h }

world_holds : (s : Session) (v : Parts) → HoldsIn s v → SessionHolds s
world_holds s v h = session_holds s (subst IsValidScene h.scene h.stands.valid) (subst (λ x. Happened x s.script) h.scene h.stands.happened)

pub kept_holds : (o : Option Session) (w : Option Parts) → Holds o w → LinesHold o
kept_holds None w h = tt
kept_holds (Some s) None h = absurd h
kept_holds (Some s) (Some v) h = world_holds s v h

-- what holds behind a line held before it
event_before : (s : Session) (e : WorldEvent) (b : Bool) → LinesHold (Some (cond b (record s { script = e ∷ s.script }) s)) → SessionHolds s
event_before s e true h = session_holds s h.valid h.happened.3
event_before s e false h = h

line_before : (s : Session) (r : Result SessionLine LineWhy) → SessionHolds (after_line s r) → SessionHolds s
line_before s (Ok (line.Event e)) h = event_before s e (happened (world_answer packet_form s.scene (world_of s) e) && not (event_fills s e)) h
line_before s (Ok (line.Report p)) h = h
line_before s (Err w) h = h

before : (o : Option Session) (l : List ℕ) → LinesHold (one_line_more o l) → LinesHold o
before None l h = tt
before (Some s) l h = line_before s (session_line_read l) h

all_known : (ls : List (List ℕ)) → LinesHold (session_of ls) → Known ls
all_known [] h = tt
all_known (l ∷ ls) h = (h, all_known ls (before (session_of ls) l h))

pub known_by : (w : Option Parts) (ls : List (List ℕ)) → Holds (session_of ls) w → Known ls
known_by w ls holds = all_known ls (kept_holds (session_of ls) w holds)

pub known_of : (w : Option Parts) (full : Bool) (ls : List (List ℕ)) → Took w full ls → Known ls
known_of w false ls took = known_by w ls took.holds
known_of w true ls took = took.known
