-- Scripts of built events, and what holds of every two peers that are joined.
use Rattle.std.specs.Prelude.{◌≡◌, ℤ, true, List, [], ◌∷◌, take, Some}
use Rattle.scene_model.specs.declared.scene.Scene.{Scene}
use Rattle.scene_model.specs.declared.event.Event.TheVariants as event
use Rattle.scene_model.specs.declared.report.Report.{Report}
use Rattle.scene_model.specs.declared.world.WorldEvent.{WorldEvent}
use Rattle.scene_model.specs.Valid.{IsValidScene}
use Rattle.peer_model.specs.Updates.{applied}
use Rattle.peer_model.specs.Changes.{changes}
use Rattle.peer_model.specs.Visible.{visible_rows}
use Rattle.peer_model.specs.View.{view, report_of}
use Rattle.peer_steps.specs.Steps.{is_done}
use Rattle.peer_core.specs.Forms.{packet_form}
use Rattle.world_laws.specs.Marks.{live_marks, own_marks}
use Rattle.world_model.specs.World.{Parcel, World, peer_of, accepted_at, next_of}
use Rattle.world_model.specs.Happens.{answer_at, world}
use Rattle.world_model.specs.Answers.{world_answer, happened}
use Rattle.world_model.specs.Replicas.{is_joined, is_direct, is_quiet, arrived, reported}
use Rattle.world_steps.specs.Sound.{is_built_event, is_sound_event}
use Rattle.world_steps.specs.Pairs.{Pair}
use Rattle.world_steps.specs.Framed.{IsFramed, HasValues, ReportsValues}

-- each event is built and sound, and it happened: nobody refused it
abbrev pub Happened : Scene → List WorldEvent → Type 0
Happened s [] = Unit {0}
Happened s (e ∷ es) = (is_built_event e ≡ true) × (is_sound_event e ≡ true) × (happened (world_answer packet_form s (world packet_form s es) e) ≡ true) × Happened s es

-- each two peers that are joined are a pair
abbrev pub PairsHold : Type 0
PairsHold = (s : Scene) → IsValidScene s → (es : List WorldEvent) → Happened s es → (a b : ℤ) → is_joined (world packet_form s es) a b ≡ true → Pair packet_form s (world packet_form s es) a b

-- once nothing is in flight from one peer to another, after a frame since which nothing changed, a report has each on-change value of the first that the second may see
abbrev pub TellsValues : Scene → World → ℤ → ℤ → Report → Type 0
TellsValues s w a b r = is_quiet w a b ≡ true → IsFramed (peer_of s a) (accepted_at packet_form s w a) b → ReportsValues (peer_of s a) (accepted_at packet_form s w a) b r

-- What the second of two joined peers sees of the first, its rows and its fixed nodes with their values, is what the delivered prefix of the first one's changes makes;
-- once nothing is in flight, these are all rows that the second may see, in order, with their numbers, their synchronizers' ids, their paths and their scenes,
-- and, after a frame since which nothing changed, it is each on-change value that the second may see; and so the second reports it.
pub record IsSettled (s : Scene) (w : World) (a b : ℤ) : Type 0 where
  pub prefix : view (peer_of s b) (accepted_at packet_form s w b) a ≡ applied s a (take (arrived packet_form s w a b) (changes (peer_of s a) (accepted_at packet_form s w a) b))
  pub all_visible : is_quiet w a b ≡ true → live_marks (view (peer_of s b) (accepted_at packet_form s w b) a).rows ≡ own_marks (visible_rows (peer_of s a) (accepted_at packet_form s w a) b)
  pub values : is_quiet w a b ≡ true → IsFramed (peer_of s a) (accepted_at packet_form s w a) b → HasValues (peer_of s a) (accepted_at packet_form s w a) b (view (peer_of s b) (accepted_at packet_form s w b) a)
  pub told : report_of (peer_of s b) (accepted_at packet_form s w b) ≡ reported packet_form s w b
  pub reports : TellsValues s w a b (reported packet_form s w b)

abbrev pub ReplicasSettle : Type 0
ReplicasSettle = (s : Scene) → IsValidScene s → (es : List WorldEvent) → Happened s es → (a b : ℤ) → is_joined (world packet_form s es) a b ≡ true → IsSettled s (world packet_form s es) a b

-- over a link, the next packet from a joined peer is answered Done: it is no fault
abbrev pub NoneIsFault : Type 0
NoneIsFault = (s : Scene) → IsValidScene s → (es : List WorldEvent) → Happened s es → (a b : ℤ) → is_joined (world packet_form s es) a b ≡ true → is_direct a b ≡ true → (p : Parcel) → next_of ((world packet_form s es).way a b) ≡ Some p
    → is_done (answer_at packet_form s (world packet_form s es) b (event.Received a p.out.class p.out.bytes)) ≡ true
