-- Samples: early ones, old ones, and those of an earlier life of their node; the window.
use Rattle.std.specs.Prelude.{◌≡◌, ℕ, ℤ, pos, true, false, List, [], ◌∷◌, ◌++◌, Some, None, map, codes}
use Rattle.gd_variant.specs.declared.value.Variant.TheVariants.{Int}
use Rattle.gd_variant.specs.declared.message.Plain.TheVariants as packet
use Rattle.gd_variant.specs.declared.message.Message.TheVariants.{Relay}
use Rattle.scene_model.specs.declared.scene.Scene.{Scene}
use Rattle.scene_model.specs.declared.scene.Role.TheVariants.{Plain, Sync}
use Rattle.scene_model.specs.declared.scene.ReplMode.TheVariants.{Always, OnChange}
use Rattle.scene_model.specs.declared.event.Class.TheVariants.{Unreliable}
use Rattle.scene_model.specs.declared.report.Report.{Report}
use Rattle.scene_model.specs.declared.world.WorldEvent.{WorldEvent}
use Rattle.scene_model.specs.declared.world.WorldOutcome.TheVariants as answers
use Rattle.scene_model.specs.declared.world.WorldNo.TheVariants as refusal
use Rattle.scene_model.specs.declared.outcome.Fault.TheVariants as fault_row
use Rattle.scene_model.specs.declared.outcome.SkipWhy.TheVariants as skip_why
use Rattle.peer_model.specs.Heard.{server}
use Rattle.peer_model.specs.Ticks.{widen}
use Rattle.world_model.specs.World.{Parcel, World}
use Rattle.world_model.specs.Happens.{happens, with_parcels}
use Rattle.world_model.specs.Replicas.{reported}
use Rattle.world_model.specs.Answers.{world_answer, refused_by, in_window, newest_tick}
use Rattle.peer_rows.specs.Session.{shown}
use Rattle.peer_rows.specs.Scenes.{scene_b, p0, p1, prop, sync_prop}
use Rattle.peer_rows.specs.RowsB.{sync_x, x_row, tree_with}
use Rattle.world_rows.specs.Form.{in_numbers, message_numbers}
use Rattle.world_rows.specs.Script.{connect, down, spawn, set, public, frame, rel, loose, forge, out, sends_tick, sent_by, effects, taken_by, refused, after, answer_after, report_after}

abbrev pub with_x : List WorldEvent
with_x = connect ∷ spawn 1 (codes "a/sp") (codes "x") [] ∷ []

abbrev pub move_x : WorldEvent
move_x = set 1 (codes "a/x") (codes "pos") p1

-- the sample of the first frame, while the node that it is of is on its way
abbrev pub moved : List WorldEvent
moved = with_x ++ move_x ∷ frame 1 ∷ []

abbrev pub EarlySampleIsSkipped : Type 0
EarlySampleIsSkipped = answer_after scene_b moved (loose 1 2 1) ≡ answers.Done None (record { peer = pos 2; effects = effects [] (record { sender = pos 1; id = 2; why = skip_why.NoSync } ∷ []) } ∷ [])

-- it isn't kept: the node appears as it was when it was shown
abbrev pub early : List WorldEvent
early = moved ++ loose 1 2 1 ∷ rel 1 2 ∷ []

abbrev pub EarlySampleIsLost : Type 0
EarlySampleIsLost = report_after scene_b early 2 ≡ tree_with (pos 1 ∷ []) 10 (x_row p0 p0 ∷ [])

-- the same one again is taken
abbrev pub SampleAgainIsTaken : Type 0
SampleAgainIsTaken = (answer_after scene_b early (loose 1 2 1) ≡ taken_by 2) × (report_after scene_b (early ++ loose 1 2 1 ∷ []) 2 ≡ tree_with (pos 1 ∷ []) 10 (x_row p1 p0 ∷ []))

-- two frames, the sample of the second comes first
abbrev pub two_frames : List WorldEvent
two_frames = with_x ++ frame 1 ∷ move_x ∷ frame 1 ∷ rel 1 2 ∷ loose 1 2 2 ∷ []

abbrev pub NewestIsReported : Type 0
NewestIsReported = report_after scene_b two_frames 2 ≡ tree_with (pos 1 ∷ []) 10 (x_row p1 p0 ∷ [])

abbrev pub OlderIsStale : Type 0
OlderIsStale = (answer_after scene_b two_frames (loose 1 2 1) ≡ answers.Done None (record { peer = pos 2; effects = effects [] (record { sender = pos 1; id = 2; why = skip_why.Stale } ∷ []) } ∷ []))
    × (report_after scene_b (two_frames ++ loose 1 2 1 ∷ []) 2 ≡ tree_with (pos 1 ∷ []) 10 (x_row p1 p0 ∷ []))

-- the node is hidden and shown anew
abbrev pub shown_anew : List WorldEvent
shown_anew = two_frames ++ public 1 (codes "a/x") false ∷ public 1 (codes "a/x") true ∷ rel 1 2 ∷ rel 1 2 ∷ []

abbrev pub ShownAnewIsReported : Type 0
ShownAnewIsReported = report_after scene_b shown_anew 2 ≡ tree_with (pos 1 ∷ []) 10 (x_row p1 p0 ∷ [])

-- a sample of its earlier life counts again, since it was delivered after the node appeared
abbrev pub EarlierLifeCounts : Type 0
EarlierLifeCounts = (answer_after scene_b shown_anew (loose 1 2 1) ≡ taken_by 2) × (report_after scene_b (shown_anew ++ loose 1 2 1 ∷ []) 2 ≡ tree_with (pos 1 ∷ []) 10 (x_row p0 p0 ∷ []))

-- so it does where its value is neither the one that the node has now nor the one of the scene
abbrev pub place_x : ℕ → WorldEvent
place_x n = set 1 (codes "a/x") (codes "pos") (Int (pos n))

abbrev pub another_life : List WorldEvent
another_life = with_x ++ place_x 7 ∷ frame 1 ∷ place_x 8 ∷ frame 1 ∷ rel 1 2 ∷ loose 1 2 2 ∷ place_x 9 ∷ public 1 (codes "a/x") false ∷ public 1 (codes "a/x") true ∷ []

abbrev pub x_at : ℕ → Report
x_at n = tree_with (pos 1 ∷ []) 10 (x_row (Int (pos n)) p0 ∷ [])

abbrev pub EarlierLifeDiffers : Type 0
EarlierLifeDiffers = (report_after scene_b another_life 2 ≡ x_at 8) × (report_after scene_b (another_life ++ rel 1 2 ∷ rel 1 2 ∷ []) 2 ≡ x_at 9) × (report_after scene_b (another_life ++ rel 1 2 ∷ rel 1 2 ∷ loose 1 2 1 ∷ []) 2 ≡ x_at 7)
    × (report_after scene_b (another_life ++ rel 1 2 ∷ rel 1 2 ∷ loose 1 2 1 ∷ loose 1 2 2 ∷ []) 2 ≡ x_at 8)

-- a sample that is a fault doesn't count
abbrev pub wrong_sample : Parcel
wrong_sample = record { out = sends_tick 2 2 (packet.Sync 2 (record { id = 2; values = [] } ∷ [])); tag = record { origin = pos 1; target = pos 2; tick = Some 2; path = None; forged = false } }

abbrev pub wrong_came : World
wrong_came = with_parcels (after scene_b (with_x ++ place_x 7 ∷ frame 1 ∷ place_x 8 ∷ frame 1 ∷ rel 1 2 ∷ loose 1 2 1 ∷ [])) server (wrong_sample ∷ [])

abbrev pub FaultDoesntCount : Type 0
FaultDoesntCount = (world_answer in_numbers scene_b wrong_came (loose 1 2 3) ≡ answers.Fault (pos 2) fault_row.WrongValues) × (reported in_numbers scene_b (happens in_numbers scene_b wrong_came (loose 1 2 3)) (pos 2) ≡ x_at 7)
    × (reported in_numbers scene_b (happens in_numbers scene_b wrong_came (loose 1 2 2)) (pos 2) ≡ x_at 8)

-- the window

-- a sample as a frame far on would send it
abbrev pub far_sample : ℕ → Parcel
far_sample t = record { out = sends_tick 2 t (sync_x t p1); tag = record { origin = pos 1; target = pos 2; tick = Some t; path = None; forged = false } }

-- a world in which samples of these ticks are on their way, and nothing else is
abbrev pub far_on : List ℕ → World
far_on ticks = with_parcels (after scene_b (with_x ++ rel 1 2 ∷ [])) server (map far_sample ticks)

-- a tick that is 32,767 away from the newest one is outside, one less is inside
abbrev pub OutsideIsRefused : Type 0
OutsideIsRefused = world_answer in_numbers scene_b (far_on (32767 ∷ [])) (loose 1 2 1) ≡ refused (refusal.Window 0 32767)

abbrev pub InsideIsTaken : Type 0
InsideIsTaken = world_answer in_numbers scene_b (far_on (32766 ∷ [])) (loose 1 2 1) ≡ taken_by 2

-- the newest tick moves on, so that a tick past sixteen bits is taken
abbrev pub two_on : World
two_on = happens in_numbers scene_b (happens in_numbers scene_b (far_on (30000 ∷ 60000 ∷ 70000 ∷ 30000 ∷ [])) (loose 1 2 1)) (loose 1 2 2)

abbrev pub NewestMovesOn : Type 0
NewestMovesOn = (newest_tick in_numbers scene_b two_on (pos 2) (pos 1) ≡ 60000) × (world_answer in_numbers scene_b two_on (loose 1 2 3) ≡ taken_by 2)

-- an older one that is within the window doesn't move it back
abbrev pub NewestStays : Type 0
NewestStays = newest_tick in_numbers scene_b (happens in_numbers scene_b two_on (loose 1 2 4)) (pos 2) (pos 1) ≡ 60000

-- and one that it left behind is outside
abbrev pub after_three : World
after_three = happens in_numbers scene_b two_on (loose 1 2 3)

abbrev pub LeftBehindIsRefused : Type 0
LeftBehindIsRefused = (newest_tick in_numbers scene_b after_three (pos 2) (pos 1) ≡ 70000) × (world_answer in_numbers scene_b after_three (loose 1 2 4) ≡ refused (refusal.Window 70000 30000))

-- within the window sixteen bits are widened to the true tick
abbrev pub WindowEdges : Type 0
WindowEdges = (in_window 0 32766 ≡ true) × (in_window 0 32767 ≡ false) × (in_window 70000 37234 ≡ true) × (in_window 70000 37233 ≡ false) × (widen 0 32766 ≡ 32766) × (widen 70000 37234 ≡ 37234) × (widen 70000 37230 ≡ 102766)

-- a sample far on, from one client to another, on its way to the server
abbrev pub relayed_far : Parcel
relayed_far = record { out = out 1 3 Unreliable (Some 40000) (message_numbers (Relay (pos 3) (packet.Sync 40000 []))); tag = record { origin = pos 2; target = pos 3; tick = Some 40000; path = None; forged = false } }

abbrev pub on_first_link : World
on_first_link = with_parcels (after scene_b (connect ∷ connect ∷ rel 1 3 ∷ [])) (pos 2) (relayed_far ∷ [])

abbrev pub on_second_link : World
on_second_link = happens in_numbers scene_b on_first_link (loose 2 1 1)

-- the server passes it on; the window is tested at the peer that it is for
abbrev pub RelayedIsJudgedAtItsTarget : Type 0
RelayedIsJudgedAtItsTarget = (world_answer in_numbers scene_b on_first_link (loose 2 1 1) ≡ sent_by 1 (out 3 3 Unreliable None (message_numbers (Relay (pos 2) (packet.Sync 40000 []))) ∷ []))
    × (world_answer in_numbers scene_b on_second_link (loose 1 3 1) ≡ refused (refusal.Window 0 40000))

-- what is passed on keeps the tag with which it came
abbrev pub RelayedIsTagged : Type 0
RelayedIsTagged = map (λ (p : Parcel). p.tag) (on_second_link.way (pos 1) (pos 3)).loose ≡ relayed_far.tag ∷ []

-- a client that forged has no window
abbrev pub ForgerHasNoWindow : Type 0
ForgerHasNoWindow = refused_by in_numbers scene_b (happens in_numbers scene_b on_second_link (forge 2 [])) (loose 1 3 1) ≡ None

-- fixed nodes

-- a node that is sampled with each frame, and one of peer 2 whose changes are told
abbrev pub scene_d : Scene
scene_d = record {
  nodes = record { path = codes "a"; auth = pos 1; props = prop (codes "hp") (Int (pos 10)) ∷ []; methods = []; role = Plain }
      ∷ record { path = codes "a/sy"; auth = pos 1; props = []; methods = []; role = Sync (record { of = codes "a"; public = true; props = sync_prop (codes "hp") Always false ∷ [] }) }
      ∷ record { path = codes "c"; auth = pos 2; props = prop (codes "n") (Int (pos 1)) ∷ []; methods = []; role = Plain }
      ∷ record { path = codes "c/sy"; auth = pos 2; props = []; methods = []; role = Sync (record { of = codes "c"; public = true; props = sync_prop (codes "n") OnChange false ∷ [] }) }
      ∷ [];
  scenes = [];
}

abbrev pub tree_d : List ℤ → ℕ → ℕ → Report
tree_d peers hp n = record { peers = peers; rows = shown 1 0 (codes "a") (prop (codes "hp") (Int (pos hp)) ∷ []) ∷ shown 1 0 (codes "a/sy") [] ∷ shown 2 0 (codes "c") (prop (codes "n") (Int (pos n)) ∷ []) ∷ shown 2 0 (codes "c/sy") [] ∷ [] }

-- a fixed node's sample
abbrev pub FixedSampleIsReported : Type 0
FixedSampleIsReported = report_after scene_d (connect ∷ set 1 (codes "a") (codes "hp") (Int (pos 11)) ∷ frame 1 ∷ set 1 (codes "a") (codes "hp") (Int (pos 12)) ∷ loose 1 2 1 ∷ []) 2 ≡ tree_d (pos 1 ∷ []) 11 1

-- a fixed node keeps its values when its authority goes
abbrev pub GoneNodeKeepsItsValues : Type 0
GoneNodeKeepsItsValues = report_after scene_d (connect ∷ set 2 (codes "c") (codes "n") (Int (pos 7)) ∷ frame 2 ∷ rel 2 1 ∷ down 2 ∷ []) 1 ≡ tree_d [] 10 7
