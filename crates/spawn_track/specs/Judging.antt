-- What judging a received spawn answers.
use Rattle.std.specs.Prelude.{◌≡◌, ℕ, ℤ, List, [], length, Some, None, Result, Ok, Err, MatchResult}
use Rattle.scene_model.specs.declared.scene.Scene.{Scene}
use Rattle.scene_model.specs.declared.spawn.SpawnMsg.{SpawnMsg}
use Rattle.scene_model.specs.declared.outcome.Fault.{Fault}
use Rattle.peer_model.specs.Updates.{Live}
use Rattle.peer_laws.specs.Facts.{rows_under}
use Rattle.peer_steps.specs.declared.making.Making.{Making}
use Rattle.scene_model.specs.declared.outcome.Refusal.{Refusal}
use Rattle.headless_tree.specs.Nodes.{TreeOf}
use Rattle.peer_steps.specs.Track.{Track, Despawned}
use Rattle.spawn_track.specs.declared.track.Gone.{Gone}
use Rattle.peer_steps.specs.Arrivals.{IsMaking, judged_beside}

-- what a spawn from a peer makes beside that peer's rows, where it is no fault, or else the fault
abbrev pub IsJudged : Scene → List Live → ℤ → SpawnMsg → Result Making Fault → Type 0
IsJudged s nodes c m r =
    MatchResult r (λ x. (judged_beside s nodes (length (rows_under c nodes)) c m ≡ None) × IsMaking s m x)
    (λ f. judged_beside s nodes (length (rows_under c nodes)) c m ≡ Some f)

-- a despawn makes what it should, and tells the row's number and to whom the row was shown, or why it is refused
abbrev pub IsDespawned : Despawned → ℕ → Track → TreeOf → Result Gone Refusal → Type 0
IsDespawned d num track tree (Ok g) = record { refused = None; num = g.num; shown = g.shown.items; track = track; tree = tree } ≡ d
IsDespawned d num track tree (Err e) = record { refused = Some e; num = num; shown = []; track = track; tree = tree } ≡ d
