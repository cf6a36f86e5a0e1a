-- Where a call runs, and the ids of paths.
use Rattle.std.specs.Prelude.{◌≡◌, true, [], ◌∷◌, codes}
use Rattle.gd_variant.specs.declared.message.Plain.TheVariants as packet
use Rattle.scene_model.specs.declared.event.Op.TheVariants as op
use Rattle.scene_model.specs.declared.outcome.Fault.TheVariants as fault_row
use Rattle.peer_model.specs.Heard.{does}
use Rattle.peer_model.specs.Answer.{done, fault}
use Rattle.peer_rows.specs.Session.{call, up, got_packet, sends, sends_tick, only, nothing, reply_after, sampled_after}
use Rattle.peer_rows.specs.SceneF.{server, int, spawn_x, spawn_q, q_packet, ran}

-- a call to this peer alone runs here and sends nothing
abbrev pub SelfCallIsNotSent : Type 0
SelfCallIsNotSent = reply_after server (up 2 ∷ []) (call 1 (codes "a") (codes "say") (int 5 ∷ [])) ≡ done (record { packets = []; runs = ran 1 (codes "a") (codes "say") 5; raws = []; skips = [] })

-- a name that was told to one peer isn't known of another
abbrev pub NamedToItsTarget : Type 0
NamedToItsTarget = reply_after server (up 2 ∷ up 3 ∷ spawn_x ∷ call 2 (codes "a/x") (codes "end") [] ∷ []) (got_packet 3 (packet.Confirm true 7)) ≡ fault (fault_row.NoName 7)

-- a path that is called twice takes one id
abbrev pub OneIdForAPath : Type 0
OneIdForAPath = reply_after server (up 2 ∷ spawn_x ∷ spawn_q (codes "y") ∷ call 2 (codes "a/x") (codes "end") [] ∷ call 2 (codes "a/x") (codes "end") [] ∷ call 1 (codes "a/y") (codes "n") (int 1 ∷ []) ∷ got_packet 2 (packet.Confirm true 7) ∷ []) (got_packet 2 (packet.Confirm true 8)) ≡ fault (fault_row.NoName 8)

-- and the next path takes the next id
abbrev pub SecondPathIsNext : Type 0
SecondPathIsNext = reply_after server (up 2 ∷ spawn_x ∷ spawn_q (codes "y") ∷ call 2 (codes "a/x") (codes "end") [] ∷ call 2 (codes "a/x") (codes "end") [] ∷ call 2 (codes "a/y") (codes "n") (int 1 ∷ []) ∷ []) (got_packet 2 (packet.Confirm true 8)) ≡ nothing

-- a call that doesn't run here sets nothing here, be its method local or not
abbrev pub RunElsewhereSetsNothing : Type 0
RunElsewhereSetsNothing = sampled_after server (up 2 ∷ call 0 (codes "a") (codes "hit") (int 5 ∷ []) ∷ call 2 (codes "a") (codes "say") (int 6 ∷ []) ∷ []) ≡ sends_tick 2 1 (packet.Sync 1 []) ∷ []

-- a node that is spawned anew has the methods of its new scene
abbrev pub MethodsOfTheNewScene : Type 0
MethodsOfTheNewScene = reply_after server (spawn_x ∷ does (op.Despawn (codes "a/x")) ∷ spawn_q (codes "x") ∷ call 0 (codes "a/x") (codes "n") (int 9 ∷ []) ∷ []) (up 2)
    ≡ only (sends 2 (q_packet 4 5 (codes "x") 9) ∷ [])
