-- What is sent, skipped and handed on.
use Rattle.std.specs.Prelude.{◌≡◌, ℕ, pos, true, List, [], ◌∷◌, None, Ok, codes}
use Rattle.gd_variant.specs.declared.message.Plain.TheVariants as packet
use Rattle.gd_variant.specs.declared.message.Message.TheVariants.{AddPeer, Relay}
use Rattle.gd_variant.specs.declared.message.Target.TheVariants.{At}
use Rattle.scene_model.specs.declared.event.Class.TheVariants.{Ordered}
use Rattle.scene_model.specs.declared.outcome.SkipWhy.TheVariants as skip_why
use Rattle.scene_model.specs.Methods.{method_digest}
use Rattle.peer_model.specs.Heard.{gets}
use Rattle.peer_model.specs.Answer.{done, passed_on}
use Rattle.peer_rows.specs.Session.{call, up, got, got_packet, got_loose, sends, sends_loose, relays, only, reply_after}
use Rattle.peer_rows.specs.SceneF.{say, own, end, server, three, int, spawn_x, spawn_q, x_packet, q_packet}

abbrev pub digest_p : List ℕ
digest_p = method_digest (end ∷ say ∷ [])

-- a name travels reliably, whatever the class of its call
abbrev pub NameIsReliable : Type 0
NameIsReliable = reply_after server (up 2 ∷ spawn_x ∷ []) (call 2 (codes "a/x") (codes "end") [])
    ≡ only (sends 2 (packet.Simplify digest_p 7 (codes "a/x")) ∷ sends_loose 2 (packet.Call (At (codes "a/x")) 0 []) ∷ [])

-- a relay goes on in the class in which it came
abbrev pub RelayKeepsItsClass : Type 0
RelayKeepsItsClass = reply_after server (up 2 ∷ up 3 ∷ []) (gets (pos 2) Ordered (7 ∷ 3 ∷ 3 ∷ 0 ∷ 0 ∷ 0 ∷ 4 ∷ []) (Ok (Relay (pos 3) (packet.Raw []))))
    ≡ only (record { link = pos 3; to = pos 3; class = Ordered; tick = None; sent = passed_on (pos 2) (4 ∷ []) } ∷ [])

-- of two entries for one synchronizer in a packet the second is stale
abbrev pub SecondEntryIsStale : Type 0
SecondEntryIsStale = reply_after three (up 1 ∷ got_packet 1 (x_packet 100) ∷ []) (got_loose 1 (packet.Sync 1 (record { id = 2; values = int 1 ∷ [] } ∷ record { id = 2; values = int 2 ∷ [] } ∷ [])))
    ≡ done (record { packets = []; runs = []; raws = []; skips = record { sender = pos 1; id = 2; why = skip_why.Stale } ∷ [] })

-- an event that was refused changes nothing
abbrev pub RefusedIsForgotten : Type 0
RefusedIsForgotten = reply_after server (spawn_q (codes "y") ∷ spawn_q (codes "y") ∷ []) (up 2) ≡ only (sends 2 (q_packet 1 2 (codes "y") 0) ∷ [])

-- a raw packet is handed on with its sender
abbrev pub RawIsHandedOn : Type 0
RawIsHandedOn = reply_after three (up 1 ∷ got 1 (AddPeer (pos 2)) ∷ []) (got 1 (Relay (pos 2) (packet.Raw (5 ∷ [])))) ≡ done (record { packets = []; runs = []; raws = record { sender = pos 2; bytes = 5 ∷ [] } ∷ []; skips = [] })

abbrev pub digest_b : List ℕ
digest_b = method_digest (end ∷ own ∷ [])

-- a name that came by way of the server is confirmed to its sender
abbrev pub RelayedNameIsConfirmed : Type 0
RelayedNameIsConfirmed = reply_after three (up 1 ∷ got 1 (AddPeer (pos 2)) ∷ []) (got 1 (Relay (pos 2) (packet.Simplify digest_b 9 (codes "b")))) ≡ only (relays 2 (packet.Confirm true 9) ∷ [])
