-- Three peers: relays by way of the server, a client that goes, and one that forges.
use Rattle.std.specs.Prelude.{◌≡◌, ℕ, pos, true, false, List, [], ◌∷◌, ◌++◌, Some, None, option_map, codes}
use Rattle.gd_variant.specs.declared.message.Plain.TheVariants as packet
use Rattle.gd_variant.specs.declared.message.Message.TheVariants.{Relay}
use Rattle.gd_variant.specs.declared.message.Why.TheVariants.{Nested}
use Rattle.scene_model.specs.declared.event.Class.TheVariants.{Reliable}
use Rattle.scene_model.specs.declared.outcome.Fault.TheVariants as fault_row
use Rattle.scene_model.specs.declared.world.WorldEvent.{WorldEvent}
use Rattle.scene_model.specs.declared.world.WorldOutcome.TheVariants as answers
use Rattle.scene_model.specs.declared.world.WorldNo.TheVariants as refusal
use Rattle.world_model.specs.World.{Parcel, next_of}
use Rattle.world_model.specs.Answers.{happened}
use Rattle.world_model.specs.Replicas.{is_joined, is_quiet, arrived}
use Rattle.peer_rows.specs.Scenes.{scene_b, p0}
use Rattle.peer_rows.specs.RowsB.{x_packet, x_row, z_packet, z_row, tree_with}
use Rattle.world_rows.specs.Form.{in_numbers, bad_bytes, message_numbers}
use Rattle.world_rows.specs.Script.{connect, down, spawn, raw, rel, forge, numbers, passes_on, sent_by, taken_by, new_client, refused, after, answer_after, report_after}

abbrev pub three_peers : List WorldEvent
three_peers = connect ∷ connect ∷ rel 1 2 ∷ rel 1 3 ∷ []

-- a client forges a relay of a raw packet to another
abbrev pub forge_relay : ℕ → ℕ → WorldEvent
forge_relay p to = forge p (message_numbers (Relay (pos to) (packet.Raw (9 ∷ []))))

abbrev pub first_hop : List WorldEvent
first_hop = three_peers ++ forge_relay 2 3 ∷ []

-- the server passes the relay on with the number of its sender
abbrev pub ServerPassesOn : Type 0
ServerPassesOn = answer_after scene_b first_hop (rel 2 1) ≡ sent_by 1 (passes_on 2 3 (packet.Raw (9 ∷ [])) ∷ [])

abbrev pub second_hop : List WorldEvent
second_hop = first_hop ++ rel 2 1 ∷ []

-- a relay keeps the tag of what it was made from
abbrev pub RelayKeepsItsTag : Type 0
RelayKeepsItsTag = option_map (λ (p : Parcel). p.tag) (next_of ((after scene_b second_hop).way (pos 1) (pos 3))) ≡ Some (record { origin = pos 2; target = pos 1; tick = None; path = None; forged = true })

-- the way of a pair of clients is quiet where both links are
abbrev pub BothLinksAreQuiet : Type 0
BothLinksAreQuiet = (is_quiet (after scene_b first_hop) (pos 2) (pos 1) ≡ false) × (is_quiet (after scene_b first_hop) (pos 2) (pos 3) ≡ false) × (is_quiet (after scene_b second_hop) (pos 2) (pos 1) ≡ true)
    × (is_quiet (after scene_b second_hop) (pos 2) (pos 3) ≡ false) × (is_quiet (after scene_b (second_hop ++ rel 1 3 ∷ [])) (pos 2) (pos 3) ≡ true) × (is_quiet (after scene_b second_hop) (pos 3) (pos 2) ≡ true)

-- a client's relay to one that then goes
abbrev pub gone : List WorldEvent
gone = three_peers ++ forge_relay 3 2 ∷ down 2 ∷ []

abbrev pub GonePeerIsAFault : Type 0
GonePeerIsAFault = answer_after scene_b gone (rel 3 1) ≡ answers.Fault (pos 1) (fault_row.GonePeer (pos 2))

-- a parcel whose delivery is a fault was delivered
abbrev pub FaultIsDelivered : Type 0
FaultIsDelivered = answer_after scene_b (gone ++ rel 3 1 ∷ []) (rel 3 1) ≡ refused refusal.NothingInFlight

-- and it happened, as a refused line doesn't
abbrev pub FaultHappened : Type 0
FaultHappened = (happened (answer_after scene_b gone (rel 3 1)) ≡ true) × (happened (answer_after scene_b gone (rel 2 1)) ≡ false) × (happened (answer_after scene_b gone (raw 3 9 Reliable [])) ≡ false)

-- no number is given twice
abbrev pub NumbersAreNew : Type 0
NumbersAreNew = answer_after scene_b (connect ∷ down 2 ∷ []) connect ≡ new_client 3 []

-- a client's node

abbrev pub spawn_z : WorldEvent
spawn_z = spawn 2 (codes "b/sp") (codes "z") []

-- it is there once its spawn was delivered, and as long as its client is
abbrev pub GoneRowsAreRemoved : Type 0
GoneRowsAreRemoved = (report_after scene_b (connect ∷ spawn_z ∷ []) 1 ≡ tree_with (pos 2 ∷ []) 10 []) × (report_after scene_b (connect ∷ spawn_z ∷ rel 2 1 ∷ []) 1 ≡ tree_with (pos 2 ∷ []) 10 (z_row ∷ []))
    × (report_after scene_b (connect ∷ spawn_z ∷ rel 2 1 ∷ down 2 ∷ []) 1 ≡ tree_with [] 10 [])

-- what lies on the ways of a client that went is never delivered
abbrev pub GoneIsNotDelivered : Type 0
GoneIsNotDelivered = (answer_after scene_b (connect ∷ spawn_z ∷ down 2 ∷ []) (rel 2 1) ≡ refused refusal.NoPeer) × (report_after scene_b (connect ∷ spawn_z ∷ down 2 ∷ []) 1 ≡ tree_with [] 10 [])

-- rows by authority, the server's own before a client's
abbrev pub RowsByAuthority : Type 0
RowsByAuthority = report_after scene_b (three_peers ++ spawn 1 (codes "a/sp") (codes "x") [] ∷ spawn_z ∷ rel 2 1 ∷ []) 1 ≡ tree_with (pos 2 ∷ pos 3 ∷ []) 10 (x_row p0 p0 ∷ z_row ∷ [])

-- forged packets

abbrev pub two_clients : List WorldEvent
two_clients = connect ∷ connect ∷ []

-- a client forges the spawn of another's node
abbrev pub forged_spawn : List WorldEvent
forged_spawn = two_clients ++ forge 2 (numbers (x_packet p0)) ∷ []

abbrev pub ForgedSpawn : Type 0
ForgedSpawn = answer_after scene_b forged_spawn (rel 2 1) ≡ answers.Fault (pos 1) fault_row.NotAuthority

-- a client forges a relay in a relay
abbrev pub forged_relay : List WorldEvent
forged_relay = forged_spawn ++ rel 2 1 ∷ forge 2 (bad_bytes 6 18) ∷ []

abbrev pub ForgedRelay : Type 0
ForgedRelay = answer_after scene_b forged_relay (rel 2 1) ≡ answers.Fault (pos 1) (fault_row.Malformed 6 Nested)

-- neither changes what others hold
abbrev pub OthersAreUnchanged : Type 0
OthersAreUnchanged = (report_after scene_b (forged_relay ++ rel 2 1 ∷ []) 1 ≡ tree_with (pos 2 ∷ pos 3 ∷ []) 10 []) × (report_after scene_b (forged_relay ++ rel 2 1 ∷ []) 3 ≡ tree_with (pos 1 ∷ []) 10 [])

-- a client that forged is joined with nobody, also before its packet is delivered and for good; the others are
abbrev pub ForgerIsWild : Type 0
ForgerIsWild = (is_joined (after scene_b two_clients) (pos 2) (pos 1) ≡ true) × (is_joined (after scene_b forged_spawn) (pos 2) (pos 1) ≡ false) × (is_joined (after scene_b forged_spawn) (pos 3) (pos 2) ≡ false)
    × (is_joined (after scene_b forged_spawn) (pos 3) (pos 1) ≡ true) × (is_joined (after scene_b forged_spawn) (pos 1) (pos 1) ≡ false) × (is_joined (after scene_b forged_spawn) (pos 1) (pos 4) ≡ false)
    × (is_joined (after scene_b forged_relay) (pos 1) (pos 2) ≡ false)

-- nor is one that went
abbrev pub GoneIsNotJoined : Type 0
GoneIsNotJoined = (is_joined (after scene_b (two_clients ++ down 2 ∷ [])) (pos 2) (pos 1) ≡ false) × (is_joined (after scene_b (two_clients ++ down 2 ∷ [])) (pos 3) (pos 2) ≡ false) × (is_joined (after scene_b (two_clients ++ down 2 ∷ [])) (pos 1) (pos 3) ≡ true)

-- a forger's own rows are what others see, and no update of its counts
abbrev pub ForgedRowIsSeen : Type 0
ForgedRowIsSeen = (arrived in_numbers scene_b (after scene_b (two_clients ++ forge 2 (numbers z_packet) ∷ rel 2 1 ∷ [])) (pos 2) (pos 1) ≡ 0) × (answer_after scene_b (two_clients ++ forge 2 (numbers z_packet) ∷ []) (rel 2 1) ≡ taken_by 1)
    × (report_after scene_b (two_clients ++ forge 2 (numbers z_packet) ∷ rel 2 1 ∷ []) 1 ≡ tree_with (pos 2 ∷ pos 3 ∷ []) 10 (z_row ∷ []))
