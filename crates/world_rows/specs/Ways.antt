-- What lies on links: tags, and how many bytes were ever put in flight.
use Rattle.std.specs.Prelude.{◌≡◌, ℕ, ◌+◌, pos, true, false, List, [], ◌∷◌, length, Some, None, map, codes}
use Rattle.gd_variant.specs.declared.message.Plain.TheVariants as packet
use Rattle.gd_variant.specs.declared.message.Message.TheVariants.{Relay}
use Rattle.scene_model.specs.declared.event.Op.TheVariants as op
use Rattle.scene_model.specs.declared.event.Class.TheVariants.{Unreliable, Reliable}
use Rattle.scene_model.specs.declared.world.WorldEvent.{WorldEvent}
use Rattle.scene_model.specs.declared.world.WorldEvent.TheVariants.{Forge}
use Rattle.world_model.specs.World.{Tag, Parcel, bytes_in_flight, has_room}
use Rattle.world_model.specs.Answers.{overflows}
use Rattle.peer_rows.specs.Scenes.{scene_a, scene_b}
use Rattle.world_rows.specs.Form.{in_numbers, message_numbers}
use Rattle.world_rows.specs.Script.{connect, down, operate, spawn, frame, raw, rel, loose, forge, after}

abbrev pub tags_of : List Parcel → List Tag
tags_of ps = map (λ (p : Parcel). p.tag) ps

-- a call's packet carries the path of its operation
abbrev pub CallIsTagged : Type 0
CallIsTagged = tags_of ((after scene_b (connect ∷ operate 1 (op.Call (record { to = pos 0; path = codes "a"; method = codes "die"; args = [] })) ∷ [])).way (pos 1) (pos 2)).loose
    ≡ record { origin = pos 1; target = pos 2; tick = None; path = Some (codes "a"); forged = false } ∷ []

-- a sample carries its full tick
abbrev pub SampleIsTagged : Type 0
SampleIsTagged = tags_of ((after scene_b (connect ∷ frame 1 ∷ frame 1 ∷ [])).way (pos 1) (pos 2)).loose
    ≡ record { origin = pos 1; target = pos 2; tick = Some 1; path = None; forged = false } ∷ record { origin = pos 1; target = pos 2; tick = Some 2; path = None; forged = false } ∷ []

-- a confirm carries the tag of the peer that confirms
abbrev pub named : List WorldEvent
named = connect ∷ spawn 2 (codes "b/sp") (codes "z") [] ∷ rel 2 1 ∷ operate 2 (op.Call (record { to = pos 1; path = codes "b/z"; method = codes "bc"; args = [] })) ∷ rel 2 1 ∷ []

abbrev pub ConfirmIsTagged : Type 0
ConfirmIsTagged = tags_of ((after scene_b named).way (pos 1) (pos 2)).sent ≡ record { origin = pos 1; target = pos 2; tick = None; path = None; forged = false } ∷ []

-- a forged packet carries that it was forged, and a relay of it too
abbrev pub relay_forged : WorldEvent
relay_forged = Forge (pos 2) Unreliable (message_numbers (Relay (pos 3) (packet.Raw [])))

abbrev pub ForgedIsTagged : Type 0
ForgedIsTagged = (tags_of ((after scene_a (connect ∷ forge 2 (3 ∷ 0 ∷ []) ∷ [])).way (pos 2) (pos 1)).sent ≡ record { origin = pos 2; target = pos 1; tick = None; path = None; forged = true } ∷ [])
    × (tags_of ((after scene_a (connect ∷ connect ∷ relay_forged ∷ loose 2 1 1 ∷ [])).way (pos 1) (pos 3)).loose ≡ record { origin = pos 2; target = pos 1; tick = None; path = None; forged = true } ∷ [])

-- a packet counts for each link that it was put on, delivered or not, and after its client went too
abbrev pub bytes_after : List WorldEvent → ℕ
bytes_after es = bytes_in_flight (after scene_a es)

abbrev pub EachLinkCounts : Type 0
EachLinkCounts = (bytes_after (connect ∷ raw 1 2 Reliable (9 ∷ 9 ∷ []) ∷ []) ≡ 4) × (bytes_after (connect ∷ raw 1 2 Reliable (9 ∷ 9 ∷ []) ∷ rel 1 2 ∷ down 2 ∷ []) ≡ 4)
    × (bytes_after (connect ∷ frame 1 ∷ raw 2 1 Unreliable (9 ∷ []) ∷ loose 2 1 1 ∷ loose 2 1 1 ∷ []) ≡ 6) × (has_room (after scene_a (connect ∷ frame 1 ∷ [])) ≡ true)

-- a relay counts on each of its two links
abbrev pub RelayCountsTwice : Type 0
RelayCountsTwice = bytes_after (connect ∷ connect ∷ relay_forged ∷ loose 2 1 1 ∷ []) ≡ 8 + (8 + bytes_after (connect ∷ connect ∷ []))

-- the last byte for which there is room, and the first for which there is none
abbrev pub RoomAtItsEdge : Type 0
RoomAtItsEdge = (bytes : List ℕ) → (length bytes ≡ 536870912 → has_room (after scene_a (connect ∷ forge 2 bytes ∷ [])) ≡ true) × (length bytes ≡ 536870913 → has_room (after scene_a (connect ∷ forge 2 bytes ∷ [])) ≡ false)

-- the line that puts it in flight ends the run
abbrev pub LastByteOverflows : Type 0
LastByteOverflows = (bytes : List ℕ) → (length bytes ≡ 536870912 → overflows in_numbers scene_a (after scene_a (connect ∷ [])) (forge 2 bytes) ≡ false)
    × (length bytes ≡ 536870913 → overflows in_numbers scene_a (after scene_a (connect ∷ [])) (forge 2 bytes) ≡ true)

-- but not where it is refused
abbrev pub RefusedDoesntOverflow : Type 0
RefusedDoesntOverflow = (bytes : List ℕ) → length bytes ≡ 536870913 → overflows in_numbers scene_a (after scene_a (connect ∷ forge 2 bytes ∷ [])) (forge 3 []) ≡ false
