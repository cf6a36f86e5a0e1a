-- Each reason for which a session refuses a line, and their order.
use Rattle.std.specs.Prelude.{◌≡◌, pos, List, [], ◌∷◌, ◌++◌, length, replicate, Some, None}
use Rattle.scene_model.specs.declared.event.Class.TheVariants.{Unreliable, Ordered, Reliable}
use Rattle.scene_model.specs.declared.outcome.Refusal.TheVariants as no
use Rattle.scene_model.specs.declared.world.WorldEvent.{WorldEvent}
use Rattle.scene_model.specs.declared.world.WorldOutcome.TheVariants as answers
use Rattle.scene_model.specs.declared.world.WorldNo.TheVariants as refusal
use Rattle.world_model.specs.World.{World, clients, next_client}
use Rattle.world_model.specs.Answers.{refused_by}
use Rattle.peer_rows.specs.Scenes.{scene_a}
use Rattle.world_rows.specs.Form.{in_numbers}
use Rattle.world_rows.specs.Script.{connect, down, frame, raw, rel, loose, forge, refused, after, answer_after}

-- the server neither forges nor goes down
abbrev pub ServerStays : Type 0
ServerStays = (answer_after scene_a [] (down 1) ≡ refused refusal.Server) × (answer_after scene_a [] (forge 1 []) ≡ refused refusal.Server)

-- a peer that isn't there, or no longer
abbrev pub NobodyThere : Type 0
NobodyThere = (answer_after scene_a [] (down 2) ≡ refused refusal.NoPeer) × (answer_after scene_a [] (frame 2) ≡ refused refusal.NoPeer) × (answer_after scene_a [] (forge 2 []) ≡ refused refusal.NoPeer)
    × (answer_after scene_a (connect ∷ down 2 ∷ []) (frame 2) ≡ refused refusal.NoPeer) × (answer_after scene_a (connect ∷ down 2 ∷ []) (rel 2 1) ≡ refused refusal.NoPeer)

-- before any other reason: a delivery between clients of which one isn't there
abbrev pub NobodyBeforeNoLink : Type 0
NobodyBeforeNoLink = answer_after scene_a (connect ∷ []) (rel 2 3) ≡ refused refusal.NoPeer

-- there is no link between clients, nor to oneself
abbrev pub NoLinkThere : Type 0
NoLinkThere = (answer_after scene_a (connect ∷ connect ∷ []) (rel 2 3) ≡ refused refusal.NotLink) × (answer_after scene_a (connect ∷ []) (rel 2 2) ≡ refused refusal.NotLink) × (answer_after scene_a [] (loose 1 1 0) ≡ refused refusal.NotLink)

-- nothing was sent there
abbrev pub NothingThere : Type 0
NothingThere = (answer_after scene_a (connect ∷ []) (rel 1 2) ≡ refused refusal.NothingInFlight) × (answer_after scene_a (connect ∷ []) (loose 1 2 1) ≡ refused refusal.NoSuchPacket)

-- indices begin with 1, and a reliable packet has none
abbrev pub IndexFromOne : Type 0
IndexFromOne = (answer_after scene_a (connect ∷ raw 1 2 Unreliable [] ∷ []) (loose 1 2 0) ≡ refused refusal.NoSuchPacket) × (answer_after scene_a (connect ∷ raw 1 2 Unreliable [] ∷ []) (loose 1 2 2) ≡ refused refusal.NoSuchPacket)
    × (answer_after scene_a (connect ∷ raw 1 2 Reliable [] ∷ []) (loose 1 2 1) ≡ refused refusal.NoSuchPacket) × (answer_after scene_a (connect ∷ raw 1 2 Unreliable [] ∷ []) (rel 1 2) ≡ refused refusal.NothingInFlight)

-- three ordered packets and a loose one between them
abbrev pub in_order : List WorldEvent
in_order = connect ∷ raw 1 2 Ordered (1 ∷ []) ∷ raw 1 2 Unreliable (2 ∷ []) ∷ raw 1 2 Ordered (3 ∷ []) ∷ loose 1 2 3 ∷ []

-- an ordered packet comes neither twice nor after a later one; a loose one comes as often as it will
abbrev pub OnceAndInOrder : Type 0
OnceAndInOrder = (answer_after scene_a in_order (loose 1 2 3) ≡ refused refusal.OutOfOrder) × (answer_after scene_a in_order (loose 1 2 1) ≡ refused refusal.OutOfOrder)
    × (refused_by in_numbers scene_a (after scene_a (connect ∷ raw 1 2 Ordered [] ∷ raw 1 2 Unreliable [] ∷ loose 1 2 2 ∷ [])) (loose 1 2 1) ≡ None) × (refused_by in_numbers scene_a (after scene_a in_order) (loose 1 2 2) ≡ None) × (refused_by in_numbers scene_a (after scene_a (in_order ++ loose 1 2 2 ∷ [])) (loose 1 2 2) ≡ None)

-- sixty-four clients are up, and no more; one that goes makes room
abbrev pub SixtyFourClients : Type 0
SixtyFourClients = (answer_after scene_a (replicate 64 connect) connect ≡ refused refusal.PeersFull) × (refused_by in_numbers scene_a (after scene_a (replicate 63 connect)) connect ≡ None)
    × (refused_by in_numbers scene_a (after scene_a (replicate 64 connect ++ down 5 ∷ [])) connect ≡ None)

-- the last number that a client gets, whatever else the world holds, and none after it although nobody is there
abbrev pub LastNumber : Type 0
LastNumber = (w : World) → clients w ≡ [] → (length w.come ≡ 2147483645 → (next_client w ≡ pos 2147483647) × (refused_by in_numbers scene_a w connect ≡ None))
    × (length w.come ≡ 2147483646 → refused_by in_numbers scene_a w connect ≡ Some refusal.PeersFull)

-- an operation that its peer refuses
abbrev pub PeerRefuses : Type 0
PeerRefuses = answer_after scene_a (connect ∷ []) (raw 1 3 Reliable []) ≡ answers.OpRefused no.NoPeer
