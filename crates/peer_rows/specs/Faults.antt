-- Packets that are faults: of two reasons the first.
use Rattle.std.specs.Prelude.{◌≡◌, ℕ, pos, false, List, [], ◌∷◌, Some, None, Err, codes, replicate}
use Rattle.gd_variant.specs.declared.value.Variant.{Variant}
use Rattle.gd_variant.specs.declared.message.Plain.{Plain}
use Rattle.gd_variant.specs.declared.message.Plain.TheVariants as packet
use Rattle.gd_variant.specs.declared.message.Message.TheVariants.{AddPeer, DelPeer, Relay}
use Rattle.gd_variant.specs.declared.message.Target.TheVariants.{At}
use Rattle.gd_variant.specs.declared.message.Why.TheVariants as why
use Rattle.scene_model.specs.declared.event.Class.TheVariants.{Reliable}
use Rattle.scene_model.specs.declared.spawn.SpawnMsg.{SpawnMsg}
use Rattle.scene_model.specs.declared.outcome.Fault.TheVariants as fault_row
use Rattle.scene_model.specs.Methods.{method_digest}
use Rattle.scene_model.specs.Nodes.{Live}
use Rattle.peer_model.specs.Heard.{Heard, gets}
use Rattle.peer_model.specs.Faults.{spawn_fault}
use Rattle.peer_model.specs.Answer.{fault}
use Rattle.peer_rows.specs.Scenes.{peer}
use Rattle.peer_rows.specs.Session.{call, up, down, got, got_packet, got_loose, reply_after}
use Rattle.peer_rows.specs.SceneF.{own, end, scene_g, server, three, int, spawn_x, x_packet}
use Rattle.peer_rows.specs.Limits.{long_value}

abbrev pub call_b : ℕ → List Variant → Plain
call_b number args = packet.Call (At (codes "b")) number args

-- the number of arguments before the mode
abbrev pub CountFirst : Type 0
CountFirst = reply_after server (up 3 ∷ []) (got_packet 3 (call_b 0 (int 1 ∷ []))) ≡ fault fault_row.ArgCount

-- the count of arguments comes before their lengths
abbrev pub CountBeforeLength : Type 0
CountBeforeLength = reply_after server (up 3 ∷ []) (got_packet 3 (call_b 0 (long_value 65529 ∷ []))) ≡ fault fault_row.ArgCount

-- the length of an argument before the mode
abbrev pub LengthBeforeMode : Type 0
LengthBeforeMode = reply_after server (up 3 ∷ []) (got_packet 3 (call_b 1 (long_value 65529 ∷ []))) ≡ fault fault_row.ArgLong

-- another path for an id, before the node is looked for
abbrev pub NameDiffersFirst : Type 0
NameDiffersFirst = reply_after server (up 2 ∷ []) (got_packet 2 (packet.Simplify [] 1 (codes "zz"))) ≡ fault (fault_row.NameDiffers (codes "a"))

-- an id past the last, before the node is looked for
abbrev pub GreatestName : Type 0
GreatestName = reply_after server (up 2 ∷ []) (got_packet 2 (packet.Simplify [] 65536 (codes "zz"))) ≡ fault (fault_row.IdRange 65536)

-- a confirm of an id that wasn't named, before what it says
abbrev pub NoNameFirst : Type 0
NoNameFirst = reply_after server (up 2 ∷ []) (got_packet 2 (packet.Confirm false 9)) ≡ fault (fault_row.NoName 9)

-- a confirm that refuses a name
abbrev pub NameRefused : Type 0
NameRefused = reply_after server (up 2 ∷ spawn_x ∷ call 2 (codes "a/x") (codes "end") [] ∷ []) (got_packet 2 (packet.Confirm false 7)) ≡ fault (fault_row.Unconfirmed 7)

abbrev pub z_packet : ℕ → List ℕ → List ℕ → List Variant → Plain
z_packet net ids name values = packet.Spawn 0 5 net ids name None values

-- a row of peer 2
abbrev pub with_z : List Heard
with_z = up 2 ∷ got_packet 2 (z_packet 1 (2 ∷ []) (codes "z") (int 4 ∷ [])) ∷ []

-- a number twice in one Spawn
abbrev pub OneNumberTwice : Type 0
OneNumberTwice = reply_after server with_z (got_packet 2 (z_packet 5 (6 ∷ 6 ∷ []) (codes "w") (int 4 ∷ []))) ≡ fault (fault_row.KnownNet 6)

-- a number that a synchronizer has
abbrev pub NumberOfASynchronizer : Type 0
NumberOfASynchronizer = reply_after server with_z (got_packet 2 (z_packet 2 (6 ∷ []) (codes "w") (int 4 ∷ []))) ≡ fault (fault_row.KnownNet 2)

-- a number out of range before one that is known
abbrev pub RangeFirst : Type 0
RangeFirst = reply_after server with_z (got_packet 2 (z_packet 1 (0 ∷ []) (codes "w") (int 4 ∷ []))) ≡ fault (fault_row.IdRange 0)

-- fewer synchronizers than the scene has
abbrev pub TooFewSynchronizers : Type 0
TooFewSynchronizers = reply_after server with_z (got_packet 2 (z_packet 5 [] (codes "w") (int 4 ∷ []))) ≡ fault fault_row.WrongValues

-- the name before the values
abbrev pub NameBeforeValues : Type 0
NameBeforeValues = reply_after server with_z (got_packet 2 (z_packet 5 (6 ∷ []) (codes "z") [])) ≡ fault fault_row.NameTaken

-- a synchronizer's number is that of no row
abbrev pub NoDespawnOfASynchronizer : Type 0
NoDespawnOfASynchronizer = reply_after server with_z (got_packet 2 (packet.Despawn 2)) ≡ fault (fault_row.NoNet 2)

-- a custom argument that is too long
abbrev pub LongArgumentCame : Type 0
LongArgumentCame = reply_after three (up 1 ∷ []) (got_packet 1 (packet.Spawn 255 2 1 (2 ∷ []) (codes "y") (Some (long_value 65529)) (int 1 ∷ []))) ≡ fault fault_row.WrongValues

-- a sample that is too long
abbrev pub LongSample : Type 0
LongSample = reply_after three (up 1 ∷ got_packet 1 (x_packet 100) ∷ []) (got_loose 1 (packet.Sync 1 (record { id = 2; values = long_value 65529 ∷ [] } ∷ []))) ≡ fault fault_row.WrongValues

-- a mask with a bit past the last property
abbrev pub BitTooHigh : Type 0
BitTooHigh = reply_after three (up 1 ∷ []) (got_packet 1 (packet.Delta (record { id = 2147483651; mask = 2; values = int 1 ∷ [] } ∷ []))) ≡ fault (fault_row.BadMask 2)

-- a relay to a peer that is gone
abbrev pub RelayToOneThatIsGone : Type 0
RelayToOneThatIsGone = reply_after server (up 2 ∷ up 3 ∷ down 3 ∷ []) (got 2 (Relay (pos 3) (packet.Raw []))) ≡ fault (fault_row.GonePeer (pos 3))

-- a relay to the server
abbrev pub RelayToTheServer : Type 0
RelayToTheServer = reply_after server (up 2 ∷ []) (got 2 (Relay (pos 1) (packet.Raw []))) ≡ fault (fault_row.BadPeer (pos 1))

-- a relay to its own sender
abbrev pub RelayToItsSender : Type 0
RelayToItsSender = reply_after server (up 2 ∷ []) (got 2 (Relay (pos 2) (packet.Raw []))) ≡ fault (fault_row.BadPeer (pos 2))

-- news of a peer that came before
abbrev pub NoSecondNews : Type 0
NoSecondNews = reply_after three (up 1 ∷ got 1 (AddPeer (pos 2)) ∷ got 1 (DelPeer (pos 2)) ∷ []) (got 1 (AddPeer (pos 2))) ≡ fault (fault_row.BadPeer (pos 2))

-- news of this peer itself
abbrev pub NoNewsOfItself : Type 0
NoNewsOfItself = reply_after three (up 1 ∷ []) (got 1 (AddPeer (pos 3))) ≡ fault (fault_row.BadPeer (pos 3))

-- news that the server went
abbrev pub NoNewsOfTheServer : Type 0
NoNewsOfTheServer = reply_after three (up 1 ∷ []) (got 1 (DelPeer (pos 1))) ≡ fault (fault_row.UnknownPeer (pos 1))

-- a packet on a link from another client, where there is none
abbrev pub NoLinkBetweenClients : Type 0
NoLinkBetweenClients = reply_after three (up 1 ∷ got 1 (AddPeer (pos 2)) ∷ []) (got_packet 2 (packet.Raw [])) ≡ fault (fault_row.UnknownPeer (pos 2))

-- a packet that nothing reads, of a peer that is up or not
abbrev pub MalformedFirst : Type 0
MalformedFirst = reply_after server [] (gets (pos 9) Reliable [] (Err (record { at = 0; why = why.Empty }))) ≡ fault (fault_row.Malformed 0 why.Empty)

-- a scene byte that the spawner has no scene for, and the authority before it
abbrev pub NoSuchScene : Type 0
NoSuchScene = (reply_after server with_z (got_packet 2 (packet.Spawn 1 5 5 (6 ∷ []) (codes "w") None (int 4 ∷ []))) ≡ fault fault_row.NoScene)
    × (reply_after server with_z (got_packet 2 (packet.Spawn 255 5 5 (6 ∷ []) (codes "w") (Some (int 4)) (int 4 ∷ []))) ≡ fault fault_row.NoScene)
    × (reply_after server with_z (got_packet 2 (packet.Spawn 9 2 5 (6 ∷ []) (codes "w") None (int 4 ∷ []))) ≡ fault fault_row.NotAuthority)

-- a name for a node with other methods
abbrev pub OtherMethods : Type 0
OtherMethods = reply_after server (up 2 ∷ []) (got_packet 2 (packet.Simplify [] 9 (codes "b"))) ≡ fault (fault_row.MethodsDiffer (method_digest (end ∷ own ∷ [])))

-- a wrong name before one that is taken
abbrev pub WrongNameFirst : Type 0
WrongNameFirst = reply_after (peer 1 scene_g) (up 2 ∷ []) (got_packet 2 (z_packet 1 (2 ∷ []) (codes "sp/y") (int 4 ∷ []))) ≡ fault fault_row.BadName

-- no row past the greatest number of them
abbrev pub spawned_z : Live
spawned_z = record { auth = pos 2; num = 1; ids = 2 ∷ []; path = codes "b/z"; place = Some 1; values = [] }

abbrev pub message_w : SpawnMsg
message_w = record { scene = 0; spawner = 5; net = 5; syncs = 6 ∷ []; name = codes "w"; arg = None; values = int 4 ∷ [] }

abbrev pub RowsAreFull : Type 0
RowsAreFull = (spawn_fault server (up 2 ∷ []) (pos 2) message_w (replicate 4095 spawned_z) ≡ None) × (spawn_fault server (up 2 ∷ []) (pos 2) message_w (replicate 4096 spawned_z) ≡ Some fault_row.NodesFull)
