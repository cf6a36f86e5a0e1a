-- The names of what is refused, of faults, and what stands behind a name.
use Rattle.std.specs.Prelude.{ℕ, List, [], ◌∷◌, codes}
use Rattle.gd_variant.specs.declared.message.Why.{Why}
use Rattle.gd_variant.specs.declared.message.Why.TheVariants as why
use Rattle.scene_model.specs.declared.event.Class.{Class}
use Rattle.scene_model.specs.declared.event.Class.TheVariants as class
use Rattle.scene_model.specs.declared.outcome.SkipWhy.{SkipWhy}
use Rattle.scene_model.specs.declared.outcome.SkipWhy.TheVariants as skip
use Rattle.scene_model.specs.declared.outcome.Refusal.{Refusal}
use Rattle.scene_model.specs.declared.outcome.Refusal.TheVariants as refusal
use Rattle.scene_model.specs.declared.outcome.Fault.{Fault}
use Rattle.scene_model.specs.declared.outcome.Fault.TheVariants as fault
use Rattle.scene_model.specs.declared.world.WorldNo.{WorldNo}
use Rattle.scene_model.specs.declared.world.WorldNo.TheVariants as world
use Rattle.serde_json.specs.Data.{Data, string}
use Rattle.session_text.specs.Json.{hex_of, int_of, nat_of}

-- a packet's transfer mode
abbrev pub class_name : Class → List ℕ
class_name class.Unreliable = codes "unreliable"
class_name class.Ordered = codes "ordered"
class_name class.Reliable = codes "reliable"

-- why an entry of a packet changed nothing
abbrev pub skip_name : SkipWhy → List ℕ
skip_name skip.NoSync = codes "NoSync"
skip_name skip.Stale = codes "Stale"

-- a refusal of a peer
abbrev pub refusal_name : Refusal → List ℕ
refusal_name refusal.NoNode = codes "NoNode"
refusal_name refusal.NoSpawner = codes "NoSpawner"
refusal_name refusal.NotAuthority = codes "NotAuthority"
refusal_name refusal.NoScene = codes "NoScene"
refusal_name refusal.BadName = codes "BadName"
refusal_name refusal.NameTaken = codes "NameTaken"
refusal_name refusal.SpawnLimit = codes "SpawnLimit"
refusal_name refusal.NodesFull = codes "NodesFull"
refusal_name refusal.NetIdsFull = codes "NetIdsFull"
refusal_name refusal.NoProp = codes "NoProp"
refusal_name refusal.ValueTooLong = codes "ValueTooLong"
refusal_name refusal.NotSpawned = codes "NotSpawned"
refusal_name refusal.NoSync = codes "NoSync"
refusal_name refusal.VisFull = codes "VisFull"
refusal_name refusal.NoMethod = codes "NoMethod"
refusal_name refusal.ArgCount = codes "ArgCount"
refusal_name refusal.ArgLong = codes "ArgLong"
refusal_name refusal.NotAllowed = codes "NotAllowed"
refusal_name refusal.SelfCall = codes "SelfCall"
refusal_name refusal.NoPeer = codes "NoPeer"
refusal_name refusal.PacketLong = codes "PacketLong"
refusal_name refusal.TicksFull = codes "TicksFull"
refusal_name refusal.BadPeer = codes "BadPeer"
refusal_name refusal.PeersFull = codes "PeersFull"
refusal_name refusal.NotBuilt = codes "NotBuilt"

-- a refusal of the session
abbrev pub world_name : WorldNo → List ℕ
world_name world.NoPeer = codes "NoPeer"
world_name world.NothingInFlight = codes "NothingInFlight"
world_name world.NoSuchPacket = codes "NoSuchPacket"
world_name world.OutOfOrder = codes "OutOfOrder"
world_name (world.Window x y) = codes "Window"
world_name world.Server = codes "Server"
world_name world.PeersFull = codes "PeersFull"
world_name world.NotLink = codes "NotLink"

-- what stands behind it
abbrev pub world_fields : WorldNo → List Data
world_fields (world.Window newest tick) = nat_of newest ∷ nat_of tick ∷ []
world_fields _ = []

-- what is wrong with some bytes
abbrev pub byte_name : Why → List ℕ
byte_name why.Short = codes "Short"
byte_name why.HeaderBits = codes "HeaderBits"
byte_name why.Kind = codes "Kind"
byte_name why.NotCarried = codes "NotCarried"
byte_name why.Utf8 = codes "Utf8"
byte_name why.Depth = codes "Depth"
byte_name why.OldPath = codes "OldPath"
byte_name why.PathFlags = codes "PathFlags"
byte_name why.RepeatedKey = codes "RepeatedKey"
byte_name why.Empty = codes "Empty"
byte_name why.Command = codes "Command"
byte_name why.Width = codes "Width"
byte_name why.PathEnd = codes "PathEnd"
byte_name why.Digits = codes "Digits"
byte_name why.Count = codes "Count"
byte_name why.Size = codes "Size"
byte_name why.Trailing = codes "Trailing"
byte_name why.Nested = codes "Nested"
byte_name why.TooLong = codes "TooLong"

-- a fault of a received packet
abbrev pub fault_name : Fault → List ℕ
fault_name (fault.Malformed x y) = codes "Malformed"
fault_name (fault.UnknownPeer x) = codes "UnknownPeer"
fault_name fault.AuthOff = codes "AuthOff"
fault_name fault.NotServer = codes "NotServer"
fault_name (fault.BadPeer x) = codes "BadPeer"
fault_name (fault.GonePeer x) = codes "GonePeer"
fault_name (fault.NoName x) = codes "NoName"
fault_name fault.NoNode = codes "NoNode"
fault_name fault.NoMethod = codes "NoMethod"
fault_name fault.ArgCount = codes "ArgCount"
fault_name fault.ArgLong = codes "ArgLong"
fault_name fault.NotAllowed = codes "NotAllowed"
fault_name (fault.IdRange x) = codes "IdRange"
fault_name (fault.NameDiffers x) = codes "NameDiffers"
fault_name (fault.MethodsDiffer x) = codes "MethodsDiffer"
fault_name (fault.Unconfirmed x) = codes "Unconfirmed"
fault_name fault.NoSpawner = codes "NoSpawner"
fault_name fault.NotAuthority = codes "NotAuthority"
fault_name fault.NoScene = codes "NoScene"
fault_name (fault.KnownNet x) = codes "KnownNet"
fault_name fault.BadName = codes "BadName"
fault_name fault.NameTaken = codes "NameTaken"
fault_name fault.NodesFull = codes "NodesFull"
fault_name fault.WrongValues = codes "WrongValues"
fault_name (fault.NoNet x) = codes "NoNet"
fault_name (fault.NoSync x) = codes "NoSync"
fault_name (fault.BadMask x) = codes "BadMask"
fault_name fault.NotBuilt = codes "NotBuilt"

-- what stands behind it
abbrev pub fault_fields : Fault → List Data
fault_fields (fault.Malformed at why) = nat_of at ∷ string (byte_name why) ∷ []
fault_fields (fault.UnknownPeer peer) = int_of peer ∷ []
fault_fields (fault.BadPeer peer) = int_of peer ∷ []
fault_fields (fault.GonePeer peer) = int_of peer ∷ []
fault_fields (fault.NoName id) = nat_of id ∷ []
fault_fields (fault.IdRange id) = nat_of id ∷ []
fault_fields (fault.NameDiffers kept) = string kept ∷ []
fault_fields (fault.MethodsDiffer kept) = hex_of kept ∷ []
fault_fields (fault.Unconfirmed id) = nat_of id ∷ []
fault_fields (fault.KnownNet id) = nat_of id ∷ []
fault_fields (fault.NoNet net) = nat_of net ∷ []
fault_fields (fault.NoSync id) = nat_of id ∷ []
fault_fields (fault.BadMask mask) = nat_of mask ∷ []
fault_fields _ = []
