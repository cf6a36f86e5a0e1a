-- Operations that are refused: of two reasons the first.
use Rattle.std.specs.Prelude.{◌≡◌, [], ◌∷◌, codes}
use Rattle.scene_model.specs.declared.event.Op.TheVariants as op
use Rattle.scene_model.specs.declared.outcome.Refusal.TheVariants as refusal
use Rattle.peer_model.specs.Heard.{does}
use Rattle.peer_model.specs.Answer.{refused}
use Rattle.peer_rows.specs.Scenes.{peer, prop}
use Rattle.peer_rows.specs.Session.{spawn, custom, set, call, raw, up, down, nothing, reply_after}
use Rattle.peer_rows.specs.SceneF.{scene_g, server, two, int, spawn_x, spawn_q, public_at}
use Rattle.peer_rows.specs.Limits.{long_value}

-- a node that isn't a spawner, before its authority
abbrev pub NoSpawnerFirst : Type 0
NoSpawnerFirst = reply_after two (up 1 ∷ []) (spawn (codes "a") (codes "p") (codes "y") []) ≡ refused refusal.NoSpawner

-- the authority before the scene
abbrev pub AuthorityBeforeScene : Type 0
AuthorityBeforeScene = reply_after two (up 1 ∷ []) (spawn (codes "a/sp") (codes "r") (codes "y") []) ≡ refused refusal.NotAuthority

-- the name before the limit
abbrev pub NameBeforeLimit : Type 0
NameBeforeLimit = reply_after server (spawn_x ∷ spawn_q (codes "y") ∷ []) (spawn_q (codes "y")) ≡ refused refusal.NameTaken

-- a limit is of its spawner alone
abbrev pub LimitIsOfTheSpawner : Type 0
LimitIsOfTheSpawner = reply_after server (spawn_x ∷ spawn (codes "c") (codes "q") (codes "y") [] ∷ []) (spawn_q (codes "y")) ≡ nothing

-- the authority before the property
abbrev pub AuthorityBeforeProp : Type 0
AuthorityBeforeProp = reply_after server [] (set (codes "b") (codes "zz") (int 1)) ≡ refused refusal.NotAuthority

-- a node that isn't a spawned one, before its authority
abbrev pub NotSpawnedFirst : Type 0
NotSpawnedFirst = reply_after server [] (does (op.Despawn (codes "b"))) ≡ refused refusal.NotSpawned

-- a synchronizer that is missing, before its authority
abbrev pub NoSyncFirst : Type 0
NoSyncFirst = reply_after server [] (public_at (codes "b") 0) ≡ refused refusal.NoSync

-- places of synchronizers end with their number
abbrev pub NoThirdSynchronizer : Type 0
NoThirdSynchronizer = reply_after server (spawn_x ∷ []) (public_at (codes "a/x") 2) ≡ refused refusal.NoSync

-- a custom argument that is too long
abbrev pub LongArgument : Type 0
LongArgument = reply_after server [] (custom (codes "a/sp") (codes "y") (long_value 65529)) ≡ refused refusal.ValueTooLong

-- a setting of a spawn that is too long
abbrev pub LongSetting : Type 0
LongSetting = reply_after server [] (spawn (codes "a/sp") (codes "q") (codes "y") (prop (codes "v") (long_value 65529) ∷ [])) ≡ refused refusal.ValueTooLong

-- the number of arguments before the mode
abbrev pub CallCountFirst : Type 0
CallCountFirst = reply_after server [] (call 0 (codes "b") (codes "end") (int 1 ∷ [])) ≡ refused refusal.ArgCount

-- the number of arguments before their lengths
abbrev pub CallCountBeforeLength : Type 0
CallCountBeforeLength = reply_after server [] (call 0 (codes "b") (codes "end") (long_value 65529 ∷ [])) ≡ refused refusal.ArgCount

-- the length of an argument before the mode
abbrev pub CallLengthBeforeMode : Type 0
CallLengthBeforeMode = reply_after server [] (call 0 (codes "b") (codes "own") (long_value 65529 ∷ [])) ≡ refused refusal.ArgLong

-- no call to a peer that is gone
abbrev pub NoCallToOneThatIsGone : Type 0
NoCallToOneThatIsGone = reply_after server (up 2 ∷ down 2 ∷ []) (call 2 (codes "a") (codes "hit") (int 1 ∷ [])) ≡ refused refusal.NoPeer

-- no raw packet to this peer itself
abbrev pub NoRawToItself : Type 0
NoRawToItself = reply_after server [] (raw 1 []) ≡ refused refusal.SelfCall

-- no peer comes twice
abbrev pub NoSecondUp : Type 0
NoSecondUp = reply_after server (up 2 ∷ down 2 ∷ []) (up 2) ≡ refused refusal.BadPeer

-- at a client only the server comes up by its link
abbrev pub OnlyTheServerComesUp : Type 0
OnlyTheServerComesUp = reply_after two (up 1 ∷ []) (up 3) ≡ refused refusal.BadPeer

-- the mode before a call to this peer itself
abbrev pub ModeBeforeItself : Type 0
ModeBeforeItself = reply_after server [] (call 1 (codes "b") (codes "own") (int 1 ∷ [])) ≡ refused refusal.NotAllowed

-- a wrong name before one that is taken
abbrev pub WrongNameFirst : Type 0
WrongNameFirst = reply_after (peer 1 scene_g) [] (spawn_q (codes "sp/y")) ≡ refused refusal.BadName
