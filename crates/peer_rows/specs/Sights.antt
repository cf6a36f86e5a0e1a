-- What is shown, told and sampled to whom.
use Rattle.std.specs.Prelude.{◌≡◌, [], ◌∷◌, Some, codes}
use Rattle.gd_variant.specs.declared.message.Plain.TheVariants as packet
use Rattle.peer_rows.specs.Session.{custom, set, frame, up, sends, sends_tick, only, nothing, reply_after, sampled_after}
use Rattle.peer_rows.specs.SceneF.{server, int, spawn_x, spawn_q, public_at, private_at, only_for, x_packet, told, tells}

-- a custom spawn's argument is the value of its property here too
abbrev pub ArgumentIsOwnValue : Type 0
ArgumentIsOwnValue = reply_after server (up 2 ∷ []) (custom (codes "a/sp") (codes "y") (int 7)) ≡ only (sends 2 (packet.Spawn 255 2 1 (2 ∷ []) (codes "y") (Some (int 7)) (int 7 ∷ [])) ∷ [])

-- every filter counts, the older ones too
abbrev pub OlderFilterCounts : Type 0
OlderFilterCounts = reply_after server (up 2 ∷ up 3 ∷ spawn_q (codes "y") ∷ only_for (codes "a/y") 0 3 ∷ []) (only_for (codes "a/y") 0 2) ≡ only (sends 3 (packet.Despawn 1) ∷ [])

-- a node of which one synchronizer is visible is shown, with the values of both
abbrev pub OneSynchronizerIsEnough : Type 0
OneSynchronizerIsEnough = reply_after server (up 2 ∷ []) spawn_x ≡ only (sends 2 (x_packet 100) ∷ [])

-- a setting is for its synchronizer alone
abbrev pub SettingOfOneSynchronizer : Type 0
SettingOfOneSynchronizer = reply_after server (up 2 ∷ spawn_x ∷ public_at (codes "a/x") 1 ∷ []) (private_at (codes "a/x") 0) ≡ nothing

-- what a synchronizer that isn't visible lists isn't told
abbrev pub UnseenIsNotTold : Type 0
UnseenIsNotTold = sampled_after server (up 2 ∷ spawn_x ∷ set (codes "a/x") (codes "x") (int 9) ∷ []) ≡ sends_tick 2 1 (packet.Sync 1 (record { id = 2; values = int 0 ∷ [] } ∷ [])) ∷ []

-- nor sampled
abbrev pub UnseenIsNotSampled : Type 0
UnseenIsNotSampled = sampled_after server (up 2 ∷ spawn_x ∷ public_at (codes "a/x") 1 ∷ private_at (codes "a/x") 0 ∷ []) ≡ sends_tick 2 1 (packet.Sync 1 []) ∷ []

-- fixed synchronizers are told before those of rows
abbrev pub FixedBeforeRows : Type 0
FixedBeforeRows = reply_after server (up 2 ∷ spawn_q (codes "y") ∷ set (codes "a/y") (codes "v") (int 5) ∷ set (codes "a") (codes "hp") (int 6) ∷ []) frame
    ≡ only (tells 2 (told 2147483651 6) ∷ tells 2 (told 2 5) ∷ [])

-- a peer that comes is told what changed before it came
abbrev pub LateClientIsTold : Type 0
LateClientIsTold = reply_after server (up 3 ∷ set (codes "a") (codes "hp") (int 6) ∷ frame ∷ frame ∷ up 2 ∷ []) frame
    ≡ only (tells 2 (told 2147483651 6) ∷ [])
