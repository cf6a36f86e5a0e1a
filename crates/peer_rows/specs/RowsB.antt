-- Values, samples, calls and the relay, with two spawners.
use Rattle.std.specs.Prelude.{◌≡◌, ℕ, ℤ, pos, true, List, [], ◌∷◌, ◌++◌, None, Ok, codes}
use Rattle.gd_variant.specs.declared.value.Variant.{Variant}
use Rattle.gd_variant.specs.declared.value.Variant.TheVariants.{Int, Text}
use Rattle.gd_variant.specs.declared.message.Plain.{Plain}
use Rattle.gd_variant.specs.declared.message.Plain.TheVariants as packet
use Rattle.gd_variant.specs.declared.message.Message.TheVariants.{AddPeer, DelPeer, Relay}
use Rattle.gd_variant.specs.declared.message.Target.TheVariants.{Id, At}
use Rattle.scene_model.specs.declared.scene.Prop.{Prop}
use Rattle.scene_model.specs.declared.event.Class.TheVariants.{Reliable}
use Rattle.scene_model.specs.declared.outcome.Refusal.TheVariants as refusal
use Rattle.scene_model.specs.declared.outcome.Fault.TheVariants as fault_row
use Rattle.scene_model.specs.declared.outcome.SkipWhy.TheVariants as skip_why
use Rattle.scene_model.specs.declared.report.Report.{Report}
use Rattle.scene_model.specs.declared.report.Row.{Row}
use Rattle.scene_model.specs.Methods.{method_digest}
use Rattle.peer_model.specs.Heard.{Who, Heard, gets}
use Rattle.peer_model.specs.Answer.{done, refused, fault, passed_on, accepted, up_sends, down_sends}
use Rattle.peer_rows.specs.Scenes.{scene_b, peer, prop, p0, p1, method_a, method_bc}
use Rattle.peer_rows.specs.Session.{spawn, set, call, raw, up, down, got, got_packet, got_loose, sends, sends_loose, sends_tick, sends_news, relays, only, nothing, shown, report_after, reply_after, sampled_after}

abbrev pub server : Who
server = peer 1 scene_b

abbrev pub two : Who
two = peer 2 scene_b

abbrev pub three : Who
three = peer 3 scene_b

abbrev pub x_props : Variant → ℕ → Variant → List Prop
x_props where_ hp dir = prop (codes "pos") where_ ∷ prop (codes "hp") (Int (pos hp)) ∷ prop (codes "dir") dir ∷ []

abbrev pub spawn_x : Heard
spawn_x = spawn (codes "a/sp") (codes "p") (codes "x") []

abbrev pub x_packet : Variant → Plain
x_packet where_ = packet.Spawn 0 2 1 (2 ∷ []) (codes "x") None (where_ ∷ Int (pos 100) ∷ [])

abbrev pub sync_x : ℕ → Variant → Plain
sync_x t where_ = packet.Sync t (record { id = 2; values = where_ ∷ [] } ∷ [])

abbrev pub delta_x : Plain
delta_x = packet.Delta (record { id = 2; mask = 2; values = p1 ∷ [] } ∷ [])

-- the fixed nodes, and then some rows
abbrev pub tree_with : List ℤ → ℕ → List Row → Report
tree_with peers hp rows = record { peers = peers; rows = shown 1 0 (codes "a") (prop (codes "hp") (Int (pos hp)) ∷ []) ∷ shown 1 0 (codes "a/sp") [] ∷ shown 1 0 (codes "a/sy") [] ∷ shown 1 0 (codes "b") [] ∷ shown 2 0 (codes "b/sp") [] ∷ rows }

abbrev pub x_row : Variant → Variant → Row
x_row where_ dir = shown 1 1 (codes "a/x") (x_props where_ 100 dir)

abbrev pub with_x : List Heard
with_x = up 2 ∷ spawn_x ∷ []

abbrev pub SpawnSends : Type 0
SpawnSends = reply_after server (up 2 ∷ []) spawn_x ≡ only (sends 2 (x_packet p0) ∷ [])

-- a frame tells the change reliably, and the sample unreliably
abbrev pub FrameTells : Type 0
FrameTells = sampled_after server (with_x ++ set (codes "a/x") (codes "dir") p1 ∷ []) ≡ sends 2 delta_x ∷ sends_tick 2 1 (sync_x 1 p0) ∷ []

abbrev pub ChangeIsReported : Type 0
ChangeIsReported = report_after two (up 1 ∷ got_packet 1 (x_packet p0) ∷ got_packet 1 delta_x ∷ []) ≡ tree_with (pos 1 ∷ []) 10 (x_row p0 p1 ∷ [])

-- a sample before its node is skipped and not kept; the same one after it is taken
abbrev pub EarlySampleIsSkipped : Type 0
EarlySampleIsSkipped = reply_after two (up 1 ∷ []) (got_loose 1 (sync_x 1 p1)) ≡ done (record { packets = []; runs = []; raws = []; skips = record { sender = pos 1; id = 2; why = skip_why.NoSync } ∷ [] })

abbrev pub EarlySampleIsLost : Type 0
EarlySampleIsLost = report_after two (up 1 ∷ got_loose 1 (sync_x 1 p1) ∷ got_packet 1 (x_packet p0) ∷ []) ≡ tree_with (pos 1 ∷ []) 10 (x_row p0 p0 ∷ [])

abbrev pub SampleAgainIsTaken : Type 0
SampleAgainIsTaken = reply_after two (up 1 ∷ got_loose 1 (sync_x 1 p1) ∷ got_packet 1 (x_packet p0) ∷ []) (got_loose 1 (sync_x 1 p1)) ≡ nothing

abbrev pub SampleIsReported : Type 0
SampleIsReported = report_after two (up 1 ∷ got_loose 1 (sync_x 1 p1) ∷ got_packet 1 (x_packet p0) ∷ got_loose 1 (sync_x 1 p1) ∷ []) ≡ tree_with (pos 1 ∷ []) 10 (x_row p1 p0 ∷ [])

-- an older sample is stale
abbrev pub OldSampleIsStale : Type 0
OldSampleIsStale = reply_after two (up 1 ∷ got_packet 1 (x_packet p0) ∷ got_loose 1 (sync_x 2 p1) ∷ []) (got_loose 1 (sync_x 1 p0)) ≡ done (record { packets = []; runs = []; raws = []; skips = record { sender = pos 1; id = 2; why = skip_why.Stale } ∷ [] })

-- a node that appears again forgets the ticks of its samples
abbrev pub seen_again : List Heard
seen_again = up 1 ∷ got_packet 1 (x_packet p0) ∷ got_loose 1 (sync_x 2 p1) ∷ got_packet 1 (packet.Despawn 1) ∷ got_packet 1 (x_packet p1) ∷ []

abbrev pub SeenAgain : Type 0
SeenAgain = report_after two seen_again ≡ tree_with (pos 1 ∷ []) 10 (x_row p1 p0 ∷ [])

abbrev pub OlderTickIsTaken : Type 0
OlderTickIsTaken = report_after two (seen_again ++ got_loose 1 (sync_x 1 p0) ∷ []) ≡ tree_with (pos 1 ∷ []) 10 (x_row p0 p0 ∷ [])

-- a call of a path that has no name yet: the name goes ahead, and the call goes by path
abbrev pub digest_x : List ℕ
digest_x = method_digest (method_a ∷ method_bc ∷ [])

abbrev pub call_x : Heard
call_x = call 2 (codes "a/x") (codes "a") (Text (codes "hi") ∷ [])

abbrev pub CallByPath : Type 0
CallByPath = reply_after server with_x call_x ≡ only (sends 2 (packet.Simplify digest_x 6 (codes "a/x")) ∷ sends 2 (packet.Call (At (codes "a/x")) 0 (Text (codes "hi") ∷ [])) ∷ [])

abbrev pub CallRuns : Type 0
CallRuns = reply_after two (up 1 ∷ got_packet 1 (x_packet p0) ∷ []) (got_packet 1 (packet.Call (At (codes "a/x")) 0 (Text (codes "hi") ∷ []))) ≡ done (record { packets = []; runs = record { sender = pos 1; path = codes "a/x"; method = codes "a"; args = Text (codes "hi") ∷ [] } ∷ []; raws = []; skips = [] })

abbrev pub NameIsConfirmed : Type 0
NameIsConfirmed = reply_after two (up 1 ∷ got_packet 1 (x_packet p0) ∷ []) (got_packet 1 (packet.Simplify digest_x 6 (codes "a/x"))) ≡ only (sends 1 (packet.Confirm true 6) ∷ [])

-- after the confirm a call goes by id
abbrev pub CallById : Type 0
CallById = reply_after server (with_x ++ call_x ∷ got_packet 2 (packet.Confirm true 6) ∷ []) call_x ≡ only (sends 2 (packet.Call (Id 6) 0 (Text (codes "hi") ∷ [])) ∷ [])

abbrev pub LooseCall : Type 0
LooseCall = reply_after server (with_x ++ call_x ∷ got_packet 2 (packet.Confirm true 6) ∷ []) (call 2 (codes "a/x") (codes "bc") []) ≡ only (sends_loose 2 (packet.Call (Id 6) 1 []) ∷ [])

-- only the authority may call a method of its own
abbrev pub CallerIsJudged : Type 0
CallerIsJudged = reply_after server (up 2 ∷ []) (got_packet 2 (packet.Call (Id 1) 0 [])) ≡ fault fault_row.NotAllowed

abbrev pub LocalCallRuns : Type 0
LocalCallRuns = reply_after server (up 2 ∷ []) (call 0 (codes "a") (codes "die") []) ≡ done (record { packets = sends_loose 2 (packet.Call (Id 1) 0 []) ∷ []; runs = record { sender = pos 1; path = codes "a"; method = codes "die"; args = [] } ∷ []; raws = []; skips = [] })

abbrev pub SelfCallIsRefused : Type 0
SelfCallIsRefused = reply_after server [] (call 1 (codes "a") (codes "hit") (Int (pos 7) ∷ [])) ≡ refused refusal.SelfCall

-- a run assigns at the node's authority
abbrev pub RunAssigns : Type 0
RunAssigns = report_after server (up 2 ∷ got_packet 2 (packet.Call (Id 1) 1 (Int (pos 7) ∷ [])) ∷ []) ≡ tree_with (pos 2 ∷ []) 7 []

-- the server tells clients of each other
abbrev pub SecondClient : Type 0
SecondClient = up_sends server (accepted server (up 3 ∷ up 2 ∷ [])) (pos 3) ≡ sends_news 2 (AddPeer (pos 3)) ∷ sends_news 3 (AddPeer (pos 2)) ∷ []

abbrev pub z_packet : Plain
z_packet = packet.Spawn 0 5 1 (2 ∷ []) (codes "z") None (p0 ∷ Int (pos 100) ∷ [])

-- a client's spawn goes to the server as it is, and to the other client in a relay
abbrev pub ClientSpawns : Type 0
ClientSpawns = reply_after two (up 1 ∷ got 1 (AddPeer (pos 3)) ∷ []) (spawn (codes "b/sp") (codes "p") (codes "z") []) ≡ only (sends 1 z_packet ∷ relays 3 z_packet ∷ [])

-- the server passes the relay on with the sender's number and the bytes as they came
abbrev pub ServerPassesOn : Type 0
ServerPassesOn = reply_after server (up 2 ∷ up 3 ∷ got_packet 2 z_packet ∷ []) (gets (pos 2) Reliable (7 ∷ 3 ∷ 3 ∷ 0 ∷ 0 ∷ 0 ∷ 4 ∷ 99 ∷ []) (Ok (Relay (pos 3) z_packet))) ≡ only (record { link = pos 3; to = pos 3; class = Reliable; tick = None; sent = passed_on (pos 2) (4 ∷ 99 ∷ []) } ∷ [])

abbrev pub z_row : Row
z_row = shown 2 1 (codes "b/z") (x_props p0 100 p0)

abbrev pub RelayedIsReported : Type 0
RelayedIsReported = report_after three (up 1 ∷ got 1 (AddPeer (pos 2)) ∷ got 1 (Relay (pos 2) z_packet) ∷ []) ≡ tree_with (pos 1 ∷ pos 2 ∷ []) 10 (z_row ∷ [])

abbrev pub RawIsRelayed : Type 0
RawIsRelayed = reply_after three (up 1 ∷ got 1 (AddPeer (pos 2)) ∷ []) (raw 2 (255 ∷ [])) ≡ only (relays 2 (packet.Raw (255 ∷ [])) ∷ [])

abbrev pub DownIsTold : Type 0
DownIsTold = down_sends server (accepted server (down 2 ∷ up 3 ∷ up 2 ∷ [])) (pos 2) ≡ sends_news 3 (DelPeer (pos 2)) ∷ []

abbrev pub GonePeerIsAFault : Type 0
GonePeerIsAFault = reply_after server (up 2 ∷ up 3 ∷ down 2 ∷ []) (got 3 (Relay (pos 2) (packet.Raw (255 ∷ [])))) ≡ fault (fault_row.GonePeer (pos 2))

abbrev pub GoneRowsAreRemoved : Type 0
GoneRowsAreRemoved = report_after three (up 1 ∷ got 1 (AddPeer (pos 2)) ∷ got 1 (Relay (pos 2) z_packet) ∷ got 1 (DelPeer (pos 2)) ∷ []) ≡ tree_with (pos 1 ∷ []) 10 []

abbrev pub NoPeerBeforeNews : Type 0
NoPeerBeforeNews = reply_after two (up 1 ∷ []) (raw 3 (255 ∷ [])) ≡ refused refusal.NoPeer

-- a client may not spawn at another's spawner
abbrev pub ForeignSpawn : Type 0
ForeignSpawn = reply_after server (up 2 ∷ up 3 ∷ []) (got_packet 2 (x_packet p0)) ≡ fault fault_row.NotAuthority
