-- Limits, at their edges.
use Rattle.std.specs.Prelude.{◌≡◌, ℕ, zero, suc, ◌+◌, pos, Bool, true, false, Option, List, [], ◌∷◌, ◌++◌, length, Some, None, codes, replicate}
use Rattle.gd_variant.specs.declared.value.Variant.{Variant}
use Rattle.gd_variant.specs.declared.value.Variant.TheVariants.{Text, PackedBytes}
use Rattle.gd_variant.specs.declared.message.Plain.TheVariants as packet
use Rattle.scene_model.specs.declared.event.SpawnOp.{SpawnOp}
use Rattle.scene_model.specs.declared.outcome.Refusal.{Refusal}
use Rattle.scene_model.specs.declared.outcome.Refusal.TheVariants as refusal
use Rattle.peer_model.specs.Heard.{Heard}
use Rattle.peer_model.specs.Peers.{peers_up}
use Rattle.peer_model.specs.Names.{last_path_id, within_ids}
use Rattle.peer_model.specs.Ticks.{tick_of, widen}
use Rattle.peer_model.specs.Refusals.{most_rows, most_net_id, most_peers_set, most_filters, most_tick, most_clients, most_packet, call_size, spawn_refused, frame_refusal}
use Rattle.peer_model.specs.View.{fits, node_at}
use Rattle.peer_model.specs.Answer.{refused}
use Rattle.peer_rows.specs.Session.{raw, up, sends, only, nothing, reply_after}
use Rattle.peer_rows.specs.SceneF.{server}

-- the greatest numbers of everything
abbrev pub TheLimits : Type 0
TheLimits = (most_rows ≡ 4096) × (most_net_id ≡ 2147483647) × (most_peers_set ≡ 4096) × (most_filters ≡ 8) × (most_tick ≡ 281474976710656) × (most_clients ≡ 64) × (most_packet ≡ 8000000) × (last_path_id ≡ 65535)

-- the last id of a path
abbrev pub LastPathId : Type 0
LastPathId = (within_ids 65535 ≡ Some 65535) × (within_ids 65536 ≡ None)

abbrev pub long_value : ℕ → Variant
long_value n = PackedBytes (replicate n 7)

-- the longest value of a property or of an argument has 65,536 bytes
abbrev pub LongestValue : Type 0
LongestValue = (fits (long_value 65528) ≡ true) × (fits (long_value 65529) ≡ false)

-- of two ticks that are equally near the greater one
abbrev pub WidenTie : Type 0
WidenTie = widen 98304 0 ≡ 131072

-- sixty-four clients are up, and no more
abbrev pub clients_to : ℕ → List Heard
clients_to zero = []
clients_to (suc n) = clients_to n ++ up (2 + n) ∷ []

abbrev pub SixtyFourClients : Type 0
SixtyFourClients = (reply_after server (clients_to 63) (up 65) ≡ nothing) × (reply_after server (clients_to 64) (up 66) ≡ refused refusal.PeersFull)

-- the length of a call's packet by full path: with arguments, with none, with one run of bytes, with an empty one, and of a method past the 256th
abbrev pub CallSizes : Type 0
CallSizes = (call_size (codes "a/x") 0 (Text (codes "hi") ∷ []) ≡ 23) × (call_size (codes "a/x") 255 [] ≡ 10) × (call_size (codes "a/x") 0 (PackedBytes (1 ∷ 2 ∷ []) ∷ []) ≡ 12) × (call_size (codes "a/x") 0 (PackedBytes [] ∷ []) ≡ 19)
    × (call_size (codes "a/x") 256 [] ≡ 11)

-- the longest raw packet
abbrev pub LongestRaw : Type 0
LongestRaw = (bytes : List ℕ) → (length bytes ≡ 7999999 → reply_after server (up 2 ∷ []) (raw 2 bytes) ≡ only (sends 2 (packet.Raw bytes) ∷ [])) × (length bytes ≡ 8000000 → reply_after server (up 2 ∷ []) (raw 2 bytes) ≡ refused refusal.PacketLong)

-- the last frame of a pair
abbrev pub LastTick : Type 0
LastTick = (es : List Heard) → peers_up es ≡ pos 2 ∷ [] → (tick_of es (pos 2) ≡ 281474976710655 → frame_refusal es ≡ None) × (tick_of es (pos 2) ≡ 281474976710656 → frame_refusal es ≡ Some refusal.TicksFull)

-- a spawn where its spawner is full or not, beside as many own rows, whose last number is this
abbrev pub spawn_y : SpawnOp
spawn_y = record { spawner = codes "a/sp"; scene = Some (codes "q"); name = codes "y"; sets = []; arg = None }

abbrev pub spawn_beside : Bool → ℕ → ℕ → Option Refusal
spawn_beside full rows last = spawn_refused server (node_at server []) full rows last spawn_y

-- the last own row
abbrev pub LastOwnRow : Type 0
LastOwnRow = (spawn_beside false 4095 8000 ≡ None) × (spawn_beside false 4096 8000 ≡ Some refusal.NodesFull)

-- the last number of a row or synchronizer
abbrev pub LastNumber : Type 0
LastNumber = (spawn_beside false 1 2147483647 ≡ None) × (spawn_beside false 1 2147483648 ≡ Some refusal.NetIdsFull)

-- the spawner's limit comes before the rows, and these before the numbers
abbrev pub LimitBeforeRows : Type 0
LimitBeforeRows = (spawn_beside true 4096 2147483648 ≡ Some refusal.SpawnLimit) × (spawn_beside false 4096 2147483648 ≡ Some refusal.NodesFull)
