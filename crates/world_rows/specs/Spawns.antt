-- Delivered prefixes: a late client, and a node that is hidden and shown again.
use Rattle.std.specs.Prelude.{◌≡◌, pos, true, false, List, [], ◌∷◌, ◌++◌, None, codes}
use Rattle.gd_variant.specs.declared.value.Variant.TheVariants.{Int}
use Rattle.gd_variant.specs.declared.message.Plain.TheVariants as packet
use Rattle.scene_model.specs.declared.event.Class.TheVariants.{Reliable}
use Rattle.scene_model.specs.declared.world.WorldEvent.{WorldEvent}
use Rattle.peer_model.specs.Heard.{server}
use Rattle.world_model.specs.World.{Parcel, World}
use Rattle.world_model.specs.Happens.{happens, with_parcels}
use Rattle.world_model.specs.Replicas.{is_quiet, arrived}
use Rattle.peer_rows.specs.Session.{shown}
use Rattle.peer_rows.specs.Scenes.{scene_a}
use Rattle.peer_rows.specs.RowsA.{v, p_packet, s_row}
use Rattle.world_rows.specs.Form.{in_numbers}
use Rattle.world_rows.specs.Script.{connect, spawn, set, public, frame, raw, rel, loose, sends, sent_by, new_client, after, answer_after, report_after}

abbrev pub two_nodes : List WorldEvent
two_nodes = spawn 1 (codes "s") (codes "p1") (v 5) ∷ spawn 1 (codes "s") (codes "p2") (v 6) ∷ []

-- a client that comes later is shown both nodes at once
abbrev pub LateClientIsShown : Type 0
LateClientIsShown = answer_after scene_a two_nodes connect ≡ new_client 2 (sends 2 (p_packet 1 2 (codes "p1") 5) ∷ sends 2 (p_packet 3 4 (codes "p2") 6) ∷ [])

abbrev pub first_delivered : List WorldEvent
first_delivered = two_nodes ++ connect ∷ rel 1 2 ∷ []

-- it holds what was delivered, which may end inside what one event changed
abbrev pub PrefixIsReported : Type 0
PrefixIsReported = report_after scene_a first_delivered 2 ≡ record { peers = pos 1 ∷ []; rows = s_row ∷ shown 1 1 (codes "s/p1") (v 5) ∷ [] }

-- then something is on the way
abbrev pub FirstHasArrived : Type 0
FirstHasArrived = (arrived in_numbers scene_a (after scene_a first_delivered) (pos 1) (pos 2) ≡ 1) × (is_quiet (after scene_a first_delivered) (pos 1) (pos 2) ≡ false)

-- once nothing is on the way it holds all
abbrev pub QuietIsWhole : Type 0
QuietIsWhole = (is_quiet (after scene_a (first_delivered ++ rel 1 2 ∷ [])) (pos 1) (pos 2) ≡ true)
    × (report_after scene_a (first_delivered ++ rel 1 2 ∷ []) 2 ≡ record { peers = pos 1 ∷ []; rows = s_row ∷ shown 1 1 (codes "s/p1") (v 5) ∷ shown 1 3 (codes "s/p2") (v 6) ∷ [] })

abbrev pub one_shown : List WorldEvent
one_shown = connect ∷ spawn 1 (codes "s") (codes "p1") (v 5) ∷ rel 1 2 ∷ []

-- a node that is no longer public is hidden, and shown again under its number
abbrev pub HideIsSent : Type 0
HideIsSent = answer_after scene_a one_shown (public 1 (codes "s/p1") false) ≡ sent_by 1 (sends 2 (packet.Despawn 1) ∷ [])

abbrev pub hidden_again : List WorldEvent
hidden_again = one_shown ++ public 1 (codes "s/p1") false ∷ []

abbrev pub ShowIsSentAgain : Type 0
ShowIsSentAgain = answer_after scene_a hidden_again (public 1 (codes "s/p1") true) ≡ sent_by 1 (sends 2 (p_packet 1 2 (codes "p1") 5) ∷ [])

-- the client follows as each is delivered
abbrev pub on_and_off : List WorldEvent
on_and_off = hidden_again ++ public 1 (codes "s/p1") true ∷ rel 1 2 ∷ []

abbrev pub HideIsReported : Type 0
HideIsReported = report_after scene_a on_and_off 2 ≡ record { peers = pos 1 ∷ []; rows = s_row ∷ [] }

abbrev pub ShowIsReported : Type 0
ShowIsReported = report_after scene_a (on_and_off ++ rel 1 2 ∷ []) 2 ≡ record { peers = pos 1 ∷ []; rows = s_row ∷ shown 1 1 (codes "s/p1") (v 5) ∷ [] }

-- the server reports its own node at once
abbrev pub OwnRowIsReported : Type 0
OwnRowIsReported = report_after scene_a one_shown 1 ≡ record { peers = pos 2 ∷ []; rows = s_row ∷ shown 1 1 (codes "s/p1") (v 5) ∷ [] }

-- every update of a packet counts, and a packet without one doesn't
abbrev pub both_told : Parcel
both_told = record { out = sends 2 (packet.Delta (record { id = 2; mask = 1; values = Int (pos 7) ∷ [] } ∷ record { id = 4; mask = 1; values = Int (pos 8) ∷ [] } ∷ [])); tag = record { origin = pos 1; target = pos 2; tick = None; path = None; forged = false } }

abbrev pub two_told : World
two_told = happens in_numbers scene_a (with_parcels (after scene_a (first_delivered ++ rel 1 2 ∷ [])) server (both_told ∷ [])) (rel 1 2)

abbrev pub EachUpdateCounts : Type 0
EachUpdateCounts = (arrived in_numbers scene_a two_told (pos 1) (pos 2) ≡ 4) × (arrived in_numbers scene_a (after scene_a (one_shown ++ raw 1 2 Reliable [] ∷ frame 1 ∷ rel 1 2 ∷ loose 1 2 1 ∷ [])) (pos 1) (pos 2) ≡ 1)

-- a change that was told and that is on its way
abbrev pub changed : List WorldEvent
changed = one_shown ++ set 1 (codes "s/p1") (codes "v") (Int (pos 6)) ∷ frame 1 ∷ []

abbrev pub ChangeIsReported : Type 0
ChangeIsReported = (report_after scene_a changed 2 ≡ record { peers = pos 1 ∷ []; rows = s_row ∷ shown 1 1 (codes "s/p1") (v 5) ∷ [] }) × (report_after scene_a (changed ++ rel 1 2 ∷ []) 2 ≡ record { peers = pos 1 ∷ []; rows = s_row ∷ shown 1 1 (codes "s/p1") (v 6) ∷ [] })

-- a loose packet on the way doesn't keep a pair from being quiet
abbrev pub LooseIsNoMatter : Type 0
LooseIsNoMatter = is_quiet (after scene_a (one_shown ++ frame 1 ∷ [])) (pos 1) (pos 2) ≡ true
