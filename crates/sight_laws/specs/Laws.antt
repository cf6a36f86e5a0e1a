-- Laws of who sees what, and of what each event sends, over every kind of event.
use Rattle.std.specs.Prelude.{◌≡◌, ℕ, ℤ, true, false, List, [], ◌∷◌, ◌++◌, map, filter, flat_map, find, slice_get, length, nat_eq, nat_lt, is_some, option_map, Some, None}
use Rattle.std.specs.Ordering.{int_eq}
use Rattle.std.specs.List.{Contains}
use Rattle.gd_variant.specs.Words.{has_text, has_int, text_eq, some_is, has_nat}
use Rattle.scene_model.specs.declared.event.SpawnOp.{SpawnOp}
use Rattle.scene_model.specs.declared.event.Op.TheVariants.{Despawn, Frame}
use Rattle.scene_model.specs.declared.scene.Node.{Node}
use Rattle.scene_model.specs.Syncs.{Syncer, fixed_syncers, change_props}
use Rattle.scene_model.specs.Lookup.{fixed_paths, fixed_node, sync_of, value_in}
use Rattle.scene_model.specs.Valid.{IsValidScene}
use Rattle.peer_model.specs.Heard.{Who, Heard, does}
use Rattle.peer_model.specs.Peers.{is_up, peers_up, brought_up, taken_down, was_up}
use Rattle.peer_model.specs.Rows.{OwnRow, own_rows, row_made, next_number, spawned_scene, syncs_at, spawn_in}
use Rattle.peer_model.specs.Visible.{visible_to, sees, visible_rows, own_syncers, row_syncers_of}
use Rattle.peer_model.specs.Updates.{Hide, Show, applied, shown_node}
use Rattle.peer_model.specs.Changes.{changes, show_of, hides_and_shows, is_frame, value_told, numbers_of}
use Rattle.peer_model.specs.Refusals.{peers_full, filters_full}
use Rattle.peer_model.specs.Answer.{reliable, update_packet, own_sends, sends}
use Rattle.world_laws.specs.Done.{IsDone, AllDone}
use Rattle.sight_laws.specs.Sights.{RowSight, FixedSight, fixed_sight, is_visible, is_set_full, is_filter_full, sight_of, row_sight, row_sees, first_sights, with_row, without_row, with_row_set, with_fixed_set, with_peer_up, with_peer_down}
use Rattle.sight_laws.specs.Seen.{SightSet, set_in, is_still, all_sights, rows_lost, rows_gained, shown_packet, shift_sends}
use Rattle.sight_laws.specs.Told.{told_to, told_values, tell_by, fixed_first_told, row_first_told}
use Rattle.peer_model.specs.Values.{own_value}

-- what is kept of a synchronizer's settings tells to whom it is visible
abbrev pub VisibleIsKept : Type 0
VisibleIsKept = (who : Who) (es : List Heard) (b : ℤ) (y : Syncer) → visible_to who es b y ≡ is_visible (sight_of who es y) b

-- and so for a row
abbrev pub SeesIsKept : Type 0
SeesIsKept = (who : Who) (es : List Heard) (b : ℤ) (r : OwnRow) → sees who es b r ≡ row_sees (row_sight who es r) b

-- whether there is room for another peer, and for another filter
abbrev pub PeersFullIsKept : Type 0
PeersFullIsKept = (who : Who) (es : List Heard) (b : ℤ) (y : Syncer) → peers_full who es y.path y.place b ≡ is_set_full b (sight_of who es y)

abbrev pub FiltersFullIsKept : Type 0
FiltersFullIsKept = (who : Who) (es : List Heard) (y : Syncer) → filters_full who es y.path y.place ≡ is_filter_full (sight_of who es y)

-- who sees what before the first event
abbrev pub SightsAtFirst : Type 0
SightsAtFirst = (who : Who) → all_sights who [] ≡ first_sights who.scene who.id

-- after an event that brings up a peer
abbrev pub SightsCome : Type 0
SightsCome = (who : Who) (es : List Heard) (e : Heard) (b : ℤ) → AllDone who (e ∷ es) → brought_up e ≡ Some b → all_sights who (e ∷ es) ≡ with_peer_up b (all_sights who es)

-- after an event that takes down a peer
abbrev pub SightsGo : Type 0
SightsGo = (who : Who) (es : List Heard) (e : Heard) (b : ℤ) → taken_down e ≡ Some b → all_sights who (e ∷ es) ≡ with_peer_down b (all_sights who es)

-- after an event that is none of those and that spawns, despawns and sets nothing
abbrev pub SightsStay : Type 0
SightsStay = (who : Who) (es : List Heard) (e : Heard) → is_still e ≡ true → brought_up e ≡ None → taken_down e ≡ None → all_sights who (e ∷ es) ≡ all_sights who es

-- after a spawn, by scene or custom
abbrev pub SightsSpawn : Type 0
SightsSpawn = (who : Who) (es : List Heard) (e : Heard) (o : SpawnOp) → AllDone who (e ∷ es) → spawn_in e ≡ Some o
    → all_sights who (e ∷ es) ≡ with_row (peers_up es) (next_number who es) (syncs_at who.scene (spawned_scene who o)) (all_sights who es)

-- after a despawn of an own row
abbrev pub SightsDespawn : Type 0
SightsDespawn = (who : Who) (es : List Heard) (path : List ℕ) (r : OwnRow) → AllDone who es → Contains (own_rows who es) r → r.path ≡ path
    → all_sights who (does (Despawn path) ∷ es) ≡ without_row r.num (all_sights who es)

-- after a setting of a synchronizer of an own row
abbrev pub SightsSetRow : Type 0
SightsSetRow = (who : Who) (es : List Heard) (e : Heard) (s : SightSet) (r : OwnRow) → AllDone who es → set_in e ≡ Some s → Contains (own_rows who es) r → r.path ≡ s.path
    → all_sights who (e ∷ es) ≡ with_row_set (peers_up es) r.num s.place s.change (all_sights who es)

-- after a setting of a fixed synchronizer
abbrev pub SightsSetFixed : Type 0
SightsSetFixed = (who : Who) (es : List Heard) (e : Heard) (s : SightSet) → AllDone who es → set_in e ≡ Some s → has_text s.path (fixed_paths who.scene) ≡ true → s.place ≡ 0
    → all_sights who (e ∷ es) ≡ with_fixed_set s.path s.change (all_sights who es)

-- where a setting of a fixed synchronizer is accepted, it names the synchronizer by the first place
abbrev pub SetFixedIsFirst : Type 0
SetFixedIsFirst = (who : Who) (es : List Heard) (e : Heard) (s : SightSet) → IsDone who es e → set_in e ≡ Some s → has_text s.path (fixed_paths who.scene) ≡ true → s.place ≡ 0

-- while a peer stays up, an event has it told that rows go which it saw and doesn't see any more, and shows it rows which it didn't see before
abbrev pub ShiftsAreTold : Type 0
ShiftsAreTold = (who : Who) (es : List Heard) (e : Heard) (b : ℤ) → IsValidScene who.scene → AllDone who (e ∷ es) → is_up es b ≡ true → is_up (e ∷ es) b ≡ true
    → hides_and_shows who (e ∷ es) b (applied who.scene who.id (changes who es b))
    ≡ map (λ (r : OwnRow). Hide r.num) (rows_lost who e es b) ++ map (λ r. Show (show_of who (e ∷ es) r)) (rows_gained who e es b)

-- an event that brings up a peer shows it the rows that it may see, and tells the others nothing
abbrev pub SendsCome : Type 0
SendsCome = (who : Who) (es : List Heard) (e : Heard) (b : ℤ) → IsValidScene who.scene → AllDone who (e ∷ es) → brought_up e ≡ Some b
    → sends who e es ≡ own_sends who e es ++ map (λ r. reliable who b (shown_packet who (e ∷ es) r)) (filter (sees who es b) (own_rows who es))

-- an event that brings up no one and that spawns, despawns and sets nothing, a frame apart, sends only packets of its own
abbrev pub SendsStay : Type 0
SendsStay = (who : Who) (es : List Heard) (e : Heard) → IsValidScene who.scene → AllDone who (e ∷ es) → is_still e ≡ true → brought_up e ≡ None → is_frame e ≡ false
    → sends who e es ≡ own_sends who e es

-- a spawn is shown to each peer that may see the new row
abbrev pub SendsSpawn : Type 0
SendsSpawn = (who : Who) (es : List Heard) (e : Heard) (o : SpawnOp) → IsValidScene who.scene → AllDone who (e ∷ es) → spawn_in e ≡ Some o
    → sends who e es ≡ map (λ b. reliable who b (shown_packet who (e ∷ es) (row_made who es o))) (filter (λ b. sees who (e ∷ es) b (row_made who es o)) (peers_up es))

-- a despawn is told to each peer that saw the row
abbrev pub SendsDespawn : Type 0
SendsDespawn = (who : Who) (es : List Heard) (path : List ℕ) (r : OwnRow) → IsValidScene who.scene → AllDone who (does (Despawn path) ∷ es) → Contains (own_rows who es) r → r.path ≡ path
    → sends who (does (Despawn path)) es ≡ map (λ b. reliable who b (update_packet (Hide r.num))) (row_sight who es r).shown

-- a setting of a synchronizer of an own row is told to each peer for which the row appears or goes
abbrev pub SendsSetRow : Type 0
SendsSetRow = (who : Who) (es : List Heard) (e : Heard) (s : SightSet) (r : OwnRow) → IsValidScene who.scene → AllDone who (e ∷ es) → set_in e ≡ Some s → Contains (own_rows who es) r → r.path ≡ s.path
    → sends who e es ≡ flat_map (λ b. shift_sends who (shown_packet who (e ∷ es) r) r.num b (has_int b (row_sight who es r).shown) (has_int b (row_sight who (e ∷ es) r).shown)) (peers_up es)

-- a setting of a fixed synchronizer sends nothing
abbrev pub SendsSetFixed : Type 0
SendsSetFixed = (who : Who) (es : List Heard) (e : Heard) (s : SightSet) → IsValidScene who.scene → AllDone who (e ∷ es) → set_in e ≡ Some s → has_text s.path (fixed_paths who.scene) ≡ true
    → sends who e es ≡ []

-- what is kept of an own row is found by its number
abbrev pub RowSightFound : Type 0
RowSightFound = (who : Who) (es : List Heard) (r : OwnRow) → Contains (own_rows who es) r → find (λ (v : RowSight). nat_eq v.num r.num) (map (row_sight who es) (own_rows who es)) ≡ Some (row_sight who es r)

-- whether there is room for another peer at the synchronizer of an own row at a place
abbrev pub RowPeersFull : Type 0
RowPeersFull = (who : Who) (es : List Heard) (r : OwnRow) (k : ℕ) (b : ℤ) → IsValidScene who.scene → AllDone who es → Contains (own_rows who es) r → nat_lt k (length (syncs_at who.scene (Some r.place))) ≡ true
    → some_is (is_set_full b) (slice_get (row_sight who es r).syncs k) ≡ peers_full who es r.path k b

-- and for another filter
abbrev pub RowFiltersFull : Type 0
RowFiltersFull = (who : Who) (es : List Heard) (r : OwnRow) (k : ℕ) → IsValidScene who.scene → AllDone who es → Contains (own_rows who es) r → nat_lt k (length (syncs_at who.scene (Some r.place))) ≡ true
    → some_is is_filter_full (slice_get (row_sight who es r).syncs k) ≡ filters_full who es r.path k

-- the same at a fixed synchronizer of this peer
abbrev pub FixedPeersFull : Type 0
FixedPeersFull = (who : Who) (es : List Heard) (path : List ℕ) (n : Node) (b : ℤ) → fixed_node who.scene path ≡ Some n → int_eq n.auth who.id ≡ true → is_some (sync_of n) ≡ true
    → some_is (is_set_full b) (option_map (λ (x : FixedSight). x.sight) (find (λ (x : FixedSight). text_eq x.path path) (map (fixed_sight who es) (fixed_syncers who.scene who.id)))) ≡ peers_full who es path 0 b

abbrev pub FixedFiltersFull : Type 0
FixedFiltersFull = (who : Who) (es : List Heard) (path : List ℕ) (n : Node) → fixed_node who.scene path ≡ Some n → int_eq n.auth who.id ≡ true → is_some (sync_of n) ≡ true
    → some_is is_filter_full (option_map (λ (x : FixedSight). x.sight) (find (λ (x : FixedSight). text_eq x.path path) (map (fixed_sight who es) (fixed_syncers who.scene who.id)))) ≡ filters_full who es path 0

-- what a peer was told of a fixed node of this peer: its defaults at first, and an event that is no frame leaves it
abbrev pub ToldFixedAtFirst : Type 0
ToldFixedAtFirst = (who : Who) (es : List Heard) (b : ℤ) (path : List ℕ) (n : Node) (p : List ℕ) → fixed_node who.scene path ≡ Some n → int_eq n.auth who.id ≡ true → was_up es b ≡ false
    → value_told (told_to who es b) path p ≡ value_in n.props p

abbrev pub ToldFixedStays : Type 0
ToldFixedStays = (who : Who) (es : List Heard) (e : Heard) (b : ℤ) (path : List ℕ) (n : Node) (p : List ℕ) → fixed_node who.scene path ≡ Some n → int_eq n.auth who.id ≡ true → is_frame e ≡ false
    → value_told (told_to who (e ∷ es) b) path p ≡ value_told (told_to who es b) path p

-- what a peer was told of a row that it sees: an event that is no frame leaves it, where the peer saw the row before, and else shows the row, so the peer has the values of the node that the Show makes
abbrev pub ToldRowStays : Type 0
ToldRowStays = (who : Who) (es : List Heard) (e : Heard) (b : ℤ) (r : OwnRow) (p : List ℕ) → IsValidScene who.scene → AllDone who (e ∷ es) → is_frame e ≡ false → is_up (e ∷ es) b ≡ true
    → Contains (visible_rows who (e ∷ es) b) r → has_nat r.num (numbers_of (visible_rows who es b)) ≡ true
    → value_told (told_to who (e ∷ es) b) r.path p ≡ value_told (told_to who es b) r.path p

abbrev pub ToldRowShown : Type 0
ToldRowShown = (who : Who) (es : List Heard) (e : Heard) (b : ℤ) (r : OwnRow) (p : List ℕ) → IsValidScene who.scene → AllDone who (e ∷ es) → is_frame e ≡ false → is_up (e ∷ es) b ≡ true
    → Contains (visible_rows who (e ∷ es) b) r → has_nat r.num (numbers_of (visible_rows who es b)) ≡ false
    → value_told (told_to who (e ∷ es) b) r.path p ≡ value_in (shown_node who.scene who.id (show_of who (e ∷ es) r)).values p

-- a frame tells each peer that is up, of each synchronizer that it may see, the on-change values that differ from those that it was told last
abbrev pub SendsFrame : Type 0
SendsFrame = (who : Who) (es : List Heard) → IsValidScene who.scene → AllDone who (does Frame ∷ es)
    → sends who (does Frame) es ≡ flat_map (λ b. map (λ u. reliable who b (update_packet u)) (flat_map (λ y. tell_by who es y (told_values who es b y)) (filter (visible_to who es b) (own_syncers who es)))) (peers_up es)

-- after it the peer was told the present values of each synchronizer that it may see
abbrev pub ToldAtFrame : Type 0
ToldAtFrame = (who : Who) (es : List Heard) (b : ℤ) (y : Syncer) → IsValidScene who.scene → AllDone who (does Frame ∷ es) → is_up es b ≡ true → Contains (filter (visible_to who es b) (own_syncers who es)) y
    → told_values who (does Frame ∷ es) b y ≡ map (λ p. Some (own_value who es y.node p)) (change_props y.def)

-- and what it was told of one that it may not see, the frame leaves
abbrev pub ToldUnseenStays : Type 0
ToldUnseenStays = (who : Who) (es : List Heard) (b : ℤ) (y : Syncer) → IsValidScene who.scene → AllDone who (does Frame ∷ es) → is_up es b ≡ true → Contains (own_syncers who es) y → visible_to who es b y ≡ false
    → told_values who (does Frame ∷ es) b y ≡ told_values who es b y

-- the same by synchronizers: of a fixed one a peer has the defaults at first
abbrev pub SyncFixedAtFirst : Type 0
SyncFixedAtFirst = (who : Who) (es : List Heard) (b : ℤ) (y : Syncer) → IsValidScene who.scene → Contains (fixed_syncers who.scene who.id) y → was_up es b ≡ false → told_values who es b y ≡ fixed_first_told who y

-- an event that is no frame leaves what it was told
abbrev pub SyncFixedStays : Type 0
SyncFixedStays = (who : Who) (es : List Heard) (e : Heard) (b : ℤ) (y : Syncer) → IsValidScene who.scene → Contains (fixed_syncers who.scene who.id) y → is_frame e ≡ false → told_values who (e ∷ es) b y ≡ told_values who es b y

-- of a synchronizer of a row that it saw before too
abbrev pub SyncRowStays : Type 0
SyncRowStays = (who : Who) (es : List Heard) (e : Heard) (b : ℤ) (r : OwnRow) (y : Syncer) → IsValidScene who.scene → AllDone who (e ∷ es) → is_frame e ≡ false → is_up (e ∷ es) b ≡ true
    → Contains (visible_rows who (e ∷ es) b) r → Contains (row_syncers_of who r) y → has_nat r.num (numbers_of (visible_rows who es b)) ≡ true
    → told_values who (e ∷ es) b y ≡ told_values who es b y

-- and of one of a row that it is shown
abbrev pub SyncRowShown : Type 0
SyncRowShown = (who : Who) (es : List Heard) (e : Heard) (b : ℤ) (r : OwnRow) (y : Syncer) → IsValidScene who.scene → AllDone who (e ∷ es) → is_frame e ≡ false → is_up (e ∷ es) b ≡ true
    → Contains (visible_rows who (e ∷ es) b) r → Contains (row_syncers_of who r) y → has_nat r.num (numbers_of (visible_rows who es b)) ≡ false
    → told_values who (e ∷ es) b y ≡ row_first_told who (e ∷ es) r y
