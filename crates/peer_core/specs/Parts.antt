-- What a peer keeps, by its parts.
use Rattle.std.specs.Prelude.{ℕ, ℤ, Bool, ◌&&◌, List, [], ◌∷◌, ◌++◌, length, nat_le, map, slice_get, Option, Some, None, option_map, Result, Ok, Err, if◌then◌else◌}
use Rattle.std.specs.List.{list_all}
use Rattle.gd_variant.specs.Words.{or_else, some_is}
use Rattle.gd_variant.specs.declared.message.DeltaEntry.{DeltaEntry}
use Rattle.scene_model.specs.declared.outcome.Out.{Out}
use Rattle.scene_model.specs.declared.outcome.Outcome.{Outcome}
use Rattle.scene_model.specs.declared.outcome.Outcome.TheVariants.{Refused}
use Rattle.scene_model.specs.declared.outcome.Refusal.{Refusal}
use Rattle.peer_model.specs.Bytes.{PacketForm}
use Rattle.headless_tree.specs.Nodes.{TreeOf}
use Rattle.peer_steps.specs.Peers.{Peers}
use Rattle.peer_steps.specs.Track.{Track}
use Rattle.peer_steps.specs.Kept.{Kept}
use Rattle.peer_steps.specs.Fits.{Fits}
use Rattle.peer_steps.specs.Rights.{is_right_value}
use Rattle.peer_steps.specs.Steps.{RowNews, appears, disappears, changes, done_with, entries_to, row_packet, sent_to, shifts, with_packets}
use Rattle.peer_steps.specs.Track.{shown_of}
use Rattle.peer_steps.specs.Tellings.{frame_to, hidden_from_all, shown_to_all, told_shifts}
use Rattle.delta_props.specs.Telling.{ToldValues}
use Rattle.peer_steps.specs.declared.rows.SpawnedRow.{SpawnedRow}
use Rattle.spawn_track.specs.Numbers.{IsTracked, row_at}
use Rattle.sight_laws.specs.Sights.{RowSight, row_sees}
use Rattle.spawn_track.specs.declared.track.Gone.{Gone}
use Rattle.peer_core.specs.Forms.{packet_form, despawn_packet}
use Rattle.peer_core.specs.declared.messages.RowNews.{RowNews as NewsOf}
use Rattle.peer_core.specs.declared.messages.RowNews.TheVariants.{Appears, Disappears, Changes}

-- what a peer with these parts keeps
abbrev pub parts_kept : Bool → Peers → TreeOf → Track → ToldValues → Kept
parts_kept spent peers tree track told = record { who = record { id = peers.me; scene = tree.scene }; spent = spent; peers = peers; nodes = tree.nodes; track = track; told = told }

-- what holds of the parts of a peer: they fit, and own rows stand by number
pub record AreRight (me : ℤ) (tree : TreeOf) (track : Track) : Type 0 where
  pub fits : Fits me tree track
  pub tracked : IsTracked track

-- the news of a row, as the step takes it
abbrev pub news_of : NewsOf → RowNews
news_of (Appears m) = appears m
news_of (Disappears net) = disappears net
news_of (Changes entries) = changes entries

-- the own row whose node stands at a path
abbrev pub own_row : Kept → List ℕ → Option SpawnedRow
own_row k path = row_at k.nodes path k.track.rows

-- to whom an own row is shown, where there is one
abbrev pub shown_before : Kept → Option SpawnedRow → List ℤ
shown_before k r = or_else (option_map (λ (q : SpawnedRow). shown_of q.num k.track.sights) r) []

-- what is told of an own row, by those to which it was shown before
abbrev pub row_told : PacketForm → Kept → List ℤ → Option SpawnedRow → List Out
row_told form k before None = []
row_told form k before (Some r) = shifts form (row_packet k.who.scene k.nodes r) r.num before (shown_of r.num k.track.sights) k.peers.up

-- the own row at a place among the rows, where a peer may see it
abbrev pub seen_at : ℤ → ℕ → Track → Option SpawnedRow
seen_at b place t = if some_is (λ (v : RowSight). row_sees v b) (slice_get t.sights.rows place) then slice_get t.rows place else None

-- an element, or none, as a list
abbrev pub as_list : {X : Type 0} → Option X → List X
as_list (Some x) = x ∷ []
as_list None = []

-- what a despawn is answered with, by what it tells
abbrev pub gone_answer : Result Gone Refusal → Outcome
gone_answer (Ok g) = done_with (map (λ b. sent_to packet_form b (despawn_packet g.num)) g.shown.items)
gone_answer (Err e) = Refused e

-- what was told after a spawn: the newest row is shown to those that may see it
abbrev pub newest_told : TreeOf → Track → Option SpawnedRow → ToldValues → ToldValues
newest_told t w None told = told
newest_told t w (Some r) told = shown_to_all t.scene t.nodes r (shown_of r.num w.sights) told

-- what was told after a despawn of a row whose synchronizers have these ids
abbrev pub gone_told : List ℕ → Result Gone Refusal → ToldValues → ToldValues
gone_told ids (Ok g) told = hidden_from_all ids g.shown.items told
gone_told ids (Err e) told = told

-- what was told of a row, by those to which it was shown before and, in these parts, is shown then
abbrev pub shift_told : TreeOf → List ℤ → Track → List ℤ → Option SpawnedRow → ToldValues → ToldValues
shift_told t up w before None told = told
shift_told t up w before (Some r) told = told_shifts t.scene t.nodes r before (shown_of r.num w.sights) up told

-- whether the packet of an entry can be written: at most 64 values, each of them right
abbrev pub is_right_entry : DeltaEntry → Bool
is_right_entry e = nat_le (length e.values) 64 && list_all is_right_value e.values

-- packets so far with those of entries for a peer, and what was told then
abbrev pub entries_told : PacketForm → ℤ → List Out → List DeltaEntry × ToldValues → List Out × ToldValues
entries_told form b out r = (out ++ entries_to form b r.0, r.1)

-- what a frame tells some peers in order, and what was told then
abbrev pub frame_parts : PacketForm → TreeOf → Track → List ℤ → ToldValues → List Out × ToldValues
frame_parts form tree track [] told = ([], told)
frame_parts form tree track (b ∷ bs) told =
    with_packets (entries_to form b (frame_to tree.scene tree.nodes track b told).0) (frame_parts form tree track bs (frame_to tree.scene tree.nodes track b told).1)
