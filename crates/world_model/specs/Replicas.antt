-- What a peer holds of another, as that authority defines it, and what is reported of a peer.
use Rattle.std.specs.Prelude.{ℕ, ℤ, Bool, false, not, ◌&&◌, ◌||◌, List, [], ◌∷◌, ◌++◌, map, filter_map, flat_map, take, length, Option, Some, None, option_map, option_and_then, nat_eq, int_lt, if◌then◌else◌}
use Rattle.std.specs.List.{list_any}
use Rattle.std.specs.Ordering.{int_eq}
use Rattle.gd_variant.specs.Words.{has_nat, has_int, or_else, newest, put_by}
use Rattle.gd_variant.specs.declared.value.Variant.{Variant}
use Rattle.gd_variant.specs.declared.message.Plain.{Plain}
use Rattle.gd_variant.specs.declared.message.Plain.TheVariants.{Spawn, Sync}
use Rattle.gd_variant.specs.declared.message.Entry.{Entry}
use Rattle.scene_model.specs.declared.scene.Scene.{Scene}
use Rattle.scene_model.specs.declared.scene.Node.{Node}
use Rattle.scene_model.specs.declared.scene.Prop.{Prop}
use Rattle.scene_model.specs.declared.report.Report.{Report}
use Rattle.scene_model.specs.Nodes.{Live, fixed_live, live_at, row_of}
use Rattle.scene_model.specs.Syncs.{Syncer}
use Rattle.peer_model.specs.Heard.{server, packet_from}
use Rattle.peer_model.specs.Peers.{peers_up}
use Rattle.peer_model.specs.Rows.{own_rows}
use Rattle.peer_model.specs.Updates.{Replica, applied, replica_syncers}
use Rattle.peer_model.specs.Changes.{changes}
use Rattle.peer_model.specs.Ticks.{samples, greatest}
use Rattle.peer_model.specs.View.{updates_in, entries_for, sampled_values, own_live, own_values, values_seen, view}
use Rattle.peer_model.specs.Bytes.{PacketForm, heard_of}
use Rattle.world_model.specs.World.{Parcel, Way, Came, World, peer_of, is_in, is_from_to, accepted_history, accepted_at}

-- who is joined, and what is on the way

-- whether two peers are joined: they differ, both are in the world, and neither ever forged
abbrev pub is_joined : World → ℤ → ℤ → Bool
is_joined w a b = not (int_eq a b) && (is_honest a && is_honest b)
  where
    is_honest : ℤ → Bool
    is_honest p = is_in w p && not (has_int p w.wild)

-- whether nothing reliable waits on a way
abbrev pub is_delivered : Way → Bool
is_delivered y = nat_eq y.delivered (length y.sent)

-- whether one end of a link is the server
abbrev pub is_direct : ℤ → ℤ → Bool
is_direct a b = int_eq a server || int_eq b server

-- whether nothing reliable waits on the way from one peer to another: on their link, or on either of the two links by way of the server
abbrev pub is_quiet : World → ℤ → ℤ → Bool
is_quiet w a b = if is_direct a b then is_delivered (w.way a b) else is_delivered (w.way a server) && is_delivered (w.way server b)

-- what was delivered

-- the packet that an entry of b's history holds, where a made its parcel for b and didn't forge it
abbrev pub packet_of : PacketForm → Scene → ℤ → ℤ → Came → Option Plain
packet_of form s a b c = from_parcel c.brought
  where
    from_parcel : Option Parcel → Option Plain
    from_parcel None = None
    from_parcel (Some p) = if is_from_to a b p then packet_from (peer_of s b) a (heard_of form c.event) else None

-- the packets of one peer for another that were delivered, newest first, whatever was answered
abbrev pub packets_delivered : PacketForm → Scene → World → ℤ → ℤ → List Plain
packets_delivered form s w a b = filter_map (packet_of form s a b) (w.history b)

-- how many updates were delivered from one peer to another: a packet may hold several, or none
abbrev pub arrived : PacketForm → Scene → World → ℤ → ℤ → ℕ
arrived form s w a b = length (flat_map updates_in (packets_delivered form s w a b))

-- samples by their true ticks

-- a packet with the full tick of its tag
pub record Dated : Type 0 where
  pub tick : Option ℕ
  pub packet : Plain

-- the full tick of an entry's parcel
abbrev pub true_tick : Came → Option ℕ
true_tick c = option_and_then (λ (p : Parcel). p.tag.tick) c.brought

-- the packet of an entry with its tick
abbrev pub dated_of : PacketForm → Scene → ℤ → ℤ → Came → Option Dated
dated_of form s a b c = option_map (λ p. record { tick = true_tick c; packet = p }) (packet_of form s a b c)

-- the packets of one peer for another that were delivered and accepted, newest first
abbrev pub packets_accepted : PacketForm → Scene → World → ℤ → ℤ → List Dated
packets_accepted form s w a b = filter_map (dated_of form s a b) (accepted_history form s w b)

-- whether some entries have one for a synchronizer
abbrev pub has_entry : ℕ → List Entry → Bool
has_entry id entries = list_any (λ (n : Entry). nat_eq n.id id) entries

-- whether a packet shows the node of a synchronizer
abbrev pub shows_node : ℕ → Plain → Bool
shows_node id (Spawn scene spawner net syncs name arg values) = has_nat id syncs
shows_node id p = false

-- whether a packet holds a sample of a synchronizer
abbrev pub has_sample : ℕ → Plain → Bool
has_sample id (Sync w entries) = has_entry id entries
has_sample id p = false

-- the full ticks of a synchronizer's samples among some packets, newest first, from the packet on that showed its node
abbrev pub true_ticks : ℕ → List Dated → List ℕ
true_ticks id [] = []
true_ticks id (d ∷ ds) = if shows_node id d.packet then [] else if has_sample id d.packet then with_tick d.tick (true_ticks id ds) else true_ticks id ds
  where
    with_tick : Option ℕ → List ℕ → List ℕ
    with_tick None ts = ts
    with_tick (Some t) ts = t ∷ ts

-- the greatest of some ticks, where there is one
abbrev pub greatest_of : List ℕ → Option ℕ
greatest_of [] = None
greatest_of (t ∷ ts) = Some (greatest (t ∷ ts))

-- what an authority sampled of a synchronizer for a peer at a tick, beside that tick
abbrev pub sampled_at : PacketForm → Scene → World → ℤ → ℤ → ℕ → ℕ → Option (ℕ × List Variant)
sampled_at form s w a b id t = option_map (λ values. (t, values)) (newest (entries_for id (samples (peer_of s a) (accepted_at form s w a) b t)))

-- the newest sample of a synchronizer that was accepted since its node was shown, with the values that its authority sampled
abbrev pub newest_sample : PacketForm → Scene → World → ℤ → ℤ → ℕ → Option (ℕ × List Variant)
newest_sample form s w a b id = option_and_then (sampled_at form s w a b id) (greatest_of (true_ticks id (packets_accepted form s w a b)))

-- the replica

-- a node after the samples of its synchronizers
abbrev pub with_newest : (ℕ → Option (ℕ × List Variant)) → List Syncer → Live → Live
with_newest best [] n = n
with_newest best (y ∷ ys) n = with_newest best ys (record n { values = sampled_values n.path y (best y.id) n.values })

-- a replica after the samples of all its synchronizers
abbrev pub all_newest : (ℕ → Option (ℕ × List Variant)) → List Syncer → Replica → Replica
all_newest best ys r = record { fixed = map (with_newest best ys) r.fixed; rows = map (with_newest best ys) r.rows }

-- what the delivered prefix of an authority's changes makes: as many of its changes as updates were delivered
abbrev pub told_replica : PacketForm → Scene → World → ℤ → ℤ → Replica
told_replica form s w a b = applied s a (take (arrived form s w a b) (changes (peer_of s a) (accepted_at form s w a) b))

-- the replica as its authority defines it: what the delivered changes make, with each always property as in the newest sample that was accepted since its node was shown
abbrev pub replica : PacketForm → Scene → World → ℤ → ℤ → Replica
replica form s w a b = sampled_replica (told_replica form s w a b)
  where
    sampled_replica : Replica → Replica
    sampled_replica r = all_newest (newest_sample form s w a b) (replica_syncers s a r.rows) r

-- what is reported

-- the rows of one authority at a peer: its own, a joined peer's by its replica, any other's as they are seen
abbrev pub rows_at : PacketForm → Scene → World → ℤ → ℤ → List Live
rows_at form s w b a =
    if int_eq a b then map (own_live (peer_of s b) (accepted_at form s w b)) (own_rows (peer_of s b) (accepted_at form s w b))
    else if is_joined w a b then (replica form s w a b).rows
    else (view (peer_of s b) (accepted_at form s w b) a).rows

-- the values of a fixed node at a peer
abbrev pub fixed_values : PacketForm → Scene → World → ℤ → Node → List Prop
fixed_values form s w b n =
    if int_eq n.auth b then own_values (peer_of s b) (accepted_at form s w b) n.path n.props
    else if is_joined w n.auth b then or_else (option_map (λ (m : Live). m.values) (live_at (replica form s w n.auth b).fixed n.path)) n.props
    else values_seen (peer_of s b) (accepted_at form s w b) n

-- a fixed node as it stands at a peer
abbrev pub fixed_at : PacketForm → Scene → World → ℤ → Node → Live
fixed_at form s w b n = record (fixed_live n) { values = fixed_values form s w b n }

-- the peers that may have rows at a peer, itself among them, in rising order
abbrev pub authorities_at : PacketForm → Scene → World → ℤ → List ℤ
authorities_at form s w b = put_by int_lt b (peers_up (accepted_at form s w b))

-- what is reported of a peer: the peers that are up there, the fixed nodes in file order, and all rows by authority and number
abbrev pub reported : PacketForm → Scene → World → ℤ → Report
reported form s w b = record {
  peers = peers_up (accepted_at form s w b);
  rows = map row_of (map (fixed_at form s w b) s.nodes ++ flat_map (rows_at form s w b) (authorities_at form s w b));
}
