-- What holds between two peers that are joined.
use Rattle.std.specs.Prelude.{◌≡◌, ℤ, false, List, [], ◌∷◌, ◌++◌, map, filter, filter_map, take, Contains, Option, Some, None, Result, Ok, if◌then◌else◌}
use Rattle.std.specs.List.{AllByRecursion}
use Rattle.gd_variant.specs.declared.message.Plain.{Plain}
use Rattle.gd_variant.specs.declared.message.Message.{Message}
use Rattle.gd_variant.specs.declared.message.Message.TheVariants.{Plain as plain_packet, Relay}
use Rattle.gd_variant.specs.declared.message.Bad.{Bad}
use Rattle.scene_model.specs.declared.scene.Scene.{Scene}
use Rattle.peer_model.specs.Heard.{server}
use Rattle.peer_model.specs.Peers.{is_up}
use Rattle.peer_model.specs.Changes.{changes}
use Rattle.peer_model.specs.View.{updates_from, reach}
use Rattle.peer_model.specs.Bytes.{PacketForm}
use Rattle.world_model.specs.World.{Tag, Parcel, Came, World, peer_of, is_from_to, accepted_at}
use Rattle.world_model.specs.Happens.{on_link}
use Rattle.world_model.specs.Replicas.{Dated, is_direct, arrived, packets_accepted}
use Rattle.channel_laws.specs.Channels.{delivered_at, waiting_on, made_by, posted}

-- the peer to whose link one peer's packets for another go first
abbrev pub first_hop : ℤ → ℤ → ℤ
first_hop a b = if is_direct a b then b else server

-- the reliable parcels on the way from one peer to another, over one link or two; those on the last link are ahead
abbrev pub on_the_way : World → ℤ → ℤ → List Parcel
on_the_way w a b = if is_direct a b then waiting_on (w.way a b) else waiting_on (w.way server b) ++ waiting_on (w.way a server)

-- the loose parcels on those links
abbrev pub loose_between : World → ℤ → ℤ → List Parcel
loose_between w a b = if is_direct a b then (w.way a b).loose else (w.way server b).loose ++ (w.way a server).loose

-- the loose parcels that a peer's answers ever put on its link to another, oldest first
abbrev pub loose_posted : PacketForm → Scene → ℤ → ℤ → List Came → List Parcel
loose_posted form s a b [] = []
loose_posted form s a b (c ∷ cs) = loose_posted form s a b cs ++ on_link b false (made_by form s a cs c)

-- the packet in what some bytes read as, by itself or in a relay
abbrev pub packet_read : Result Message Bad → Option Plain
packet_read (Ok (plain_packet p)) = Some p
packet_read (Ok (Relay peer p)) = Some p
packet_read r = None

-- what a parcel is on whichever link it lies: its tag, and the packet in it
pub record Content : Type 0 where
  pub tag : Tag
  pub packet : Option Plain

-- the content of a parcel
abbrev pub content_of : PacketForm → Parcel → Content
content_of form p = record { tag = p.tag; packet = packet_read (form.read_packet p.out.bytes) }

-- what one peer made for another among some parcels
abbrev pub made_for : PacketForm → ℤ → ℤ → List Parcel → List Content
made_for form a b ps = map (content_of form) (filter (is_from_to a b) ps)

-- What holds of the packets of one peer for another.
pub record Pair (form : PacketForm) (s : Scene) (w : World) (a b : ℤ) : Type 0 where
  -- what was delivered, faults too, and then what is on the way, is what was posted
  pub channel : made_for form a b (delivered_at (w.history b) ++ on_the_way w a b) ≡ made_for form a b (posted form s a (first_hop a b) (w.history a))
  -- the updates that the second took from the first are those that arrived of all that the first told it
  pub taken : updates_from (peer_of s b) (accepted_at form s w b) a ≡ take (arrived form s w a b) (changes (peer_of s a) (accepted_at form s w a) b)
  -- each loose parcel is among those posted
  pub cards : AllByRecursion (Contains (made_for form a b (loose_posted form s a (first_hop a b) (w.history a)))) (made_for form a b (loose_between w a b))
  -- the ticks that the second accepted are the true ones
  pub ticks : reach (peer_of s b) (accepted_at form s w b) a ≡ filter_map (λ (d : Dated). d.tick) (packets_accepted form s w a b)
  -- the first is up at the second, where there is a link between them; two clients don't know each other
  pub news : is_up (accepted_at form s w b) a ≡ is_direct a b
