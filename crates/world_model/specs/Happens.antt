-- The world that a script makes. A script lists what happened, newest first; a line that was refused isn't in it.
use Rattle.std.specs.Prelude.{ℕ, ◌+◌, ℤ, Bool, true, false, not, ◌&&◌, List, [], ◌∷◌, ◌++◌, map, filter, Option, Some, None, Result, Ok, if◌then◌else◌}
use Rattle.std.specs.Ordering.{int_eq}
use Rattle.gd_variant.specs.declared.message.Message.{Message}
use Rattle.gd_variant.specs.declared.message.Message.TheVariants.{Relay}
use Rattle.gd_variant.specs.declared.message.Bad.{Bad}
use Rattle.scene_model.specs.declared.scene.Scene.{Scene}
use Rattle.scene_model.specs.declared.event.Class.{Class}
use Rattle.scene_model.specs.declared.event.Op.TheVariants.{Call}
use Rattle.scene_model.specs.declared.event.Event.{Event}
use Rattle.scene_model.specs.declared.event.Event.TheVariants as event
use Rattle.scene_model.specs.declared.outcome.Outcome.{Outcome}
use Rattle.scene_model.specs.declared.outcome.Outcome.TheVariants as outcome
use Rattle.scene_model.specs.declared.outcome.Out.{Out}
use Rattle.scene_model.specs.declared.world.WorldEvent.{WorldEvent}
use Rattle.scene_model.specs.declared.world.WorldEvent.TheVariants.{Connect, Down, Op, Rel, Loose, Forge}
use Rattle.peer_model.specs.Heard.{server}
use Rattle.peer_model.specs.Bytes.{PacketForm, answer}
use Rattle.world_model.specs.World.{Tag, Parcel, Way, Came, World, start, peer_of, next_client, events_at, is_reliable, is_ordered, next_of, loose_at}

-- what a peer answers to its next event
abbrev pub answer_at : PacketForm → Scene → World → ℤ → Event → Outcome
answer_at form s w p e = answer form (peer_of s p) (events_at w p) e

-- the packets of an outcome, which has some where it is Done
abbrev pub packets_in : Outcome → List Out
packets_in (outcome.Done effects) = effects.packets
packets_in o = []

-- tags

-- whether what was read is a relay
abbrev pub reads_relay : Result Message Bad → Bool
reads_relay (Ok (Relay peer p)) = true
reads_relay r = false

-- the path of an operation that calls
abbrev pub path_called : Event → Option (List ℕ)
path_called (event.Op (Call c)) = Some c.path
path_called e = None

-- the tag of a packet that a peer makes at an event
abbrev pub own_tag : ℤ → Event → Out → Tag
own_tag p e x = record { origin = p; target = x.to; tick = x.tick; path = path_called e; forged = false }

-- the tag of a packet that a peer sends at an entry: its own, but what the server sends as it takes a relay keeps the tag with which the relay came
abbrev pub tag_of : PacketForm → ℤ → Came → Out → Tag
tag_of form p c x = by_parcel c.brought
  where
    by_parcel : Option Parcel → Tag
    by_parcel None = own_tag p c.event x
    by_parcel (Some q) = if int_eq p server && reads_relay (form.read_packet q.out.bytes) then q.tag else own_tag p c.event x

-- a packet that a peer sends at an entry, with its tag
abbrev pub parcel_of : PacketForm → ℤ → Came → Out → Parcel
parcel_of form p c x = record { out = x; tag = tag_of form p c x }

-- what a peer sends in answer to an entry
abbrev pub parcels_made : PacketForm → Scene → World → ℤ → Came → List Parcel
parcels_made form s w p c = map (parcel_of form p c) (packets_in (answer_at form s w p c.event))

-- worlds with one thing changed

-- the parcels for the link to a peer, the reliable ones or the loose ones
abbrev pub on_link : ℤ → Bool → List Parcel → List Parcel
on_link b reliable ps = filter (λ (p : Parcel). int_eq p.out.link b && same reliable (is_reliable p.out.class)) ps
  where
    same : Bool → Bool → Bool
    same true r = r
    same false r = not r

-- a way to a peer on which those of some parcels that are for its link were put
abbrev pub way_with : Way → ℤ → List Parcel → Way
way_with y b ps = record y { sent = y.sent ++ on_link b true ps; loose = y.loose ++ on_link b false ps }

-- a world in which a peer put parcels on its links, each on the one that it is for
abbrev pub with_parcels : World → ℤ → List Parcel → World
with_parcels w p ps = record w { way = λ a b. if int_eq a p then way_with (w.way a b) b ps else w.way a b }

-- a world in which a peer's history has one entry more
abbrev pub with_entry : World → ℤ → Came → World
with_entry w p c = record w { history = λ q. if int_eq q p then c ∷ w.history q else w.history q }

-- a peer takes an entry, and what it sends is put on its links
abbrev pub fed : PacketForm → Scene → World → ℤ → Came → World
fed form s w p c = with_parcels (with_entry w p c) p (parcels_made form s w p c)

-- the entry of an event that no parcel brought
abbrev pub by_itself : Event → Came
by_itself e = record { event = e; brought = None }

-- the entry that a parcel brings from the peer on whose link it lay
abbrev pub brought_by : ℤ → Parcel → Came
brought_by from p = record { event = event.Received from p.out.class p.out.bytes; brought = Some p }

-- a world with one client more
abbrev pub with_client : World → World
with_client w = record w { come = next_client w ∷ w.come }

-- a client connects, and its link comes up at the server
abbrev pub link_up : PacketForm → Scene → World → World
link_up form s w = fed form s (with_client w) server (by_itself (event.Up (next_client w)))

-- a new client: its link comes up at the server first, then the server's link at the client
abbrev pub connected : PacketForm → Scene → World → World
connected form s w = fed form s (link_up form s w) (next_client w) (by_itself (event.Up server))

-- a client goes down: its link goes down at the server, and the client itself takes no event any more
abbrev pub gone_down : PacketForm → Scene → World → ℤ → World
gone_down form s w p = fed form s (record w { gone = p ∷ w.gone }) server (by_itself (event.Down p))

-- a way whose next reliable parcel was delivered
abbrev pub after_next : Way → Way
after_next y = record y { delivered = y.delivered + 1 }

-- a way whose loose parcel with an index was delivered: an ordered one is the last then, any other leaves the way as it is
abbrev pub after_loose : ℕ → Parcel → Way → Way
after_loose i p y = if is_ordered p.out.class then record y { last = i } else y

-- a world with one way changed
abbrev pub at_way : World → ℤ → ℤ → (Way → Way) → World
at_way w from to f = record w { way = λ a b. if int_eq a from && int_eq b to then f (w.way a b) else w.way a b }

-- a parcel that lies on a way is delivered, whatever its receiver answers
abbrev pub delivered : PacketForm → Scene → World → ℤ → ℤ → (Parcel → Way → Way) → Option Parcel → World
delivered form s w a b f None = w
delivered form s w a b f (Some p) = fed form s (at_way w a b (f p)) b (brought_by a p)

-- a packet that a client forges: it goes to the server, and has no tick
abbrev pub forged_out : Class → List ℕ → Out
forged_out class bytes = record { link = server; to = server; class = class; tick = None; bytes = bytes }

-- the same with the tag of a forge
abbrev pub forged_parcel : ℤ → Class → List ℕ → Parcel
forged_parcel p class bytes = record { out = forged_out class bytes; tag = record { origin = p; target = server; tick = None; path = None; forged = true } }

-- a client forges, and is wild from then on
abbrev pub after_forge : World → ℤ → Class → List ℕ → World
after_forge w p class bytes = with_parcels (record w { wild = p ∷ w.wild }) p (forged_parcel p class bytes ∷ [])

-- what a line makes of a world
abbrev pub happens : PacketForm → Scene → World → WorldEvent → World
happens form s w Connect = connected form s w
happens form s w (Down p) = gone_down form s w p
happens form s w (Op p op) = fed form s w p (by_itself (event.Op op))
happens form s w (Rel a b) = delivered form s w a b (λ p. after_next) (next_of (w.way a b))
happens form s w (Loose a b i) = delivered form s w a b (after_loose i) (loose_at (w.way a b) i)
happens form s w (Forge p class bytes) = after_forge w p class bytes

-- the world that a script makes
abbrev pub world : PacketForm → Scene → List WorldEvent → World
world form s [] = start
world form s (e ∷ es) = happens form s (world form s es) e
