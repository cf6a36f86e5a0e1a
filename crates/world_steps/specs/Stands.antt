-- Which script a world stands for.
use Rattle.std.specs.Prelude.{◌≡◌, ℕ, ℤ, true, false, List, ◌∷◌, map, reverse, length, slice_get, Some}
use Rattle.scene_model.specs.declared.scene.Scene.{Scene}
use Rattle.scene_model.specs.declared.outcome.Out.{Out}
use Rattle.scene_model.specs.declared.world.WorldEvent.{WorldEvent}
use Rattle.scene_model.specs.Valid.{IsValidScene}
use Rattle.peer_model.specs.Heard.{server}
use Rattle.peer_steps.specs.Kept.{Kept}
use Rattle.peer_core.specs.Forms.{packet_form}
use Rattle.peer_steps.specs.Stands.{StandsFor}
use Rattle.world_model.specs.World.{Parcel, World, peer_of, clients, events_at, bytes_in_flight, has_room}
use Rattle.world_model.specs.Happens.{world}
use Rattle.world_model.specs.Answers.{world_answer, happened, overflows}
use Rattle.channel_laws.specs.Channels.{waiting_on}
use Rattle.world_steps.specs.Sound.{is_built_event, is_sound_event}
use Rattle.world_steps.specs.Steps.{Parts, Client, Made, scene_of, is_over, made}
use Rattle.world_steps.specs.Scripts.{Happened}

-- the packets of parcels
abbrev pub outs : List Parcel → List Out
outs ps = map (λ (p : Parcel). p.out) ps

-- What is kept of a peer stands for its history.
pub record IsPeer (s : Scene) (w : World) (p : ℤ) (k : Kept) : Type 0 where
  pub who : k.who ≡ peer_of s p
  pub stands : StandsFor packet_form k (events_at w p)

-- A client stands for the history of the one with its number, and keeps what waits on both ways of its link.
pub record IsClient (s : Scene) (w : World) (c : Client) : Type 0 where
  pub peer : IsPeer s w c.number c.kept
  pub down : c.down ≡ outs (waiting_on (w.way server c.number))
  pub up : c.up ≡ outs (waiting_on (w.way c.number server))

-- Each part that is kept is the one of the world.
pub record HasParts (s : Scene) (v : Parts) (w : World) : Type 0 where
  pub live : v.spent ≡ false
  pub server : IsPeer s w server v.server
  pub come : v.come ≡ length w.come
  pub put : v.put ≡ bytes_in_flight w
  pub room : has_room w ≡ true
  pub numbers : map (λ (c : Client). c.number) v.clients ≡ reverse (clients w)
  pub clients : (i : ℕ) (c : Client) → slice_get v.clients i ≡ Some c → IsClient s w c

-- A world stands for a script of its scene that happened, where it has the parts of the script's world.
pub record StandsForScript (v : Parts) (es : List WorldEvent) : Type 0 where
  pub valid : IsValidScene (scene_of v)
  pub happened : Happened (scene_of v) es
  pub parts : HasParts (scene_of v) v (world packet_form (scene_of v) es)

-- What an event made is right: it is what the definitions answer, it is over where the definitions overflow, and what is kept then stands for the script with the event, where it happened and isn't over; where it didn't happen, nothing changes.
pub record IsRight (v : Parts) (es : List WorldEvent) (e : WorldEvent) (m : Made) : Type 0 where
  pub answers : m.outcome ≡ world_answer packet_form (scene_of v) (world packet_form (scene_of v) es) e
  pub over : is_over m ≡ overflows packet_form (scene_of v) (world packet_form (scene_of v) es) e
  pub stands : happened m.outcome ≡ true → is_over m ≡ false → StandsForScript m.parts (e ∷ es)
  pub unchanged : happened m.outcome ≡ false → m.parts ≡ v

-- so is each step of a world that stands for a script
abbrev pub StepsAreRight : Type 0
StepsAreRight = (v : Parts) (es : List WorldEvent) (e : WorldEvent) → StandsForScript v es → is_built_event e ≡ true → is_sound_event e ≡ true → IsRight v es e (made v e)
