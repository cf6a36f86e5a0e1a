-- Which events are built so far: links, spawns by scene and custom ones, despawns, assignments to properties, settings of visibility, frames, and received spawns, despawns and values.
use Rattle.std.specs.Prelude.{◌≡◌, Bool, true, false, not, ◌&&◌, List, [], ◌∷◌, None, Ok, is_none, is_some}
use Rattle.gd_variant.specs.declared.message.Plain.{Plain}
use Rattle.gd_variant.specs.declared.message.Plain.TheVariants.{Spawn as spawn_packet, Despawn as despawn_packet, Delta as delta_packet}
use Rattle.gd_variant.specs.declared.message.Message.{Message}
use Rattle.gd_variant.specs.declared.message.Message.TheVariants.{Plain as plain_packet}
use Rattle.scene_model.specs.declared.event.Op.{Op}
use Rattle.scene_model.specs.declared.event.Op.TheVariants.{Spawn, Custom, Call, Raw}
use Rattle.peer_model.specs.Heard.{Who, Heard, does, comes, goes, gets}
use Rattle.peer_model.specs.Refusals.{refusal_of}
use Rattle.peer_model.specs.Faults.{fault_of, link_fault}

-- whether a list is empty
abbrev pub is_empty : {X : Type 0} → List X → Bool
is_empty [] = true
is_empty (x ∷ xs) = false

-- any operation but a call and a raw packet; a spawn by scene has no argument, and a custom one no scene and no settings
abbrev pub is_built_op : Op → Bool
is_built_op (Spawn o) = is_some o.scene && is_none o.arg
is_built_op (Custom o) = is_none o.scene && (is_empty o.sets && is_some o.arg)
is_built_op (Call c) = false
is_built_op (Raw to class bytes) = false
is_built_op op = true

-- a spawn, a despawn, or values of synchronizers
abbrev pub is_row_packet : Plain → Bool
is_row_packet (spawn_packet scene spawner net syncs name arg values) = true
is_row_packet (despawn_packet net) = true
is_row_packet (delta_packet entries) = true
is_row_packet p = false

-- a packet of rows or of their values
abbrev pub is_built_message : Message → Bool
is_built_message (plain_packet p) = is_row_packet p
is_built_message m = false

-- an event that is built; a packet that can't be read is one, since it is a fault
abbrev pub is_built : Heard → Bool
is_built (does op) = is_built_op op
is_built (comes b) = true
is_built (goes b) = true
is_built (gets from class bytes (Ok m)) = is_built_message m
is_built (gets from class bytes unread) = true

-- a packet of a link that is up, which is of a kind that isn't built
abbrev pub is_unbuilt : Who → List Heard → Heard → Bool
is_unbuilt who es (gets from class bytes (Ok m)) = is_none (link_fault who es from) && not (is_built_message m)
is_unbuilt who es e = false

-- an event is built and accepted after others
pub record Accepts (who : Who) (es : List Heard) (e : Heard) : Type 0 where
  pub built : is_built e ≡ true
  pub no_refusal : refusal_of who es e ≡ None
  pub no_fault : fault_of who es e ≡ None

-- each of these events was built and accepted after those before it
abbrev pub AllAccepted : Who → List Heard → Type 0
AllAccepted who [] = Unit {0}
AllAccepted who (e ∷ es) = Accepts who es e × AllAccepted who es
