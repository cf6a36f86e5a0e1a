-- The lines that tell what a packet says, and what is wrong with bytes that are none.
use Rattle.std.specs.Prelude.{ℕ, List, [], ◌∷◌, map, Option, Some, None, codes}
use Rattle.gd_variant.specs.declared.value.Variant.{Variant}
use Rattle.gd_variant.specs.declared.message.Bad.{Bad}
use Rattle.gd_variant.specs.declared.message.DeltaEntry.{DeltaEntry}
use Rattle.gd_variant.specs.declared.message.Entry.{Entry}
use Rattle.gd_variant.specs.declared.message.Message.{Message}
use Rattle.gd_variant.specs.declared.message.Message.TheVariants as message
use Rattle.gd_variant.specs.declared.message.Plain.{Plain}
use Rattle.gd_variant.specs.declared.message.Plain.TheVariants as plain
use Rattle.gd_variant.specs.declared.message.Target.{Target}
use Rattle.gd_variant.specs.declared.message.Target.TheVariants as target
use Rattle.serde_json.specs.Data.{Data, array, boolean, string}
use Rattle.serde_json.specs.View.{items_of}
use Rattle.session_text.specs.Json.{hex_of, int_of, line_of, nat_of}
use Rattle.session_text.specs.Reasons.{byte_name}
use Rattle.session_text.specs.Values.{value_of, values_of}

-- an array of cells
abbrev pub array_of : List Data → Data
array_of cells = array (items_of cells)

-- an array of numbers
abbrev pub ids_of : List ℕ → Data
ids_of ids = array_of (map nat_of ids)

-- the node of a call: its number or its path
abbrev pub target_of : Target → Data
target_of (target.Id id) = nat_of id
target_of (target.At path) = string path

-- an array of one value
abbrev pub one_of : Variant → Data
one_of value = array_of (value_of value ∷ [])

-- an array of the custom argument, empty where there is none
abbrev pub arg_of : Option Variant → Data
arg_of None = array_of []
arg_of (Some value) = one_of value

-- what a Sync packet says of one synchronizer
abbrev pub entry_of : Entry → Data
entry_of e = array_of (nat_of e.id ∷ values_of e.values ∷ [])

abbrev pub entries_of : List Entry → Data
entries_of es = array_of (map entry_of es)

-- what a Delta packet says of one synchronizer
abbrev pub delta_of : DeltaEntry → Data
delta_of e = array_of (nat_of e.id ∷ nat_of e.mask ∷ values_of e.values ∷ [])

abbrev pub deltas_of : List DeltaEntry → Data
deltas_of es = array_of (map delta_of es)

-- the cells of a packet that one peer means for another
abbrev pub plain_cells : Plain → List Data
plain_cells (plain.Call node method args) = string (codes "call") ∷ target_of node ∷ nat_of method ∷ values_of args ∷ []
plain_cells (plain.Simplify digest id path) = string (codes "simplify") ∷ hex_of digest ∷ nat_of id ∷ string path ∷ []
plain_cells (plain.Confirm ok id) = string (codes "confirm") ∷ boolean ok ∷ nat_of id ∷ []
plain_cells (plain.Raw bytes) = string (codes "raw") ∷ hex_of bytes ∷ []
plain_cells (plain.Spawn scene spawner net syncs name arg values) = string (codes "spawn") ∷ nat_of scene ∷ nat_of spawner ∷ nat_of net ∷ ids_of syncs ∷ string name ∷ arg_of arg ∷ values_of values ∷ []
plain_cells (plain.Despawn net) = string (codes "despawn") ∷ nat_of net ∷ []
plain_cells (plain.Sync tick entries) = string (codes "sync") ∷ nat_of tick ∷ entries_of entries ∷ []
plain_cells (plain.Delta entries) = string (codes "delta") ∷ deltas_of entries ∷ []

-- the packet in a relay is one cell
abbrev pub plain_array : Plain → Data
plain_array inner = array_of (plain_cells inner)

-- the cells of a packet of a link
abbrev pub message_cells : Message → List Data
message_cells (message.Plain p) = plain_cells p
message_cells (message.Auth peer bytes) = string (codes "auth") ∷ int_of peer ∷ hex_of bytes ∷ []
message_cells (message.AddPeer peer) = string (codes "add") ∷ int_of peer ∷ []
message_cells (message.DelPeer peer) = string (codes "del") ∷ int_of peer ∷ []
message_cells (message.Relay peer inner) = string (codes "relay") ∷ int_of peer ∷ plain_array inner ∷ []

-- the line of a packet
abbrev pub message_line : Message → List ℕ
message_line m = line_of (message_cells m)

-- the line of bytes that are no packet: the place of the first wrong field, and why it is wrong
abbrev pub bad_line : Bad → List ℕ
bad_line b = line_of (string (codes "bad") ∷ nat_of b.at ∷ string (byte_name b.why) ∷ [])
