-- Lines of a session that are read as they were written.
use Rattle.std.specs.Prelude.{◌≡◌, ℕ, Bool, true, List, [], ◌∷◌, ◌++◌, map, Ok, codes}
use Rattle.std.specs.List.{list_all}
use Rattle.serde_json.specs.Data.{Data, null, boolean, string, array}
use Rattle.serde_json.specs.View.{items_of}
use Rattle.gd_variant.specs.declared.value.Variant.{Variant}
use Rattle.gd_variant.specs.Tree.{plain}
use Rattle.scene_model.specs.declared.scene.Prop.{Prop}
use Rattle.scene_model.specs.declared.event.Op.{Op}
use Rattle.scene_model.specs.declared.event.Op.TheVariants as op
use Rattle.scene_model.specs.declared.world.WorldEvent.TheVariants as event
use Rattle.session_text.specs.Json.{hex_of, int_of, nat_of}
use Rattle.session_text.specs.Reasons.{class_name}
use Rattle.session_text.specs.Values.{ints_of, value_of, values_of}
use Rattle.line_text.specs.declared.sessions.SessionLine.{SessionLine}
use Rattle.line_text.specs.declared.sessions.SessionLine.TheVariants as line
use Rattle.line_text.specs.Written.{holds_bytes}
use Rattle.line_text.specs.Held.{held, line_values, IsGivenLine}
use Rattle.line_text.specs.Sessions.{line_read}

-- an array of these values
abbrev pub cells : List Data → Data
cells ds = array (items_of ds)

-- a setting of a spawn
abbrev pub setting_data : Prop → Data
setting_data p = cells (string p.name ∷ value_of p.value ∷ [])

-- a synchronizer by its path and place
abbrev pub sync_data : List ℕ → ℕ → Data
sync_data path k = cells (string path ∷ nat_of k ∷ [])

-- the items of an operation, its word first
abbrev pub op_cells : Op → List Data
op_cells (op.Spawn s) = string (codes "spawn") ∷ string s.spawner ∷ map string (held s.scene) ++ string s.name ∷ cells (map setting_data s.sets) ∷ []
op_cells (op.Custom s) = string (codes "custom") ∷ string s.spawner ∷ string s.name ∷ map value_of (held s.arg)
op_cells (op.Despawn path) = string (codes "despawn") ∷ string path ∷ []
op_cells (op.Set path prop v) = string (codes "set") ∷ string path ∷ string prop ∷ value_of v ∷ []
op_cells (op.Public path k on) = string (codes "public") ∷ sync_data path k ∷ boolean on ∷ []
op_cells (op.For path k peer on) = string (codes "for") ∷ sync_data path k ∷ int_of peer ∷ boolean on ∷ []
op_cells (op.Filter path k peers) = string (codes "filter") ∷ sync_data path k ∷ ints_of peers ∷ []
op_cells (op.Call c) = string (codes "call") ∷ int_of c.to ∷ string c.path ∷ string c.method ∷ values_of c.args ∷ []
op_cells (op.Raw to class bytes) = string (codes "raw") ∷ int_of to ∷ string (class_name class) ∷ hex_of bytes ∷ []
op_cells op.Frame = string (codes "frame") ∷ []

-- an operation
abbrev pub op_data : Op → Data
op_data o = cells (op_cells o)

-- a line of a session that is built
abbrev pub session_data : SessionLine → Data
session_data (line.Event event.Connect) = cells (string (codes "connect") ∷ [])
session_data (line.Event (event.Down peer)) = cells (string (codes "down") ∷ int_of peer ∷ [])
session_data (line.Event (event.Op peer o)) = cells (string (codes "op") ∷ int_of peer ∷ op_data o ∷ [])
session_data (line.Event (event.Rel from to)) = cells (string (codes "rel") ∷ int_of from ∷ int_of to ∷ [])
session_data (line.Report peer) = cells (string (codes "report") ∷ int_of peer ∷ [])
session_data l = null

-- whether all bytes in a value are bytes, which the type of a value says
abbrev pub has_bytes : Variant → Bool
has_bytes v = holds_bytes (plain v)

-- a line that is built is read of what is written of it
abbrev pub ReadsSessions : Type 0
ReadsSessions = (l : SessionLine) → IsGivenLine l → list_all has_bytes (line_values l) ≡ true → line_read (session_data l) ≡ Ok l
