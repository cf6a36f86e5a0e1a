-- The lines of a report.
use Rattle.std.specs.Prelude.{ℕ, ℤ, List, [], ◌∷◌, ◌++◌, flat_map, codes}
use Rattle.scene_model.specs.declared.report.Report.{Report}
use Rattle.scene_model.specs.declared.report.Row.{Row}
use Rattle.scene_model.specs.declared.scene.Prop.{Prop}
use Rattle.serde_json.specs.Data.{string}
use Rattle.session_text.specs.Json.{int_of, line_of, nat_of}
use Rattle.session_text.specs.Values.{ints_of, value_of}

-- the peers that are up at a peer
abbrev pub peer_line : ℤ → List ℤ → List ℕ
peer_line p peers = line_of (string (codes "peer") ∷ int_of p ∷ ints_of peers ∷ [])

-- a node: its authority, its number and its path
abbrev pub node_line : ℤ → Row → List ℕ
node_line p r = line_of (string (codes "node") ∷ int_of p ∷ int_of r.auth ∷ nat_of r.num ∷ string r.path ∷ [])

-- a property of the node at a path
abbrev pub value_line : ℤ → List ℕ → Prop → List ℕ
value_line p path v = line_of (string (codes "value") ∷ int_of p ∷ string path ∷ string v.name ∷ value_of v.value ∷ [])

-- a node and its properties
abbrev pub row_lines : ℤ → Row → List ℕ
row_lines p r = node_line p r ++ flat_map (value_line p r.path) r.values

-- the report of a peer
abbrev pub report_lines : ℤ → Report → List ℕ
report_lines p r = peer_line p r.peers ++ flat_map (row_lines p) r.rows
