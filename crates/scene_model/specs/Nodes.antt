-- Nodes as they stand in a tree.
use Rattle.std.specs.Prelude.{ℕ, ℤ, List, [], find, Option, Some, None}
use Rattle.gd_variant.specs.Words.{text_eq}
use Rattle.scene_model.specs.declared.scene.Node.{Node}
use Rattle.scene_model.specs.declared.scene.SceneDef.{SceneDef}
use Rattle.scene_model.specs.declared.scene.Prop.{Prop}
use Rattle.scene_model.specs.declared.report.Row.{Row}

-- a node as it stands: authority, number (0 for a fixed node), synchronizers' ids, path, the place of its scene, and its properties with their values
pub record Live : Type 0 where
  pub auth : ℤ
  pub num : ℕ
  pub ids : List ℕ
  pub path : List ℕ
  pub place : Option ℕ
  pub values : List Prop

-- a fixed node with its defaults
abbrev pub fixed_live : Node → Live
fixed_live n = record { auth = n.auth; num = 0; ids = []; path = n.path; place = None; values = n.props }

-- the node at a path
abbrev pub live_at : List Live → List ℕ → Option Live
live_at nodes path = find (λ (n : Live). text_eq n.path path) nodes

-- the properties of a scene, where there is one
abbrev pub props_in : Option SceneDef → List Prop
props_in None = []
props_in (Some d) = d.props

-- a node as it is reported
abbrev pub row_of : Live → Row
row_of n = record { auth = n.auth; num = n.num; path = n.path; values = n.values }
