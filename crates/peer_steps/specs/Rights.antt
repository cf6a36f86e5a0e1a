-- What holds of nodes and rows, so that packets can be written and numbers are new.
use Rattle.std.specs.Prelude.{ℕ, ℤ, Bool, true, not, ◌&&◌, ◌||◌, List, ◌∷◌, length, Option, Some, None, nat_eq, nat_lt}
use Rattle.std.specs.List.{list_all}
use Rattle.gd_variant.specs.Sound.{is_sound}
use Rattle.gd_variant.specs.declared.value.Variant.{Variant}
use Rattle.scene_model.specs.declared.scene.Scene.{Scene}
use Rattle.scene_model.specs.declared.scene.Prop.{Prop}
use Rattle.scene_model.specs.Paths.{is_name}
use Rattle.peer_model.specs.Rows.{syncs_at}
use Rattle.peer_model.specs.Updates.{Live}
use Rattle.peer_model.specs.View.{fits}
use Rattle.headless_tree.specs.Nodes.{is_row_of}
use Rattle.peer_steps.specs.declared.rows.SpawnedRow.{SpawnedRow}

-- a value that a property may have: it is sound, and not too long
abbrev pub is_right_value : Variant → Bool
is_right_value v = is_sound v && fits v

-- properties with such values
abbrev pub are_right : List Prop → Bool
are_right props = list_all (λ (p : Prop). is_right_value p.value) props

-- a node with such values
abbrev pub has_right_values : Live → Bool
has_right_values n = are_right n.values

-- an argument that a spawn may have
abbrev pub is_right_argument : Option Variant → Bool
is_right_argument None = true
is_right_argument (Some v) = is_right_value v

-- a byte is that of a custom spawn exactly where there is an argument
abbrev pub is_right_byte : ℕ → Option Variant → Bool
is_right_byte byte None = nat_lt byte 255
is_right_byte byte (Some v) = nat_eq byte 255

-- a row whose packet can be written: its name is one, it has an id for each synchronizer of its scene, its byte and its argument are right, and its scene is there
abbrev pub is_right_row : Scene → SpawnedRow → Bool
is_right_row s r = (is_name r.name && nat_eq (length r.ids) (length (syncs_at s (Some r.place)))) && ((is_right_byte r.byte r.arg && is_right_argument r.arg) && nat_lt r.place (length s.scenes))

-- a spawned node of this peer has lower numbers than the next one
abbrev pub is_before : ℤ → ℕ → Live → Bool
is_before id next n = not (is_row_of id n) || list_all (λ num. nat_lt num next) (n.num ∷ n.ids)
