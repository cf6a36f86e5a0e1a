-- Scenes that are read as they were written.
use Rattle.std.specs.Prelude.{◌≡◌, ℕ, List, Ok}
use Rattle.serde_json.specs.Written.{compact_text}
use Rattle.scene_model.specs.declared.scene.Scene.{Scene}
use Rattle.scene_model.specs.Valid.{IsValidScene}
use Rattle.line_text.specs.Lines.{line_data}
use Rattle.line_text.specs.Scenes.{scene_line_read}
use Rattle.scene_lines.specs.Typed.{IsTyped}
use Rattle.scene_lines.specs.Written.{scene_data}

-- a valid scene is read of each line that is, as JSON, what is written of it
abbrev pub ReadsScenes : Type 0
ReadsScenes = (s : Scene) (line : List ℕ) → IsValidScene s → IsTyped s → line_data line ≡ Ok (scene_data s) → scene_line_read line ≡ Ok s

-- and so of its text
abbrev pub ReadsPrinted : Type 0
ReadsPrinted = (s : Scene) → IsValidScene s → IsTyped s → scene_line_read (compact_text (scene_data s)) ≡ Ok s
