-- Known words in lines.
use Rattle.std.specs.Prelude.{ℕ, List, Result, Ok, Err, codes, if◌then◌else◌}
use Rattle.std.specs.Str.{bytes_eq}
use Rattle.scene_model.specs.declared.event.Class.{Class}
use Rattle.scene_model.specs.declared.event.Class.TheVariants.{Unreliable, Ordered, Reliable}
use Rattle.scene_model.specs.declared.scene.ReplMode.{ReplMode}
use Rattle.scene_model.specs.declared.scene.ReplMode.TheVariants.{Never, Always, OnChange}
use Rattle.scene_model.specs.declared.scene.RpcMode.{RpcMode}
use Rattle.scene_model.specs.declared.scene.RpcMode.TheVariants.{Disabled, AnyPeer, Authority}
use Rattle.program_edge.specs.declared.status.LineWhy.{LineWhy}
use Rattle.program_edge.specs.declared.status.LineWhy.TheVariants.{Name}
use Rattle.line_text.specs.Reading.{Reading, ◌>>=◌}
use Rattle.line_text.specs.Parts.{word_read}

-- how a message travels
abbrev pub class_named : List ℕ → Result Class LineWhy
class_named w =
    if bytes_eq w (codes "unreliable") then Ok Unreliable
    else if bytes_eq w (codes "ordered") then Ok Ordered
    else if bytes_eq w (codes "reliable") then Ok Reliable
    else Err Name

unfoldable pub class_read : Reading Class
class_read d = word_read d >>= class_named

-- when a synchronizer tells a property
abbrev pub repl_named : List ℕ → Result ReplMode LineWhy
repl_named w =
    if bytes_eq w (codes "never") then Ok Never
    else if bytes_eq w (codes "always") then Ok Always
    else if bytes_eq w (codes "change") then Ok OnChange
    else Err Name

unfoldable pub repl_read : Reading ReplMode
repl_read d = word_read d >>= repl_named

-- who may call a method
abbrev pub rpc_named : List ℕ → Result RpcMode LineWhy
rpc_named w =
    if bytes_eq w (codes "disabled") then Ok Disabled
    else if bytes_eq w (codes "any") then Ok AnyPeer
    else if bytes_eq w (codes "authority") then Ok Authority
    else Err Name

unfoldable pub rpc_read : Reading RpcMode
rpc_read d = word_read d >>= rpc_named
