-- What is told of a scene.
use Rattle.std.specs.Prelude.{ℕ, List, [], ◌++◌, ◌-◌, length, decimal, codes, nat_lt, if◌then◌else◌, Option, Some, None, option_and_then, Result, Ok, Err}
use Rattle.serde_json.specs.Data.{Data, Items}
use Rattle.serde_json.specs.Events.{items_len}
use Rattle.serde_json.specs.Find.{get, at, as_array, as_str}
use Rattle.scene_model.specs.declared.scene.Scene.{Scene}
use Rattle.scene_model.specs.declared.scene.SceneBad.{SceneBad}
use Rattle.scene_model.specs.declared.scene.SceneWhy.{SceneWhy}
use Rattle.scene_model.specs.declared.scene.SceneWhy.TheVariants as scene
use Rattle.program_edge.specs.declared.status.LineWhy.{LineWhy}
use Rattle.program_edge.specs.declared.status.LineWhy.TheVariants as why

-- why an entry is wrong
abbrev pub scene_words : SceneWhy → List ℕ
scene_words scene.NamePath = codes "NamePath: a name in the path, or the scene's name, isn't a name, or the node above isn't listed before"
scene_words scene.TwoNodes = codes "TwoNodes: an earlier entry of the list has this path or name"
scene_words scene.TooMany = codes "TooMany: more than 4096 entries of the list, 64 properties, 4096 methods or 8 synchronizers"
scene_words scene.PropTwice = codes "PropTwice: a property is named twice, or stands in two synchronizers of one node"
scene_words scene.NoProp = codes "NoProp: a synchronizer or a custom spawn names a property that isn't there"
scene_words scene.TooManyOnChange = codes "TooManyOnChange: a synchronizer has more than 64 properties with mode change"
scene_words scene.NoTarget = codes "NoTarget: under or of names no node of this file"
scene_words scene.SharedSpawnParent = codes "SharedSpawnParent: an earlier spawner has the same under"
scene_words scene.TooManyScenes = codes "TooManyScenes: the spawner lists more than 255 scenes"
scene_words scene.NoScene = codes "NoScene: the spawner names a scene that isn't in scenes"
scene_words scene.Method = codes "Method: a method's name isn't a name or comes twice, or sets names no property or no argument"
scene_words scene.ValueLong = codes "ValueLong: a value has more than 65536 bytes in binary form"
scene_words scene.Auth = codes "Auth: auth is below 1, or a synchronizer's isn't that of its node"

-- what is wrong with a text in which no scene stands
abbrev pub why_text : LineWhy → List ℕ
why_text why.Json = codes "Json: this isn't one JSON value in UTF-8\n"
why_text why.Shape = codes "Shape: a value is of another kind, an array has another length, a key is missing, or a number isn't a whole one of 64 bits\n"
why_text why.Name = codes "Name: a word or a key isn't known\n"
why_text why.Hex = codes "Hex: a text isn't an even number of hexadecimal digits\n"
why_text why.Range = codes "Range: a number is outside its range, a text has U+0000, or a value isn't sound\n"
why_text (why.Scene bad) = codes "Scene\n"
why_text why.NotBuilt = codes "NotBuilt\n"

-- how many nodes a scene lists
abbrev pub count_of : Option Items → ℕ
count_of None = 0
count_of (Some ds) = items_len ds

abbrev pub nodes_in : Data → ℕ
nodes_in d = count_of (option_and_then as_array (get (codes "nodes") d))

-- the text under a key of an entry of a list
abbrev pub name_under : List ℕ → ℕ → List ℕ → Data → Option (List ℕ)
name_under list number key d = option_and_then as_str (option_and_then (get key) (option_and_then (at number) (get list d)))

abbrev pub text_or_none : Option (List ℕ) → List ℕ
text_or_none None = []
text_or_none (Some name) = name

-- an entry: its list, its number there, its path or name, and why it is wrong
abbrev pub place_text : List ℕ → ℕ → List ℕ → SceneWhy → Data → List ℕ
place_text list number key bad d = list ++ codes "[" ++ decimal number ++ codes "] " ++ text_or_none (name_under list number key d) ++ codes ": " ++ scene_words bad ++ codes "\n"

-- the wrong entry of a scene: entries are counted over its nodes and then its scenes
abbrev pub entry_text : SceneBad → Data → List ℕ
entry_text bad d =
    if nat_lt bad.index (nodes_in d)
    then place_text (codes "nodes") bad.index (codes "path") bad.why d
    else place_text (codes "scenes") (bad.index - nodes_in d) (codes "name") bad.why d

-- what is wrong with a text, by the JSON in it
abbrev pub fault_text : LineWhy → Result Data LineWhy → List ℕ
fault_text (why.Scene bad) (Ok d) = entry_text bad d
fault_text (why.Scene bad) (Err e) = why_text why.Json
fault_text w d = why_text w

-- how many nodes and scenes there are
abbrev pub counts_text : List ℕ → ℕ → ℕ → List ℕ
counts_text word nodes scenes = word ++ codes ": nodes " ++ decimal nodes ++ codes ", scenes " ++ decimal scenes ++ codes "\n"

-- what is told of a valid scene
abbrev pub valid_text : Scene → List ℕ
valid_text scene = counts_text (codes "valid") (length scene.nodes) (length scene.scenes)

-- what is told of a text, by the JSON in it and what reading a scene of it came to
abbrev pub verdict_text : Result Data LineWhy → Result Scene LineWhy → List ℕ
verdict_text d (Ok scene) = valid_text scene
verdict_text d (Err w) = fault_text w d
