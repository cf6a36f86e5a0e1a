-- How an operation stands in a line.
use Rattle.std.specs.Prelude.{ℕ, List, [], ◌∷◌, Some, None, Result, Ok, Err, codes, if◌then◌else◌}
use Rattle.std.specs.Str.{bytes_eq}
use Rattle.serde_json.specs.Data.{Data, Items, no_items, item}
use Rattle.gd_variant.specs.Words.{has_text}
use Rattle.scene_model.specs.declared.scene.Prop.{Prop}
use Rattle.scene_model.specs.declared.event.Op.{Op}
use Rattle.scene_model.specs.declared.event.Op.TheVariants as op
use Rattle.program_edge.specs.declared.status.LineWhy.{LineWhy}
use Rattle.program_edge.specs.declared.status.LineWhy.TheVariants.{Shape, Name, NotBuilt}
use Rattle.line_text.specs.Reading.{Reading, ◌>>=◌}
use Rattle.line_text.specs.Parts.{word_read, text_read, bool_read, nat_read, array_read, none_of, one_of, two_of, two_read, three_of, list_read}
use Rattle.line_text.specs.Peers.{peer_read}
use Rattle.line_text.specs.Values.{value_read}

-- a first item, and the items behind it
unfoldable pub first_of : Items → Result (Data × Items) LineWhy
first_of (item d ds) = Ok (d, ds)
first_of no_items = Err Shape

-- an array that begins with a word, and what stands behind the word
unfoldable pub worded_read : Reading (List ℕ × Items)
worded_read d = do
  items ← array_read d
  parts ← first_of items
  word ← word_read parts.0
  Ok (word, parts.1)

-- four items and no more
unfoldable pub four_of : Items → Result (Data × Data × Data × Data) LineWhy
four_of (item a (item b (item c (item d no_items)))) = Ok (a, b, c, d)
four_of no_items = Err Shape
four_of (item a no_items) = Err Shape
four_of (item a (item b no_items)) = Err Shape
four_of (item a (item b (item c no_items))) = Err Shape
four_of (item a (item b (item c (item d (item e ds))))) = Err Shape

-- a setting of a spawn: a property and its value
unfoldable pub setting_read : Reading Prop
setting_read d = do
  ds ← two_read d
  name ← text_read ds.0
  v ← value_read ds.1
  Ok (record { name = name; value = v })

-- a spawn: the spawner, the scene, the new node's name, and the settings
unfoldable pub spawn_read : Items → Result Op LineWhy
spawn_read items = do
  ds ← four_of items
  spawner ← text_read ds.0
  scene ← text_read ds.1
  name ← text_read ds.2
  sets ← list_read setting_read ds.3
  Ok (op.Spawn (record { spawner = spawner; scene = Some scene; name = name; sets = sets; arg = None }))

-- an assignment: the node's path, the property, and its value
unfoldable pub set_read : Items → Result Op LineWhy
set_read items = do
  ds ← three_of items
  path ← text_read ds.0
  prop ← text_read ds.1
  v ← value_read ds.2
  Ok (op.Set path prop v)

-- a custom spawn: the spawner, the new node's name, and the argument
unfoldable pub custom_spawn_read : Items → Result Op LineWhy
custom_spawn_read items = do
  ds ← three_of items
  spawner ← text_read ds.0
  name ← text_read ds.1
  v ← value_read ds.2
  Ok (op.Custom (record { spawner = spawner; scene = None; name = name; sets = []; arg = Some v }))

-- a despawn: the node's path
unfoldable pub despawn_read : Items → Result Op LineWhy
despawn_read items = do
  d ← one_of items
  path ← text_read d
  Ok (op.Despawn path)

-- a synchronizer: a path and its place at the node
unfoldable pub sync_read : Reading (List ℕ × ℕ)
sync_read d = do
  ds ← two_read d
  path ← text_read ds.0
  k ← nat_read 0 4294967295 ds.1
  Ok (path, k)

-- a synchronizer is public or not
unfoldable pub public_read : Items → Result Op LineWhy
public_read items = do
  ds ← two_of items
  y ← sync_read ds.0
  on ← bool_read ds.1
  Ok (op.Public y.0 y.1 on)

-- it is set for a peer or not
unfoldable pub for_read : Items → Result Op LineWhy
for_read items = do
  ds ← three_of items
  y ← sync_read ds.0
  peer ← peer_read ds.1
  on ← bool_read ds.2
  Ok (op.For y.0 y.1 peer on)

-- it has one filter more: the peers that it lists
unfoldable pub filter_read : Items → Result Op LineWhy
filter_read items = do
  ds ← two_of items
  y ← sync_read ds.0
  peers ← list_read peer_read ds.1
  Ok (op.Filter y.0 y.1 peers)

-- a frame: nothing stands behind the word
unfoldable pub frame_read : Items → Result Op LineWhy
frame_read items = do
  _ ← none_of items
  Ok op.Frame

-- the words of operations that aren't built yet
abbrev pub later_ops : List (List ℕ)
later_ops = codes "call" ∷ codes "raw" ∷ []

-- an operation by its word, of what stands behind the word
unfoldable pub op_by : List ℕ → Items → Result Op LineWhy
op_by word items =
    if bytes_eq word (codes "spawn") then spawn_read items
    else if bytes_eq word (codes "custom") then custom_spawn_read items
    else if bytes_eq word (codes "despawn") then despawn_read items
    else if bytes_eq word (codes "set") then set_read items
    else if bytes_eq word (codes "public") then public_read items
    else if bytes_eq word (codes "for") then for_read items
    else if bytes_eq word (codes "filter") then filter_read items
    else if bytes_eq word (codes "frame") then frame_read items
    else if has_text word later_ops then Err NotBuilt
    else Err Name

unfoldable pub op_read : Reading Op
op_read d = do
  parts ← worded_read d
  op_by parts.0 parts.1
