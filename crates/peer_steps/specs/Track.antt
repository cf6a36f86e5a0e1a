-- The own rows of a peer with who sees them, and what spawns, despawns and settings of visibility make of them and of its nodes.
use Rattle.std.specs.Prelude.{ℕ, ℤ, Bool, true, not, List, [], ◌∷◌, ◌++◌, filter, find, slice_get, nat_eq, Option, Some, None, option_map, option_and_then, if◌then◌else◌}
use Rattle.gd_variant.specs.Words.{or_else, put_by, some_is, text_eq}
use Rattle.scene_model.specs.declared.scene.Scene.{Scene}
use Rattle.scene_model.specs.declared.spawn.SpawnMsg.{SpawnMsg}
use Rattle.scene_model.specs.declared.event.SpawnOp.{SpawnOp}
use Rattle.scene_model.specs.declared.outcome.Refusal.{Refusal}
use Rattle.scene_model.specs.declared.outcome.Fault.{Fault}
use Rattle.peer_model.specs.Updates.{Live, shown_node}
use Rattle.headless_tree.specs.Nodes.{TreeOf, row_before, without_rows, without_spawned}
use Rattle.peer_steps.specs.declared.rows.SpawnedRow.{SpawnedRow}
use Rattle.peer_model.specs.Rows.{syncs_at, spawned_scene}
use Rattle.peer_model.specs.Updates.{live_at}
pub use Rattle.peer_laws.specs.Facts.{without_number}
use Rattle.sight_laws.specs.Sights.{Sight, RowSight, FixedSight, Sights, first_sights, with_row, without_row, with_row_set, with_fixed_set, with_peer_up, with_peer_down, row_sees}
use Rattle.peer_steps.specs.Sites.{who_at, own_made, with_made, after_made}
use Rattle.peer_steps.specs.Judged.{despawn_judged, sight_judged, hidden_judged}
use Rattle.peer_steps.specs.Spawns.{spawn_judged, shown_judged}

-- the number of the next row, the own rows, oldest first, and who sees each of them
pub record Track : Type 0 where
  pub next : ℕ
  pub rows : List SpawnedRow
  pub sights : Sights

-- before the first spawn of a peer
abbrev pub first_track : Scene → ℤ → Track
first_track s me = record { next = 1; rows = []; sights = first_sights s me }

-- an own spawn: why it is refused, and the own rows and the nodes then
pub record Spawned : Type 0 where
  pub refused : Option Refusal
  pub track : Track
  pub tree : TreeOf

-- the own rows after a spawn, unless it is refused; the new one is shown to those of the peers that are up that may see it
abbrev pub track_after : ℤ → List ℤ → Scene → SpawnOp → Option Refusal → Track → Track
track_after me up s o (Some r) t = t
track_after me up s o None t = record {
  next = after_made me s t.next o;
  rows = t.rows ++ own_made me s t.next o ∷ [];
  sights = with_row up t.next (syncs_at s (spawned_scene (who_at me s) o)) t.sights;
}

-- the nodes after it
abbrev pub nodes_after : ℤ → Scene → SpawnOp → Option Refusal → ℕ → List Live → List Live
nodes_after me s o (Some r) next nodes = nodes
nodes_after me s o None next nodes = with_made me s next o nodes

-- the same, by why it is refused
abbrev pub spawned_by : ℤ → List ℤ → SpawnOp → Track → TreeOf → Option Refusal → Spawned
spawned_by me up o t tree r = record {
  refused = r;
  track = track_after me up tree.scene o r t;
  tree = record tree { nodes = nodes_after me tree.scene o r t.next tree.nodes };
}

-- an own spawn of the peer with this number, beside the peers that are up
abbrev pub own_spawn : ℤ → List ℤ → SpawnOp → Track → TreeOf → Spawned
own_spawn me up o t tree = spawned_by me up o t tree (spawn_judged (who_at me tree.scene) tree.nodes t.rows t.next o)

-- the nodes after a received spawn, unless it is a fault
abbrev pub nodes_shown : Scene → ℤ → SpawnMsg → Option Fault → List Live → List Live
nodes_shown s c m (Some f) nodes = nodes
nodes_shown s c m None nodes = put_by row_before (shown_node s c m) nodes

-- a received spawn: why it is a fault, and the tree then
abbrev pub shown_by : ℤ → SpawnMsg → TreeOf → Option Fault → Option Fault × TreeOf
shown_by c m tree f = (f, record tree { nodes = nodes_shown tree.scene c m f tree.nodes })

-- a spawn that was received from a peer
abbrev pub shown_spawn : ℤ → SpawnMsg → TreeOf → Option Fault × TreeOf
shown_spawn c m tree = shown_by c m tree (shown_judged tree.scene tree.nodes c m)

-- a peer's rows are gone
abbrev pub tree_without : ℤ → TreeOf → TreeOf
tree_without c tree = record tree { nodes = without_rows c tree.nodes }

-- the number of the node at a path
abbrev pub number_at : List Live → List ℕ → ℕ
number_at nodes path = or_else (option_map (λ (n : Live). n.num) (live_at nodes path)) 0

-- an own row by its number
abbrev pub row_with : ℕ → List SpawnedRow → Option SpawnedRow
row_with num rows = find (λ (r : SpawnedRow). nat_eq r.num num) rows

-- who sees an own row
abbrev pub sight_with : ℕ → List RowSight → Option RowSight
sight_with num rows = find (λ (r : RowSight). nat_eq r.num num) rows

-- the peers to which an own row is shown
abbrev pub shown_of : ℕ → Sights → List ℤ
shown_of num v = or_else (option_map (λ (r : RowSight). r.shown) (sight_with num v.rows)) []

-- despawns

-- an own despawn: why it is refused, the row that goes, and the own rows and the nodes then
pub record Despawned : Type 0 where
  pub refused : Option Refusal
  pub num : ℕ
  pub shown : List ℤ
  pub track : Track
  pub tree : TreeOf

-- the own rows without one
abbrev pub track_without : ℕ → Track → Track
track_without num t = record t { rows = filter (λ (r : SpawnedRow). not (nat_eq r.num num)) t.rows; sights = without_row num t.sights }

-- a despawn, by why it is refused
abbrev pub despawned_by : List ℕ → ℕ → Track → TreeOf → Option Refusal → Despawned
despawned_by path num t tree (Some r) = record { refused = Some r; num = num; shown = []; track = t; tree = tree }
despawned_by path num t tree None = record { refused = None; num = num; shown = shown_of num t.sights; track = track_without num t; tree = record tree { nodes = without_spawned path tree.nodes } }

-- an own despawn of the peer with this number
abbrev pub own_despawn : ℤ → List ℕ → Track → TreeOf → Despawned
own_despawn me path t tree = despawned_by path (number_at tree.nodes path) t tree (despawn_judged (who_at me tree.scene) tree.nodes path)

-- the nodes after a received despawn, unless it is a fault
abbrev pub nodes_hidden : ℤ → ℕ → Option Fault → List Live → List Live
nodes_hidden c net (Some f) nodes = nodes
nodes_hidden c net None nodes = without_number c net nodes

-- a received despawn: why it is a fault, and the tree then
abbrev pub hidden_by : ℤ → ℕ → TreeOf → Option Fault → Option Fault × TreeOf
hidden_by c net tree f = (f, record tree { nodes = nodes_hidden c net f tree.nodes })

-- a despawn that was received from a peer
abbrev pub hidden_row : ℤ → ℕ → TreeOf → Option Fault × TreeOf
hidden_row c net tree = hidden_by c net tree (hidden_judged tree.nodes c net)

-- settings of visibility

-- a setting at one synchronizer: what it makes of who sees it, and whether there is no room for it
pub record SightChange : Type 0 where
  pub change : Sight → Sight
  pub is_full : Sight → Bool

-- who sees the fixed synchronizer at a path
abbrev pub fixed_sight_at : List ℕ → List FixedSight → Option Sight
fixed_sight_at path fixed = option_map (λ (x : FixedSight). x.sight) (find (λ (x : FixedSight). text_eq x.path path) fixed)

-- who sees the synchronizer at a place of an own row
abbrev pub row_sight_at : ℕ → ℕ → List RowSight → Option Sight
row_sight_at num k rows = option_and_then (λ (r : RowSight). slice_get r.syncs k) (sight_with num rows)

-- whether a node was spawned, by its place among the scenes
abbrev pub is_row : Option Live → Bool
is_row n = some_is (λ (m : Live). some_is (λ (p : ℕ). true) m.place) n

-- who sees the synchronizer that is named by a path and a place, where the node at the path is this one
abbrev pub sight_at : Sights → Option Live → List ℕ → ℕ → Option Sight
sight_at v n path k = if is_row n then row_sight_at (or_else (option_map (λ (m : Live). m.num) n) 0) k v.rows else fixed_sight_at path v.fixed

-- the sights after a setting
abbrev pub sights_set : List ℤ → Option Live → List ℕ → ℕ → (Sight → Sight) → Sights → Sights
sights_set up n path k f v = if is_row n then with_row_set up (or_else (option_map (λ (m : Live). m.num) n) 0) k f v else with_fixed_set path f v

-- a setting: why it is refused, and the own rows then
pub record Sighted : Type 0 where
  pub refused : Option Refusal
  pub track : Track

-- a setting, by why it is refused
abbrev pub sighted_by : List ℤ → List ℕ → ℕ → SightChange → Track → TreeOf → Option Refusal → Sighted
sighted_by up path k c t tree (Some r) = record { refused = Some r; track = t }
sighted_by up path k c t tree None = record { refused = None; track = record t { sights = sights_set up (live_at tree.nodes path) path k c.change t.sights } }

-- a setting of the peer with this number, beside the peers that are up
abbrev pub own_sighted : ℤ → List ℤ → List ℕ → ℕ → SightChange → Track → TreeOf → Sighted
own_sighted me up path k c t tree = sighted_by up path k c t tree (sight_judged (who_at me tree.scene) tree.nodes path k (some_is c.is_full (sight_at t.sights (live_at tree.nodes path) path k)))

-- links

-- a new peer may see what it may see
abbrev pub track_up : ℤ → Track → Track
track_up b t = record t { sights = with_peer_up b t.sights }

-- nothing is shown to a peer that went down
abbrev pub track_down : ℤ → Track → Track
track_down b t = record t { sights = with_peer_down b t.sights }

-- the own rows that a peer may see
abbrev pub seen_by : ℤ → List SpawnedRow → List RowSight → List SpawnedRow
seen_by b [] vs = []
seen_by b (r ∷ rs) [] = []
seen_by b (r ∷ rs) (v ∷ vs) = if row_sees v b then r ∷ seen_by b rs vs else seen_by b rs vs
