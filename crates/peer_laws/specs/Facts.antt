-- What holds of every list of built and accepted events.
use Rattle.std.specs.Prelude.{◌≡◌, ℕ, ℤ, Bool, true, false, not, ◌&&◌, List, [], ◌∷◌, map, filter, nat_eq, nat_lt, Option, Some, None}
use Rattle.std.specs.List.{list_all}
use Rattle.gd_variant.specs.Words.{has_int}
use Rattle.scene_model.specs.declared.event.SpawnOp.{SpawnOp}
use Rattle.scene_model.specs.Valid.{has_twice}
use Rattle.peer_model.specs.Heard.{Who, Heard, received_from}
use Rattle.peer_model.specs.Peers.{peers_come, was_up}
use Rattle.peer_model.specs.Rows.{OwnRow, own_rows, next_number, row_made, despawns}
use Rattle.peer_model.specs.Updates.{Live}
use Rattle.peer_model.specs.View.{tree_of}
use Rattle.headless_tree.specs.Nodes.{is_row_of}

-- the paths of nodes
abbrev pub paths_of : List Live → List (List ℕ)
paths_of nodes = map (λ (n : Live). n.path) nodes

-- the rows of an authority among nodes
abbrev pub rows_under : ℤ → List Live → List Live
rows_under c nodes = filter (is_row_of c) nodes

-- the nodes without an authority's row of a number
abbrev pub without_number : ℤ → ℕ → List Live → List Live
without_number c net nodes = filter (λ (n : Live). not (is_row_of c n && nat_eq n.num net)) nodes

-- the row that an event makes, by the spawn in it
abbrev pub new_rows : Who → List Heard → Option SpawnOp → List OwnRow
new_rows who es None = []
new_rows who es (Some o) = row_made who es o ∷ []

-- whether an event leaves an own row
abbrev pub leaves : Heard → OwnRow → Bool
leaves e r = not (despawns r.path e)

-- whether a row's numbers are below another number
abbrev pub is_below : ℕ → OwnRow → Bool
is_below next r = nat_lt r.num next

-- Nothing comes from a peer that never was up; this peer never came up; no two nodes have one path; own rows have lower numbers than the next one; and a peer's view has its rows in the tree.
pub record Facts (who : Who) (es : List Heard) : Type 0 where
  pub silent : (c : ℤ) → was_up es c ≡ false → received_from who es c ≡ []
  pub other : has_int who.id (peers_come es) ≡ false
  pub apart : has_twice (paths_of (tree_of who es)) ≡ false
  pub below : list_all (is_below (next_number who es)) (own_rows who es) ≡ true
