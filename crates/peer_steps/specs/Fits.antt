-- What a peer's tree and its own rows are to each other.
use Rattle.std.specs.Prelude.{◌≡◌, ℤ, true}
use Rattle.std.specs.List.{list_all}
use Rattle.scene_model.specs.Valid.{IsValidScene}
use Rattle.headless_tree.specs.Nodes.{TreeOf}
use Rattle.peer_steps.specs.Track.{Track}
use Rattle.peer_steps.specs.Rights.{has_right_values, is_right_row, is_before}

-- the scene is valid, values are right, own rows can be shown, and the numbers of own nodes are below the next one
pub record Fits (me : ℤ) (tree : TreeOf) (track : Track) : Type 0 where
  pub valid : IsValidScene tree.scene
  pub values : list_all has_right_values tree.nodes ≡ true
  pub rows : list_all (is_right_row tree.scene) track.rows ≡ true
  pub before : list_all (is_before me track.next) tree.nodes ≡ true
