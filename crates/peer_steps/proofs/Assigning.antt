-- Values assigned one by one to properties of a node.
use Rattle.std.proofs.Common.{◌≡◌, ℕ, List, true, length}
use Rattle.std.specs.Prelude.{zip}
use Rattle.std.specs.List.{list_all}
use Rattle.gd_variant.specs.declared.value.Variant.{Variant}
use Rattle.peer_model.specs.View.{fits}
use Rattle.headless_tree.specs.Nodes.{TreeOf}
use Rattle.peer_steps.specs.Arrivals.{assigned_all}

-- what is left to assign to the tree as it is makes what was to be assigned to the tree as it was
pub record IsAssigning (path : List ℕ) (old : TreeOf) (left : List (List ℕ)) (values : List Variant) (now : TreeOf) (props : List (List ℕ)) (all : List Variant) : Type 0 where
  pub many : length left ≡ length values
  pub short : list_all fits values ≡ true
  pub scene : now.scene ≡ old.scene
  pub nodes : assigned_all path (zip left values) now.nodes ≡ assigned_all path (zip props all) old.nodes
