use Rattle.std.proofs.Common.{◌≡◌, ℕ, ◌-◌, ◌≤◌, List, false, take}
use Rattle.std.specs.List.{list_any}
use Rattle.scene_model.specs.declared.scene.Node.{Node}
use Rattle.scene_model.specs.declared.scene.SyncDef.{SyncDef}
use Rattle.scene_check.proofs.IndexLaws.{clashes}
use Rattle.scene_check.proofs.validity.index.prop_is_before.Given as goal

-- no node so far clashes
pub record IsFreeTo (nodes : List Node) (d : SyncDef) (from : ℕ) : Type 0 where
  pub within : from ≤ 4096
  pub free : list_any (clashes d) (take from nodes) ≡ false

abbrev pub invariant-loop-found : goal.invariant-loop-found
invariant-loop-found l = IsFreeTo l.index.scene.now.nodes l.def l.from

abbrev pub decreases-loop-found : goal.decreases-loop-found
decreases-loop-found l = 4096 - l.from
