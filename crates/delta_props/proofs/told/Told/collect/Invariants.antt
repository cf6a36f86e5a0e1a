use Rattle.std.proofs.Common.{◌≡◌, ◌++◌, drop, List}
use Rattle.gd_variant.specs.declared.message.DeltaEntry.{DeltaEntry}
use Rattle.delta_props.specs.Telling.{ToldValues, collected}
use Rattle.delta_props.proofs.told.Told.collect.Given as goal

abbrev pub invariant-loop-sync : goal.invariant-loop-sync
invariant-loop-sync l = ◌≡◌ {A = List DeltaEntry × ToldValues} (l.entries ++ (collected l.peer l.tree.scene l.tree.nodes (drop l.sync-index l.syncs) l.self).0, (collected l.peer l.tree.scene l.tree.nodes (drop l.sync-index l.syncs) l.self).1) (collected l.peer l.tree.scene l.tree.nodes l.syncs l.fn.self)
