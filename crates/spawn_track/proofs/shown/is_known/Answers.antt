use Rattle.std.proofs.Common.{ap, ◌∙◌, w32, is_some, rules}
use Rattle.std.specs.List.{list_any}
use Rattle.std.proofs.lemmas.Int.{to_z-of_z}
use Rattle.headless_tree.specs.Numbers.{has_number}
use Rattle.peer_steps.proofs.Knowns.{some_placed}
use Rattle.spawn_track.proofs.shown.is_known.Goals as goal

pub returns : goal.returns
returns c = c.is_some.ensures ∙ ap is_some c.row_of.ensures ∙ some_placed (has_number _ c.args.id) c.args.tree.now.nodes ∙ ap (λ z. list_any (has_number z c.args.id) c.args.tree.now.nodes) (to_z-of_z w32 c.args.from.now (search rules))
