use Rattle.std.proofs.Common.{ap, ◌∙◌}
use Rattle.std.specs.Prelude.{is_some}
use Rattle.scene_model.specs.Lookup.{value_in}
use Rattle.peer_steps.proofs.Found.{found_named, copied_is_some}
use Rattle.spawn_track.proofs.values.has_prop.Goals as goal

pub returns : goal.returns
returns c = c.is_some.ensures ∙ copied_is_some c.get.result ∙ ap is_some c.get.ensures ∙ ap (λ t. is_some (value_in c.args.node.now.values t)) c.as_str.ensures.same ∙ found_named c.args.node.now.values c.args.prop.now
