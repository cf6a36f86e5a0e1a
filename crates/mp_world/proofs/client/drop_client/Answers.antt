use Rattle.std.proofs.Common.{not, rules, tests}
use Rattle.std.specs.Ordering.{int_eq}
use Rattle.std.proofs.lemmas.Fn.{filter_same}
use Rattle.world_steps.specs.Steps.{Client}
use Rattle.mp_world.proofs.client.drop_client.Goals as goal

pub returns : goal.returns
returns c = filter_same _ (λ (b : Client). not (int_eq b.number c.args.number.now)) _ (λ x b f' k. search (rules, tests)) _ _ c.retain.ensures.filtered
