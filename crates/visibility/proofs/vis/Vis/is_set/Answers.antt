use Rattle.std.proofs.Common.{false, ap, ◌∙◌}
use Rattle.gd_variant.specs.Words.{or_else}
use Rattle.sight_laws.specs.Sights.{Sight, is_set}
use Rattle.visibility.proofs.Kept.{set_is}
use Rattle.visibility.proofs.vis.Vis.is_set.Goals as goal

pub returns-in-Some : goal.returns-in-Some
returns-in-Some c = ap (λ o. or_else o false) c.in-Some.ensures.value ∙ set_is c.args.peer.now c.self.inside.set.entries ∙ ap (λ (y : Sight). is_set c.args.peer.now y.set) c.self.view_is

pub returns-in-None : goal.returns-in-None
returns-in-None c = ap (λ o. or_else o false) c.in-None.ensures.value ∙ set_is c.args.peer.now c.self.inside.set.entries ∙ ap (λ (y : Sight). is_set c.args.peer.now y.set) c.self.view_is
