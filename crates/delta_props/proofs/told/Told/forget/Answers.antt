use Rattle.std.proofs.Common.{ap, ◌∙◌, not, rules}
use Rattle.std.specs.Ordering.{int_eq}
use Rattle.std.proofs.lemmas.Map.Made.{filter_same_pairs}
use Rattle.delta_props.specs.Telling.{without_peer}
use Rattle.delta_props.proofs.told.Told.forget.Goals as goal

pub returns : goal.returns
returns c = filter_same_pairs _ (λ e. not (int_eq e.0.0 c.args.peer.now)) _ (λ k v b w f t. search rules) _ _ c.retain.ensures.filtered ∙ ap (without_peer c.args.peer.now) c.self.view_is
