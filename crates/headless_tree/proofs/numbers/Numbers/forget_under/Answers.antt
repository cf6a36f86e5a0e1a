use Rattle.std.proofs.Common.{ap, ◌∙◌, not, rules}
use Rattle.std.specs.Ordering.{int_eq}
use Rattle.std.proofs.lemmas.Map.Made.{filter_same_pairs}
use Rattle.headless_tree.specs.Numbers.{Paths, path_under}
use Rattle.headless_tree.proofs.Keeping.{none_under, others_under}
use Rattle.headless_tree.proofs.numbers.Numbers.forget_under.Goals as goal

pub returns-clause-gone : goal.returns-clause-gone
returns-clause-gone c = λ id. ap (λ (ps : Paths). path_under ps c.args.auth.now id) (filter_same_pairs _ (λ e. not (int_eq e.0.0 c.args.auth.now)) _ (λ k v b w f t. search rules) _ _ c.retain.ensures.filtered) ∙ none_under c.args.auth.now id c.self.inside.paths.entries

pub returns-clause-others : goal.returns-clause-others
returns-clause-others c = λ a id h. ap (λ (ps : Paths). path_under ps a id) (filter_same_pairs _ (λ e. not (int_eq e.0.0 c.args.auth.now)) _ (λ k v b w f t. search rules) _ _ c.retain.ensures.filtered) ∙ others_under c.args.auth.now a id c.self.inside.paths.entries h ∙ ap (λ (ps : Paths). path_under ps a id) c.self.view_is
