use Rattle.std.proofs.Common.{ap, ◌∙◌, w32, to_z, of_z, SFits, rules}
use Rattle.std.proofs.lemmas.Int.{to_z-of_z}
use Rattle.headless_tree.specs.Numbers.{Paths, path_under}
use Rattle.headless_tree.proofs.numbers.Numbers.get.Goals as goal

pub returns : goal.returns
returns c =
    let fits : SFits w32 c.args.auth.now = search rules in
    c.get.ensures.value ∙ ap (λ (ps : Paths). path_under ps (to_z w32 (of_z w32 c.args.auth.now)) c.args.id) c.self.view_is ∙ ap (λ z. path_under c.args.self.now z c.args.id) (to_z-of_z w32 c.args.auth.now fits)
