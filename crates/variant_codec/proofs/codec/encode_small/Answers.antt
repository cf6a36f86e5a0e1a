use Rattle.std.proofs.Common.{ℕ, List, ◌++◌, ap, ◌∙◌}
use Rattle.gd_variant.specs.Tree.{plain}
use Rattle.variant_codec.specs.Written.{written_small}
use Rattle.variant_codec.proofs.Top.{small_written_is}
use Rattle.variant_codec.proofs.codec.encode_small.Goals as goal

pub returns-clause-spells : goal.returns-clause-spells
returns-clause-spells c = small_written_is (plain c.args.value.now) c.from_vec.result c.requires (c.from_vec.ensures ∙ c.in_ok-put_small.ensures ∙ ap (λ (l : List ℕ). l ++ written_small (plain c.args.value.now)) c.new-out.ensures.items)
