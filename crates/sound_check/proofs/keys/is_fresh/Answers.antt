use Rattle.std.proofs.Common.{List, ℕ, ◌++◌, ap, ◌∙◌}
use Rattle.gd_variant.specs.Tree.{plain}
use Rattle.variant_codec.specs.Written.{written}
use Rattle.variant_codec.proofs.KnownKeys.{known_kept}
use Rattle.sound_check.proofs.Distinct.{fresh_key}
use Rattle.sound_check.proofs.keys.is_fresh.Goals as goal

pub returns-clause-fresh : goal.returns-clause-fresh
returns-clause-fresh c =
    fresh_key c.args.seen.now c.args.pairs.now (plain c.args.key.now) c.as_slice.result.now c.contains.result
    (c.as_slice.ensures.value ∙ c.in_ok-put.ensures ∙ ap (λ (l : List ℕ). l ++ written (plain c.args.key.now)) c.new-form.ensures.items) c.contains.ensures c.if-contains.false

pub returns-clause-keeps : goal.returns-clause-keeps
returns-clause-keeps c = λ k h. known_kept c.args.seen.now c.insert.new.self _ c.put.new.out k c.in_ok-insert.ensures.keys h
