use Rattle.std.proofs.Common.{sym, ◌∙◌}
use Rattle.std.specs.String.{string_bytes}
use Rattle.std.proofs.lemmas.Bool.{false≢true}
use Rattle.headless_tree.proofs.Paths.{is_fresh, path_put}
use Rattle.headless_tree.proofs.tree.paths.put_text.Goals as goal

pub shift_insert-requires-clause-below_len : goal.shift_insert-requires-clause-below_len
shift_insert-requires-clause-below_len c = λ h. absurd (false≢true (sym (is_fresh string_bytes c.args.texts.now.keys c.in_ok-key.key c.args.text.now (c.in_ok-key.ensures.ok ∙ c.as_str.ensures.same) c.requires.fresh) ∙ h))

pub returns-clause-ok : goal.returns-clause-ok
returns-clause-ok c = path_put string_bytes c.args.texts.now.keys c.shift_insert.new.self.keys c.in_ok-key.key c.args.at c.args.text.now (c.in_ok-key.ensures.ok ∙ c.as_str.ensures.same) c.requires.fresh c.in_ok-shift_insert.ensures.keys
