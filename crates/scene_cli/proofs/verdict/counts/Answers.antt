use Rattle.std.proofs.Common.{◌≡◌, IfOk, string_bytes, codes, length, subst}
use Rattle.scene_cli.specs.Verdicts.{counts_text}
use Rattle.scene_cli.proofs.verdict.counts.Goals as goal

pub returns : goal.returns
returns c =
    subst (λ n. IfOk c.counted.result (λ text. string_bytes text ≡ counts_text (codes "valid") n (length c.args.scene.now.scenes))) c.len-nodes.ensures
    (subst (λ m. IfOk c.counted.result (λ text. string_bytes text ≡ counts_text (codes "valid") c.len-nodes.result m)) c.len-scenes.ensures c.counted.ensures)
