use Rattle.std.proofs.Common.{[], ◌∷◌, sym, ap, subst, ◌∙◌, get_or, w32, SFits, rules}
use Rattle.std.proofs.lemmas.Int.{to_z-of_z}
use Rattle.gd_variant.specs.Words.{text_eq, some_is}
use Rattle.scene_model.proofs.TextLaws.{text_eq-same}
use Rattle.headless_tree.specs.Numbers.{KeepsOthers, path_under}
use Rattle.headless_tree.proofs.Keeping.{written_starts, written_more, at_place}
use Rattle.headless_tree.proofs.numbers.Numbers.note.Goals as goal

pub loop-id-init : goal.loop-id-init
loop-id-init c =
    let fits : SFits w32 c.args.node.now.auth = search rules in
    let seen = to_z-of_z w32 c.args.node.now.auth fits in
    written_starts (some_is (text_eq c.args.node.now.path)) c.args.node.now.auth c.args.node.now.num c.as_slice-id-items.result.now c.args.self.now c.put.new.self
    (ap (λ z. some_is (text_eq c.args.node.now.path) (path_under c.put.new.self z c.args.node.now.num)) (sym seen) ∙ ap (some_is (text_eq c.args.node.now.path)) c.in_ok-put.ensures.put ∙ text_eq-same c.args.node.now.path)
    (subst (λ z. KeepsOthers z (c.args.node.now.num ∷ []) c.args.self.now c.put.new.self) seen c.put.ensures.others)

pub loop-id-preserved : goal.loop-id-preserved
loop-id-preserved c =
    let fits : SFits w32 c.args.node.now.auth = search rules in
    let seen = to_z-of_z w32 c.args.node.now.auth fits in
    let id = get_or c.as_slice-id-items.result.now c.loop-id.id-index 0 in
    written_more (some_is (text_eq c.args.node.now.path)) c.args.node.now.auth c.args.node.now.num c.as_slice-id-items.result.now c.loop-id.id-index id c.args.self.now c.loop-id.self c.put-in-loop-id.new.self
    c.loop-id-test.true (at_place c.as_slice-id-items.result.now c.loop-id.id-index c.loop-id-test.true) c.loop-id.invariant
    (ap (λ z. some_is (text_eq c.args.node.now.path) (path_under c.put-in-loop-id.new.self z id)) (sym seen) ∙ ap (some_is (text_eq c.args.node.now.path)) c.in_ok-put-2.ensures.put ∙ text_eq-same c.args.node.now.path)
    (subst (λ z. KeepsOthers z (id ∷ []) c.loop-id.self c.put-in-loop-id.new.self) seen c.put-in-loop-id.ensures.others)
