use Rattle.std.proofs.Common.{List, sym, ap, subst, ◌∙◌, map, not}
use Rattle.std.specs.String.{string_bytes}
use Rattle.scene_model.specs.Nodes.{Live}
use Rattle.headless_tree.specs.Nodes.{TreeOf, KeepsFixed, live, is_row_of, without_rows}
use Rattle.headless_tree.specs.Numbers.{has_paths_once, is_numbered, HasNoOthers}
use Rattle.headless_tree.specs.Order.{are_in_order}
use Rattle.headless_tree.proofs.Rows.{rows_cut, paths_cut, once_filter, numbered_filter, order_filter}
use Rattle.headless_tree.proofs.Fixed.{keeps_others}
use Rattle.headless_tree.proofs.Exact.{only_others}
use Rattle.headless_tree.proofs.tree.Tree.remove_rows.Goals as goal

pub invariant_of-self : goal.invariant_of-self
invariant_of-self c =
    let all = map live c.self.inside.nodes.items in
    let stays = λ (n : Live). not (is_row_of c.args.auth.now n) in
    let start = c.rows_under-start.result.0 in
    let end = c.rows_under-start.result.1 in
    let cut = c.drop-drain.ensures.items ∙ c.drain.ensures.kept in
    let left = rows_cut c.args.auth.now c.self.inside.nodes.items c.as_slice.result.now c.drop-drain.new.self.0.items start end c.as_slice.ensures.value c.rows_under-start.ensures.rows cut in (
      paths_cut string_bytes c.self.inside.paths.keys c.drop-drain-2.new.self.0.keys c.self.inside.nodes.items c.drop-drain.new.self.0.items start end c.self.invariant.0 (c.drop-drain-2.ensures.kept ∙ c.drain-2.ensures.kept) cut,
      ap has_paths_once left ∙ once_filter stays all c.self.invariant.1,
      ap (is_numbered c.forget_under.new.self) left ∙ numbered_filter c.args.auth.now c.self.inside.numbers c.forget_under.new.self c.forget_under.ensures.others all c.self.invariant.2,
      ap are_in_order left ∙ order_filter stays all c.self.invariant.3,
      subst (KeepsFixed c.self.inside.scene) (sym left) (keeps_others c.self.inside.scene c.args.auth.now all c.self.invariant.4),
      c.self.invariant.5,
      subst (HasNoOthers c.forget_under.new.self) (sym left) (only_others c.args.auth.now all c.self.inside.numbers c.forget_under.new.self c.forget_under.ensures.gone c.forget_under.ensures.others c.self.invariant.6),
    )

pub returns : goal.returns
returns c =
    let cut = c.drop-drain.ensures.items ∙ c.drain.ensures.kept in
    let left = rows_cut c.args.auth.now c.self.inside.nodes.items c.as_slice.result.now c.drop-drain.new.self.0.items c.rows_under-start.result.0 c.rows_under-start.result.1 c.as_slice.ensures.value c.rows_under-start.ensures.rows cut in
    ap {B = TreeOf} (λ (ns : List Live). record { scene = c.self.inside.scene; nodes = ns }) left
    ∙ ap {B = TreeOf} (λ (t : TreeOf). record { scene = t.scene; nodes = without_rows c.args.auth.now t.nodes }) c.self.view_is
