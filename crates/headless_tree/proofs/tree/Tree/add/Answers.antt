use Rattle.std.proofs.Common.{List, sym, ap, subst, ◌∙◌, map, is_some}
use Rattle.std.specs.List.{insert, prefix_len, list_any}
use Rattle.std.specs.String.{string_bytes}
use Rattle.headless_tree.specs.declared.node.NodeNow.{NodeNow}
use Rattle.scene_model.proofs.ListLaws.{found_is_any}
use Rattle.scene_model.specs.Nodes.{Live}
use Rattle.headless_tree.specs.Nodes.{TreeOf, KeepsFixed, live, is_at, row_before}
use Rattle.headless_tree.specs.Numbers.{are_free, has_paths_once, has_its_path, is_numbered, numbers_of, HasNoOthers}
use Rattle.headless_tree.specs.Order.{are_in_order}
use Rattle.headless_tree.proofs.Order.{order_put, first_new}
use Rattle.headless_tree.proofs.Fixed.{keeps_more}
use Rattle.headless_tree.proofs.Changes.{map-insert}
use Rattle.headless_tree.proofs.Numbered.{once_insert, all_insert, numbered_beside}
use Rattle.headless_tree.proofs.Exact.{only_more, only_undone, others_twice}
use Rattle.headless_tree.proofs.Made.{free_path, paths_put_in, put_in, put_seen}
use Rattle.headless_tree.proofs.tree.Tree.add.Goals as goal

pub put_text-requires-clause-fresh : goal.put_text-requires-clause-fresh
put_text-requires-clause-fresh c = free_path string_bytes c.self.inside.paths.keys c.args.self.now c.self.inside.scene c.self.inside.nodes.items c.args.node.path c.self.invariant.0 c.self.view_is c.requires.path

pub invariant_of-self-in-Ok-put_text : goal.invariant_of-self-in-Ok-put_text
invariant_of-self-in-Ok-put_text c =
    let at = c.count_before-at.result in
    let put = c.in-Ok-insert.ensures.items ∙ ap (λ (xs : List NodeNow). insert xs at c.args.node) c.in_ok-reserve.ensures.items in
    let seen = ap (map live) put ∙ map-insert live c.self.inside.nodes.items at c.args.node in
    let all = map live c.self.inside.nodes.items in
    let same = ap (λ (t : TreeOf). t.nodes) c.self.view_is in
    let fresh = ap (λ (ns : List Live). list_any (is_at c.args.node.path) ns) same ∙ sym (found_is_any (is_at c.args.node.path) c.args.self.now.nodes) ∙ ap is_some c.requires.path in
    let beside = numbered_beside (live c.args.node) all c.self.inside.numbers c.note.new.self (ap (are_free (live c.args.node)) same ∙ c.requires.numbers) c.note.ensures.others c.self.invariant.2 in (
      paths_put_in string_bytes c.self.inside.paths.keys c.put_text.new.texts.keys c.self.inside.nodes.items c.insert.new.self.items at c.args.node c.self.invariant.0 c.in-Ok-put_text.ensures.ok put,
      ap has_paths_once seen ∙ once_insert all at (live c.args.node) fresh c.self.invariant.1,
      ap (is_numbered c.note.new.self) seen ∙ all_insert (has_its_path c.note.new.self) all at (live c.args.node) c.in-Ok.ensures.put beside,
      ap are_in_order (put_seen c.self.inside.nodes.items c.insert.new.self.items at c.args.node put (c.count_before-at.ensures.count ∙ ap (prefix_len (λ (m : NodeNow). row_before (live m) (live c.args.node))) (c.as_slice.ensures.value ∙ c.in_ok-reserve.ensures.items)))
          ∙ order_put (live c.args.node) all c.requires.spawned (first_new (live c.args.node) all c.requires.spawned (ap (are_free (live c.args.node)) same ∙ c.requires.numbers)) c.self.invariant.3,
      subst (KeepsFixed c.self.inside.scene) (sym seen) (keeps_more c.self.inside.scene all at (live c.args.node) c.requires.spawned c.self.invariant.4),
      c.self.invariant.5,
      subst (HasNoOthers c.note.new.self) (sym seen) (only_more (live c.args.node) all at c.self.inside.numbers c.note.new.self c.note.ensures.others c.self.invariant.6),
    )

pub returns-in-Ok-insert-clause-ok : goal.returns-in-Ok-insert-clause-ok
returns-in-Ok-insert-clause-ok c = put_in c.args.self.now c.self.inside.scene c.self.inside.nodes.items c.insert.new.self.items c.count_before-at.result c.args.node c.self.view_is
    (c.in-Ok-insert.ensures.items ∙ ap (λ (xs : List NodeNow). insert xs c.count_before-at.result c.args.node) c.in_ok-reserve.ensures.items)
    (c.count_before-at.ensures.count ∙ ap (prefix_len (λ (m : NodeNow). row_before (live m) (live c.args.node))) (c.as_slice.ensures.value ∙ c.in_ok-reserve.ensures.items))

pub invariant_of-self-in-Err-note : goal.invariant_of-self-in-Err-note
invariant_of-self-in-Err-note c =
    let stays = c.in_ok-reserve.ensures.items in
    let node = live c.args.node in
    let all = map live c.self.inside.nodes.items in
    let now = c.forget-in-Err.new.self in
    let others = others_twice node.auth (numbers_of node) c.self.inside.numbers c.note.new.self now c.note.ensures.others c.forget-in-Err.ensures.others in
    let free = ap (λ (t : TreeOf). are_free node t.nodes) c.self.view_is ∙ c.requires.numbers in (
      c.self.invariant.0 ∙ ap (map (λ (m : NodeNow). m.path)) (sym stays),
      ap (λ (xs : List NodeNow). has_paths_once (map live xs)) stays ∙ c.self.invariant.1,
      ap (λ (xs : List NodeNow). is_numbered now (map live xs)) stays ∙ numbered_beside node all c.self.inside.numbers now free others c.self.invariant.2,
      ap (λ (xs : List NodeNow). are_in_order (map live xs)) stays ∙ c.self.invariant.3,
      subst (λ (xs : List NodeNow). KeepsFixed c.self.inside.scene (map live xs)) (sym stays) c.self.invariant.4,
      c.self.invariant.5,
      subst (λ (xs : List NodeNow). HasNoOthers now (map live xs)) (sym stays) (only_undone node all c.self.inside.numbers now others c.forget-in-Err.ensures.gone c.self.invariant.6),
    )

pub invariant_of-self-in-Err-put_text : goal.invariant_of-self-in-Err-put_text
invariant_of-self-in-Err-put_text c =
    let stays = c.in_ok-reserve.ensures.items in
    let node = live c.args.node in
    let all = map live c.self.inside.nodes.items in
    let now = c.forget.new.self in
    let others = others_twice node.auth (numbers_of node) c.self.inside.numbers c.note.new.self now c.note.ensures.others c.forget.ensures.others in
    let free = ap (λ (t : TreeOf). are_free node t.nodes) c.self.view_is ∙ c.requires.numbers in (
      ap (map string_bytes) c.in-Err-put_text.ensures.err ∙ c.self.invariant.0 ∙ ap (map (λ (m : NodeNow). m.path)) (sym stays),
      ap (λ (xs : List NodeNow). has_paths_once (map live xs)) stays ∙ c.self.invariant.1,
      ap (λ (xs : List NodeNow). is_numbered now (map live xs)) stays ∙ numbered_beside node all c.self.inside.numbers now free others c.self.invariant.2,
      ap (λ (xs : List NodeNow). are_in_order (map live xs)) stays ∙ c.self.invariant.3,
      subst (λ (xs : List NodeNow). KeepsFixed c.self.inside.scene (map live xs)) (sym stays) c.self.invariant.4,
      c.self.invariant.5,
      subst (λ (xs : List NodeNow). HasNoOthers now (map live xs)) (sym stays) (only_undone node all c.self.inside.numbers now others c.forget.ensures.gone c.self.invariant.6),
    )
