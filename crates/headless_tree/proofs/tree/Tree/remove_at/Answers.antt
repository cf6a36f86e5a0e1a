use Rattle.std.proofs.Common.{sym, ap, subst, ◌∙◌, map, Some}
use Rattle.std.specs.Prelude.{option_map, slice_get}
use Rattle.std.proofs.lemmas.Option.{slice_get-map, slice_get-get_or}
use Rattle.std.specs.String.{string_bytes}
use Rattle.gd_variant.specs.Words.{some_is}
use Rattle.headless_tree.specs.Nodes.{TreeOf, KeepsFixed, live, is_spawned}
use Rattle.headless_tree.specs.Numbers.{has_paths_once, is_numbered, HasNoOthers}
use Rattle.headless_tree.proofs.Changes.{map-remove}
use Rattle.headless_tree.specs.Order.{are_in_order}
use Rattle.headless_tree.proofs.Order.{order_remove}
use Rattle.headless_tree.proofs.Fixed.{keeps_less}
use Rattle.headless_tree.proofs.Numbered.{once_remove, numbered_less}
use Rattle.headless_tree.proofs.Spots.{low_in, paths_taken_away, taken_away}
use Rattle.headless_tree.proofs.Exact.{only_less}
use Rattle.headless_tree.proofs.tree.Tree.remove_at.Goals as goal

pub invariant_of-self : goal.invariant_of-self
invariant_of-self c =
    let left = ap (map live) c.remove-node.ensures.items ∙ map-remove live c.self.inside.nodes.items c.args.place in
    let there = slice_get-map live c.self.inside.nodes.items c.args.place ∙ ap (option_map live) (slice_get-get_or c.self.inside.nodes.items c.args.place c.remove-node.result (low_in c.args.self.now c.self.inside.scene c.self.inside.nodes.items c.args.place c.self.view_is c.requires.place) ∙ ap Some (sym c.remove-node.ensures.value)) in (
      paths_taken_away string_bytes c.self.inside.paths.keys c.shift_remove_index.new.self.keys c.self.inside.nodes.items c.remove-node.new.self.items c.args.place c.self.invariant.0 c.shift_remove_index.ensures.keys c.remove-node.ensures.items,
      ap has_paths_once left ∙ once_remove (map live c.self.inside.nodes.items) c.args.place c.self.invariant.1,
      ap (is_numbered c.forget.new.self) left
          ∙ numbered_less (map live c.self.inside.nodes.items) c.args.place (live c.remove-node.result) c.self.inside.numbers c.forget.new.self c.forget.ensures.others there c.self.invariant.1 c.self.invariant.2,
      ap are_in_order left ∙ order_remove (map live c.self.inside.nodes.items) c.args.place c.self.invariant.3,
      subst (KeepsFixed c.self.inside.scene) (sym left) (keeps_less c.self.inside.scene (map live c.self.inside.nodes.items) c.args.place (ap (λ (t : TreeOf). some_is is_spawned (slice_get t.nodes c.args.place)) c.self.view_is ∙ c.requires.spawned) c.self.invariant.4),
      c.self.invariant.5,
      subst (HasNoOthers c.forget.new.self) (sym left) (only_less (map live c.self.inside.nodes.items) c.args.place (live c.remove-node.result) c.self.inside.numbers c.forget.new.self c.forget.ensures.others c.forget.ensures.gone there c.self.invariant.6),
    )

pub returns : goal.returns
returns c = taken_away c.args.self.now c.self.inside.scene c.self.inside.nodes.items c.remove-node.new.self.items c.args.place c.self.view_is c.remove-node.ensures.items
