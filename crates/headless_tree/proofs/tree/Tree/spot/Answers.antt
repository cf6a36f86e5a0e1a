use Rattle.std.proofs.Common.{true, false, refl, sym, ap}
use Rattle.scene_model.specs.Limits.{is_long}
use Rattle.headless_tree.specs.Nodes.{TreeOf, live}
use Rattle.headless_tree.proofs.Spots.{no_node, why_at, lacks, lacks_not, live_found, live_there}
use Rattle.headless_tree.proofs.tree.Tree.spot.Goals as goal

pub returns-in-None : goal.returns-in-None
returns-in-None c = no_node c.args.self.now.nodes c.args.path.now c.args.prop.now c.args.value.now (sym c.in-None.ensures.place)

pub returns-in-None-place_of : goal.returns-in-None-place_of
returns-in-None-place_of c =
    let same = ap (λ (t : TreeOf). t.nodes) (sym c.self.view_is) in
    why_at c.args.self.now.nodes c.args.path.now c.args.prop.now c.args.value.now (live c.index.result.now) true (is_long c.args.value.now)
    (live_found c.self.inside.nodes.items c.args.self.now.nodes c.args.path.now c.in-Some.place c.index.result.now same (sym c.in-Some.ensures.place) c.index.ensures)
    (lacks c.args.prop.now (live c.index.result.now) (sym c.in-None-place_of.ensures)) refl

pub returns-then-is_long : goal.returns-then-is_long
returns-then-is_long c =
    let same = ap (λ (t : TreeOf). t.nodes) (sym c.self.view_is) in
    why_at c.args.self.now.nodes c.args.path.now c.args.prop.now c.args.value.now (live c.index.result.now) false true
    (live_found c.self.inside.nodes.items c.args.self.now.nodes c.args.path.now c.in-Some.place c.index.result.now same (sym c.in-Some.ensures.place) c.index.ensures)
    (lacks_not c.args.prop.now (live c.index.result.now) c.in-Some-place_of.at (sym c.in-Some-place_of.ensures)) (sym c.if-is_long.ensures)

pub returns-else-is_long : goal.returns-else-is_long
returns-else-is_long c =
    let same = ap (λ (t : TreeOf). t.nodes) (sym c.self.view_is) in (
      why_at c.args.self.now.nodes c.args.path.now c.args.prop.now c.args.value.now (live c.index.result.now) false false
          (live_found c.self.inside.nodes.items c.args.self.now.nodes c.args.path.now c.in-Some.place c.index.result.now same (sym c.in-Some.ensures.place) c.index.ensures)
          (lacks_not c.args.prop.now (live c.index.result.now) c.in-Some-place_of.at (sym c.in-Some-place_of.ensures)) (sym c.if-is_long.ensures),
      record {
        node = live c.index.result.now;
        there = live_there c.self.inside.nodes.items c.args.self.now.nodes c.args.path.now c.in-Some.place c.index.result.now same (sym c.in-Some.ensures.place) c.index.ensures;
        first = sym c.in-Some.ensures.place;
        named = sym c.in-Some-place_of.ensures;
      },
    )
