use Rattle.std.proofs.Common.{ℕ, List, ap, ◌∙◌}
use Rattle.headless_tree.specs.Nodes.{TreeOf, without_spawned}
use Rattle.spawn_track.proofs.Steps.{despawn_no, despawn_is}
use Rattle.spawn_track.proofs.track.Track.despawn.Goals as goal

pub returns-in-Some : goal.returns-in-Some
returns-in-Some c = despawn_no c.args.me.now c.args.path.now c.args.self.now c.args.tree.now c.in-Some.refusal c.judge_despawn.result c.judge_despawn.ensures c.in-Some.is

pub returns-in-None : goal.returns-in-None
returns-in-None c = despawn_is c.args.me.now c.args.path.now c.args.self.now c.take_row-shown.new.self c.args.tree.now c.remove.new.self c.judge_despawn.result c.number_at-num.result c.take_row-shown.result.items c.judge_despawn.ensures c.in-None.is c.number_at-num.ensures
    (c.remove.ensures.nodes ∙ ap {B = TreeOf} (λ (p : List ℕ). record { scene = c.args.tree.now.scene; nodes = without_spawned p c.args.tree.now.nodes }) c.as_str.ensures.same)
    c.take_row-shown.ensures.shown c.take_row-shown.ensures.track
