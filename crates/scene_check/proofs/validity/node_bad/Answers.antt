use Rattle.std.proofs.Common.{◌<◌, List, length, get_or, [], ap, subst, ◌∙◌, arith}
use Rattle.gd_variant.specs.Words.{with_earlier}
use Rattle.scene_model.specs.declared.scene.Node.{Node}
use Rattle.scene_model.specs.Valid.{first_bad, node_why}
use Rattle.scene_model.proofs.EntryLaws.{bad_here, right_more, node_is_early}
use Rattle.scene_check.specs.Judged.{node_is_sound}
use Rattle.scene_check.proofs.SoundLaws.{passes_at}
use Rattle.scene_check.proofs.validity.node_bad.Goals as goal

pub node_why-requires-clause-sound : goal.node_why-requires-clause-sound
node_why-requires-clause-sound c =
    let s = c.args.index.now.scene.now in
    let low = subst (λ (ns : List Node). c.loop-at.at < length ns) c.as_slice-nodes.ensures c.loop-at-test.true in
    let is = c.index-nodes-at.is ∙ ap (λ (ns : List Node). get_or ns c.loop-at.at c.index-nodes-at.result) c.as_slice-nodes.ensures in
    λ judged. passes_at node_is_sound s.nodes c.loop-at.at c.index-nodes-at.result low is (c.requires.sound judged).nodes

pub returns-in-Some : goal.returns-in-Some
returns-in-Some c =
    let s = c.args.index.now.scene.now in
    let low = subst (λ (ns : List Node). c.loop-at.at < length ns) c.as_slice-nodes.ensures c.loop-at-test.true in
    let is = c.index-nodes-at.is ∙ ap (λ (ns : List Node). get_or ns c.loop-at.at c.index-nodes-at.result) c.as_slice-nodes.ensures in
    bad_here (node_why s) s.nodes c.loop-at.at c.index-nodes-at.result c.in-Some.why (first_bad (node_why s) (with_earlier [] s.nodes)) low is c.loop-at.invariant.left c.in-Some.ensures

pub loop-at-preserved : goal.loop-at-preserved
loop-at-preserved c =
    let s = c.args.index.now.scene.now in
    let low = subst (λ (ns : List Node). c.loop-at.at < length ns) c.as_slice-nodes.ensures c.loop-at-test.true in
    let is = c.index-nodes-at.is ∙ ap (λ (ns : List Node). get_or ns c.loop-at.at c.index-nodes-at.result) c.as_slice-nodes.ensures in
    right_more (node_why s) s.nodes c.loop-at.at c.index-nodes-at.result low is c.loop-at.invariant c.in_default.ensures (node_is_early s c.loop-at.at c.index-nodes-at.result (omega (arith, low)) c.in_default.ensures)
