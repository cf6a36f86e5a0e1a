use Rattle.std.proofs.Common.{◌<◌, ℕ, List, None, map, take, length, get_or, ap, sym, subst, ◌∙◌, arith}
use Rattle.scene_model.specs.declared.scene.Node.{Node}
use Rattle.scene_check.specs.Places.{IsFirstFrom, IsNext, target_of}
use Rattle.scene_check.proofs.IndexLaws.{target_within, free_before, clash_found, free_past, free_all}
use Rattle.scene_check.proofs.validity.index.prop_is_before.Goals as goal

pub returns-then-at-found : goal.returns-then-at-found
returns-then-at-found c =
    let nodes = c.args.index.now.scene.now.nodes in
    let texts = take 4096 (map target_of nodes) in
    let first = subst (λ (t : List ℕ). IsFirstFrom t c.loop-found.from texts c.in-Some.found) c.bytes_of-of.ensures (c.in-Some.ensures texts c.requires.indexed.targets) in
    free_before nodes c.args.def.now c.loop-found.from c.in-Some.found c.args.at c.loop-found.invariant.free first c.if-at-found.true

pub bounds-nodes-found : goal.bounds-nodes-found
bounds-nodes-found c =
    let nodes = c.args.index.now.scene.now.nodes in
    let texts = take 4096 (map target_of nodes) in
    let w = target_within nodes c.bytes_of-of.result.now c.loop-found.from c.in-Some.found (c.in-Some.ensures texts c.requires.indexed.targets) in
    subst (λ (ns : List Node). c.in-Some.found < length ns) (sym c.as_slice-nodes.ensures) w.1

pub returns-then-shares_with : goal.returns-then-shares_with
returns-then-shares_with c =
    let nodes = c.args.index.now.scene.now.nodes in
    let texts = take 4096 (map target_of nodes) in
    let first = subst (λ (t : List ℕ). IsFirstFrom t c.loop-found.from texts c.in-Some.found) c.bytes_of-of.ensures (c.in-Some.ensures texts c.requires.indexed.targets) in
    let n = c.index-nodes-found.result in
    clash_found nodes c.args.def.now c.loop-found.from c.in-Some.found c.args.at n first c.if-at-found.false (c.index-nodes-found.is ∙ ap (λ (ns : List Node). get_or ns c.in-Some.found n) c.as_slice-nodes.ensures) (sym c.shares_with.ensures ∙ c.if-shares_with.true)

pub loop-found-smaller : goal.loop-found-smaller
loop-found-smaller c =
    let nodes = c.args.index.now.scene.now.nodes in
    let texts = take 4096 (map target_of nodes) in
    let first = c.in-Some.ensures texts c.requires.indexed.targets in
    let w = target_within nodes c.bytes_of-of.result.now c.loop-found.from c.in-Some.found first in
    omega (arith, w.0, first.from_on)

pub loop-found-preserved : goal.loop-found-preserved
loop-found-preserved c =
    let nodes = c.args.index.now.scene.now.nodes in
    let texts = take 4096 (map target_of nodes) in
    let first = subst (λ (t : List ℕ). IsFirstFrom t c.loop-found.from texts c.in-Some.found) c.bytes_of-of.ensures (c.in-Some.ensures texts c.requires.indexed.targets) in
    let n = c.index-nodes-found.result in
    let w = target_within nodes c.args.def.now.of c.loop-found.from c.in-Some.found first in
    record {
      within = omega (arith, w.0);
      free = free_past nodes c.args.def.now c.loop-found.from c.in-Some.found n c.loop-found.invariant.free first (c.index-nodes-found.is ∙ ap (λ (ns : List Node). get_or ns c.in-Some.found n) c.as_slice-nodes.ensures) (sym c.shares_with.ensures ∙ c.if-shares_with.false);
    }

pub returns : goal.returns
returns c =
    let nodes = c.args.index.now.scene.now.nodes in
    let texts = take 4096 (map target_of nodes) in
    let none = subst (λ (t : List ℕ). IsNext t c.loop-found.from texts None) c.bytes_of-of.ensures (c.in_default.ensures texts c.requires.indexed.targets) in
    free_all nodes c.args.def.now c.loop-found.from c.args.at c.requires.front c.loop-found.invariant.free none
