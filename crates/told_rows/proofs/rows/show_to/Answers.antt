use Rattle.std.proofs.Common.{◌≡◌, ap, sym, ◌∙◌, length, drop, arith}
use Rattle.scene_model.specs.Syncs.{Syncer}
use Rattle.peer_model.specs.Rows.{syncs_at}
use Rattle.telling_laws.specs.Telling.{told_all}
use Rattle.peer_steps.specs.Tellings.{shown_told, syncers_in}
use Rattle.std.proofs.Common.{List, Some}
use Rattle.told_rows.proofs.Steps.{told_on, past_ids}
use Rattle.told_rows.proofs.rows.show_to.Goals as goal

pub loop-k-preserved : goal.loop-k-preserved
loop-k-preserved c = told_on c.args.peer.now (shown_told c.args.tree.now.scene c.args.tree.now.nodes c.args.row.now) (syncers_in c.args.tree.now.scene c.args.row.now) c.loop-k.k c.loop-k.told c.show_at.new.told _ c.loop-k.invariant c.in_ok-show_at.ensures

pub returns : goal.returns
returns c =
    let row = c.args.row.now in
    let values = shown_told c.args.tree.now.scene c.args.tree.now.nodes row in
    let ys = syncers_in c.args.tree.now.scene row in
    let end : c.loop-k.k ≡ length row.ids = omega (arith, c.loop-k-test.false, c.loop-k.auto.k-end, c.len-k-end.ensures) in
    sym (ap (λ k. told_all c.args.peer.now values (drop k ys) c.loop-k.told) end ∙ ap (λ (zs : List Syncer). told_all c.args.peer.now values zs c.loop-k.told) (past_ids row.path 0 row.ids (syncs_at c.args.tree.now.scene (Some row.place)))) ∙ c.loop-k.invariant
