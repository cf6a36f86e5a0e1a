use Rattle.std.proofs.Common.{◌≡◌, ℕ, List, Option, Some, None, ap, sym, ◌∙◌}
use Rattle.std.specs.Prelude.{slice_get}
use Rattle.scene_model.specs.declared.scene.Scene.{Scene}
use Rattle.scene_model.specs.declared.scene.SyncDef.{SyncDef}
use Rattle.scene_model.specs.Syncs.{Syncer}
use Rattle.peer_model.specs.Rows.{syncs_at}
use Rattle.peer_steps.specs.Tellings.{shown_told}
use Rattle.told_rows.specs.Places.{told_where}
use Rattle.told_rows.proofs.Steps.{syncer_here, no_id, no_def}
use Rattle.told_rows.proofs.rows.show_at.Goals as goal

pub returns-in_ok-show_sync-in-Some-item_at : goal.returns-in_ok-show_sync-in-Some-item_at
returns-in_ok-show_sync-in-Some-item_at c =
    let row = c.args.row.now in
    let defs = syncs_at c.args.tree.now.scene (Some row.place) in
    let id : slice_get row.ids c.args.k ≡ Some c.in-Some.id.now = sym (c.in-Some.ensures ∙ ap (λ (ids : List ℕ). slice_get ids c.args.k) c.as_slice.ensures) in
    let def : slice_get defs c.args.k ≡ Some c.in-Some-item_at.def.now = sym (c.in-Some-item_at.ensures ∙ ap (λ (ds : List SyncDef). slice_get ds c.args.k) (c.syncs_of.ensures ∙ ap (λ (s : Scene). syncs_at s (Some row.place)) c.scene.ensures)) in
    c.in_ok-show_sync-in-Some-item_at.ensures
    ∙ sym (ap (λ (o : Option Syncer). told_where c.args.peer.now (shown_told c.args.tree.now.scene c.args.tree.now.nodes row) o c.args.told.now) (syncer_here row.path 0 row.ids defs c.args.k c.in-Some.id.now c.in-Some-item_at.def.now id def))

pub returns-in-None-item_at : goal.returns-in-None-item_at
returns-in-None-item_at c =
    let row = c.args.row.now in
    let defs = syncs_at c.args.tree.now.scene (Some row.place) in
    let def : slice_get defs c.args.k ≡ None = sym (c.in-None-item_at.ensures ∙ ap (λ (ds : List SyncDef). slice_get ds c.args.k) (c.syncs_of.ensures ∙ ap (λ (s : Scene). syncs_at s (Some row.place)) c.scene.ensures)) in
    sym (ap (λ (o : Option Syncer). told_where c.args.peer.now (shown_told c.args.tree.now.scene c.args.tree.now.nodes row) o c.args.told.now) (no_def row.path 0 row.ids defs c.args.k def))

pub returns-in-None : goal.returns-in-None
returns-in-None c =
    let row = c.args.row.now in
    let defs = syncs_at c.args.tree.now.scene (Some row.place) in
    let id : slice_get row.ids c.args.k ≡ None = sym (c.in-None.ensures ∙ ap (λ (ids : List ℕ). slice_get ids c.args.k) c.as_slice.ensures) in
    sym (ap (λ (o : Option Syncer). told_where c.args.peer.now (shown_told c.args.tree.now.scene c.args.tree.now.nodes row) o c.args.told.now) (no_id row.path 0 row.ids defs c.args.k id))
