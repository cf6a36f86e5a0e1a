use Rattle.std.proofs.Common.{◌≡◌, ap, ◌∙◌, w32, Some, None, rules}
use Rattle.std.specs.Prelude.{position}
use Rattle.std.proofs.lemmas.Int.{to_z-of_z}
use Rattle.headless_tree.specs.Numbers.{has_number}
use Rattle.delta_props.specs.Taking.{row_placed, row_sync}
use Rattle.delta_props.proofs.taking.row_meant.Goals as goal

pub returns-in-Some-row_at : goal.returns-in-Some-row_at
returns-in-Some-row_at c =
    let at : Some c.in-Some.place ≡ position (has_number c.args.from.now c.args.id) c.args.tree.now.nodes = c.in-Some.ensures ∙ ap (λ z. position (has_number z c.args.id) c.args.tree.now.nodes) (to_z-of_z w32 c.args.from.now (search rules)) in
    c.row_sync.ensures ∙ ap (row_sync c.args.tree.now.scene c.args.id c.in-Some.place) c.in-Some-row_at.ensures ∙ ap (row_placed c.args.tree.now.scene c.args.tree.now.nodes c.args.id) at

pub returns-in-None-row_at : goal.returns-in-None-row_at
returns-in-None-row_at c =
    let at : Some c.in-Some.place ≡ position (has_number c.args.from.now c.args.id) c.args.tree.now.nodes = c.in-Some.ensures ∙ ap (λ z. position (has_number z c.args.id) c.args.tree.now.nodes) (to_z-of_z w32 c.args.from.now (search rules)) in
    ap (row_sync c.args.tree.now.scene c.args.id c.in-Some.place) c.in-None-row_at.ensures ∙ ap (row_placed c.args.tree.now.scene c.args.tree.now.nodes c.args.id) at

pub returns-in-None : goal.returns-in-None
returns-in-None c =
    let at : None ≡ position (has_number c.args.from.now c.args.id) c.args.tree.now.nodes = c.in-None.ensures ∙ ap (λ z. position (has_number z c.args.id) c.args.tree.now.nodes) (to_z-of_z w32 c.args.from.now (search rules)) in
    ap (row_placed c.args.tree.now.scene c.args.tree.now.nodes c.args.id) at
