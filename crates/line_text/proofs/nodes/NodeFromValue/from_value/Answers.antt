use Rattle.std.proofs.lemmas.Result.{err_from_is_err_and}
use Rattle.line_text.specs.Scenes.{node_read}
use Rattle.line_text.proofs.Steps.{fails_first}
use Rattle.line_text.proofs.nodes.NodeFromValue.from_value.Goals as goal

pub returns-in_err-key_of : goal.returns-in_err-key_of
unfolding node_read
returns-in_err-key_of c =
    let p = err_from_is_err_and c.from_residual-in_err-key_of.result c.from_residual-in_err-key_of.ensures.1 in
    rw (p.1, p.2, c.in_ok-members.ensures) (fails_first c.in_err-key_of.field-0.0 _ _ (fails_first c.in_err-key_of.field-0.0 _ _ c.in_err-key_of.ensures))

pub returns-in_err-auth : goal.returns-in_err-auth
unfolding node_read
returns-in_err-auth c =
    let p = err_from_is_err_and c.from_residual-in_err-auth.result c.from_residual-in_err-auth.ensures.1 in
    rw (p.1, p.2, c.in_ok-members.ensures, c.in_ok-key_of.ensures, c.in_ok-path.ensures) (fails_first c.in_err-auth.field-0.0 _ _ c.in_err-auth.ensures.gives)

pub returns-in_err-props : goal.returns-in_err-props
unfolding node_read
returns-in_err-props c =
    let p = err_from_is_err_and c.from_residual-in_err-props.result c.from_residual-in_err-props.ensures.1 in
    rw (p.1, p.2, c.in_ok-members.ensures, c.in_ok-key_of.ensures, c.in_ok-path.ensures, c.in_ok-auth.ensures.gives) (fails_first c.in_err-props.field-0.0 _ _ c.in_err-props.ensures)

pub returns-in_err-methods : goal.returns-in_err-methods
unfolding node_read
returns-in_err-methods c =
    let p = err_from_is_err_and c.from_residual-in_err-methods.result c.from_residual-in_err-methods.ensures.1 in
    rw (p.1, p.2, c.in_ok-members.ensures, c.in_ok-key_of.ensures, c.in_ok-path.ensures, c.in_ok-auth.ensures.gives, c.in_ok-props.ensures) (fails_first c.in_err-methods.field-0.0 _ _ c.in_err-methods.ensures)

pub returns-in_err-role : goal.returns-in_err-role
unfolding node_read
returns-in_err-role c =
    let p = err_from_is_err_and c.from_residual-in_err-role.result c.from_residual-in_err-role.ensures.1 in
    rw (p.1, p.2, c.in_ok-members.ensures, c.in_ok-key_of.ensures, c.in_ok-path.ensures, c.in_ok-auth.ensures.gives, c.in_ok-props.ensures, c.in_ok-methods.ensures) (fails_first c.in_err-role.field-0.0 _ _ c.in_err-role.ensures)
