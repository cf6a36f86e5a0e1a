use Rattle.std.proofs.Common.{ap, ◌∙◌, w32, to_z, of_z, SFits, rules}
use Rattle.std.proofs.lemmas.Int.{to_z-of_z}
use Rattle.delta_props.specs.Telling.{ToldValues, without_sync}
use Rattle.delta_props.proofs.told.Told.hide.Goals as goal

pub returns : goal.returns
returns c =
    let fits : SFits w32 c.args.peer.now = search rules in
    c.swap_remove.ensures.entries ∙ ap (λ (t : ToldValues). without_sync (to_z w32 (of_z w32 c.args.peer.now)) c.args.id t) c.self.view_is ∙ ap (λ z. without_sync z c.args.id c.args.self.now) (to_z-of_z w32 c.args.peer.now fits)
