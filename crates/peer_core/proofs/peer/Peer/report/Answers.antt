use Rattle.std.proofs.Common.{ap, ◌∙◌, map}
use Rattle.scene_model.specs.declared.report.Report.{Report}
use Rattle.peer_model.specs.View.{row_of}
use Rattle.peer_steps.specs.Kept.{Kept}
use Rattle.peer_steps.proofs.Clauses.{reported}
use Rattle.peer_core.proofs.peer.Peer.report.Goals as goal

pub returns-in-Ok-clause-report : goal.returns-in-Ok-clause-report
returns-in-Ok-clause-report c = λ es h. c.in-Ok.ensures
    ∙ ap {B = Report} (λ up. record { peers = up; rows = map row_of c.self.inside.tree.nodes }) c.up_now.ensures
    ∙ ap {B = Report} (λ (k : Kept). record { peers = k.peers.up; rows = map row_of k.nodes }) c.self.view_is
    ∙ reported c.args.self.now _ h
