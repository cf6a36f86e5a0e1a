use Rattle.std.proofs.Common.{subst, w32, Some, true}
use Rattle.std.specs.Prelude.{IfOk, option_map, Err, ◌≡◌, ◌↔◌, false}
use Rattle.std.proofs.lemmas.Int.{to_z-of_z}
use Rattle.mp_world.specs.declared.world.ReportNo.TheVariants as report_no
use Rattle.world_steps.specs.Steps.{live_parts, kept_at, kept_report, has_peer, is_spent}
use Rattle.world_steps.proofs.Calls.{report_is, nobody_is, there_is, never_spent, values_are}
use Rattle.mp_world.proofs.Fields.{live_is}
use Rattle.mp_world.proofs.world.World.report.Goals as goal

pub returns-clause-report : goal.returns-clause-report
returns-clause-report c = λ es stands.
    let seen = to_z-of_z w32 c.args.peer c.ranges.peer in
    report_is c.report_at.result c.args.self.now es c.args.peer stands
    (subst (λ v. IfOk c.report_at.result (λ r. option_map kept_report (kept_at v c.args.peer) ≡ Some r)) (live_is c.args.self.now _ _ _ _ _ c.self.view_is c.if-self.false)
    (subst (λ p. IfOk c.report_at.result (λ r. option_map kept_report (kept_at (live_parts c.self.inside.server c.self.inside.come c.self.inside.put c.self.inside.clients.items) p) ≡ Some r)) seen (c.report_at.ensures.report c.self.inside.come c.self.inside.put)))

pub returns-clause-values : goal.returns-clause-values
returns-clause-values c = λ es a stands joined. values_are c.report_at.result c.args.self.now es a c.args.peer stands (returns-clause-report c es stands) joined

pub returns-clause-no_peer : goal.returns-clause-no_peer
returns-clause-no_peer c = λ es stands.
    let seen = to_z-of_z w32 c.args.peer c.ranges.peer in
    nobody_is (c.report_at.result ≡ Err report_no.NoPeer) c.args.self.now es c.args.peer stands
    (subst (λ v. (c.report_at.result ≡ Err report_no.NoPeer) ↔ (has_peer v c.args.peer ≡ false)) (live_is c.args.self.now _ _ _ _ _ c.self.view_is c.if-self.false)
    (subst (λ p. (c.report_at.result ≡ Err report_no.NoPeer) ↔ (has_peer (live_parts c.self.inside.server c.self.inside.come c.self.inside.put c.self.inside.clients.items) p ≡ false)) seen (c.report_at.ensures.no_peer c.self.inside.come c.self.inside.put)))

pub returns-clause-there : goal.returns-clause-there
returns-clause-there c = λ es stands.
    let seen = to_z-of_z w32 c.args.peer c.ranges.peer in
    there_is c.report_at.result c.args.self.now es c.args.peer stands
    (subst (λ v. IfOk c.report_at.result (λ r. option_map kept_report (kept_at v c.args.peer) ≡ Some r)) (live_is c.args.self.now _ _ _ _ _ c.self.view_is c.if-self.false)
    (subst (λ p. IfOk c.report_at.result (λ r. option_map kept_report (kept_at (live_parts c.self.inside.server c.self.inside.come c.self.inside.put c.self.inside.clients.items) p) ≡ Some r)) seen (c.report_at.ensures.report c.self.inside.come c.self.inside.put)))

pub returns-clause-live : goal.returns-clause-live
returns-clause-live c = λ es stands spent.
    let seen = to_z-of_z w32 c.args.peer c.ranges.peer in
    never_spent c.args.self.now es c.args.peer stands
    (subst (λ v. option_map is_spent (kept_at v c.args.peer) ≡ Some true) (live_is c.args.self.now _ _ _ _ _ c.self.view_is c.if-self.false)
    (subst (λ p. option_map is_spent (kept_at (live_parts c.self.inside.server c.self.inside.come c.self.inside.put c.self.inside.clients.items) p) ≡ Some true) seen (c.report_at.ensures.spent c.self.inside.come c.self.inside.put spent)))
