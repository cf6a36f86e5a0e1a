use Rattle.std.proofs.Common.{rules, ◌≡◌, ◌∷◌, None, Some, Err, false, sym, subst}
use Rattle.line_runs.specs.Steps.{Takes}
use Rattle.mp_replay.specs.Sessions.{Took, fills, replay_told, session_of}
use Rattle.mp_replay.proofs.Begun.{first_taken}
use Rattle.mp_replay.proofs.Followed.{stopped_there, followed_there}
use Rattle.mp_replay.proofs.session.ReplayerLineTaker.take.Goals as goal

pub returns-in_ok-world-in-None-clause-takes : goal.returns-in_ok-world-in-None-clause-takes
returns-in_ok-world-in-None-clause-takes c = λ ls took number.
    let none : c.args.self.now.world ≡ None = search rules in
    first_taken c.args.self.now.world c.args.self.now.full ls c.args.line.now c.in_ok-world-in-None.world c.args.text.now.items none c.if-self.false took c.in_ok-world-in-None.ensures

pub returns-in_err-behind-in-Some-clause-takes : goal.returns-in_err-behind-in-Some-clause-takes
returns-in_err-behind-in-Some-clause-takes c = λ ls took number.
    let there : c.args.self.now.world ≡ Some c.in-Some.world = search rules in
    let same : c.from_residual.result ≡ Err c.in_err-behind-in-Some.field-0.0 = search rules in
    subst (λ r. Takes (replay_told ls c.args.line.now) (fills (session_of ls) c.args.line.now) c.args.text.now.items r c.take_event.new.text.items (Took (Some c.take_event.new.world) c.args.self.now.full (c.args.line.now ∷ ls))) (sym same)
    (stopped_there c.args.n c.args.self.now.world c.args.self.now.full ls c.args.line.now c.in-Some.world c.take_event.new.world c.args.text.now.items c.take_event.new.text.items c.in_err-behind-in-Some.field-0.0 _ there c.if-self.false took number
    c.in_err-behind-in-Some.ensures.takes)

pub returns-in_ok-behind-in-Some-clause-takes : goal.returns-in_ok-behind-in-Some-clause-takes
returns-in_ok-behind-in-Some-clause-takes c = λ ls took number.
    let there : c.args.self.now.world ≡ Some c.in-Some.world = search rules in
    followed_there c.args.n c.args.self.now.world c.args.self.now.full c.is_end-self.result ls c.args.line.now c.in-Some.world c.take_event.new.world c.args.text.now.items c.take_event.new.text.items c.in_ok-behind-in-Some.behind there c.if-self.false took number
    c.is_end-self.ensures c.in_ok-behind-in-Some.ensures.takes
