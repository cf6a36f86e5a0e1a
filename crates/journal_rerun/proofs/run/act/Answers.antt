use Rattle.std.proofs.Common.{Ok, sym, subst}
use Rattle.scene_model.specs.declared.event.Event.TheVariants as event
use Rattle.journal_text.specs.Held.{IsGivenEntry}
use Rattle.journal_rerun.proofs.GivenOps.{op_is_sound, same_peer}
use Rattle.journal_rerun.specs.Stages.{TakesEntry, TakesHappening}
use Rattle.journal_rerun.proofs.run.act.Goals as goal

pub happen-requires-in-Op-clause-sound : goal.happen-requires-in-Op-clause-sound
happen-requires-in-Op-clause-sound c = op_is_sound c.in-Op.op (subst IsGivenEntry c.in-Op.is c.requires)

pub returns-in-Up-clause-takes : goal.returns-in-Up-clause-takes
returns-in-Up-clause-takes c = λ who es holds.
    subst (λ l. TakesEntry c.args.n who es (Ok l) c.args.text.now.items c.happen.result c.happen.new.text.items c.happen.new.peer) (sym c.in-Up.is)
    (subst (λ p. TakesHappening c.args.n who es (event.Up p) c.args.text.now.items c.happen.result c.happen.new.text.items c.happen.new.peer)
    (same_peer c.in-Up.other (subst IsGivenEntry c.in-Up.is c.requires)) (c.happen.ensures.takes who es holds))

pub returns-in-Down-clause-takes : goal.returns-in-Down-clause-takes
returns-in-Down-clause-takes c = λ who es holds.
    subst (λ l. TakesEntry c.args.n who es (Ok l) c.args.text.now.items c.happen-in-Down.result c.happen-in-Down.new.text.items c.happen-in-Down.new.peer) (sym c.in-Down.is)
    (subst (λ p. TakesHappening c.args.n who es (event.Down p) c.args.text.now.items c.happen-in-Down.result c.happen-in-Down.new.text.items c.happen-in-Down.new.peer)
    (same_peer c.in-Down.other (subst IsGivenEntry c.in-Down.is c.requires)) (c.happen-in-Down.ensures.takes who es holds))

pub returns-in-Got-clause-takes : goal.returns-in-Got-clause-takes
returns-in-Got-clause-takes c = λ who es holds.
    subst (λ l. TakesEntry c.args.n who es (Ok l) c.args.text.now.items c.happen-in-Got.result c.happen-in-Got.new.text.items c.happen-in-Got.new.peer) (sym c.in-Got.is)
    (subst (λ p. TakesHappening c.args.n who es (event.Received p c.in-Got.class c.in-Got.bytes) c.args.text.now.items c.happen-in-Got.result c.happen-in-Got.new.text.items c.happen-in-Got.new.peer)
    (same_peer c.in-Got.from (subst IsGivenEntry c.in-Got.is c.requires)) (c.happen-in-Got.ensures.takes who es holds))
