use Rattle.mp_replay.proofs.GivenLines.{given_is_sound, given_is_built}
use Rattle.mp_replay.proofs.session.act.Goals as goal

pub happen-requires-clause-sound : goal.happen-requires-clause-sound
happen-requires-clause-sound c = given_is_sound c.args.line c.in-Event.event c.in-Event.is c.requires

pub happen-requires-clause-built : goal.happen-requires-clause-built
happen-requires-clause-built c = given_is_built c.args.line c.in-Event.event c.in-Event.is c.requires
