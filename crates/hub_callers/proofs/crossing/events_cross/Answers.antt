use denote.Exit.{yes}
use Rattle.hub_callers.proofs.crossing.events_cross.Goals as goal

pub returns-clause-sent : goal.returns-clause-sent
returns-clause-sent c = record { owned = c.sent.ensures.owned; leaving = λ k. c.sent.ensures.leaving yes }

pub returns-clause-shared : goal.returns-clause-shared
returns-clause-shared c = record { shared = c.shared.ensures.shared }
