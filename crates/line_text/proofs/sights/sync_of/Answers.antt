use Rattle.line_text.proofs.Held.{place_within}
use Rattle.line_text.proofs.sights.sync_of.Goals as goal

pub returns-clause-place : goal.returns-clause-place
returns-clause-place c = place_within _ c.in_ok-k.ensures.high
