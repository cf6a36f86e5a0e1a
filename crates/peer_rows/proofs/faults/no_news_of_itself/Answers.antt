use Rattle.std.proofs.Common.{refl}
use Rattle.peer_rows.proofs.faults.no_news_of_itself.Goals as goal

pub returns : goal.returns
returns c = refl
