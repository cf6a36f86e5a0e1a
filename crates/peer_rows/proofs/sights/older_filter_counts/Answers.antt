use Rattle.std.proofs.Common.{refl}
use Rattle.peer_rows.proofs.sights.older_filter_counts.Goals as goal

pub returns : goal.returns
returns c = refl
