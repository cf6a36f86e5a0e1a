use Rattle.std.proofs.Common.{refl}
use Rattle.peer_rows.proofs.limits.sixty_four_clients.Goals as goal

pub returns : goal.returns
returns c = (refl, refl)
