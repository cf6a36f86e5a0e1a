use Rattle.std.proofs.Common.{◌∙◌, ap, rules}
use Rattle.std.specs.Prelude.{insert, int_lt}
use Rattle.std.proofs.lemmas.Int.{to_z-of_z}
use Rattle.std.proofs.Common.{ap, ◌∙◌, w32}
use Rattle.peer_steps.proofs.Put.{put_at}
use Rattle.relay_sys.proofs.peers.put_number.Goals as goal

pub returns-clause-ok : goal.returns-clause-ok
returns-clause-ok c = c.in_ok-insert.ensures.items
    ∙ ap (insert c.args.up.now.items c.place_of-place.result) (to_z-of_z w32 c.args.peer.now (search rules))
    ∙ put_at int_lt c.args.peer.now c.args.up.now.items c.deref.result.now c.place_of-place.result c.place_of-place.ensures.place c.deref.ensures.value
