use Rattle.std.proofs.Common.{◌≡◌}
use Rattle.turn_hub.proofs.seat.Hub.wait.Given as goal

abbrev pub invariant-loop : goal.invariant-loop
invariant-loop g l = record {
  next : (goal.iterator-loop g).can_next l.iterator';
  finite : (goal.iterator-loop g).is_finite l.iterator';
  table : l.me.table_id ≡ l.fn.me.table_id;
  id : l.me.id ≡ l.fn.me.id;
  me : l.me.me ≡ l.fn.me.me;
}
