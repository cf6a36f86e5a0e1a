use Rattle.std.proofs.Common.{arith, sym, ◌∙◌}
use Rattle.mp_world.proofs.Puts.{found_here, found_later}
use Rattle.mp_world.proofs.client.client_place.Goals as goal

pub returns-then-is_same : goal.returns-then-is_same
returns-then-is_same c =
    found_here c.args.number.now c.args.clients.now.items c.loop-place.place c.index.result.now _ (omega (arith, c.loop-place-test.true, c.len-place-end.ensures, c.args.clients.now.ok.0)) c.index.ensures c.loop-place.invariant c.behind-clients.view_is (sym c.is_same.ensures ∙ c.if-is_same.true)

pub loop-place-preserved : goal.loop-place-preserved
loop-place-preserved c =
    found_later c.args.number.now c.args.clients.now.items c.loop-place.place c.index.result.now _ (omega (arith, c.loop-place-test.true, c.len-place-end.ensures, c.args.clients.now.ok.0)) c.index.ensures c.loop-place.invariant c.behind-clients.view_is (sym c.is_same.ensures ∙ c.if-is_same.false)
