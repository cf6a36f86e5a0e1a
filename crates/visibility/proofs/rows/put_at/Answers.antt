use Rattle.std.proofs.Common.{arith}
use Rattle.visibility.specs.Settings.{change_of}
use Rattle.visibility.proofs.Kept.{set_changes, past_same, low_same}
use Rattle.visibility.proofs.rows.put_at.Goals as goal

pub returns-in_ok-put : goal.returns-in_ok-put
returns-in_ok-put c = set_changes (change_of c.args.setting.now).change c.args.syncs.now.items c.args.k c.index_mut.result.now _ (low_same c.args.syncs.now.items c.args.k c.len.result (omega (arith, c.len.ensures, c.args.syncs.now.ok.0)) c.if-k-len.true) c.index_mut.ensures.value c.in_ok-put.ensures

pub returns-else-k-len : goal.returns-else-k-len
returns-else-k-len c = past_same (change_of c.args.setting.now).change c.args.syncs.now.items c.args.k c.len.result (omega (arith, c.len.ensures, c.args.syncs.now.ok.0)) c.if-k-len.false
