use Rattle.std.proofs.Common.{inr}
use Rattle.value_cli.proofs.Told.{fault_told}
use Rattle.value_cli.proofs.answers.told.Goals as goal

pub returns-in_ok-text-in-Err-Bad : goal.returns-in_ok-text-in-Err-Bad
returns-in_ok-text-in-Err-Bad c =
    let is = c.in-Err-Bad.field-0-is in inr (fault_told c.in-Err-Bad.bad c.in-Err-Bad.ensures.bad (cc) c.in_ok-text-in-Err-Bad.ensures)
