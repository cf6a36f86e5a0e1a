use Rattle.std.proofs.Common.{not, rules, tests}
use Rattle.std.specs.Ordering.{int_eq}
use Rattle.std.proofs.lemmas.Fn.{filter_same}
use Rattle.relay_sys.proofs.peers.drop_number.Goals as goal

pub returns : goal.returns
returns c = filter_same _ (λ b. not (int_eq b c.args.peer.now)) _ (λ x b f' k. search (rules, tests)) _ _ c.retain.ensures.filtered
