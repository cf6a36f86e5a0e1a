use Rattle.std.proofs.Common.{◌≡◌}
use Rattle.gd_variant.specs.Tree.{plain}
use Rattle.variant_codec.specs.Written.{written}
use Rattle.value_cli.proofs.repeats.written_often.Given as goal

abbrev pub invariant-loop : goal.invariant-loop
invariant-loop l = l.form ≡ written (plain l.value)
