use Rattle.std.proofs.Common.{◌≡◌, ◌-◌, []}
use Rattle.variant_codec.specs.Readers.{list_by}
use Rattle.packet_form.specs.Reading.{value_at}
use Rattle.packet_codec.proofs.call.some_values_from.Given as goal

-- what is left goes on from what was read
abbrev pub invariant-loop : goal.invariant-loop
invariant-loop l = list_by (λ _. value_at) l.values (l.count - l.counter) l.rest ≡ list_by (λ _. value_at) [] l.count l.bytes
