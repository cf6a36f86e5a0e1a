use Rattle.std.proofs.Common.{◌≡◌, ◌-◌, []}
use Rattle.variant_codec.specs.Readers.{list_by}
use Rattle.variant_codec.specs.Reading.{short_at}
use Rattle.variant_codec.proofs.parts.vector_of.Given as goal

-- what is left goes on from what was read
abbrev pub invariant-loop : goal.invariant-loop
invariant-loop l = list_by (λ _. short_at) l.items (l.count - l.counter) l.rest ≡ list_by (λ _. short_at) [] l.count l.bytes
