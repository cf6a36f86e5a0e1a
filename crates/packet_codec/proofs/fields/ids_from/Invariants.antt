use Rattle.std.proofs.Common.{◌≡◌, ◌-◌, []}
use Rattle.std.specs.Int.{w32}
use Rattle.byte_fields.specs.Fields.{number_at}
use Rattle.variant_codec.specs.Readers.{list_by}
use Rattle.packet_codec.proofs.fields.ids_from.Given as goal

-- what is left goes on from what was read
abbrev pub invariant-loop : goal.invariant-loop
invariant-loop l = list_by (λ _. number_at w32) l.ids (l.count - l.counter) l.rest ≡ list_by (λ _. number_at w32) [] l.count l.bytes
