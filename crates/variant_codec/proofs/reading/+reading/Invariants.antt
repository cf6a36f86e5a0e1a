use Rattle.std.proofs.Common.{◌≡◌, ◌-◌, ◌+◌, ◌*◌, [], map}
use Rattle.gd_variant.specs.Tree.{plain, plain_pair}
use Rattle.variant_codec.specs.Readers.{list_by}
use Rattle.variant_codec.specs.Reading.{value_at, pair_by}
use Rattle.variant_codec.specs.Known.{AreKnown}
use Rattle.variant_codec.proofs.reading.+reading.Given as goal

-- a value of so many levels comes before all that reads it
abbrev pub decreases-value_of : goal.decreases-value_of
decreases-value_of l = 7 * l.levels

abbrev pub decreases-key_of : goal.decreases-key_of
decreases-key_of l = 7 * l.levels + 1

abbrev pub decreases-fresh_key_of : goal.decreases-fresh_key_of
decreases-fresh_key_of l = 7 * l.levels + 1

abbrev pub decreases-pair_of : goal.decreases-pair_of
decreases-pair_of l = 7 * l.levels + 2

abbrev pub decreases-fresh_pair_of : goal.decreases-fresh_pair_of
decreases-fresh_pair_of l = 7 * l.levels + 2

abbrev pub decreases-few_pairs_of : goal.decreases-few_pairs_of
decreases-few_pairs_of l = 7 * l.levels + 3

abbrev pub decreases-many_pairs_of : goal.decreases-many_pairs_of
decreases-many_pairs_of l = 7 * l.levels + 3

abbrev pub decreases-items_of : goal.decreases-items_of
decreases-items_of l = 7 * l.levels + 3

abbrev pub decreases-pairs_of : goal.decreases-pairs_of
decreases-pairs_of l = 7 * l.levels + 4

abbrev pub decreases-dict_of : goal.decreases-dict_of
decreases-dict_of l = 7 * l.levels + 5

abbrev pub decreases-array_of : goal.decreases-array_of
decreases-array_of l = 7 * l.levels + 5

abbrev pub decreases-body_of : goal.decreases-body_of
decreases-body_of l = 7 * l.levels + 6

-- what is left goes on from what was read
abbrev pub invariant-items_of-loop : goal.invariant-items_of-loop
invariant-items_of-loop l = list_by (λ _. value_at l.levels) (map plain l.items) (l.count - l.counter) l.rest ≡ list_by (λ _. value_at l.levels) [] l.count l.bytes

abbrev pub invariant-few_pairs_of-loop : goal.invariant-few_pairs_of-loop
invariant-few_pairs_of-loop l = list_by (pair_by (value_at l.levels)) (map plain_pair l.items) (l.count - l.counter) l.rest ≡ list_by (pair_by (value_at l.levels)) [] l.count l.bytes

abbrev pub invariant-many_pairs_of-loop : goal.invariant-many_pairs_of-loop
invariant-many_pairs_of-loop l = record {
  reads : list_by (pair_by (value_at l.levels)) (map plain_pair l.items) (l.count - l.counter) l.rest ≡ list_by (pair_by (value_at l.levels)) [] l.count l.bytes;
  known : AreKnown l.seen (map plain_pair l.items);
}
