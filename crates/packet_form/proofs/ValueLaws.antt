-- Values, and values up to the end.
use Rattle.std.proofs.Common.{◌≡◌, List, [], Err, refl, sym, ap, subst, ◌∙◌}
use Rattle.std.specs.Prelude.{ℕ}
use Rattle.byte_fields.specs.Fields.{fault, number_at}
use Rattle.gd_variant.specs.Back.{value_of}
use Rattle.gd_variant.specs.Tree.{plain as tree_of}
use Rattle.gd_variant.specs.declared.value.Variant.{Variant}
use Rattle.gd_variant.specs.declared.message.Why.TheVariants.{Short}
use Rattle.gd_variant.proofs.TreeOf.{plain_back, plain_there}
use Rattle.variant_codec.specs.Readers.{Mapped}
use Rattle.variant_codec.specs.Reading.{value_at as tree_at, header_at, small_by, small_at}
use Rattle.variant_codec.specs.Breaks.{BreaksSmall}
use Rattle.variant_codec.proofs.Laws.{IsReader, mapped_reader, then_reader, seen}
use Rattle.variant_codec.proofs.Fields.{word32}
use Rattle.variant_codec.proofs.Small.{SmallWithin, small_reader}
use Rattle.variant_codec.proofs.Spelled.{small_spelled_right}
use Rattle.packet_form.specs.Reading.{value_at, values_at, sized_values_at}
use Rattle.packet_form.specs.Grammar.{IsValue, IsValues, IsSizedValues}
use Rattle.packet_form.specs.Breaks.{ValuesBreak, SizedValuesBreak}
use Rattle.packet_form.proofs.Wholes.{IsWhole, IsNeverEmpty, never_empty, filled_whole, region_reader}

value_to : (v : Variant) (b : List ℕ) → Mapped value_of SmallWithin v b → IsValue v b
value_to v b (t, e, (deep, s)) =
    let is : tree_of v ≡ t = ap tree_of e ∙ plain_there t (small_spelled_right t b s) in
    subst (λ u. SmallWithin u b) (sym is) (deep, s)

value_from : (v : Variant) (b : List ℕ) → IsValue v b → Mapped value_of SmallWithin v b
value_from v b h = (tree_of v, sym (plain_back v), h)

pub value_reader : IsReader value_at IsValue BreaksSmall
unfolding value_at
value_reader = seen (mapped_reader value_of small_reader) value_to value_from

-- no value stands in no byte
no_value : value_at [] ≡ Err (fault 0 Short)
unfolding value_at small_at small_by tree_at header_at number_at
no_value = refl

pub value_some : IsNeverEmpty IsValue
value_some = never_empty (fault 0 Short) value_reader no_value

pub values_whole : IsWhole values_at IsValues ValuesBreak
unfolding values_at
values_whole = filled_whole value_reader value_some

pub sized_values_reader : IsReader sized_values_at IsSizedValues SizedValuesBreak
unfolding sized_values_at
sized_values_reader = then_reader word32 (λ size. region_reader size values_whole)
