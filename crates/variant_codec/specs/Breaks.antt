-- Where some bytes break, and why, stated over the whole list: the bytes before the wrong field divide
-- into right fields as the grammar asks for them, the field that has to come next stands there, and the
-- reason is the first row of the table of reasons that holds of it.
--
-- Each relation is between the bytes, their end from the wrong field on, and the reason.
use Rattle.std.specs.Prelude.{◌≡◌, ℕ, zero, suc, ◌+◌, ◌-◌, ◌*◌, ◌<◌, ◌^◌, Bool, true, List, [], ◌∷◌, ◌++◌, length, take, slice_index_or, not, nat_lt, ◌⊎◌, if◌then◌else◌}
use Rattle.std.specs.Int.{w32}
use Rattle.gd_variant.specs.declared.message.Bad.{Bad}
use Rattle.gd_variant.specs.declared.message.Why.TheVariants.{HeaderBits, Kind, NotCarried, Utf8, Depth, OldPath, PathFlags, RepeatedKey}
use Rattle.gd_variant.specs.Words.{has_nat}
use Rattle.gd_variant.specs.Tree.{Tree, PairTree}
use Rattle.gd_variant.specs.Sound.{is_text, nesting, ints_count, components, at_or, component_size, element_size}
use Rattle.variant_codec.specs.declared.form.Form.{Form}
use Rattle.variant_codec.specs.declared.form.Form.TheVariants as form
use Rattle.variant_codec.specs.Header.{code_in, is_wide, is_kind, is_carried, has_right_flags, has_room, form_of}
use Rattle.variant_codec.specs.Parts.{padding, SpellsText, SpellsElement}
use Rattle.variant_codec.specs.Grammar.{Spells}
use Rattle.variant_codec.specs.Readers.{Relation, Breaking, IsWord, IsRaw, IsShort, NeverBreaks, Mapped, Checked, CheckBreaks, ThenBreaks, EachOf, EachBreaks}
use Rattle.variant_codec.specs.Tests.{stripped, has_names_bit, is_path_flags, without_bit, is_new_to, most_levels}

-- a word of four bytes
abbrev pub Word : Relation ℕ
Word = IsWord w32 (2 ^ 32)

abbrev pub WordBreaks : Breaking
WordBreaks = IsShort 4

-- a header: Short, then Kind, NotCarried, HeaderBits, Depth
abbrev pub HeaderBreaks : Bool → Breaking
HeaderBreaks room =
    CheckBreaks (has_room room) Depth (Checked has_right_flags (Checked is_carried (Checked is_kind Word)))
    (CheckBreaks has_right_flags HeaderBits (Checked is_carried (Checked is_kind Word))
    (CheckBreaks is_carried NotCarried (Checked is_kind Word)
    (CheckBreaks is_kind Kind Word WordBreaks)))

abbrev pub Header : Bool → Relation ℕ
Header room = Checked (has_room room) (Checked has_right_flags (Checked is_carried (Checked is_kind Word)))

-- n bytes and their padding are one field
abbrev pub PaddedOf : ℕ → Relation (List ℕ)
PaddedOf n = Mapped (take n) (IsRaw (n + padding n))

abbrev pub PaddedBreaks : Breaking
PaddedBreaks = ThenBreaks Word WordBreaks (λ n. IsShort (n + padding n))

abbrev pub TextBreaks : Breaking
TextBreaks = ThenBreaks Word WordBreaks (λ n. CheckBreaks is_text Utf8 (PaddedOf n) (IsShort (n + padding n)))

abbrev pub ElementBreaks : Breaking
ElementBreaks = ThenBreaks Word WordBreaks (λ n. CheckBreaks is_text Utf8 (Mapped stripped (PaddedOf n)) (IsShort (n + padding n)))

abbrev pub TextsBreak : ℕ → Breaking
TextsBreak n = EachBreaks (λ _. SpellsText) (λ _. TextBreaks) n

abbrev pub PathBreaks : Breaking
PathBreaks =
    ThenBreaks (Checked has_names_bit Word) (CheckBreaks has_names_bit OldPath Word WordBreaks)
    (λ n. ThenBreaks Word WordBreaks
    (λ m. ThenBreaks (Checked is_path_flags Word) (CheckBreaks is_path_flags PathFlags Word WordBreaks)
    (λ f. ThenBreaks (EachOf (λ _. SpellsText) (n - 2147483648)) (TextsBreak (n - 2147483648)) (λ names. TextsBreak m))))

-- a count, then one field of so many bytes an element
abbrev pub ElementsBreak : ℕ → Breaking
ElementsBreak size = ThenBreaks Word WordBreaks (λ n. IsShort (size * n))

abbrev pub PackedTextsBreak : Breaking
PackedTextsBreak = ThenBreaks Word WordBreaks (λ n. EachBreaks (λ _. SpellsElement) (λ _. ElementBreaks) n)

-- a count, then values
abbrev pub ArrayBreaks : Relation Tree → Breaking → Breaking
ArrayBreaks R B = ThenBreaks Word WordBreaks (λ n. EachBreaks (λ _. R) (λ _. B) (without_bit n))

-- a pair whose key none of the earlier pairs has
abbrev pub Pair : Relation Tree → List PairTree → Relation PairTree
Pair R before p b = (front : List ℕ) × (more : List ℕ) × (is_new_to before p.key ≡ true) × R p.key front × R p.value more × (b ≡ front ++ more)

-- a key breaks, or it is whole and an earlier pair has it, or it is new and the value breaks
abbrev pub PairBreaks : Relation Tree → Breaking → List PairTree → Breaking
PairBreaks R B before = ThenBreaks (Checked (is_new_to before) R) (CheckBreaks (is_new_to before) RepeatedKey R B) (λ k. B)

abbrev pub DictBreaks : Relation Tree → Breaking → Breaking
DictBreaks R B = ThenBreaks Word WordBreaks (λ n. EachBreaks (Pair R) (PairBreaks R B) (without_bit n))

-- behind a header; R and B are of the values inside
abbrev pub BodyBreaks : Relation Tree → Breaking → Form → ℕ → Bool → Breaking
BodyBreaks R B form.Nil code wide = NeverBreaks
BodyBreaks R B form.Bool code wide = WordBreaks
BodyBreaks R B form.Int code wide = IsShort (if wide then 8 else 4)
BodyBreaks R B form.Text code wide = TextBreaks
BodyBreaks R B form.Name code wide = TextBreaks
BodyBreaks R B form.Path code wide = PathBreaks
BodyBreaks R B form.Ints code wide = IsShort (4 * ints_count code)
BodyBreaks R B form.Fixed code wide = IsShort (at_or code components * component_size wide)
BodyBreaks R B form.Dict code wide = DictBreaks R B
BodyBreaks R B form.Array code wide = ArrayBreaks R B
BodyBreaks R B form.Bytes code wide = PaddedBreaks
BodyBreaks R B form.Shorts code wide = ElementsBreak 4
BodyBreaks R B form.Longs code wide = ElementsBreak 8
BodyBreaks R B form.Texts code wide = PackedTextsBreak
BodyBreaks R B form.Elements code wide = ThenBreaks Word WordBreaks (λ n. IsShort (n * element_size code wide))

-- a form of a tree of so many levels at most; a tree that holds none has one
abbrev pub SpellsWithin : ℕ → Relation Tree
SpellsWithin levels t b = (nesting t < levels) × Spells t b

-- a value of so many levels at most
abbrev pub Breaks : ℕ → Breaking
Breaks zero b rest why = (rest ≡ b) × (why ≡ Depth)
Breaks (suc n) b rest why =
    ThenBreaks (Header (nat_lt 0 n)) (HeaderBreaks (nat_lt 0 n))
    (λ head. BodyBreaks (SpellsWithin n) (Breaks n) (form_of (code_in head)) (code_in head) (is_wide head)) b rest why

-- a compressed number is two fields, its first byte and so many bytes
abbrev pub SmallIntBreaks : ℕ → ℕ → Breaking
SmallIntBreaks first size b rest why = (more : List ℕ) × (b ≡ first ∷ more) × IsShort size more rest why

-- the first byte is none of those of a compressed Bool or Int, or there is none
abbrev pub is_binary : List ℕ → Bool
is_binary b = not (has_nat (slice_index_or b 0 0) (1 ∷ 129 ∷ 2 ∷ 66 ∷ 130 ∷ 194 ∷ []))

-- a compressed form: a number by its first byte, a Bool never, any other as a binary form
abbrev pub BreaksSmall : Breaking
BreaksSmall b rest why =
    SmallIntBreaks 2 1 b rest why
    ⊎ (SmallIntBreaks 66 2 b rest why
    ⊎ (SmallIntBreaks 130 4 b rest why
    ⊎ (SmallIntBreaks 194 8 b rest why
    ⊎ ((is_binary b ≡ true) × Breaks most_levels b rest why))))

-- the place of the first wrong field, counted from the start, and why it is wrong
pub record IsBad (B : Breaking) (b : List ℕ) (bad : Bad) : Type 0 where
  pub front : List ℕ
  pub rest : List ℕ
  pub parts : b ≡ front ++ rest
  pub place : bad.at ≡ length front
  pub breaks : B b rest bad.why
