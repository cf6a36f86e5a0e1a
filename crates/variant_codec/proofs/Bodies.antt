-- The readers of what stands behind a header, by their laws.
use Rattle.std.proofs.Common.{◌≡◌, ℕ, zero, suc, ◌+◌, ◌-◌, ◌*◌, ◌^◌, ◌<◌, Bool, true, false, List, [], ◌∷◌, ◌++◌, length, refl, sym, ap, subst, ◌∙◌, arith}
use Rattle.std.specs.Prelude.{ℤ, nat_eq}
use Rattle.std.specs.Int.{w32, w64}
use Rattle.std.proofs.lemmas.List.{length-append}
use Rattle.byte_fields.specs.Complement.{bits_of, half32, half64}
use Rattle.byte_fields.proofs.Fields.{wide32, wide64, length-word}
use Rattle.gd_variant.specs.declared.message.Why.{Why}
use Rattle.gd_variant.specs.declared.message.Why.TheVariants.{RepeatedKey}
use Rattle.gd_variant.specs.Tree.{Tree, nil, boolean, int, text, name, path, ints, opaque, dict, array, packed_bytes, packed_ints, packed_texts, trees_of, PairTree, pairs_of}
use Rattle.gd_variant.specs.Sound.{ints_count, components, at_or, component_size, element_size}
use Rattle.variant_codec.specs.declared.form.Form.{Form}
use Rattle.variant_codec.specs.declared.form.Form.TheVariants as form
use Rattle.variant_codec.specs.Parts.{Padded, SpellsText, SpellsElement, SpellsShort, SpellsLong, truth}
use Rattle.variant_codec.specs.Readers.{Reader, Relation, Breaking, IsRaw, IsShort, IsDone, Mapped, Checked, Then, ThenBreaks, Each, EachOf, EachBreaks, whole_by}
use Rattle.variant_codec.specs.Reading.{bool_at, int_at, path_of, path_at, ints_at, fixed_at, packed_at, bytes_at, packed_shorts_at, packed_longs_at, packed_texts_at, shorts_of, longs_of, texts_of, pair_tree, array_by, pair_by, dict_by, body_by}
use Rattle.variant_codec.specs.Tests.{has_names_bit, is_path_flags, without_bit, is_new_to}
use Rattle.variant_codec.specs.Breaks.{Word, WordBreaks, TextsBreak, PathBreaks, Pair, PairBreaks, DictBreaks, ArrayBreaks, BodyBreaks}
use Rattle.variant_codec.proofs.Laws.{IsReader, raw_reader, done_reader, mapped_reader, checked_reader, then_reader, list_reader, whole_reader, seen}
use Rattle.variant_codec.proofs.Fields.{word32, names_reader, flags_reader, padded_reader, text_reader, element_reader, short_reader, long_reader}

-- ---- numbers that are one field

-- the bytes of so many parts of one size
abbrev total : ℕ → ℕ → ℕ
total size zero = 0
total size (suc n) = size + total size n

each_length : {X : Type 0} (size : ℕ) (R : Relation X) → ((x : X) (b : List ℕ) → R x b → length b ≡ size) → (before xs : List X) (b : List ℕ) → Each (λ _. R) before xs b → length b ≡ total size (length xs)
each_length size R sized before [] b e = ap length e
each_length size R sized before (x ∷ xs) b e =
    ap length e.4 ∙ omega (arith, length-append e.0 e.1, sized x e.0 e.2, each_length size R sized (before ++ x ∷ []) xs e.1 e.3)

total4 : (n : ℕ) → total 4 n ≡ 4 * n
total4 zero = refl
total4 (suc n) = omega (arith, total4 n)

total8 : (n : ℕ) → total 8 n ≡ 8 * n
total8 zero = refl
total8 (suc n) = omega (arith, total8 n)

short_length : (z : ℤ) (b : List ℕ) → SpellsShort z b → length b ≡ 4
short_length z b s = ap length s.1 ∙ length-word w32 (2 ^ 32) wide32 (bits_of half32 z)

long_length : (z : ℤ) (b : List ℕ) → SpellsLong z b → length b ≡ 8
long_length z b s = ap length s.1 ∙ length-word w64 (2 ^ 64) wide64 (bits_of half64 z)

enough4 : (n : ℕ) (b rest : List ℕ) (why : Why) → EachBreaks (λ _. SpellsShort) (λ _. IsShort 4) n b rest why → length b < 4 * n
enough4 n b rest why (xs, front, more, e, lt, parts, short) =
    omega (arith, ap length parts, length-append front more, each_length 4 SpellsShort short_length [] xs front e, total4 (length xs), lt, short.0)

enough8 : (n : ℕ) (b rest : List ℕ) (why : Why) → EachBreaks (λ _. SpellsLong) (λ _. IsShort 8) n b rest why → length b < 8 * n
enough8 n b rest why (xs, front, more, e, lt, parts, short) =
    omega (arith, ap length parts, length-append front more, each_length 8 SpellsLong long_length [] xs front e, total8 (length xs), lt, short.0)

shorts_reader : (n : ℕ) → IsReader (whole_by (4 * n) (shorts_of n)) (EachOf (λ _. SpellsShort) n) (IsShort (4 * n))
shorts_reader n = whole_reader (4 * n) (list_reader (λ _. short_reader) n)
    (λ zs b e. each_length 4 SpellsShort short_length [] zs b e.1 ∙ ap (total 4) e.0 ∙ total4 n) (enough4 n)

longs_reader : (n : ℕ) → IsReader (whole_by (8 * n) (longs_of n)) (EachOf (λ _. SpellsLong) n) (IsShort (8 * n))
longs_reader n = whole_reader (8 * n) (list_reader (λ _. long_reader) n)
    (λ zs b e. each_length 8 SpellsLong long_length [] zs b e.1 ∙ ap (total 8) e.0 ∙ total8 n) (enough8 n)

-- ---- what a body spells, by its layout

abbrev pub SignedOf : Bool → Relation ℤ
SignedOf true = SpellsLong
SignedOf false = SpellsShort

abbrev pub PathNames : Bool → ℕ → ℕ → Relation Tree
PathNames absolute n m = Then (EachOf (λ _. SpellsText) n) (λ names. Mapped (λ subnames. path absolute names subnames) (EachOf (λ _. SpellsText) m))

abbrev pub PathBody : Relation Tree
PathBody = Then (Checked has_names_bit Word) (λ n. Then Word (λ m. Then (Checked is_path_flags Word) (λ f. PathNames (nat_eq f 1) (n - 2147483648) m)))

abbrev pub ArrayBody : Relation Tree → Relation Tree
ArrayBody R = Then Word (λ n. Mapped (λ ts. array (trees_of ts)) (EachOf (λ _. R) (without_bit n)))

abbrev pub DictBody : Relation Tree → Relation Tree
DictBody R = Then Word (λ n. Mapped (λ ps. dict (pairs_of ps)) (EachOf (Pair R) (without_bit n)))

abbrev pub Body : Relation Tree → Form → ℕ → Bool → Relation Tree
Body R form.Nil code wide = IsDone nil
Body R form.Bool code wide = Mapped (λ n. boolean (truth n)) Word
Body R form.Int code wide = Mapped int (SignedOf wide)
Body R form.Text code wide = Mapped text SpellsText
Body R form.Name code wide = Mapped name SpellsText
Body R form.Path code wide = PathBody
Body R form.Ints code wide = Mapped (λ zs. ints code zs) (EachOf (λ _. SpellsShort) (ints_count code))
Body R form.Fixed code wide = Mapped (λ s. opaque code wide s) (IsRaw (at_or code components * component_size wide))
Body R form.Dict code wide = DictBody R
Body R form.Array code wide = ArrayBody R
Body R form.Bytes code wide = Mapped packed_bytes Padded
Body R form.Shorts code wide = Then Word (λ n. Mapped (λ zs. packed_ints false zs) (EachOf (λ _. SpellsShort) n))
Body R form.Longs code wide = Then Word (λ n. Mapped (λ zs. packed_ints true zs) (EachOf (λ _. SpellsLong) n))
Body R form.Texts code wide = Then Word (λ n. Mapped packed_texts (EachOf (λ _. SpellsElement) n))
Body R form.Elements code wide = Then Word (λ n. Mapped (λ s. opaque code wide s) (IsRaw (n * element_size code wide)))

-- ---- the readers

bool_reader : IsReader bool_at (Mapped (λ n. boolean (truth n)) Word) WordBreaks
unfolding bool_at
bool_reader = mapped_reader (λ n. boolean (truth n)) word32

int_reader : (wide : Bool) → IsReader (int_at wide) (Mapped int (SignedOf wide)) (BodyBreaks (λ _ _. ⊥) (λ _ _ _. ⊥) form.Int 2 wide)
unfolding int_at
int_reader true = mapped_reader int long_reader
int_reader false = mapped_reader int short_reader

texts_reader : (n : ℕ) → IsReader (texts_of n) (EachOf (λ _. SpellsText) n) (TextsBreak n)
texts_reader n = list_reader (λ _. text_reader) n

path_of_reader : (absolute : Bool) (n m : ℕ) → IsReader (path_of absolute n m) (PathNames absolute n m) (ThenBreaks (EachOf (λ _. SpellsText) n) (TextsBreak n) (λ names. TextsBreak m))
unfolding path_of
path_of_reader absolute n m = then_reader (texts_reader n) (λ names. mapped_reader (λ subnames. path absolute names subnames) (texts_reader m))

path_reader : IsReader path_at PathBody PathBreaks
unfolding path_at
path_reader = then_reader names_reader (λ n. then_reader word32 (λ m. then_reader flags_reader (λ f. path_of_reader (nat_eq f 1) (n - 2147483648) m)))

ints_reader : (code : ℕ) → IsReader (ints_at code) (Mapped (λ zs. ints code zs) (EachOf (λ _. SpellsShort) (ints_count code))) (IsShort (4 * ints_count code))
unfolding ints_at
ints_reader code = mapped_reader (λ zs. ints code zs) (shorts_reader (ints_count code))

fixed_reader : (code : ℕ) (wide : Bool) → IsReader (fixed_at code wide) (Mapped (λ s. opaque code wide s) (IsRaw (at_or code components * component_size wide))) (IsShort (at_or code components * component_size wide))
unfolding fixed_at
fixed_reader code wide = mapped_reader (λ s. opaque code wide s) (raw_reader (at_or code components * component_size wide))

packed_reader : (R : Relation Tree) (B : Breaking) (code : ℕ) (wide : Bool) → IsReader (packed_at code wide) (Body R form.Elements code wide) (BodyBreaks R B form.Elements code wide)
unfolding packed_at
packed_reader R B code wide = then_reader word32 (λ n. mapped_reader (λ s. opaque code wide s) (raw_reader (n * element_size code wide)))

bytes_reader : (R : Relation Tree) (B : Breaking) (code : ℕ) (wide : Bool) → IsReader bytes_at (Body R form.Bytes code wide) (BodyBreaks R B form.Bytes code wide)
unfolding bytes_at
bytes_reader R B code wide = mapped_reader packed_bytes padded_reader

packed_shorts_reader : (R : Relation Tree) (B : Breaking) (code : ℕ) (wide : Bool) → IsReader packed_shorts_at (Body R form.Shorts code wide) (BodyBreaks R B form.Shorts code wide)
unfolding packed_shorts_at
packed_shorts_reader R B code wide = then_reader word32 (λ n. mapped_reader (λ zs. packed_ints false zs) (shorts_reader n))

packed_longs_reader : (R : Relation Tree) (B : Breaking) (code : ℕ) (wide : Bool) → IsReader packed_longs_at (Body R form.Longs code wide) (BodyBreaks R B form.Longs code wide)
unfolding packed_longs_at
packed_longs_reader R B code wide = then_reader word32 (λ n. mapped_reader (λ zs. packed_ints true zs) (longs_reader n))

packed_texts_reader : (R : Relation Tree) (B : Breaking) (code : ℕ) (wide : Bool) → IsReader packed_texts_at (Body R form.Texts code wide) (BodyBreaks R B form.Texts code wide)
unfolding packed_texts_at
packed_texts_reader R B code wide = then_reader word32 (λ n. mapped_reader packed_texts (list_reader (λ _. element_reader) n))

array_reader : {values : Reader Tree} {R : Relation Tree} {B : Breaking} → IsReader values R B → IsReader (array_by values) (ArrayBody R) (ArrayBreaks R B)
unfolding array_by
array_reader r = then_reader word32 (λ n. mapped_reader (λ ts. array (trees_of ts)) (list_reader (λ _. r) (without_bit n)))

pair_reader : {values : Reader Tree} {R : Relation Tree} {B : Breaking} → IsReader values R B → (before : List PairTree) → IsReader (pair_by values before) (Pair R before) (PairBreaks R B before)
unfolding pair_by
pair_reader {R = R} r before = seen (then_reader (checked_reader (is_new_to before) RepeatedKey r) (λ k. mapped_reader (pair_tree k) r))
    (λ p b (k, front, more, s, (v, e, u), parts). (front, more, ap (λ q. is_new_to before q.key) e ∙ s.0, subst (λ q. R q front) (sym (ap (λ q. q.key) e)) s.1, subst (λ q. R q more) (sym (ap (λ q. q.value) e)) u, parts))
    (λ p b (front, more, fresh, k, v, parts). (p.key, front, more, (fresh, k), (p.value, refl, v), parts))

dict_reader : {values : Reader Tree} {R : Relation Tree} {B : Breaking} → IsReader values R B → IsReader (dict_by values) (DictBody R) (DictBreaks R B)
unfolding dict_by
dict_reader r = then_reader word32 (λ n. mapped_reader (λ ps. dict (pairs_of ps)) (list_reader (pair_reader r) (without_bit n)))

pub body_reader : {values : Reader Tree} {R : Relation Tree} {B : Breaking} → IsReader values R B → (f : Form) (code : ℕ) (wide : Bool) → IsReader (body_by values f code wide) (Body R f code wide) (BodyBreaks R B f code wide)
unfolding body_by
body_reader r form.Nil code wide = done_reader nil
body_reader r form.Bool code wide = bool_reader
body_reader r form.Int code wide = int_reader wide
body_reader r form.Text code wide = mapped_reader text text_reader
body_reader r form.Name code wide = mapped_reader name text_reader
body_reader r form.Path code wide = path_reader
body_reader r form.Ints code wide = ints_reader code
body_reader r form.Fixed code wide = fixed_reader code wide
body_reader r form.Dict code wide = dict_reader r
body_reader r form.Array code wide = array_reader r
body_reader {R = R} {B = B} r form.Bytes code wide = bytes_reader R B code wide
body_reader {R = R} {B = B} r form.Shorts code wide = packed_shorts_reader R B code wide
body_reader {R = R} {B = B} r form.Longs code wide = packed_longs_reader R B code wide
body_reader {R = R} {B = B} r form.Texts code wide = packed_texts_reader R B code wide
body_reader {R = R} {B = B} r form.Elements code wide = packed_reader R B code wide
