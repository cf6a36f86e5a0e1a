-- The compressed forms, by their first byte.
use Rattle.std.proofs.Common.{◌≡◌, ℕ, suc, ◌+◌, ◌*◌, ◌%◌, ◌<◌, Bool, true, false, List, [], ◌∷◌, ◌++◌, length, get_or, Ok, Err, refl, sym, ap, subst, ◌∙◌, arith, inl, inr, ◌⊎◌}
use Rattle.std.specs.Prelude.{ℤ, not, ◌||◌, nat_eq, nat_lt}
use Rattle.std.specs.Int.{Width, w8, w16, w32, w64, byte_len}
use Rattle.std.proofs.lemmas.Bool.{ltb-true, eqb-true, eqb-false, ne_eqb}
use Rattle.byte_fields.specs.declared.fault.Fault.{Fault}
use Rattle.byte_fields.specs.Fields.{IsBytes, word, fault}
use Rattle.byte_fields.specs.Complement.{bits_of, signed_of, half8, half16, half32, half64}
use Rattle.byte_fields.proofs.Fields.{ok_is, IsWide, wide8, wide16, wide32, wide64}
use Rattle.gd_variant.specs.declared.message.Why.{Why}
use Rattle.gd_variant.specs.Tree.{Tree, nil, boolean, int, text, name, path, ints, opaque, dict, array, packed_bytes, packed_ints, packed_texts}
use Rattle.gd_variant.specs.Sound.{nesting}
use Rattle.variant_codec.specs.declared.form.Form.TheVariants as form
use Rattle.variant_codec.specs.Header.{flag, form_of}
use Rattle.variant_codec.specs.Parts.{Headed}
use Rattle.variant_codec.specs.Grammar.{Spells, SpellsSmallInt, SpellsSmall}
use Rattle.variant_codec.specs.Readers.{Relation, Mapped, IsShort}
use Rattle.variant_codec.specs.Reading.{value_at, small_int_at, small_by, small_at}
use Rattle.variant_codec.specs.Tests.{most_levels}
use Rattle.variant_codec.specs.Breaks.{is_binary, BreaksSmall}
use Rattle.variant_codec.proofs.Codes.{ints_head}
use Rattle.variant_codec.proofs.Fields.{Signed, signed_to, signed_from}
use Rattle.variant_codec.proofs.Whole.{value_reader, opaque_head}
use Rattle.variant_codec.proofs.Laws.{IsReader, Took, Broke, no_ok, word_reader, mapped_reader, seen}

-- the four sizes of a compressed number
data Size : Type 0 where
  one : Size
  two : Size
  four : Size
  eight : Size

abbrev tag : Size → ℕ
tag one = 2
tag two = 66
tag four = 130
tag eight = 194

abbrev width : Size → Width
width one = w8
width two = w16
width four = w32
width eight = w64

abbrev half : Size → ℕ
half one = half8
half two = half16
half four = half32
half eight = half64

wide : (s : Size) → IsWide (width s) (2 * half s)
wide one = wide8
wide two = wide16
wide four = wide32
wide eight = wide64

int_reader : (s : Size) → IsReader (small_int_at (width s) (half s)) (Mapped int (Signed (width s) (half s))) (IsShort (byte_len (width s)))
unfolding small_int_at
int_reader s =
    seen (mapped_reader (λ n. int (signed_of (half s) n)) (word_reader (width s) (2 * half s) (wide s)))
    (λ t b (n, e, r). (signed_of (half s) n, e, signed_to (width s) (half s) (signed_of (half s) n) b (n, refl, r)))
    (λ t b (z, e, r). let m = signed_from (width s) (half s) z b r in (m.0, e ∙ ap int m.1, m.2))

-- what the first byte says
data First (bytes : List ℕ) : Type 0 where
  is_false : (more : List ℕ) → bytes ≡ 1 ∷ more → First bytes
  is_true : (more : List ℕ) → bytes ≡ 129 ∷ more → First bytes
  is_int : (s : Size) (more : List ℕ) → bytes ≡ tag s ∷ more → First bytes
  is_other : is_binary bytes ≡ true → First bytes

pick : (b : Bool) {A : Type 0} → (b ≡ true → A) → (b ≡ false → A) → A
pick true f g = f refl
pick false f g = g refl

first_of : (bytes : List ℕ) → First bytes
first_of [] = is_other refl
first_of (c ∷ more) =
    pick (nat_eq c 1) (λ e. is_false more (ap (λ d. d ∷ more) (eqb-true c 1 e)))
    (λ a. pick (nat_eq c 129) (λ e. is_true more (ap (λ d. d ∷ more) (eqb-true c 129 e)))
    (λ b. pick (nat_eq c 2) (λ e. is_int one more (ap (λ d. d ∷ more) (eqb-true c 2 e)))
    (λ d. pick (nat_eq c 66) (λ e. is_int two more (ap (λ d. d ∷ more) (eqb-true c 66 e)))
    (λ f. pick (nat_eq c 130) (λ e. is_int four more (ap (λ d. d ∷ more) (eqb-true c 130 e)))
    (λ g. pick (nat_eq c 194) (λ e. is_int eight more (ap (λ d. d ∷ more) (eqb-true c 194 e)))
    (λ h. is_other (rw (a, b, d, f, g, h) refl)))))))

-- ---- what is read then

reads_false : (more : List ℕ) → small_at (1 ∷ more) ≡ Ok (boolean false, more)
unfolding small_at small_by
reads_false more = refl

reads_true : (more : List ℕ) → small_at (129 ∷ more) ≡ Ok (boolean true, more)
unfolding small_at small_by
reads_true more = refl

reads_int : (s : Size) (more : List ℕ) → small_at (tag s ∷ more) ≡ small_int_at (width s) (half s) more
unfolding small_at small_by
reads_int one more = refl
reads_int two more = refl
reads_int four more = refl
reads_int eight more = refl

neither : (a b : Bool) → not (a || b) ≡ true → (a ≡ false) × (not b ≡ true)
neither true b h = absurd cc
neither false b h = (refl, h)

reads_other : (bytes : List ℕ) → is_binary bytes ≡ true → small_at bytes ≡ value_at most_levels bytes
unfolding small_at small_by
reads_other bytes h =
    let c = get_or bytes 0 0 in
    let a = neither (nat_eq c 1) _ h in
    let b = neither (nat_eq c 129) _ a.1 in
    let d = neither (nat_eq c 2) _ b.1 in
    let f = neither (nat_eq c 66) _ d.1 in
    let g = neither (nat_eq c 130) _ f.1 in
    let i = neither (nat_eq c 194) _ g.1 in
    rw (a.0, b.0, d.0, f.0, g.0, i.0) refl

-- ---- the first byte of a binary form

first_byte : (n : ℕ) (more rest : List ℕ) → get_or ((word w32 n ++ more) ++ rest) 0 0 ≡ n % 256
unfolding word
first_byte n more rest = refl

first_code : (c : ℕ) (wide : Bool) → c < 39 → (c + flag wide) % 256 ≡ c
first_code c true lt = omega (arith, lt)
first_code c false lt = omega (arith, lt)

binary_code : (c : ℕ) → c < 39 → (c ≡ 1 → ⊥) → (c ≡ 2 → ⊥) → not (nat_eq c 1 || (nat_eq c 129 || (nat_eq c 2 || (nat_eq c 66 || (nat_eq c 130 || (nat_eq c 194 || false)))))) ≡ true
binary_code c lt not_bool not_int =
    rw (ne_eqb c 1 not_bool, ne_eqb c 129 (λ e. omega (arith, lt, e)), ne_eqb c 2 not_int, ne_eqb c 66 (λ e. omega (arith, lt, e)), ne_eqb c 130 (λ e. omega (arith, lt, e)), ne_eqb c 194 (λ e. omega (arith, lt, e))) refl

binary_head : (c : ℕ) (w : Bool) (P : List ℕ → Type 0) (b rest : List ℕ) → c < 39 → (c ≡ 1 → ⊥) → (c ≡ 2 → ⊥) → Headed c w P b → is_binary (b ++ rest) ≡ true
binary_head c w P b rest lt not_bool not_int h =
    let e : get_or (b ++ rest) 0 0 ≡ c = ap (λ (l : List ℕ). get_or (l ++ rest) 0 0) h.form ∙ first_byte (c + flag w) h.body rest ∙ first_code c w lt in
    rw e (binary_code c lt not_bool not_int)

-- a type number of another layout
abbrev IsBoolOrInt : ℕ → Type 0
IsBoolOrInt c = (c ≡ 1) ⊎ (c ≡ 2)

ints_other : (c : ℕ) → form_of c ≡ form.Ints → IsBoolOrInt c → ⊥
unfolding form_of
ints_other c e (inl h) = let k : form.Bool ≡ form.Ints = sym (ap form_of h) ∙ e in absurd cc
ints_other c e (inr h) = let k : form.Int ≡ form.Ints = sym (ap form_of h) ∙ e in absurd cc

fixed_other : (c : ℕ) → form_of c ≡ form.Fixed → IsBoolOrInt c → ⊥
unfolding form_of
fixed_other c e (inl h) = let k : form.Bool ≡ form.Fixed = sym (ap form_of h) ∙ e in absurd cc
fixed_other c e (inr h) = let k : form.Int ≡ form.Fixed = sym (ap form_of h) ∙ e in absurd cc

elements_other : (c : ℕ) → form_of c ≡ form.Elements → IsBoolOrInt c → ⊥
unfolding form_of
elements_other c e (inl h) = let k : form.Bool ≡ form.Elements = sym (ap form_of h) ∙ e in absurd cc
elements_other c e (inr h) = let k : form.Int ≡ form.Elements = sym (ap form_of h) ∙ e in absurd cc

-- a form that is no Bool and no Int begins with a byte of a binary form
abbrev is_flat : Tree → Bool
is_flat (boolean x) = true
is_flat (int z) = true
is_flat t = false

at_kind : (c : ℕ) (P : List ℕ → Type 0) (b rest : List ℕ) → nat_lt c 39 ≡ true → nat_eq c 1 ≡ false → nat_eq c 2 ≡ false → Headed c false P b → is_binary (b ++ rest) ≡ true
at_kind c P b rest lt e f h = binary_head c false P b rest (ltb-true c 39 lt) (eqb-false c 1 e) (eqb-false c 2 f) h

binary_first : (t : Tree) (b rest : List ℕ) → is_flat t ≡ false → Spells t b → is_binary (b ++ rest) ≡ true
binary_first nil b rest f h = at_kind 0 _ b rest refl refl refl h
binary_first (boolean x) b rest f h = absurd cc
binary_first (int z) b rest f h = absurd cc
binary_first (text s) b rest f h = at_kind 4 _ b rest refl refl refl h
binary_first (name s) b rest f h = at_kind 21 _ b rest refl refl refl h
binary_first (path a ns ss) b rest f h = at_kind 22 _ b rest refl refl refl h
binary_first (ints c zs) b rest f h =
    let g = ints_head c h.right.0 in
    binary_head c false _ b rest g.small (λ e. ints_other c g.named (inl e)) (λ e. ints_other c g.named (inr e)) h
binary_first (opaque c w s) b rest f h =
    elim (opaque_head c w (length s) h.right.0) [
      | inl g ↦ binary_head c w _ b rest g.small (λ e. fixed_other c g.named (inl e)) (λ e. fixed_other c g.named (inr e)) h
      | inr g ↦ binary_head c w _ b rest g.small (λ e. elements_other c g.named (inl e)) (λ e. elements_other c g.named (inr e)) h
    ]
binary_first (dict ts) b rest f h = at_kind 27 _ b rest refl refl refl h.3
binary_first (array ts) b rest f h = at_kind 28 _ b rest refl refl refl h
binary_first (packed_bytes s) b rest f h = at_kind 29 _ b rest refl refl refl h
binary_first (packed_ints false zs) b rest f h = at_kind 30 _ b rest refl refl refl h
binary_first (packed_ints true zs) b rest f h = at_kind 31 _ b rest refl refl refl h
binary_first (packed_texts ts) b rest f h = at_kind 34 _ b rest refl refl refl h

-- a Bool or an Int doesn't
flat_first : (t : Tree) (b rest : List ℕ) → is_flat t ≡ true → Spells t b → is_binary (b ++ rest) ≡ false
flat_first (boolean x) b rest f h = let e : get_or (b ++ rest) 0 0 ≡ 1 = ap (λ (l : List ℕ). get_or (l ++ rest) 0 0) h.form ∙ first_byte 1 h.body rest in rw e refl
flat_first (int z) b rest f (inl h) = let e : get_or (b ++ rest) 0 0 ≡ 2 = ap (λ (l : List ℕ). get_or (l ++ rest) 0 0) h.form ∙ first_byte 2 h.body rest in rw e refl
flat_first (int z) b rest f (inr h) = let e : get_or (b ++ rest) 0 0 ≡ 2 = ap (λ (l : List ℕ). get_or (l ++ rest) 0 0) h.form ∙ first_byte 65538 h.body rest in rw e refl
flat_first t b rest f h = absurd cc

-- ---- the four laws

-- a compressed form of a tree that nests 32 deep at most
abbrev pub SmallWithin : Relation Tree
SmallWithin t b = (nesting t < most_levels) × SpellsSmall t b

as_small : (t : Tree) (b : List ℕ) → is_flat t ≡ false → Spells t b → SpellsSmall t b
as_small (boolean x) b f h = absurd cc
as_small (int z) b f h = absurd cc
as_small t b f h = h

as_binary : (t : Tree) (b : List ℕ) → is_flat t ≡ false → SpellsSmall t b → Spells t b
as_binary (boolean x) b f h = absurd cc
as_binary (int z) b f h = absurd cc
as_binary t b f h = h

sized : (s : Size) (z : ℤ) (b more : List ℕ) → b ≡ tag s ∷ more → Signed (width s) (half s) z more → SpellsSmallInt z b
sized one z b more e (fits, m) = inl (fits, e ∙ ap (λ (l : List ℕ). 2 ∷ l) m)
sized two z b more e (fits, m) = inr (inl (fits, e ∙ ap (λ (l : List ℕ). 66 ∷ l) m))
sized four z b more e (fits, m) = inr (inr (inl (fits, e ∙ ap (λ (l : List ℕ). 130 ∷ l) m)))
sized eight z b more e (fits, m) = inr (inr (inr (fits, e ∙ ap (λ (l : List ℕ). 194 ∷ l) m)))

record OfSize (z : ℤ) (b : List ℕ) : Type 0 where
  size : Size
  more : List ℕ
  is : b ≡ tag size ∷ more
  right : Signed (width size) (half size) z more

size_of : (z : ℤ) (b : List ℕ) → SpellsSmallInt z b → OfSize z b
size_of z b (inl (fits, e)) = record { size = one; more = word w8 (bits_of half8 z); is = e; right = (fits, refl) }
size_of z b (inr (inl (fits, e))) = record { size = two; more = word w16 (bits_of half16 z); is = e; right = (fits, refl) }
size_of z b (inr (inr (inl (fits, e)))) = record { size = four; more = word w32 (bits_of half32 z); is = e; right = (fits, refl) }
size_of z b (inr (inr (inr (fits, e)))) = record { size = eight; more = word w64 (bits_of half64 z); is = e; right = (fits, refl) }

behind_fits : (c : ℕ) (more : List ℕ) → IsBytes (c ∷ more) → IsBytes more
behind_fits c more fits i = fits (suc i)

bool_took : (bytes more : List ℕ) (c : ℕ) (x : Bool) (y : Tree × List ℕ) → IsBytes bytes → bytes ≡ c ∷ more → SpellsSmall (boolean x) (c ∷ []) → small_at (c ∷ more) ≡ Ok (boolean x, more) → small_at bytes ≡ Ok y → Took SmallWithin bytes y
bool_took bytes more c x y fits e s reads h =
    subst (Took SmallWithin bytes) (ok_is _ y (sym (ap small_at e ∙ reads) ∙ h))
    (record { front = c ∷ []; right = (omega arith, s); parts = e; rest_fits = behind_fits c more (subst IsBytes e fits) })

int_took : (s : Size) (bytes more : List ℕ) (y : Tree × List ℕ) → IsBytes bytes → bytes ≡ tag s ∷ more → small_at bytes ≡ Ok y → Took SmallWithin bytes y
int_took s bytes more y fits e h =
    let t = (int_reader s).takes more y (behind_fits (tag s) more (subst IsBytes e fits)) (sym (ap small_at e ∙ reads_int s more) ∙ h) in
    let z = t.right.0 in
    record {
      front = tag s ∷ t.front;
      right = subst (λ u. SmallWithin u (tag s ∷ t.front)) (sym t.right.1) (omega arith, sized s z (tag s ∷ t.front) t.front refl t.right.2);
      parts = e ∙ ap (λ (l : List ℕ). tag s ∷ l) t.parts;
      rest_fits = t.rest_fits;
    }

other_took : (bytes : List ℕ) (y : Tree × List ℕ) → IsBytes bytes → is_binary bytes ≡ true → small_at bytes ≡ Ok y → Took SmallWithin bytes y
other_took bytes y fits b h =
    let t = (value_reader most_levels).takes bytes y fits (sym (reads_other bytes b) ∙ h) in
    let flat : is_flat y.0 ≡ false = pick (is_flat y.0) (λ f. let n : is_binary bytes ≡ false = ap is_binary t.parts ∙ flat_first y.0 t.front y.1 f t.right.1 in absurd cc) (λ f. f) in
    record { front = t.front; right = (t.right.0, as_small y.0 t.front flat t.right.1); parts = t.parts; rest_fits = t.rest_fits }

bool_broke : (bytes more : List ℕ) (c : ℕ) (x : Tree) (f : Fault) → bytes ≡ c ∷ more → small_at (c ∷ more) ≡ Ok (x, more) → small_at bytes ≡ Err f → Broke BreaksSmall bytes f
bool_broke bytes more c x f e reads h = absurd (no_ok _ f (sym (ap small_at e ∙ reads) ∙ h))

breaks_at : (s : Size) (b rest : List ℕ) (why : Why) (more : List ℕ) → b ≡ tag s ∷ more → IsShort (byte_len (width s)) more rest why → BreaksSmall b rest why
breaks_at one b rest why more e h = inl (more, e, h)
breaks_at two b rest why more e h = inr (inl (more, e, h))
breaks_at four b rest why more e h = inr (inr (inl (more, e, h)))
breaks_at eight b rest why more e h = inr (inr (inr (inl (more, e, h))))

int_broke : (s : Size) (bytes more : List ℕ) (f : Fault) → IsBytes bytes → bytes ≡ tag s ∷ more → small_at bytes ≡ Err f → Broke BreaksSmall bytes f
int_broke s bytes more f fits e h =
    let b = (int_reader s).breaks more f (behind_fits (tag s) more (subst IsBytes e fits)) (sym (ap small_at e ∙ reads_int s more) ∙ h) in
    record { front = tag s ∷ b.front; rest = b.rest; parts = e ∙ ap (λ (l : List ℕ). tag s ∷ l) b.parts; left = b.left; breaks = breaks_at s bytes b.rest f.why more e b.breaks }

other_broke : (bytes : List ℕ) (f : Fault) → IsBytes bytes → is_binary bytes ≡ true → small_at bytes ≡ Err f → Broke BreaksSmall bytes f
other_broke bytes f fits b h =
    let k = (value_reader most_levels).breaks bytes f fits (sym (reads_other bytes b) ∙ h) in
    record { front = k.front; rest = k.rest; parts = k.parts; left = k.left; breaks = inr (inr (inr (inr (b, k.breaks)))) }

int_broken : (s : Size) (bytes rest : List ℕ) (why : Why) (more : List ℕ) → bytes ≡ tag s ∷ more → IsShort (byte_len (width s)) more rest why → small_at bytes ≡ Err (fault (length rest) why)
int_broken s bytes rest why more e b = ap small_at e ∙ reads_int s more ∙ (int_reader s).broken more rest why b

small_again : (t : Tree) (front rest : List ℕ) → SmallWithin t front → small_at (front ++ rest) ≡ Ok (t, rest)
small_again (boolean false) front rest (lt, e) = ap (λ (l : List ℕ). small_at (l ++ rest)) e ∙ reads_false rest
small_again (boolean true) front rest (lt, e) = ap (λ (l : List ℕ). small_at (l ++ rest)) e ∙ reads_true rest
small_again (int z) front rest (lt, h) =
    let o = size_of z front h in
    ap (λ (l : List ℕ). small_at (l ++ rest)) o.is ∙ reads_int o.size (o.more ++ rest) ∙ (int_reader o.size).again (int z) o.more rest (z, refl, o.right)
small_again t front rest (lt, h) = reads_other (front ++ rest) (binary_first t front rest refl (as_binary t front refl h)) ∙ (value_reader most_levels).again t front rest (lt, as_binary t front refl h)

pub small_reader : IsReader small_at SmallWithin BreaksSmall
small_reader = record {
  takes = λ bytes y fits h.
      elim (first_of bytes) [
        | is_false more e ↦ bool_took bytes more 1 false y fits e refl (reads_false more) h
        | is_true more e ↦ bool_took bytes more 129 true y fits e refl (reads_true more) h
        | is_int s more e ↦ int_took s bytes more y fits e h
        | is_other b ↦ other_took bytes y fits b h
      ];
  again = small_again;
  breaks = λ bytes f fits h.
      elim (first_of bytes) [
        | is_false more e ↦ bool_broke bytes more 1 (boolean false) f e (reads_false more) h
        | is_true more e ↦ bool_broke bytes more 129 (boolean true) f e (reads_true more) h
        | is_int s more e ↦ int_broke s bytes more f fits e h
        | is_other b ↦ other_broke bytes f fits b h
      ];
  broken = λ bytes rest why b.
      elim b [
        | inl (more, e, h) ↦ int_broken one bytes rest why more e h
        | inr (inl (more, e, h)) ↦ int_broken two bytes rest why more e h
        | inr (inr (inl (more, e, h))) ↦ int_broken four bytes rest why more e h
        | inr (inr (inr (inl (more, e, h)))) ↦ int_broken eight bytes rest why more e h
        | inr (inr (inr (inr (other, h)))) ↦ reads_other bytes other ∙ (value_reader most_levels).broken bytes rest why h
      ];
}
