-- What the laws of a reader say of a decoder.
use Rattle.std.proofs.Common.{◌≡◌, ℕ, ◌+◌, ◌-◌, ◌<◌, ◌≤◌, true, List, ◌++◌, length, take, Result, Ok, Err, refl, sym, ap, ap₂, subst, ◌∙◌, arith, ◌⊎◌, inl, inr}
use Rattle.std.specs.Prelude.{◌&&◌, nat_le, IfOk}
use Rattle.std.proofs.lemmas.Bool.{and_parts, and_from, le-leb, leb-true}
use Rattle.std.proofs.lemmas.List.{length-append, take_at}
use Rattle.byte_fields.specs.declared.fault.Fault.{Fault}
use Rattle.byte_fields.specs.declared.fault.CodecStop.{CodecStop}
use Rattle.byte_fields.specs.declared.fault.CodecStop.TheVariants as stops
use Rattle.byte_fields.specs.Fields.{IsBytes, fault}
use Rattle.byte_fields.proofs.Fields.{ok_is}
use Rattle.gd_variant.specs.declared.value.Variant.{Variant}
use Rattle.gd_variant.specs.declared.message.Bad.{Bad}
use Rattle.gd_variant.specs.declared.message.Why.{Why}
use Rattle.gd_variant.specs.Tree.{Tree, plain}
use Rattle.gd_variant.specs.Size.{tree_size, small_tree_size}
use Rattle.gd_variant.specs.Sound.{nesting, is_right, is_sound_tree}
use Rattle.gd_variant.proofs.TreeOf.{plain_same}
use Rattle.variant_codec.specs.Grammar.{Spells, SpellsSmall}
use Rattle.variant_codec.specs.Written.{written, written_small}
use Rattle.variant_codec.specs.Readers.{Reader, Relation, Breaking}
use Rattle.variant_codec.specs.Reading.{value_at, small_at}
use Rattle.variant_codec.specs.Tests.{most_levels}
use Rattle.variant_codec.specs.Breaks.{Breaks, BreaksSmall, IsBad}
use Rattle.variant_codec.specs.Clauses.{Begins, Decodes, IsFound, Is, OneFault, ReadsForms, ReadsWritten, FaultsRightly, ReadsFaults, NoneBeginsAnother, ValueOrFault, WritesForms}
use Rattle.variant_codec.proofs.Laws.{IsReader}
use Rattle.variant_codec.proofs.Whole.{value_reader}
use Rattle.variant_codec.proofs.Small.{small_reader}
use Rattle.variant_codec.proofs.Spelled.{spelled_right, spelled_size, small_spelled_right, small_fits}
use Rattle.variant_codec.proofs.Forms.{written_spells, written_size, small_written_spells, small_written_size}

-- what stands between a reader and a decoder: forms of trees that nest 32 deep at most
abbrev Within : Relation Tree → Relation Tree
Within R t b = (nesting t < 33) × R t b

pub record Codec (read : Reader Tree) (R : Relation Tree) (B : Breaking) : Type 0 where
  pub law : IsReader read (Within R) B
  pub right : (t : Tree) (b : List ℕ) → R t b → is_right t ≡ true
  pub fits : (t : Tree) (b : List ℕ) → R t b → length b ≤ 8388608 → tree_size t ≤ 8388608

pub binary : Codec (value_at most_levels) Spells (Breaks most_levels)
binary = record { law = value_reader most_levels; right = spelled_right; fits = λ t b s le. omega (arith, spelled_size t b s, le) }

pub compressed : Codec small_at SpellsSmall BreaksSmall
compressed = record { law = small_reader; right = small_spelled_right; fits = small_fits }

sound : (t : Tree) → is_right t ≡ true → nesting t < 33 → tree_size t ≤ 8388608 → is_sound_tree t ≡ true
sound t r n s = and_from _ _ (and_from (is_right t) (nat_le (nesting t) 32) r (le-leb (nesting t) 32 (omega (arith, n)))) (le-leb (tree_size t) 8388608 s)

record SoundParts (t : Tree) : Type 0 where
  right : is_right t ≡ true
  deep : nesting t < 33
  long : tree_size t ≤ 8388608

sound_parts : (t : Tree) → is_sound_tree t ≡ true → SoundParts t
sound_parts t h =
    let a = and_parts (is_right t && nat_le (nesting t) 32) (nat_le (tree_size t) 8388608) h in
    let b = and_parts (is_right t) (nat_le (nesting t) 32) a.0 in
    let le = leb-true (nesting t) 32 b.1 in
    record { right = b.0; deep = omega (arith, le); long = leb-true (tree_size t) 8388608 a.1 }

-- ---- found

front_len : (front rest b : List ℕ) (n : ℕ) → b ≡ front ++ rest → n ≡ length b - length rest → n ≡ length front
front_len front rest b n e m = omega (arith, length-append front rest, ap length e)

found_at : {read : Reader Tree} {R : Relation Tree} {B : Breaking} → Codec read R B → (b : List ℕ) (v : Variant) (rest : List ℕ) (n : ℕ) → IsBytes b → length b ≤ 8388608 → read b ≡ Ok (plain v, rest) → n ≡ length b - length rest → IsFound R b v n
found_at {R = R} codec b v rest n fits le h e =
    let t = codec.law.takes b (plain v, rest) fits h in
    let len : n ≡ length t.front = front_len t.front rest b n t.parts e in
    let is : take n b ≡ t.front = ap (take n) t.parts ∙ take_at t.front rest n (sym len) in
    let total : length b ≡ length t.front + length rest = ap length t.parts ∙ length-append t.front rest in
    let short : length t.front ≤ 8388608 = omega (arith, total, le) in
    record {
      within = omega (arith, len, total);
      spells = subst (R (plain v)) (sym is) t.right.1;
      sound = sound (plain v) (codec.right (plain v) t.front t.right.1) t.right.0 (codec.fits (plain v) t.front t.right.1 short);
    }

pub found : {read : Reader Tree} {R : Relation Tree} {B : Breaking} → Codec read R B → (b : List ℕ) (result : Result (Variant × ℕ) CodecStop) → IsBytes b → length b ≤ 8388608 → Decodes b result (read b) → IfOk result (λ x. IsFound R b x.0 x.1)
found codec b (Ok x) fits le d = found_at codec b x.0 d.0 x.1 fits le d.1 d.2
found codec b (Err e) fits le d = tt

-- ---- forms

abbrev ok : {A : Type 0} → A → Result A Fault
ok x = Ok x

abbrev fails : {A : Type 0} → Fault → Result A Fault
fails d = Err d

same_pair : (t u : Tree) (a b : List ℕ) → ok {A = Tree × List ℕ} (t, a) ≡ ok (u, b) → (t ≡ u) × (a ≡ b)
same_pair t u a b e =
    let p : (Tree × List ℕ) = (t, a) in
    let q : (Tree × List ℕ) = (u, b) in
    let same : p ≡ q = ok_is p q e in
    (ap (λ (z : Tree × List ℕ). z.0) same, ap (λ (z : Tree × List ℕ). z.1) same)

same_fault : (d f : Fault) → fails {A = Tree × List ℕ} d ≡ fails f → d ≡ f
same_fault d f e = cc

not_both : (t : Tree × List ℕ) (f : Fault) → ok t ≡ fails f → ⊥
not_both t f e = cc

answers : (b : List ℕ) (result : Result (Variant × ℕ) CodecStop) (read : Result (Tree × List ℕ) Fault) (v : Variant) (front rest : List ℕ) → b ≡ front ++ rest → read ≡ Ok (plain v, rest) → Decodes b result read → Is result (Ok (v, length front))
answers b (Ok x) read v front rest e h d =
    let p = same_pair (plain x.0) (plain v) d.0 rest (sym d.1 ∙ h) in
    let len : x.1 ≡ length front = front_len front rest b x.1 e (d.2 ∙ ap (λ (r : List ℕ). length b - length r) p.1) in
    inl (ap₂ (λ (w : Variant) (n : ℕ). Ok (w, n)) (plain_same x.0 v p.0) len)
answers b (Err stops.OutOfMemory) read v front rest e h d = inr refl
answers b (Err (stops.Bad bad)) read v front rest e h d = absurd (not_both (plain v, rest) d.0 (sym h ∙ d.1))

pub forms : {read : Reader Tree} {R : Relation Tree} {B : Breaking} → Codec read R B → (b : List ℕ) (result : Result (Variant × ℕ) CodecStop) → Decodes b result (read b) → ReadsForms R b result
forms {read = read} codec b result d v front rest s r e =
    answers b result (read b) v front rest e (ap read e ∙ codec.law.again (plain v) front rest ((sound_parts (plain v) s).deep, r)) d

pub reads_written : {read : Reader Tree} {R : Relation Tree} {B : Breaking} → Codec read R B → (write : Tree → List ℕ) → ((t : Tree) → is_right t ≡ true → tree_size t ≤ 8388608 → R t (write t))
    → (b : List ℕ) (result : Result (Variant × ℕ) CodecStop) → Decodes b result (read b) → ReadsWritten write b result
reads_written codec write spells b result d v rest s e =
    let p = sound_parts (plain v) s in
    forms codec b result d v (write (plain v)) rest s (spells (plain v) p.right p.long) e

-- ---- faults

faults_at : (B : Breaking) (b : List ℕ) (result : Result (Variant × ℕ) CodecStop) (read : Result (Tree × List ℕ) Fault) (bad : Bad) → Decodes b result read → result ≡ Err (stops.Bad bad) → (f : Fault) × (read ≡ Err f) × (bad.at ≡ length b - f.left) × (bad.why ≡ f.why)
faults_at B b result read bad d e = subst (λ r. Decodes b r read) e d

pub rightly : {read : Reader Tree} {R : Relation Tree} {B : Breaking} → Codec read R B → (b : List ℕ) (result : Result (Variant × ℕ) CodecStop) → IsBytes b → Decodes b result (read b) → FaultsRightly B b result
rightly {read} {R} {B} codec b result fits d bad e =
    let f = faults_at B b result (read b) bad d e in
    let k = codec.law.breaks b f.0 fits f.1 in
    record {
      front = k.front;
      rest = k.rest;
      parts = k.parts;
      place = f.2 ∙ ap (λ n. length b - n) k.left ∙ omega (arith, ap length k.parts, length-append k.front k.rest);
      breaks = subst (B b k.rest) (sym f.3) k.breaks;
    }

same_bad : (y z : Bad) → y.at ≡ z.at → y.why ≡ z.why → y ≡ z
same_bad y z e f = ap₂ (λ (n : ℕ) (w : Why). record { at = n; why = w }) e f

bad_is : (b : List ℕ) (result : Result (Variant × ℕ) CodecStop) (read : Result (Tree × List ℕ) Fault) (bad : Bad) (front rest : List ℕ) → b ≡ front ++ rest → bad.at ≡ length front → read ≡ Err (fault (length rest) bad.why) → Decodes b result read → Is result (Err (stops.Bad bad))
bad_is b (Ok x) read bad front rest e at h d = absurd (not_both (plain x.0, d.0) (fault (length rest) bad.why) (sym d.1 ∙ h))
bad_is b (Err stops.OutOfMemory) read bad front rest e at h d = inr refl
bad_is b (Err (stops.Bad y)) read bad front rest e at h d =
    let f = same_fault d.0 (fault (length rest) bad.why) (sym d.1 ∙ h) in
    let place : y.at ≡ bad.at = d.2 ∙ ap (λ (g : Fault). length b - g.left) f ∙ (let len = ap length e ∙ length-append front rest in omega (arith, len)) ∙ sym at in
    let why : y.why ≡ bad.why = d.3 ∙ ap (λ (g : Fault). g.why) f in
    inl (ap (λ z. Err (stops.Bad z)) (same_bad y bad place why))

pub faults : {read : Reader Tree} {R : Relation Tree} {B : Breaking} → Codec read R B → (b : List ℕ) (result : Result (Variant × ℕ) CodecStop) → Decodes b result (read b) → ReadsFaults B b result
faults {read = read} codec b result d bad is = bad_is b result (read b) bad is.front is.rest is.parts is.place (codec.law.broken b is.rest bad.why is.breaks) d

-- ---- laws of the forms

same_rest : (a b x y : List ℕ) → a ++ x ≡ b ++ y → x ≡ y → a ≡ b
same_rest a b x y e f =
    let len : length a ≡ length b = omega (arith, ap length e, ap length f, length-append a x, length-append b y) in
    sym (take_at a x (length a) refl) ∙ ap (take (length a)) e ∙ ap (λ n. take n (b ++ y)) len ∙ take_at b y (length b) refl

pub none_begins : {read : Reader Tree} {R : Relation Tree} {B : Breaking} → Codec read R B → NoneBeginsAnother R
none_begins {read = read} codec t u a b x y st su ra rb e =
    let one = codec.law.again t a x ((sound_parts t st).deep, ra) in
    let two = codec.law.again u b y ((sound_parts u su).deep, rb) in
    let p = same_pair t u x y (sym one ∙ ap read e ∙ two) in
    (p.0, same_rest a b x y e p.1)

pub written_forms : WritesForms Spells written tree_size
written_forms t s = let p = sound_parts t s in (written_spells t p.right p.long, written_size t)

pub small_written_forms : WritesForms SpellsSmall written_small small_tree_size
small_written_forms t s = let p = sound_parts t s in (small_written_spells t p.right p.long, small_written_size t)

pub written_is : (t : Tree) (b : List ℕ) → is_sound_tree t ≡ true → b ≡ written t → Spells t b
written_is t b s e = subst (Spells t) (sym e) (written_forms t s).0

pub small_written_is : (t : Tree) (b : List ℕ) → is_sound_tree t ≡ true → b ≡ written_small t → SpellsSmall t b
small_written_is t b s e = subst (SpellsSmall t) (sym e) (small_written_forms t s).0

-- ---- a value or one fault

-- a fault is what reading answers
fault_read : {read : Reader Tree} {R : Relation Tree} {B : Breaking} → Codec read R B → (b : List ℕ) (bad : Bad) → (h : IsBad B b bad) → read b ≡ fails (fault (length h.rest) bad.why)
fault_read codec b bad h = codec.law.broken b h.rest bad.why h.breaks

-- a form is what reading answers
form_read : {read : Reader Tree} {R : Relation Tree} {B : Breaking} → Codec read R B → (b : List ℕ) → (h : Begins R b) → read b ≡ ok (h.value, h.rest)
form_read {read = read} codec b h = ap read h.parts ∙ codec.law.again h.value h.front h.rest ((sound_parts h.value h.sound).deep, h.form)

value_read : {read : Reader Tree} {R : Relation Tree} {B : Breaking} → Codec read R B → (b : List ℕ) → IsBytes b → length b ≤ 8388608 → (x : Tree × List ℕ) → read b ≡ ok x → Begins R b × ((bad : Bad) → IsBad B b bad → ⊥)
value_read codec b fits le x h =
    let t = codec.law.takes b x fits h in
    let total : length b ≡ length t.front + length x.1 = ap length t.parts ∙ length-append t.front x.1 in (
      record {
        value = x.0;
        front = t.front;
        rest = x.1;
        parts = t.parts;
        sound = sound x.0 (codec.right x.0 t.front t.right.1) t.right.0 (codec.fits x.0 t.front t.right.1 (omega (arith, total, le)));
        form = t.right.1;
      },
      λ bad is. not_both x (fault (length is.rest) bad.why) (sym h ∙ fault_read codec b bad is),
    )

-- two faults that read alike stand at one place
same_place : (b front rest front' rest' : List ℕ) → b ≡ front ++ rest → b ≡ front' ++ rest' → length rest ≡ length rest' → length front ≡ length front'
same_place b front rest front' rest' e f same = omega (arith, ap length e, ap length f, length-append front rest, length-append front' rest', same)

fault_only : {read : Reader Tree} {R : Relation Tree} {B : Breaking} → Codec read R B → (b : List ℕ) → IsBytes b → (f : Fault) → read b ≡ fails f → OneFault B b × (Begins R b → ⊥)
fault_only {read} {R} {B} codec b fits f h =
    let k = codec.law.breaks b f fits h in (
      record {
        bad = record { at = length k.front; why = f.why };
        is = record { front = k.front; rest = k.rest; parts = k.parts; place = refl; breaks = k.breaks };
        only = λ other is.
            let g = same_fault f (fault (length is.rest) other.why) (sym h ∙ fault_read codec b other is) in
            let rests : length is.rest ≡ length k.rest = sym (ap (λ (d : Fault). d.left) g) ∙ k.left in
            same_bad other (record { at = length k.front; why = f.why }) (is.place ∙ same_place b is.front is.rest k.front k.rest is.parts k.parts rests) (sym (ap (λ (d : Fault). d.why) g));
      },
      λ v. not_both (v.value, v.rest) f (sym (form_read codec b v) ∙ h),
    )

read_by : {read : Reader Tree} {R : Relation Tree} {B : Breaking} → Codec read R B → (b : List ℕ) → IsBytes b → length b ≤ 8388608 → (r : Result (Tree × List ℕ) Fault) → read b ≡ r → (Begins R b × ((bad : Bad) → IsBad B b bad → ⊥)) ⊎ (OneFault B b × (Begins R b → ⊥))
read_by codec b fits le (Ok x) h = inl (value_read codec b fits le x h)
read_by codec b fits le (Err f) h = inr (fault_only codec b fits f h)

pub value_or_fault : {read : Reader Tree} {R : Relation Tree} {B : Breaking} → Codec read R B → ValueOrFault R B
value_or_fault {read = read} codec b fits le = read_by codec b fits le (read b) refl
