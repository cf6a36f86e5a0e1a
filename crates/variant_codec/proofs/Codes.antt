-- What the layout of a type number tells, checked over all of them.
use Rattle.std.proofs.Common.{◌≡◌, ℕ, zero, suc, ◌+◌, ◌*◌, ◌/◌, ◌^◌, ◌<◌, Bool, true, false, cond, refl, sym, ap, ◌∙◌, arith, inl, inr}
use Rattle.std.specs.Prelude.{not, ◌&&◌, ◌||◌, nat_eq, nat_le, nat_lt}
use Rattle.std.proofs.lemmas.Bool.{and_parts, and_from, or_cases, eqb-true, eqb-false, leb-true, leb-false, cases_lt, cases_Bool}
use Rattle.gd_variant.specs.Sound.{ints_count, components, at_or, component_size, element_size, may_be_wide}
use Rattle.variant_codec.specs.declared.form.Form.{Form}
use Rattle.variant_codec.specs.declared.form.Form.TheVariants as form
use Rattle.variant_codec.specs.Header.{flag, code_in, is_wide, is_kind, is_carried, may_be_flagged, has_right_flags, holds_values, form_of}

-- a test of all numbers below one
abbrev all_below : (ℕ → Bool) → ℕ → Bool
all_below p zero = true
all_below p (suc n) = p n && all_below p n

below : (p : ℕ → Bool) (n k : ℕ) → all_below p n ≡ true → k < n → p k ≡ true
below p zero k h lt = absurd (omega (arith, lt))
below p (suc n) k h lt =
    let a = and_parts (p n) (all_below p n) h in
    elim (cases_lt k n) [
      | inl less ↦ below p n k a.1 less
      | inr more ↦ let e : k ≡ n = omega (arith, lt, more) in ap p e ∙ a.0
    ]

pub or_true : (b : Bool) → (b || true) ≡ true
or_true true = refl
or_true false = refl

not_true : (b : Bool) → not b ≡ true → b ≡ false
not_true true h = sym h
not_true false h = refl

abbrev implies : Bool → Bool → Bool
implies a b = not a || b

implied : (a b : Bool) → implies a b ≡ true → a ≡ true → b ≡ true
implied true b h e = h
implied false b h e = absurd cc

-- ---- from a layout to its type numbers

abbrev pub told_test : Form → ℕ → Bool
told_test form.Nil c = nat_eq c 0
told_test form.Bool c = nat_eq c 1
told_test form.Int c = nat_eq c 2
told_test form.Text c = nat_eq c 4
told_test form.Name c = nat_eq c 21
told_test form.Path c = nat_eq c 22
told_test form.Ints c = not (nat_eq (ints_count c) 0) && not (may_be_flagged c)
told_test form.Fixed c = not (nat_le 32 c) && (not (nat_eq (at_or c components) 0) && (may_be_wide c || not (may_be_flagged c)))
told_test form.Dict c = nat_eq c 27
told_test form.Array c = nat_eq c 28
told_test form.Bytes c = nat_eq c 29
told_test form.Shorts c = nat_eq c 30
told_test form.Longs c = nat_eq c 31
told_test form.Texts c = nat_eq c 34
told_test form.Elements c = nat_le 32 c && (not (nat_eq (element_size c false) 0) && (not (nat_eq (element_size c true) 0) && (may_be_wide c || not (may_be_flagged c))))

abbrev told_all : ℕ → Bool
told_all c = implies (not (nat_lt 22 c && nat_lt c 27)) (told_test (form_of c) c)

told_checked : all_below told_all 39 ≡ true
unfolding form_of
told_checked = refl

pub told : (head : ℕ) → is_kind head ≡ true → is_carried head ≡ true → told_test (form_of (code_in head)) (code_in head) ≡ true
told head kind carried = implied (not (nat_lt 22 (code_in head) && nat_lt (code_in head) 27)) _ (below told_all 39 (code_in head) told_checked (omega (arith, leb-true (code_in head) 38 kind))) carried

-- ---- a header's two halves

pub head_is : (head : ℕ) → has_right_flags head ≡ true → head ≡ code_in head + flag (is_wide head)
head_is head h =
    elim (or_cases (nat_eq (head / 65536) 0) (is_wide head && may_be_flagged (code_in head)) h) [
      | inl z ↦ let e : head / 65536 ≡ 0 = eqb-true _ 0 z in rw e (omega arith)
      | inr w ↦
          let one : head / 65536 ≡ 1 = eqb-true _ 1 (and_parts (is_wide head) (may_be_flagged (code_in head)) w).0 in
          rw one (omega arith)
    ]

-- a type without the flag
pub flagless : (head : ℕ) → has_right_flags head ≡ true → may_be_flagged (code_in head) ≡ false → is_wide head ≡ false
flagless head h without =
    elim (or_cases (nat_eq (head / 65536) 0) (is_wide head && may_be_flagged (code_in head)) h) [
      | inl z ↦ let e : head / 65536 ≡ 0 = eqb-true _ 0 z in rw e refl
      | inr w ↦ let f : may_be_flagged (code_in head) ≡ true = (and_parts (is_wide head) (may_be_flagged (code_in head)) w).1 in absurd cc
    ]

-- a wide one
pub flagged : (head : ℕ) → has_right_flags head ≡ true → (may_be_wide (code_in head) || not (may_be_flagged (code_in head))) ≡ true → (may_be_wide (code_in head) || not (is_wide head)) ≡ true
flagged head h wide =
    elim (cases_Bool (is_wide head)) [
      | inl w ↦
          elim (or_cases (nat_eq (head / 65536) 0) (is_wide head && may_be_flagged (code_in head)) h) [
            | inl z ↦ let e : head / 65536 ≡ 0 = eqb-true _ 0 z in let f : is_wide head ≡ false = rw e refl in absurd cc
            | inr v ↦
                let f : may_be_flagged (code_in head) ≡ true = (and_parts (is_wide head) (may_be_flagged (code_in head)) v).1 in
                elim (or_cases (may_be_wide (code_in head)) (not (may_be_flagged (code_in head))) wide) [
                  | inl m ↦ rw m refl
                  | inr m ↦ let g : may_be_flagged (code_in head) ≡ false = not_true _ m in absurd cc
                ]
          ]
      | inr n ↦ rw n (or_true (may_be_wide (code_in head)))
    ]

-- the halves of a header that is made of them
pub code_back : (c : ℕ) (wide : Bool) → c < 65536 → code_in (c + flag wide) ≡ c
code_back c true lt = omega (arith, lt)
code_back c false lt = omega (arith, lt)

pub wide_back : (c : ℕ) (wide : Bool) → c < 65536 → is_wide (c + flag wide) ≡ wide
wide_back c true lt = let e : (c + 65536) / 65536 ≡ 1 = omega (arith, lt) in rw e refl
wide_back c false lt = let e : (c + 0) / 65536 ≡ 0 = omega (arith, lt) in rw e refl

pub head_fits : (c : ℕ) (wide : Bool) → c < 65536 → c + flag wide < 2 ^ 32
head_fits c true lt = omega (arith, lt)
head_fits c false lt = omega (arith, lt)

-- ---- from a type number to its layout

pick : {X : Type 0} (P : X → Type 0) (b : Bool) (x y : X) → (b ≡ true → P x) → (b ≡ false → P y) → P (cond b x y)
pick P true x y f g = f refl
pick P false x y f g = g refl

abbrev Small : ℕ → ℕ → Type 0
Small c size = (size ≡ 0 → ⊥) → c < 39

-- only the type numbers of a table have a size there
pub ints_small : (c : ℕ) → Small c (ints_count c)
ints_small c =
    pick (Small c) (nat_eq c 6) 2 _ (λ e _. let k = eqb-true c 6 e in omega arith)
    (λ _. pick (Small c) (nat_eq c 8) 4 _ (λ e _. let k = eqb-true c 8 e in omega arith)
    (λ _. pick (Small c) (nat_eq c 10) 3 _ (λ e _. let k = eqb-true c 10 e in omega arith)
    (λ _. pick (Small c) (nat_eq c 13) 4 0 (λ e _. let k = eqb-true c 13 e in omega arith) (λ _ h. absurd (h refl)))))

pub element_small : (c : ℕ) (wide : Bool) → Small c (element_size c wide)
element_small c wide =
    pick (Small c) (nat_eq c 32) 4 _ (λ e _. let k = eqb-true c 32 e in omega arith)
    (λ _. pick (Small c) (nat_eq c 33) 8 _ (λ e _. let k = eqb-true c 33 e in omega arith)
    (λ _. pick (Small c) (nat_eq c 35) (2 * component_size wide) _ (λ e _. let k = eqb-true c 35 e in omega arith)
    (λ _. pick (Small c) (nat_eq c 36) (3 * component_size wide) _ (λ e _. let k = eqb-true c 36 e in omega arith)
    (λ _. pick (Small c) (nat_eq c 37) 16 _ (λ e _. let k = eqb-true c 37 e in omega arith)
    (λ _. pick (Small c) (nat_eq c 38) (4 * component_size wide) 0 (λ e _. let k = eqb-true c 38 e in omega arith) (λ _ h. absurd (h refl)))))))

abbrev is_ints : Form → Bool
is_ints form.Ints = true
is_ints f = false

abbrev is_fixed : Form → Bool
is_fixed form.Fixed = true
is_fixed f = false

abbrev is_elements : Form → Bool
is_elements form.Elements = true
is_elements f = false

the_ints : (f : Form) → is_ints f ≡ true → f ≡ form.Ints
the_ints form.Ints e = refl
the_ints f e = absurd cc

the_fixed : (f : Form) → is_fixed f ≡ true → f ≡ form.Fixed
the_fixed form.Fixed e = refl
the_fixed f e = absurd cc

the_elements : (f : Form) → is_elements f ≡ true → f ≡ form.Elements
the_elements form.Elements e = refl
the_elements f e = absurd cc

-- a type number with its flag makes a right header, for values that hold none
abbrev good_head : ℕ → Bool → Bool
good_head c wide = is_kind (c + flag wide) && (is_carried (c + flag wide) && (has_right_flags (c + flag wide) && not (holds_values (code_in (c + flag wide)))))

abbrev ints_test : ℕ → Bool
ints_test c = implies (not (nat_eq (ints_count c) 0)) (is_ints (form_of c) && good_head c false)

ints_checked : all_below ints_test 39 ≡ true
unfolding form_of
ints_checked = refl

abbrev fixed_test : Bool → ℕ → Bool
fixed_test wide c = implies (not (nat_le 32 c) && (not (nat_eq (at_or c components) 0) && (may_be_wide c || not wide))) (is_fixed (form_of c) && good_head c wide)

fixed_checked : (wide : Bool) → all_below (fixed_test wide) 39 ≡ true
unfolding form_of
fixed_checked true = refl
fixed_checked false = refl

abbrev elements_test : Bool → ℕ → Bool
elements_test wide c = implies (nat_le 32 c && (not (nat_eq (element_size c wide) 0) && (may_be_wide c || not wide))) (is_elements (form_of c) && good_head c wide)

elements_checked : (wide : Bool) → all_below (elements_test wide) 39 ≡ true
unfolding form_of
elements_checked true = refl
elements_checked false = refl

-- what makes a header right
pub record GoodHead (form : Form) (c : ℕ) (wide : Bool) : Type 0 where
  pub small : c < 39
  pub named : form_of c ≡ form
  pub kind : is_kind (c + flag wide) ≡ true
  pub carried : is_carried (c + flag wide) ≡ true
  pub flags : has_right_flags (c + flag wide) ≡ true
  pub flat : holds_values (code_in (c + flag wide)) ≡ false

good : (form : Form) (c : ℕ) (wide : Bool) → c < 39 → form_of c ≡ form → good_head c wide ≡ true → GoodHead form c wide
good form c wide lt e h =
    let a = and_parts (is_kind (c + flag wide)) _ h in
    let b = and_parts (is_carried (c + flag wide)) _ a.1 in
    let d = and_parts (has_right_flags (c + flag wide)) _ b.1 in
    record { small = lt; named = e; kind = a.0; carried = b.0; flags = d.0; flat = not_true _ d.1 }

pub ints_head : (c : ℕ) → nat_eq (ints_count c) 0 ≡ false → GoodHead form.Ints c false
ints_head c h =
    let lt : c < 39 = ints_small c (eqb-false (ints_count c) 0 h) in
    let a = and_parts (is_ints (form_of c)) (good_head c false) (implied (not (nat_eq (ints_count c) 0)) _ (below ints_test 39 c ints_checked lt) (ap not h)) in
    good form.Ints c false lt (the_ints (form_of c) a.0) a.1

pub fixed_head : (c : ℕ) (wide : Bool) → nat_le 32 c ≡ false → nat_eq (at_or c components) 0 ≡ false → (may_be_wide c || not wide) ≡ true → GoodHead form.Fixed c wide
fixed_head c wide small some w =
    let lt : c < 39 = (let k = leb-false 32 c small in omega arith) in
    let premise = and_from (not (nat_le 32 c)) _ (ap not small) (and_from (not (nat_eq (at_or c components) 0)) _ (ap not some) w) in
    let a = and_parts (is_fixed (form_of c)) (good_head c wide) (implied _ _ (below (fixed_test wide) 39 c (fixed_checked wide) lt) premise) in
    good form.Fixed c wide lt (the_fixed (form_of c) a.0) a.1

pub elements_head : (c : ℕ) (wide : Bool) → nat_le 32 c ≡ true → nat_eq (element_size c wide) 0 ≡ false → (may_be_wide c || not wide) ≡ true → GoodHead form.Elements c wide
elements_head c wide big some w =
    let lt : c < 39 = element_small c wide (eqb-false (element_size c wide) 0 some) in
    let premise = and_from (nat_le 32 c) _ big (and_from (not (nat_eq (element_size c wide) 0)) _ (ap not some) w) in
    let a = and_parts (is_elements (form_of c)) (good_head c wide) (implied _ _ (below (elements_test wide) 39 c (elements_checked wide) lt) premise) in
    good form.Elements c wide lt (the_elements (form_of c) a.0) a.1
