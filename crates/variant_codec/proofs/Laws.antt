-- The four laws of a reader: what is read is right, what is right is read whatever follows, where
-- reading fails the bytes break, and where they break reading fails. Each way to put readers together
-- keeps them.
use Rattle.std.proofs.Common.{◌≡◌, ℕ, zero, suc, ◌<◌, ◌≤◌, Bool, false, cond, ltb, List, [], ◌∷◌, ◌++◌, length, take, Result, Ok, Err, refl, sym, ap, subst, ◌∙◌, append_assoc, arith, inl, inr, ◌⊎◌}
use Rattle.std.specs.Int.{Width, byte_len}
use Rattle.std.proofs.lemmas.Bool.{ltb-true, ltb-false, lt-ltb, le-ltb}
use Rattle.std.proofs.lemmas.List.{append-nil, length-append, length-take, take_at, drop_at, take-append-drop}
use Rattle.byte_fields.specs.declared.fault.Fault.{Fault}
use Rattle.byte_fields.specs.Fields.{IsBytes, ◌>>=◌, fault, word, number_at}
use Rattle.byte_fields.proofs.Fields.{IsBytes-drop, bind_ok, chosen, ok_is, IsWide, number_takes, number_again}
use Rattle.gd_variant.specs.declared.message.Why.{Why}
use Rattle.gd_variant.specs.declared.message.Why.TheVariants.{Short}
use Rattle.variant_codec.specs.Readers.{Reader, Relation, Breaking, raw_at, IsRaw, IsShort, IsWord, done_at, IsDone, NeverBreaks, mapped_by, Mapped, checked_by, Checked, CheckBreaks, then_by, Then, ThenBreaks, list_by, Each, EachOf, EachBreaks, whole_by}

-- what a reader took from the front
pub record Took {X : Type 0} (R : Relation X) (bytes : List ℕ) (x : X × List ℕ) : Type 0 where
  pub front : List ℕ
  pub right : R x.0 front
  pub parts : bytes ≡ front ++ x.1
  pub rest_fits : IsBytes x.1

-- where a reader stopped
pub record Broke (B : Breaking) (bytes : List ℕ) (f : Fault) : Type 0 where
  pub front : List ℕ
  pub rest : List ℕ
  pub parts : bytes ≡ front ++ rest
  pub left : f.left ≡ length rest
  pub breaks : B bytes rest f.why

pub record IsReader {X : Type 0} (read : Reader X) (R : Relation X) (B : Breaking) : Type 0 where
  pub takes : (bytes : List ℕ) (x : X × List ℕ) → IsBytes bytes → read bytes ≡ Ok x → Took R bytes x
  pub again : (x : X) (front rest : List ℕ) → R x front → read (front ++ rest) ≡ Ok (x, rest)
  pub breaks : (bytes : List ℕ) (f : Fault) → IsBytes bytes → read bytes ≡ Err f → Broke B bytes f
  pub broken : (bytes rest : List ℕ) (why : Why) → B bytes rest why → read bytes ≡ Err (fault (length rest) why)

-- ---- steps that may fail

abbrev ok : {A : Type 0} → A → Result A Fault
ok x = Ok x

abbrev fails : {A : Type 0} → Fault → Result A Fault
fails d = Err d

pub no_ok : {A : Type 0} (x : A) (f : Fault) → ok x ≡ fails f → ⊥
no_ok x f e = cc

pub no_err : {A : Type 0} (d : Fault) (y : A) → fails d ≡ ok y → ⊥
no_err d y e = cc

pub err_is : {A : Type 0} (d f : Fault) → fails {A = A} d ≡ fails f → d ≡ f
err_is d f e = cc

-- the step that failed
pub bind_err : {A B : Type 0} (r : Result A Fault) (f : A → Result B Fault) (d : Fault) → (r >>= f) ≡ Err d → (r ≡ Err d) ⊎ ((x : A) × (r ≡ Ok x) × (f x ≡ Err d))
bind_err (Ok x) f d e = inr (x, refl, e)
bind_err (Err c) f d e = inl (ap (λ (z : Fault). Err z) (err_is c d e))

-- a step that fails, fails all
pub bind_fails : {A B : Type 0} (r : Result A Fault) (f : A → Result B Fault) (d : Fault) → r ≡ Err d → (r >>= f) ≡ Err d
bind_fails r f d e = rw e refl

pub bind_goes : {A B : Type 0} (r : Result A Fault) (f : A → Result B Fault) (x : A) (y : Result B Fault) → r ≡ Ok x → f x ≡ y → (r >>= f) ≡ y
bind_goes r f x y e h = rw e h

-- a fault at the front of the bytes
pub here : (B : Breaking) (bytes : List ℕ) (f : Fault) (why : Why) → fault (length bytes) why ≡ f → B bytes bytes why → Broke B bytes f
here B bytes f why e b = subst (Broke B bytes) e (record { front = []; rest = bytes; parts = refl; left = refl; breaks = b })

-- ---- one field

pub word_reader : (w : Width) (limit : ℕ) → IsWide w limit → IsReader (number_at w) (IsWord w limit) (IsShort (byte_len w))
unfolding number_at
word_reader w limit wide = record {
  takes = λ bytes x fits e.
      let t = number_takes w limit wide bytes x fits e in
      record { front = word w x.0; right = (t.fits, refl); parts = t.parts; rest_fits = t.rest_fits };
  again = λ n front rest r. ap (λ (b : List ℕ). number_at w (b ++ rest)) r.1 ∙ number_again w limit wide n rest r.0;
  breaks = λ bytes f fits e.
      elim (chosen (ltb (length bytes) (byte_len w)) _ _ _ e) [
        | inl h ↦ here (IsShort (byte_len w)) bytes f Short (err_is _ f h.1) (ltb-true _ _ h.0, refl, refl)
        | inr h ↦ absurd (no_ok _ f h.1)
      ];
  broken = λ bytes rest why b. rw (lt-ltb (length bytes) (byte_len w) b.0) (ap (λ (r : List ℕ). Err (fault (length r) Short)) (sym b.1) ∙ ap (λ y. Err (fault (length rest) y)) (sym b.2));
}

pub raw_reader : (n : ℕ) → IsReader (raw_at n) (IsRaw n) (IsShort n)
raw_reader n = record {
  takes = λ bytes x fits e.
      elim (chosen (ltb (length bytes) n) _ _ _ e) [
        | inl h ↦ absurd (no_err _ x h.1)
        | inr h ↦ subst (Took (IsRaw n) bytes) (ok_is _ x h.1) (record {
          front = take n bytes;
          right = (let long : n ≤ length bytes = ltb-false _ _ h.0 in omega (arith, length-take n bytes), refl);
          parts = sym (take-append-drop n bytes);
          rest_fits = IsBytes-drop n bytes fits;
        })
      ];
  again = λ s front rest r.
      let long : ltb (length (s ++ rest)) n ≡ false = le-ltb _ _ (let len = r.0 in omega (arith, length-append s rest)) in
      ap (λ (b : List ℕ). raw_at n (b ++ rest)) r.1 ∙ rw (long, take_at s rest n r.0, drop_at s rest n r.0) refl;
  breaks = λ bytes f fits e.
      elim (chosen (ltb (length bytes) n) _ _ _ e) [
        | inl h ↦ here (IsShort n) bytes f Short (err_is _ f h.1) (ltb-true _ _ h.0, refl, refl)
        | inr h ↦ absurd (no_ok _ f h.1)
      ];
  broken = λ bytes rest why b. rw (lt-ltb (length bytes) n b.0) (ap (λ (r : List ℕ). Err (fault (length r) Short)) (sym b.1) ∙ ap (λ y. Err (fault (length rest) y)) (sym b.2));
}

pub done_reader : {X : Type 0} (x : X) → IsReader (done_at x) (IsDone x) NeverBreaks
done_reader x = record {
  takes = λ bytes y fits e. subst (Took (IsDone x) bytes) (ok_is _ y e) (record { front = []; right = (refl, refl); parts = refl; rest_fits = fits });
  again = λ y front rest r. ap (λ (b : List ℕ). done_at x (b ++ rest)) r.1 ∙ ap (λ z. Ok (z, rest)) (sym r.0);
  breaks = λ bytes f fits e. absurd (no_ok _ f e);
  broken = λ bytes rest why b. absurd b;
}

-- ---- the same reader, for other words of the same meaning

pub turned : {X : Type 0} {read : Reader X} {R S : Relation X} {B C : Breaking} → IsReader read R B
    → ((x : X) (b : List ℕ) → R x b → S x b) → ((x : X) (b : List ℕ) → S x b → R x b)
    → ((b rest : List ℕ) (why : Why) → B b rest why → C b rest why) → ((b rest : List ℕ) (why : Why) → C b rest why → B b rest why) → IsReader read S C
turned r to from out back = record {
  takes = λ bytes x fits e. let t = r.takes bytes x fits e in record { front = t.front; right = to x.0 t.front t.right; parts = t.parts; rest_fits = t.rest_fits };
  again = λ x front rest s. r.again x front rest (from x front s);
  breaks = λ bytes f fits e. let b = r.breaks bytes f fits e in record { front = b.front; rest = b.rest; parts = b.parts; left = b.left; breaks = out bytes b.rest f.why b.breaks };
  broken = λ bytes rest why c. r.broken bytes rest why (back bytes rest why c);
}

-- the same relation of breaking
pub seen : {X : Type 0} {read : Reader X} {R S : Relation X} {B : Breaking} → IsReader read R B → ((x : X) (b : List ℕ) → R x b → S x b) → ((x : X) (b : List ℕ) → S x b → R x b) → IsReader read S B
seen r to from = turned r to from (λ b rest why h. h) (λ b rest why h. h)

-- ---- readers put together

pub mapped_reader : {X Y : Type 0} (f : X → Y) {read : Reader X} {R : Relation X} {B : Breaking} → IsReader read R B → IsReader (mapped_by f read) (Mapped f R) B
mapped_reader f {read} {R} r = record {
  takes = λ bytes y fits e.
      let a = bind_ok (read bytes) (λ x. Ok (f x.0, x.1)) y e in
      let t = r.takes bytes a.0 fits a.1 in
      subst (Took (Mapped f R) bytes) (ok_is _ y a.2) (record { front = t.front; right = (a.0.0, refl, t.right); parts = t.parts; rest_fits = t.rest_fits });
  again = λ y front rest m. bind_goes (read (front ++ rest)) (λ x. Ok (f x.0, x.1)) (m.0, rest) _ (r.again m.0 front rest m.2) (ap (λ z. Ok (z, rest)) (sym m.1));
  breaks = λ bytes d fits e.
      elim (bind_err (read bytes) (λ x. Ok (f x.0, x.1)) d e) [
        | inl h ↦ r.breaks bytes d fits h
        | inr h ↦ absurd (no_ok _ d h.2)
      ];
  broken = λ bytes rest why b. bind_fails (read bytes) (λ x. Ok (f x.0, x.1)) _ (r.broken bytes rest why b);
}

pub checked_reader : {X : Type 0} (test : X → Bool) (reason : Why) {read : Reader X} {R : Relation X} {B : Breaking} → IsReader read R B → IsReader (checked_by test reason read) (Checked test R) (CheckBreaks test reason R B)
checked_reader {X} test reason {read} {R} {B} r =
    let next : List ℕ → X × List ℕ → Result (X × List ℕ) Fault = λ bytes x. cond (test x.0) (Ok x) (Err (fault (length bytes) reason)) in
    record {
      takes = λ bytes y fits e.
          let a = bind_ok (read bytes) (next bytes) y e in
          let t = r.takes bytes a.0 fits a.1 in
          elim (chosen (test a.0.0) _ _ _ a.2) [
            | inl h ↦ subst (Took (Checked test R) bytes) (ok_is _ y h.1) (record { front = t.front; right = (h.0, t.right); parts = t.parts; rest_fits = t.rest_fits })
            | inr h ↦ absurd (no_err _ y h.1)
          ];
      again = λ y front rest m. bind_goes (read (front ++ rest)) (next (front ++ rest)) (y, rest) _ (r.again y front rest m.1) (rw m.0 refl);
      breaks = λ bytes d fits e.
          elim (bind_err (read bytes) (next bytes) d e) [
            | inl h ↦ let b = r.breaks bytes d fits h in record { front = b.front; rest = b.rest; parts = b.parts; left = b.left; breaks = inl b.breaks }
            | inr h ↦
                let t = r.takes bytes h.0 fits h.1 in
                elim (chosen (test h.0.0) _ _ _ h.2) [
                  | inl k ↦ absurd (no_ok _ d k.1)
                  | inr k ↦ here (CheckBreaks test reason R B) bytes d reason (err_is _ d k.1) (inr (h.0.0, t.front, h.0.1, t.right, t.parts, k.0, refl, refl))
                ]
          ];
      broken = λ bytes rest why b.
          elim b [
            | inl h ↦ bind_fails (read bytes) (next bytes) _ (r.broken bytes rest why h)
            | inr h ↦ bind_goes (read bytes) (next bytes) (h.0, h.2) _ (ap read h.4 ∙ r.again h.0 h.1 h.2 h.3)
                (rw h.5 (ap (λ (l : List ℕ). Err (fault (length l) reason)) (sym h.6) ∙ ap (λ y. Err (fault (length rest) y)) (sym h.7)))
          ];
    }

pub then_reader : {X Y : Type 0} {read : Reader X} {next : X → Reader Y} {R : Relation X} {S : X → Relation Y} {B : Breaking} {C : X → Breaking}
    → IsReader read R B → ((x : X) → IsReader (next x) (S x) (C x)) → IsReader (then_by read next) (Then R S) (ThenBreaks R B C)
then_reader {X} {Y} {read} {next} {R} {S} {B} {C} r each =
    let go : X × List ℕ → Result (Y × List ℕ) Fault = λ x. next x.0 x.1 in
    record {
      takes = λ bytes y fits e.
          let a = bind_ok (read bytes) go y e in
          let t = r.takes bytes a.0 fits a.1 in
          let u = (each a.0.0).takes a.0.1 y t.rest_fits a.2 in
          record {
            front = t.front ++ u.front;
            right = (a.0.0, t.front, u.front, t.right, u.right, refl);
            parts = t.parts ∙ ap (λ (l : List ℕ). t.front ++ l) u.parts ∙ sym (append_assoc t.front u.front y.1);
            rest_fits = u.rest_fits;
          };
      again = λ y front rest m.
          ap (λ (l : List ℕ). then_by read next (l ++ rest)) m.5 ∙ ap (then_by read next) (append_assoc m.1 m.2 rest)
          ∙ bind_goes (read (m.1 ++ (m.2 ++ rest))) go (m.0, m.2 ++ rest) _ (r.again m.0 m.1 (m.2 ++ rest) m.3) ((each m.0).again y m.2 rest m.4);
      breaks = λ bytes d fits e.
          elim (bind_err (read bytes) go d e) [
            | inl h ↦ let b = r.breaks bytes d fits h in record { front = b.front; rest = b.rest; parts = b.parts; left = b.left; breaks = inl b.breaks }
            | inr h ↦
                let t = r.takes bytes h.0 fits h.1 in
                let b = (each h.0.0).breaks h.0.1 d t.rest_fits h.2 in
                record {
                  front = t.front ++ b.front;
                  rest = b.rest;
                  parts = t.parts ∙ ap (λ (l : List ℕ). t.front ++ l) b.parts ∙ sym (append_assoc t.front b.front b.rest);
                  left = b.left;
                  breaks = inr (h.0.0, t.front, h.0.1, t.right, t.parts, b.breaks);
                }
          ];
      broken = λ bytes rest why b.
          elim b [
            | inl h ↦ bind_fails (read bytes) go _ (r.broken bytes rest why h)
            | inr h ↦ bind_goes (read bytes) go (h.0, h.2) _ (ap read h.4 ∙ r.again h.0 h.1 h.2 h.3) ((each h.0).broken h.2 rest why h.5)
          ];
    }

-- ---- lists

record TookFrom {X : Type 0} (R : List X → Relation X) (before : List X) (n : ℕ) (bytes : List ℕ) (y : List X × List ℕ) : Type 0 where
  xs : List X
  front : List ℕ
  all : y.0 ≡ before ++ xs
  counted : length xs ≡ n
  right : Each R before xs front
  parts : bytes ≡ front ++ y.1
  rest_fits : IsBytes y.1

record BrokeFrom {X : Type 0} (R : List X → Relation X) (B : List X → Breaking) (before : List X) (n : ℕ) (bytes : List ℕ) (f : Fault) : Type 0 where
  xs : List X
  front : List ℕ
  more : List ℕ
  inner : List ℕ
  rest : List ℕ
  right : Each R before xs front
  fewer : length xs < n
  parts : bytes ≡ front ++ more
  inner_parts : more ≡ inner ++ rest
  left : f.left ≡ length rest
  breaks : B (before ++ xs) more rest f.why

-- one part before the others
one_before : {X : Type 0} (before xs : List X) (x : X) → (before ++ x ∷ []) ++ xs ≡ before ++ x ∷ xs
one_before before xs x = append_assoc before (x ∷ []) xs

list_takes : {X : Type 0} {read : List X → Reader X} {R : List X → Relation X} {B : List X → Breaking} → ((before : List X) → IsReader (read before) (R before) (B before))
    → (n : ℕ) (before : List X) (bytes : List ℕ) (y : List X × List ℕ) → IsBytes bytes → list_by read before n bytes ≡ Ok y → TookFrom R before n bytes y
list_takes {R = R} each zero before bytes y fits e =
    subst (TookFrom R before zero bytes) (ok_is _ y e) (record { xs = []; front = []; all = sym (append-nil before); counted = refl; right = refl; parts = refl; rest_fits = fits })
list_takes {X} {read} {R} {B} each (suc n) before bytes y fits e =
    let a = bind_ok (read before bytes) (λ x. list_by read (before ++ x.0 ∷ []) n x.1) y e in
    let t = (each before).takes bytes a.0 fits a.1 in
    let u = list_takes {B = B} each n (before ++ a.0.0 ∷ []) a.0.1 y t.rest_fits a.2 in
    record {
      xs = a.0.0 ∷ u.xs;
      front = t.front ++ u.front;
      all = u.all ∙ one_before before u.xs a.0.0;
      counted = ap suc u.counted;
      right = (t.front, u.front, t.right, u.right, refl);
      parts = t.parts ∙ ap (λ (l : List ℕ). t.front ++ l) u.parts ∙ sym (append_assoc t.front u.front y.1);
      rest_fits = u.rest_fits;
    }

list_again : {X : Type 0} {read : List X → Reader X} {R : List X → Relation X} {B : List X → Breaking} → ((before : List X) → IsReader (read before) (R before) (B before))
    → (xs before : List X) (front rest : List ℕ) → Each R before xs front → list_by read before (length xs) (front ++ rest) ≡ Ok (before ++ xs, rest)
list_again {read = read} each [] before front rest r = ap (λ (l : List ℕ). list_by read before zero (l ++ rest)) r ∙ ap (λ ys. Ok (ys, rest)) (sym (append-nil before))
list_again {X} {read} {R} {B} each (x ∷ xs) before front rest r =
    ap (λ (l : List ℕ). list_by read before (suc (length xs)) (l ++ rest)) r.4 ∙ ap (list_by read before (suc (length xs))) (append_assoc r.0 r.1 rest)
    ∙ bind_goes (read before (r.0 ++ (r.1 ++ rest))) (λ y. list_by read (before ++ y.0 ∷ []) (length xs) y.1) (x, r.1 ++ rest) _ ((each before).again x r.0 (r.1 ++ rest) r.2)
    (list_again {B = B} each xs (before ++ x ∷ []) r.1 rest r.3 ∙ ap (λ ys. Ok (ys, rest)) (one_before before xs x))

list_breaks : {X : Type 0} {read : List X → Reader X} {R : List X → Relation X} {B : List X → Breaking} → ((before : List X) → IsReader (read before) (R before) (B before))
    → (n : ℕ) (before : List X) (bytes : List ℕ) (f : Fault) → IsBytes bytes → list_by read before n bytes ≡ Err f → BrokeFrom R B before n bytes f
list_breaks each zero before bytes f fits e = absurd (no_ok _ f e)
list_breaks {X} {read} {R} {B} each (suc n) before bytes f fits e =
    elim (bind_err (read before bytes) (λ x. list_by read (before ++ x.0 ∷ []) n x.1) f e) [
      | inl h ↦
          let b = (each before).breaks bytes f fits h in
          record {
            xs = [];
            front = [];
            more = bytes;
            inner = b.front;
            rest = b.rest;
            right = refl;
            fewer = omega arith;
            parts = refl;
            inner_parts = b.parts;
            left = b.left;
            breaks = subst (λ ys. B ys bytes b.rest f.why) (sym (append-nil before)) b.breaks;
          }
      | inr h ↦
          let t = (each before).takes bytes h.0 fits h.1 in
          let u = list_breaks {B = B} each n (before ++ h.0.0 ∷ []) h.0.1 f t.rest_fits h.2 in
          record {
            xs = h.0.0 ∷ u.xs;
            front = t.front ++ u.front;
            more = u.more;
            inner = u.inner;
            rest = u.rest;
            right = (t.front, u.front, t.right, u.right, refl);
            fewer = (let lt = u.fewer in omega arith);
            parts = t.parts ∙ ap (λ (l : List ℕ). t.front ++ l) u.parts ∙ sym (append_assoc t.front u.front u.more);
            inner_parts = u.inner_parts;
            left = u.left;
            breaks = subst (λ ys. B ys u.more u.rest f.why) (one_before before u.xs h.0.0) u.breaks;
          }
    ]

list_broken : {X : Type 0} {read : List X → Reader X} {R : List X → Relation X} {B : List X → Breaking} → ((before : List X) → IsReader (read before) (R before) (B before))
    → (xs : List X) (n : ℕ) (before : List X) (front more rest : List ℕ) (why : Why) → Each R before xs front → length xs < n → B (before ++ xs) more rest why
    → list_by read before n (front ++ more) ≡ Err (fault (length rest) why)
list_broken each xs zero before front more rest why r lt b = absurd (omega (arith, lt))
list_broken {X} {read} {R} {B} each [] (suc n) before front more rest why r lt b =
    ap (λ (l : List ℕ). list_by read before (suc n) (l ++ more)) r
    ∙ bind_fails (read before more) (λ y. list_by read (before ++ y.0 ∷ []) n y.1) _ ((each before).broken more rest why (subst (λ ys. B ys more rest why) (append-nil before) b))
list_broken {X} {read} {R} {B} each (x ∷ xs) (suc n) before front more rest why r lt b =
    ap (λ (l : List ℕ). list_by read before (suc n) (l ++ more)) r.4 ∙ ap (list_by read before (suc n)) (append_assoc r.0 r.1 more)
    ∙ bind_goes (read before (r.0 ++ (r.1 ++ more))) (λ y. list_by read (before ++ y.0 ∷ []) n y.1) (x, r.1 ++ more) _ ((each before).again x r.0 (r.1 ++ more) r.2)
    (list_broken {B = B} each xs n (before ++ x ∷ []) r.1 more rest why r.3 (omega (arith, lt)) (subst (λ ys. B ys more rest why) (sym (one_before before xs x)) b))

pub list_reader : {X : Type 0} {read : List X → Reader X} {R : List X → Relation X} {B : List X → Breaking} → ((before : List X) → IsReader (read before) (R before) (B before))
    → (n : ℕ) → IsReader (list_by read [] n) (EachOf R n) (EachBreaks R B n)
list_reader {X} {read} {R} {B} each n = record {
  takes = λ bytes y fits e.
      let t = list_takes {B = B} each n [] bytes y fits e in
      record { front = t.front; right = subst (λ ys. EachOf R n ys t.front) (sym t.all) (t.counted, t.right); parts = t.parts; rest_fits = t.rest_fits };
  again = λ y front rest m. ap (λ k. list_by read [] k (front ++ rest)) (sym m.0) ∙ list_again {B = B} each y [] front rest m.1;
  breaks = λ bytes f fits e.
      let u = list_breaks {B = B} each n [] bytes f fits e in
      record {
        front = u.front ++ u.inner;
        rest = u.rest;
        parts = u.parts ∙ ap (λ (l : List ℕ). u.front ++ l) u.inner_parts ∙ sym (append_assoc u.front u.inner u.rest);
        left = u.left;
        breaks = (u.xs, u.front, u.more, u.right, u.fewer, u.parts, u.breaks);
      };
  broken = λ bytes rest why b. ap (list_by read [] n) b.5 ∙ list_broken {B = B} each b.0 n [] b.1 b.2 rest why b.3 b.4 b.6;
}

-- parts that are one field: none of them fails where there are bytes enough
pub whole_reader : {X : Type 0} (size : ℕ) {read : Reader X} {R : Relation X} {B : Breaking} → IsReader read R B
    → ((x : X) (b : List ℕ) → R x b → length b ≡ size) → ((b rest : List ℕ) (why : Why) → B b rest why → length b < size) → IsReader (whole_by size read) R (IsShort size)
whole_reader size {read} {R} {B} r sized enough = record {
  takes = λ bytes y fits e.
      elim (chosen (ltb (length bytes) size) _ _ _ e) [
        | inl h ↦ absurd (no_err _ y h.1)
        | inr h ↦ r.takes bytes y fits h.1
      ];
  again = λ y front rest m.
      let long : ltb (length (front ++ rest)) size ≡ false = le-ltb _ _ (omega (arith, length-append front rest, sized y front m)) in
      rw long (r.again y front rest m);
  breaks = λ bytes f fits e.
      elim (chosen (ltb (length bytes) size) _ _ _ e) [
        | inl h ↦ here (IsShort size) bytes f Short (err_is _ f h.1) (ltb-true _ _ h.0, refl, refl)
        | inr h ↦ let b = r.breaks bytes f fits h.1 in absurd (omega (arith, ltb-false _ _ h.0, enough bytes b.rest f.why b.breaks))
      ];
  broken = λ bytes rest why b. rw (lt-ltb (length bytes) size b.0) (ap (λ (l : List ℕ). Err (fault (length l) Short)) (sym b.1) ∙ ap (λ y. Err (fault (length rest) y)) (sym b.2));
}
