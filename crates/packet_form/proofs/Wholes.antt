-- The four laws of a way to read all bytes: what is read is right, what is right is read, where reading
-- fails the bytes break, and where they break reading fails. Each way to put such readings together
-- keeps them.
use Rattle.std.proofs.Common.{◌≡◌, ℕ, zero, suc, ◌+◌, ◌-◌, ◌<◌, ◌≤◌, Bool, true, false, cond, eqb, ltb, List, [], ◌∷◌, ◌++◌, length, take, drop, Result, Ok, Err, refl, sym, ap, subst, ◌∙◌, append_assoc, arith, inl, inr}
use Rattle.std.proofs.lemmas.Bool.{eqb-true, ltb-true, ltb-false, lt-ltb, le-ltb, ne_eqb}
use Rattle.std.proofs.lemmas.List.{append-nil, length-append, length-take, take_at, drop_at, take-append-drop}
use Rattle.byte_fields.specs.declared.fault.Fault.{Fault}
use Rattle.byte_fields.specs.Fields.{IsBytes, ◌>>=◌, fault}
use Rattle.byte_fields.proofs.Fields.{IsBytes-drop, IsBytes-take, bind_ok, chosen, ok_is}
use Rattle.gd_variant.specs.declared.message.Why.{Why}
use Rattle.gd_variant.specs.declared.message.Why.TheVariants.{Short}
use Rattle.variant_codec.specs.Parts.{SpellsEach}
use Rattle.variant_codec.specs.Readers.{Reader, Relation, Breaking, NeverBreaks, mapped_by, Mapped, Then, ThenBreaks}
use Rattle.variant_codec.proofs.Laws.{IsReader, Broke, no_ok, no_err, err_is, bind_err, bind_fails, bind_goes, here, mapped_reader}
use Rattle.packet_form.specs.Wholes.{Whole, rest_at, IsRest, seen_by, ending_by, EndBreaks, before_by, fitting_by, Fitting, FittingBreaks, filling_by, filled_by, FillBreaks, followed_by, region_by, Region, RegionBreaks, Chosen, ChosenBreaks}

pub record IsWhole {X : Type 0} (read : Whole X) (R : Relation X) (B : Breaking) : Type 0 where
  pub takes : (bytes : List ℕ) (x : X) → IsBytes bytes → read bytes ≡ Ok x → R x bytes
  pub again : (x : X) (b : List ℕ) → R x b → read b ≡ Ok x
  pub breaks : (bytes : List ℕ) (f : Fault) → IsBytes bytes → read bytes ≡ Err f → Broke B bytes f
  pub broken : (bytes rest : List ℕ) (why : Why) → B bytes rest why → read bytes ≡ Err (fault (length rest) why)

-- ---- where a reading stopped

-- a fault behind a part that was right
behind : (B : Breaking) (bytes front rest : List ℕ) (f : Fault) (why : Why) → bytes ≡ front ++ rest → fault (length rest) why ≡ f → B bytes rest why → Broke B bytes f
behind B bytes front rest f why parts e b = subst (Broke B bytes) e (record { front = front; rest = rest; parts = parts; left = refl; breaks = b })

-- the same stop, for another breaking
stopped : {B C : Breaking} (bytes : List ℕ) (f : Fault) (b : Broke B bytes f) → C bytes b.rest f.why → Broke C bytes f
stopped bytes f b c = record { front = b.front; rest = b.rest; parts = b.parts; left = b.left; breaks = c }

-- a stop in what follows a part
stopped_after : {B C : Breaking} (bytes front more : List ℕ) (f : Fault) → bytes ≡ front ++ more → (b : Broke B more f) → C bytes b.rest f.why → Broke C bytes f
stopped_after bytes front more f parts b c = record {
  front = front ++ b.front;
  rest = b.rest;
  parts = parts ∙ ap (λ (l : List ℕ). front ++ l) b.parts ∙ sym (append_assoc front b.front b.rest);
  left = b.left;
  breaks = c;
}

none_left : (b : List ℕ) → eqb (length b) 0 ≡ true → b ≡ []
none_left [] h = refl
none_left (x ∷ b) h = absurd (omega (arith, eqb-true (length (x ∷ b)) 0 h))

some_left : (b : List ℕ) → eqb (length b) 0 ≡ false → 0 < length b
some_left [] h = absurd cc
some_left (x ∷ b) h = omega arith

-- ---- all bytes

pub rest_whole : IsWhole rest_at IsRest NeverBreaks
rest_whole = record {
  takes = λ bytes x fits e. sym (ok_is bytes x e);
  again = λ x b r. ap (λ (s : List ℕ). Ok s) (sym r);
  breaks = λ bytes f fits e. absurd (no_ok _ f e);
  broken = λ bytes rest why b. absurd b;
}

-- ---- the same reading, for other words of the same meaning

pub turned_whole : {X : Type 0} {read : Whole X} {R S : Relation X} {B C : Breaking} → IsWhole read R B
    → ((x : X) (b : List ℕ) → R x b → S x b) → ((x : X) (b : List ℕ) → S x b → R x b)
    → ((b rest : List ℕ) (why : Why) → B b rest why → C b rest why) → ((b rest : List ℕ) (why : Why) → C b rest why → B b rest why) → IsWhole read S C
turned_whole w to from out back = record {
  takes = λ bytes x fits e. to x bytes (w.takes bytes x fits e);
  again = λ x b s. w.again x b (from x b s);
  breaks = λ bytes f fits e. let k = w.breaks bytes f fits e in stopped bytes f k (out bytes k.rest f.why k.breaks);
  broken = λ bytes rest why c. w.broken bytes rest why (back bytes rest why c);
}

-- the same relation of forms
pub breaks_as : {X : Type 0} {read : Whole X} {R : Relation X} {B C : Breaking} → IsWhole read R B
    → ((b rest : List ℕ) (why : Why) → B b rest why → C b rest why) → ((b rest : List ℕ) (why : Why) → C b rest why → B b rest why) → IsWhole read R C
breaks_as w out back = turned_whole w (λ x b h. h) (λ x b h. h) out back

-- ---- what was read, seen by a function

pub seen_whole : {X Y : Type 0} (f : X → Y) {read : Whole X} {R : Relation X} {B : Breaking} → IsWhole read R B → IsWhole (seen_by f read) (Mapped f R) B
seen_whole f {read} {R} w = record {
  takes = λ bytes y fits e.
      let a = bind_ok (read bytes) (λ x. Ok (f x)) y e in
      (a.0, sym (ok_is _ y a.2), w.takes bytes a.0 fits a.1);
  again = λ y b m. bind_goes (read b) (λ x. Ok (f x)) m.0 _ (w.again m.0 b m.2) (ap (λ z. Ok z) (sym m.1));
  breaks = λ bytes d fits e.
      elim (bind_err (read bytes) (λ x. Ok (f x)) d e) [
        | inl h ↦ w.breaks bytes d fits h
        | inr h ↦ absurd (no_ok _ d h.2)
      ];
  broken = λ bytes rest why b. bind_fails (read bytes) (λ x. Ok (f x)) _ (w.broken bytes rest why b);
}

-- ---- a part behind which the bytes end

pub ending_whole : {X : Type 0} (reason : Why) {read : Reader X} {R : Relation X} {B : Breaking} → IsReader read R B → IsWhole (ending_by reason read) R (EndBreaks reason R B)
ending_whole {X} reason {read} {R} {B} r =
    let next : X × List ℕ → Result X Fault = λ x. cond (eqb (length x.1) 0) (Ok x.0) (Err (fault (length x.1) reason)) in
    record {
      takes = λ bytes y fits e.
          let a = bind_ok (read bytes) next y e in
          let t = r.takes bytes a.0 fits a.1 in
          elim (chosen (eqb (length a.0.1) 0) _ _ _ a.2) [
            | inl h ↦
                let whole : bytes ≡ t.front = t.parts ∙ ap (λ (l : List ℕ). t.front ++ l) (none_left a.0.1 h.0) ∙ append-nil t.front in
                subst (λ (b : List ℕ). R y b) (sym whole) (subst (λ x. R x t.front) (ok_is _ y h.1) t.right)
            | inr h ↦ absurd (no_err _ y h.1)
          ];
      again = λ y b m. bind_goes (read b) next (y, []) _ (ap read (sym (append-nil b)) ∙ r.again y b [] m) refl;
      breaks = λ bytes d fits e.
          elim (bind_err (read bytes) next d e) [
            | inl h ↦ let k = r.breaks bytes d fits h in stopped bytes d k (inl k.breaks)
            | inr h ↦
                let t = r.takes bytes h.0 fits h.1 in
                elim (chosen (eqb (length h.0.1) 0) _ _ _ h.2) [
                  | inl k ↦ absurd (no_ok _ d k.1)
                  | inr k ↦ behind (EndBreaks reason R B) bytes t.front h.0.1 d reason t.parts (err_is _ d k.1) (inr (h.0.0, t.front, t.right, t.parts, some_left h.0.1 k.0, refl))
                ]
          ];
      broken = λ bytes rest why b.
          elim b [
            | inl h ↦ bind_fails (read bytes) next _ (r.broken bytes rest why h)
            | inr h ↦
                bind_goes (read bytes) next (h.0, rest) _ (ap read h.3 ∙ r.again h.0 h.1 rest h.2)
                (rw (ne_eqb (length rest) 0 (λ k. omega (arith, k, h.4))) (ap (λ y. Err (fault (length rest) y)) (sym h.5)))
          ];
    }

-- a part that a function sees, and behind which the bytes end
pub ending_seen : {X Y : Type 0} (reason : Why) (f : X → Y) {read : Reader X} {R : Relation X} {B : Breaking} → IsReader read R B → IsWhole (ending_by reason (mapped_by f read)) (Mapped f R) (EndBreaks reason R B)
ending_seen {X} {Y} reason f {read} {R} {B} r = breaks_as (ending_whole reason (mapped_reader f r)) out back
  where
    out : (b rest : List ℕ) (why : Why) → EndBreaks reason (Mapped f R) B b rest why → EndBreaks reason R B b rest why
    out b rest why (inl h) = inl h
    out b rest why (inr (y, front, (x, e, m), parts, some, is)) = inr (x, front, m, parts, some, is)

    back : (b rest : List ℕ) (why : Why) → EndBreaks reason R B b rest why → EndBreaks reason (Mapped f R) B b rest why
    back b rest why (inl h) = inl h
    back b rest why (inr (x, front, m, parts, some, is)) = inr (f x, front, (x, refl, m), parts, some, is)

-- ---- a part, and behind it what the part decides on

-- what follows may rest on what the part is
pub before_right : {X Y : Type 0} {read : Reader X} {next : X → Whole Y} {R : Relation X} {S : X → Relation Y} {B : Breaking} {C : X → Breaking}
    → IsReader read R B → ((x : X) (front : List ℕ) → R x front → IsWhole (next x) (S x) (C x)) → IsWhole (before_by read next) (Then R S) (ThenBreaks R B C)
before_right {X} {Y} {read} {next} {R} {S} {B} {C} r each =
    let go : X × List ℕ → Result Y Fault = λ x. next x.0 x.1 in
    record {
      takes = λ bytes y fits e.
          let a = bind_ok (read bytes) go y e in
          let t = r.takes bytes a.0 fits a.1 in
          (a.0.0, t.front, a.0.1, t.right, (each a.0.0 t.front t.right).takes a.0.1 y t.rest_fits a.2, t.parts);
      again = λ y b m. bind_goes (read b) go (m.0, m.2) _ (ap read m.5 ∙ r.again m.0 m.1 m.2 m.3) ((each m.0 m.1 m.3).again y m.2 m.4);
      breaks = λ bytes d fits e.
          elim (bind_err (read bytes) go d e) [
            | inl h ↦ let k = r.breaks bytes d fits h in stopped bytes d k (inl k.breaks)
            | inr h ↦
                let t = r.takes bytes h.0 fits h.1 in
                let k = (each h.0.0 t.front t.right).breaks h.0.1 d t.rest_fits h.2 in
                stopped_after bytes t.front h.0.1 d t.parts k (inr (h.0.0, t.front, h.0.1, t.right, t.parts, k.breaks))
          ];
      broken = λ bytes rest why b.
          elim b [
            | inl h ↦ bind_fails (read bytes) go _ (r.broken bytes rest why h)
            | inr h ↦ bind_goes (read bytes) go (h.0, h.2) _ (ap read h.4 ∙ r.again h.0 h.1 h.2 h.3) ((each h.0 h.1 h.3).broken h.2 rest why h.5)
          ];
    }

pub before_whole : {X Y : Type 0} {read : Reader X} {next : X → Whole Y} {R : Relation X} {S : X → Relation Y} {B : Breaking} {C : X → Breaking}
    → IsReader read R B → ((x : X) → IsWhole (next x) (S x) (C x)) → IsWhole (before_by read next) (Then R S) (ThenBreaks R B C)
before_whole r each = before_right r (λ x front right. each x)

-- ---- the same with a test of the part and of how many bytes follow it

pub fitting_whole : {X Y : Type 0} (test : X → ℕ → Bool) (reason : Why) {read : Reader X} {next : X → Whole Y} {R : Relation X} {S : X → Relation Y} {B : Breaking} {C : X → Breaking}
    → IsReader read R B → ((x : X) → IsWhole (next x) (S x) (C x)) → IsWhole (fitting_by test reason read next) (Fitting test R S) (FittingBreaks test reason R B C)
fitting_whole {X} {Y} test reason {read} {next} {R} {S} {B} {C} r each =
    let go : List ℕ → X × List ℕ → Result Y Fault = λ bytes x. cond (test x.0 (length x.1)) (next x.0 x.1) (Err (fault (length bytes) reason)) in
    record {
      takes = λ bytes y fits e.
          let a = bind_ok (read bytes) (go bytes) y e in
          let t = r.takes bytes a.0 fits a.1 in
          elim (chosen (test a.0.0 (length a.0.1)) _ _ _ a.2) [
            | inl h ↦ (a.0.0, t.front, a.0.1, t.right, h.0, (each a.0.0).takes a.0.1 y t.rest_fits h.1, t.parts)
            | inr h ↦ absurd (no_err _ y h.1)
          ];
      again = λ y b m. bind_goes (read b) (go b) (m.0, m.2) _ (ap read m.6 ∙ r.again m.0 m.1 m.2 m.3) (rw m.4 ((each m.0).again y m.2 m.5));
      breaks = λ bytes d fits e.
          elim (bind_err (read bytes) (go bytes) d e) [
            | inl h ↦ let k = r.breaks bytes d fits h in stopped bytes d k (inl k.breaks)
            | inr h ↦
                let t = r.takes bytes h.0 fits h.1 in
                elim (chosen (test h.0.0 (length h.0.1)) _ _ _ h.2) [
                  | inl k ↦
                      let b = (each h.0.0).breaks h.0.1 d t.rest_fits k.1 in
                      stopped_after bytes t.front h.0.1 d t.parts b (inr (inr (h.0.0, t.front, h.0.1, t.right, t.parts, k.0, b.breaks)))
                  | inr k ↦ here (FittingBreaks test reason R B C) bytes d reason (err_is _ d k.1) (inr (inl (h.0.0, t.front, h.0.1, t.right, t.parts, k.0, refl, refl)))
                ]
          ];
      broken = λ bytes rest why b.
          elim b [
            | inl h ↦ bind_fails (read bytes) (go bytes) _ (r.broken bytes rest why h)
            | inr (inl h) ↦
                bind_goes (read bytes) (go bytes) (h.0, h.2) _ (ap read h.4 ∙ r.again h.0 h.1 h.2 h.3)
                (rw h.5 (ap (λ (l : List ℕ). Err (fault (length l) reason)) (sym h.6) ∙ ap (λ y. Err (fault (length rest) y)) (sym h.7)))
            | inr (inr h) ↦ bind_goes (read bytes) (go bytes) (h.0, h.2) _ (ap read h.4 ∙ r.again h.0 h.1 h.2 h.3) (rw h.5 ((each h.0).broken h.2 rest why h.6))
          ];
    }

-- ---- parts up to the end

pub one_more : {X : Type 0} (read : Reader X) (n : ℕ) (b : ℕ) (bytes : List ℕ) → filling_by read (suc n) (b ∷ bytes) ≡ (read (b ∷ bytes) >>= λ first. filling_by read n first.1 >>= λ others. Ok (first.0 ∷ others))
unfolding filling_by
one_more read n b bytes = refl

pub nothing_left : {X : Type 0} (read : Reader X) (n : ℕ) → filling_by read n [] ≡ Ok []
unfolding filling_by
nothing_left read n = refl

-- no form is empty
abbrev pub IsNeverEmpty : {X : Type 0} → Relation X → Type 0
IsNeverEmpty {X = X} R = (x : X) (b : List ℕ) → R x b → 0 < length b

-- a reader that fails at no byte has no empty form
pub never_empty : {X : Type 0} {read : Reader X} {R : Relation X} {B : Breaking} (f : Fault) → IsReader read R B → read [] ≡ Err f → IsNeverEmpty R
never_empty {read = read} f r e x [] h = absurd (no_ok _ f (sym (r.again x [] [] h) ∙ e))
never_empty f r e x (c ∷ b) h = omega arith

less_left : (bytes front rest : List ℕ) → bytes ≡ front ++ rest → 0 < length front → length rest < length bytes
less_left bytes front rest e some = omega (arith, ap length e, length-append front rest, some)

-- a reader without an empty form takes a byte at least
pub takes_some : {X : Type 0} {read : Reader X} {R : Relation X} {B : Breaking} → IsReader read R B → IsNeverEmpty R → (bytes : List ℕ) (x : X × List ℕ) → IsBytes bytes → read bytes ≡ Ok x → length x.1 < length bytes
takes_some r some bytes x fits e = let t = r.takes bytes x fits e in less_left bytes t.front x.1 t.parts (some x.0 t.front t.right)

filling_takes : {X : Type 0} {read : Reader X} {R : Relation X} {B : Breaking} → IsReader read R B → IsNeverEmpty R → (n : ℕ) (bytes : List ℕ) (xs : List X) → IsBytes bytes → length bytes ≤ n → filling_by read n bytes ≡ Ok xs → SpellsEach R xs bytes
filling_takes {read = read} {R} r some n [] xs fits le e = subst (λ ys. SpellsEach R ys []) (ok_is [] xs (sym (nothing_left read n) ∙ e)) refl
filling_takes r some zero (b ∷ bytes) xs fits le e = absurd (omega (arith, le))
filling_takes {X} {read} {R} {B} r some (suc n) (b ∷ bytes) xs fits le e =
    let a = bind_ok (read (b ∷ bytes)) (λ first. filling_by read n first.1 >>= λ others. Ok (first.0 ∷ others)) xs (sym (one_more read n b bytes) ∙ e) in
    let o = bind_ok (filling_by read n a.0.1) (λ others. Ok (a.0.0 ∷ others)) xs a.2 in
    let t = r.takes (b ∷ bytes) a.0 fits a.1 in
    let shorter = less_left (b ∷ bytes) t.front a.0.1 t.parts (some a.0.0 t.front t.right) in
    subst (λ ys. SpellsEach R ys (b ∷ bytes)) (ok_is (a.0.0 ∷ o.0) xs o.2)
    (t.front, a.0.1, t.right, filling_takes r some n a.0.1 o.0 t.rest_fits (omega (arith, shorter, le)) o.1, t.parts)

-- the first part, and what is read of the others
filling_more : {X : Type 0} (read : Reader X) (n : ℕ) (x : X) (front back : List ℕ) → 0 < length front → read (front ++ back) ≡ Ok (x, back) → filling_by read (suc n) (front ++ back) ≡ (filling_by read n back >>= λ others. Ok (x ∷ others))
filling_more read n x [] back some h = absurd (omega (arith, some))
filling_more read n x (b ∷ front) back some h = one_more read n b (front ++ back) ∙ ap (λ r. r >>= λ first. filling_by read n first.1 >>= λ others. Ok (first.0 ∷ others)) h

-- the same, where the number of parts is known to be one at least
filling_on : {X : Type 0} {read : Reader X} {R : Relation X} {B : Breaking} → IsReader read R B → IsNeverEmpty R → (x : X) (b front back : List ℕ) (n : ℕ) → R x front → b ≡ front ++ back → length b ≤ n
    → (length back ≤ n - 1) × (filling_by read n b ≡ (filling_by read (n - 1) back >>= λ others. Ok (x ∷ others)))
filling_on {read = read} r some x b front back n right parts le =
    let long = some x front right in
    let len : length b ≡ length front + length back = ap length parts ∙ length-append front back in
    let k : n ≡ suc (n - 1) = omega (arith, long, len, le) in
    (omega (arith, long, len, le), ap (λ m. filling_by read m b) k ∙ ap (filling_by read (suc (n - 1))) parts ∙ filling_more read (n - 1) x front back long (r.again x front back right))

filling_again : {X : Type 0} {read : Reader X} {R : Relation X} {B : Breaking} → IsReader read R B → IsNeverEmpty R → (xs : List X) (b : List ℕ) (n : ℕ) → SpellsEach R xs b → length b ≤ n → filling_by read n b ≡ Ok xs
filling_again {read = read} r some [] b n s le = ap (filling_by read n) s ∙ nothing_left read n
filling_again r some (x ∷ xs) b n s le =
    let on = filling_on r some x b s.0 s.1 n s.2 s.4 le in
    on.1 ∙ ap (λ q. q >>= λ others. Ok (x ∷ others)) (filling_again r some xs s.1 (n - 1) s.3 on.0)

filling_breaks : {X : Type 0} {read : Reader X} {R : Relation X} {B : Breaking} → IsReader read R B → IsNeverEmpty R → (n : ℕ) (bytes : List ℕ) (f : Fault) → IsBytes bytes → length bytes ≤ n → filling_by read n bytes ≡ Err f → Broke (FillBreaks R B) bytes f
filling_breaks {read = read} r some n [] f fits le e = absurd (no_ok [] f (sym (nothing_left read n) ∙ e))
filling_breaks r some zero (b ∷ bytes) f fits le e = absurd (omega (arith, le))
filling_breaks {X} {read} {R} {B} r some (suc n) (b ∷ bytes) f fits le e =
    elim (bind_err (read (b ∷ bytes)) (λ first. filling_by read n first.1 >>= λ others. Ok (first.0 ∷ others)) f (sym (one_more read n b bytes) ∙ e)) [
      | inl h ↦ let k = r.breaks (b ∷ bytes) f fits h in stopped (b ∷ bytes) f k ([], [], b ∷ bytes, refl, refl, omega arith, k.breaks)
      | inr h ↦
          elim (bind_err (filling_by read n h.0.1) (λ others. Ok (h.0.0 ∷ others)) f h.2) [
            | inl o ↦
                let t = r.takes (b ∷ bytes) h.0 fits h.1 in
                let shorter = less_left (b ∷ bytes) t.front h.0.1 t.parts (some h.0.0 t.front t.right) in
                let k = filling_breaks r some n h.0.1 f t.rest_fits (omega (arith, shorter, le)) o in
                let m = k.breaks in
                stopped_after (b ∷ bytes) t.front h.0.1 f t.parts k
                (h.0.0 ∷ m.0, t.front ++ m.1, m.2, (t.front, m.1, t.right, m.3, refl), t.parts ∙ ap (λ (l : List ℕ). t.front ++ l) m.4 ∙ sym (append_assoc t.front m.1 m.2), m.5, m.6)
            | inr o ↦ absurd (no_ok _ f o.2)
          ]
    ]

filling_stops : {X : Type 0} (read : Reader X) (n : ℕ) (bytes : List ℕ) (f : Fault) → 0 < length bytes → length bytes ≤ n → read bytes ≡ Err f → filling_by read n bytes ≡ Err f
filling_stops read n [] f some le h = absurd (omega (arith, some))
filling_stops read n (b ∷ bytes) f some le h =
    let k : n ≡ suc (n - 1) = omega (arith, le) in
    ap (λ m. filling_by read m (b ∷ bytes)) k ∙ one_more read (n - 1) b bytes ∙ ap (λ r. r >>= λ first. filling_by read (n - 1) first.1 >>= λ others. Ok (first.0 ∷ others)) h

filling_broken : {X : Type 0} {read : Reader X} {R : Relation X} {B : Breaking} → IsReader read R B → IsNeverEmpty R → (xs : List X) (b front more rest : List ℕ) (why : Why) (n : ℕ) → SpellsEach R xs front → b ≡ front ++ more → 0 < length more → B more rest why → length b ≤ n
    → filling_by read n b ≡ Err (fault (length rest) why)
filling_broken {read = read} r some [] b front more rest why n s e left h le =
    let is : b ≡ more = e ∙ ap (λ (l : List ℕ). l ++ more) s in
    ap (filling_by read n) is ∙ filling_stops read n more (fault (length rest) why) left (subst (λ (l : List ℕ). length l ≤ n) is le) (r.broken more rest why h)
filling_broken r some (x ∷ xs) b front more rest why n s e left h le =
    let parts : b ≡ s.0 ++ (s.1 ++ more) = e ∙ ap (λ (l : List ℕ). l ++ more) s.4 ∙ append_assoc s.0 s.1 more in
    let on = filling_on r some x b s.0 (s.1 ++ more) n s.2 parts le in
    on.1 ∙ ap (λ q. q >>= λ others. Ok (x ∷ others)) (filling_broken r some xs (s.1 ++ more) s.1 more rest why (n - 1) s.3 refl left h on.0)

pub filled_whole : {X : Type 0} {read : Reader X} {R : Relation X} {B : Breaking} → IsReader read R B → IsNeverEmpty R → IsWhole (filled_by read) (SpellsEach R) (FillBreaks R B)
filled_whole r some = record {
  takes = λ bytes xs fits e. filling_takes r some (length bytes) bytes xs fits (omega arith) e;
  again = λ xs b s. filling_again r some xs b (length b) s (omega arith);
  breaks = λ bytes f fits e. filling_breaks r some (length bytes) bytes f fits (omega arith) e;
  broken = λ bytes rest why b. filling_broken r some b.0 bytes b.1 b.2 rest why (length bytes) b.3 b.4 b.5 b.6 (omega arith);
}

-- ---- a region of so many bytes

followed_ok : {X : Type 0} (after : List ℕ) (r : Result X Fault) (y : X × List ℕ) → followed_by after r ≡ Ok y → (r ≡ Ok y.0) × (y.1 ≡ after)
followed_ok after (Ok x) y e = let is = ok_is (x, after) y e in (ap (λ z. Ok z.0) is, ap (λ z. z.1) (sym is))
followed_ok after (Err f) y e = absurd (no_err _ y e)

followed_err : {X : Type 0} (after : List ℕ) (r : Result X Fault) (f : Fault) → followed_by after r ≡ Err f → (d : Fault) × (r ≡ Err d) × (fault (d.left + length after) d.why ≡ f)
followed_err after (Ok x) f e = absurd (no_ok (x, after) f e)
followed_err after (Err d) f e = (d, refl, err_is _ f e)

region_goes : {X : Type 0} (n : ℕ) (read : Whole X) (front rest : List ℕ) → length front ≡ n → region_by n read (front ++ rest) ≡ followed_by rest (read front)
region_goes n read front rest len =
    let long : ltb (length (front ++ rest)) n ≡ false = le-ltb _ _ (omega (arith, length-append front rest, len)) in
    rw (long, take_at front rest n len, drop_at front rest n len) refl

pub region_reader : {X : Type 0} (n : ℕ) {read : Whole X} {R : Relation X} {B : Breaking} → IsWhole read R B → IsReader (region_by n read) (Region n R) (RegionBreaks n B)
region_reader {X} n {read} {R} {B} w = record {
  takes = λ bytes y fits e.
      elim (chosen (ltb (length bytes) n) _ _ _ e) [
        | inl h ↦ absurd (no_err _ y h.1)
        | inr h ↦
            let long : n ≤ length bytes = ltb-false _ _ h.0 in
            let o = followed_ok (drop n bytes) (read (take n bytes)) y h.1 in
            record {
              front = take n bytes;
              right = (omega (arith, length-take n bytes, long), w.takes (take n bytes) y.0 (IsBytes-take n bytes fits) o.0);
              parts = sym (take-append-drop n bytes) ∙ ap (λ (l : List ℕ). take n bytes ++ l) (sym o.1);
              rest_fits = subst IsBytes (sym o.1) (IsBytes-drop n bytes fits);
            }
      ];
  again = λ y front rest m. region_goes n read front rest m.0 ∙ ap (followed_by rest) (w.again y front m.1);
  breaks = λ bytes f fits e.
      elim (chosen (ltb (length bytes) n) _ _ _ e) [
        | inl h ↦ here (RegionBreaks n B) bytes f Short (err_is _ f h.1) (inl (ltb-true _ _ h.0, refl, refl))
        | inr h ↦
            let long : n ≤ length bytes = ltb-false _ _ h.0 in
            let o = followed_err (drop n bytes) (read (take n bytes)) f h.1 in
            let k = w.breaks (take n bytes) o.0 (IsBytes-take n bytes fits) o.1 in
            let whole : bytes ≡ take n bytes ++ drop n bytes = sym (take-append-drop n bytes) in
            subst (Broke (RegionBreaks n B) bytes) o.2 (record {
              front = k.front;
              rest = k.rest ++ drop n bytes;
              parts = whole ∙ ap (λ (l : List ℕ). l ++ drop n bytes) k.parts ∙ append_assoc k.front k.rest (drop n bytes);
              left = ap (λ m. m + length (drop n bytes)) k.left ∙ sym (length-append k.rest (drop n bytes));
              breaks = inr (take n bytes, drop n bytes, k.rest, (omega (arith, length-take n bytes, long)), whole, k.breaks, refl);
            })
      ];
  broken = λ bytes rest why b.
      elim b [
        | inl h ↦ rw (lt-ltb (length bytes) n h.0) (ap (λ (l : List ℕ). Err (fault (length l) Short)) (sym h.1) ∙ ap (λ y. Err (fault (length rest) y)) (sym h.2))
        | inr h ↦
            ap (region_by n read) h.4 ∙ region_goes n read h.0 h.1 h.3 ∙ ap (followed_by h.1) (w.broken h.0 h.2 why h.5)
            ∙ ap (λ m. Err (fault m why)) (sym (length-append h.2 h.1) ∙ ap length (sym h.6))
      ];
}

-- ---- one of two, as a test says

pub chosen_whole : {X : Type 0} (test : Bool) {one other : Whole X} {R S : Relation X} {B C : Breaking} → IsWhole one R B → IsWhole other S C → IsWhole (cond test one other) (Chosen test R S) (ChosenBreaks test B C)
chosen_whole true v w = v
chosen_whole false v w = w

pub chosen_reader : {X : Type 0} (test : Bool) {one other : Reader X} {R S : Relation X} {B C : Breaking} → IsReader one R B → IsReader other S C → IsReader (cond test one other) (Chosen test R S) (ChosenBreaks test B C)
chosen_reader true r s = r
chosen_reader false r s = s
