-- Reading parts up to the end, as a loop does.
use Rattle.std.proofs.Common.{◌≡◌, ℕ, suc, true, false, eqb, ◌-◌, ◌≤◌, ◌<◌, List, [], ◌∷◌, ◌++◌, length, Result, Ok, Err, refl, sym, ap, ◌∙◌, append_assoc, arith}
use Rattle.std.proofs.lemmas.Bool.{eqb-true, eqb-false}
use Rattle.std.proofs.lemmas.List.{append-nil}
use Rattle.byte_fields.specs.declared.fault.Fault.{Fault}
use Rattle.byte_fields.specs.declared.fault.ReadError.{ReadError}
use Rattle.byte_fields.specs.declared.fault.ReadError.TheVariants as errors
use Rattle.byte_fields.specs.Fields.{◌>>=◌, Fails}
use Rattle.variant_codec.specs.Readers.{Reader}
use Rattle.packet_form.specs.Wholes.{filling_by}

-- what was read before, and what is still read
abbrev pub before : {X : Type 0} → List X → Result (List X) Fault → Result (List X) Fault
before front read = read >>= λ xs. Ok (front ++ xs)

-- the loop has read the front, and reads on
pub record Fills {X : Type 0} (read : Reader X) (front : List X) (bytes : List ℕ) (total : Result (List X) Fault) : Type 0 where
  pub most : ℕ
  pub within : length bytes ≤ most
  pub so_far : before front (filling_by read most bytes) ≡ total

regroup : {X : Type 0} (front : List X) (x : X) (read : Result (List X) Fault) → before front (read >>= λ xs. Ok (x ∷ xs)) ≡ before (front ++ x ∷ []) read
regroup front x (Ok xs) = ap Ok (sym (append_assoc front (x ∷ []) xs))
regroup front x (Err f) = refl

one_more : {X : Type 0} (read : Reader X) (n : ℕ) (b : ℕ) (bytes : List ℕ) → filling_by read (suc n) (b ∷ bytes) ≡ (read (b ∷ bytes) >>= λ first. filling_by read n first.1 >>= λ others. Ok (first.0 ∷ others))
unfolding filling_by
one_more read n b bytes = refl

-- one part more
pub fills_on : {X : Type 0} (read : Reader X) (front now : List X) (bytes : List ℕ) (x : X) (after : List ℕ) (total : Result (List X) Fault) → length after < length bytes → read bytes ≡ Ok (x, after) → now ≡ front ++ x ∷ [] → Fills read front bytes total
    → Fills read now after total
fills_on read front now [] x after total goes h is f = absurd (omega (arith, goes))
fills_on read front now (b ∷ bytes) x after total goes h is f =
    let k : f.most ≡ suc (f.most - 1) = omega (arith, f.within) in
    let one : before front (filling_by read f.most (b ∷ bytes)) ≡ before (front ++ x ∷ []) (filling_by read (f.most - 1) after) =
    ap (λ n. before front (filling_by read n (b ∷ bytes))) k
    ∙ ap (before front) (one_more read (f.most - 1) b bytes ∙ ap (λ r. r >>= λ first. filling_by read (f.most - 1) first.1 >>= λ others. Ok (first.0 ∷ others)) h)
    ∙ regroup front x (filling_by read (f.most - 1) after) in
    record { most = f.most - 1; within = omega (arith, goes, f.within); so_far = ap (λ ys. before ys (filling_by read (f.most - 1) after)) is ∙ sym one ∙ f.so_far }

-- the first part that fails
pub fills_end : {X : Type 0} (e : ReadError) (read : Reader X) (front : List X) (bytes : List ℕ) (total : Result (List X) Fault) → (bytes ≡ [] → ⊥) → Fails e (read bytes) → Fills read front bytes total → Fails e total
fills_end errors.Memory read front bytes total some h f = tt
fills_end (errors.Fault d) read front [] total some h f = absurd (some refl)
fills_end (errors.Fault d) read front (b ∷ bytes) total some h f =
    let k : f.most ≡ suc (f.most - 1) = omega (arith, f.within) in
    let one : before front (filling_by read f.most (b ∷ bytes)) ≡ Err d =
    ap (λ n. before front (filling_by read n (b ∷ bytes))) k
    ∙ ap (before front) (one_more read (f.most - 1) b bytes ∙ ap (λ r. r >>= λ first. filling_by read (f.most - 1) first.1 >>= λ others. Ok (first.0 ∷ others)) h) in
    sym f.so_far ∙ one

pub some_left : (b : List ℕ) → false ≡ eqb (length b) 0 → b ≡ [] → ⊥
some_left b h e = eqb-false (length b) 0 (sym h) (ap length e)

pub none_left : (b : List ℕ) → true ≡ eqb (length b) 0 → b ≡ []
none_left [] h = refl
none_left (x ∷ b) h = absurd (omega (arith, eqb-true (length (x ∷ b)) 0 (sym h)))

nothing_left : {X : Type 0} (read : Reader X) (n : ℕ) → filling_by read n [] ≡ Ok []
unfolding filling_by
nothing_left read n = refl

-- no byte is left
pub fills_done : {X : Type 0} (read : Reader X) (front : List X) (bytes : List ℕ) (total : Result (List X) Fault) → bytes ≡ [] → Fills read front bytes total → total ≡ Ok front
fills_done read front bytes total none f =
    sym f.so_far ∙ ap (λ (b : List ℕ). before front (filling_by read f.most b)) none ∙ ap (before front) (nothing_left read f.most) ∙ ap Ok (append-nil front)
