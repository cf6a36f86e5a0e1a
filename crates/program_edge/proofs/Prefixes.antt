-- How far a list passes a test, and where the first element stands that does.
use Rattle.std.proofs.Common.{◌≡◌, ℕ, zero, suc, ◌+◌, ◌≤◌, ◌<◌, Bool, true, false, not, cond, List, [], ◌∷◌, ◌++◌, length, drop, refl, ap, arith, length-drop, eqb, ltb}
use Rattle.std.specs.Prelude.{Some, None}
use Rattle.std.specs.List.{prefix_len, position_or_len, position}
use Rattle.std.proofs.lemmas.List.Sums.{prefix_len-le-length}
use Rattle.std.proofs.lemmas.List.Folds.{prefix_len-append}
use Rattle.std.proofs.lemmas.Bool.{lt-ltb, le-ltb, ltb-true, ltb-false, eqb-true}

after_first_passes : (b : Bool) (m n k : ℕ) → (k ≤ m → m ≡ k + n) → suc k ≤ cond b (1 + m) 0 → cond b (1 + m) 0 ≡ suc k + n
after_first_passes true m n k again h = omega (arith, again (omega arith))
after_first_passes false m n k again h = absurd (omega arith)

-- what is known to pass needn't be looked at again
pub prefix_len-drop : {X : Type 0} (p : X → Bool) (xs : List X) (k : ℕ) → k ≤ prefix_len p xs → prefix_len p xs ≡ k + prefix_len p (drop k xs)
prefix_len-drop p xs zero h = omega arith
prefix_len-drop p [] (suc k) h = absurd (omega arith)
prefix_len-drop p (x ∷ xs) (suc k) h = after_first_passes (p x) (prefix_len p xs) (prefix_len p (drop k xs)) k (prefix_len-drop p xs k) h

cut : (b : Bool) (m n k : ℕ) → m ≤ n → (b ≡ true → m ≡ n) → m ≤ cond b (n + k) m
cut true m n k h e = omega arith
cut false m n k h e = omega arith

-- more elements don't make it shorter
pub prefix_len-le-append : {X : Type 0} (p : X → Bool) (xs ys : List X) → prefix_len p xs ≤ prefix_len p (xs ++ ys)
prefix_len-le-append p xs ys = rw (prefix_len-append p xs ys) (cut (eqb (prefix_len p xs) (length xs)) (prefix_len p xs) (length xs) (prefix_len p ys) (prefix_len-le-length p xs) (λ e. omega (arith, eqb-true (prefix_len p xs) (length xs) e)))

uncut : (b : Bool) (m n k : ℕ) → m < n → (b ≡ true → m ≡ n) → cond b (n + k) m ≡ m
uncut true m n k h e = absurd (omega (arith, e refl))
uncut false m n k h e = refl

-- and leave it where it ended before
pub prefix_len-append_cut : {X : Type 0} (p : X → Bool) (xs ys : List X) → prefix_len p xs < length xs → prefix_len p (xs ++ ys) ≡ prefix_len p xs
prefix_len-append_cut p xs ys h = rw (prefix_len-append p xs ys) (uncut (eqb (prefix_len p xs) (length xs)) (prefix_len p xs) (length xs) (prefix_len p ys) h (eqb-true (prefix_len p xs) (length xs)))

picked : (b : Bool) (m n : ℕ) → Some n ≡ cond b (Some m) None → (n ≡ m) × (b ≡ true)
picked true m n e = ((cc), refl)
picked false m n e = absurd (cc)

-- an element was found
pub position-found : {X : Type 0} (p : X → Bool) (xs : List X) (n : ℕ) → Some n ≡ position p xs → (n ≡ position_or_len p xs) × (n < length xs)
position-found p xs n e =
    let found = picked (ltb (position_or_len p xs) (length xs)) (position_or_len p xs) n e in
    let below : position_or_len p xs < length xs = ltb-true (position_or_len p xs) (length xs) found.1 in
    (found.0, omega (arith, found.0))

pub position-is : {X : Type 0} (p : X → Bool) (xs : List X) (n : ℕ) → n ≡ position_or_len p xs → n < length xs → Some n ≡ position p xs
position-is p xs n e h =
    let below : position_or_len p xs < length xs = omega arith in
    rw (lt-ltb (position_or_len p xs) (length xs) below) (ap Some e)

unpicked : (b : Bool) (m : ℕ) → None ≡ cond b (Some m) None → b ≡ false
unpicked true m e = absurd (cc)
unpicked false m e = refl

-- none was found
pub position-none : {X : Type 0} (p : X → Bool) (xs : List X) → None ≡ position p xs → position_or_len p xs ≡ length xs
position-none p xs e =
    let above : length xs ≤ position_or_len p xs = ltb-false (position_or_len p xs) (length xs) (unpicked (ltb (position_or_len p xs) (length xs)) (position_or_len p xs) e) in
    omega (arith, prefix_len-le-length (λ x. not (p x)) xs)

pub position-is_none : {X : Type 0} (p : X → Bool) (xs : List X) → position_or_len p xs ≡ length xs → None ≡ position p xs
position-is_none p xs e = let above : length xs ≤ position_or_len p xs = omega arith in rw (le-ltb (position_or_len p xs) (length xs) above) refl

-- it was looked for behind k elements of which none passes
pub found_behind : {X : Type 0} (p : X → Bool) (xs : List X) (k n : ℕ) → k ≤ position_or_len p xs → Some n ≡ position p (drop k xs) → Some (k + n) ≡ position p xs
found_behind p xs k n h e =
    let found = position-found p (drop k xs) n e in
    let place = prefix_len-drop (λ x. not (p x)) xs k h in
    position-is p xs (k + n) (omega (arith, found.0, place)) (omega (arith, found.1, length-drop k xs))

pub none_behind : {X : Type 0} (p : X → Bool) (xs : List X) (k : ℕ) → k ≤ position_or_len p xs → None ≡ position p (drop k xs) → position_or_len p xs ≡ length xs
none_behind p xs k h e =
    let place = prefix_len-drop (λ x. not (p x)) xs k h in
    let most = prefix_len-le-length (λ x. not (p x)) xs in
    omega (arith, place, most, position-none p (drop k xs) e, length-drop k xs)
