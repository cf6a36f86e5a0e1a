-- The first line of an input whose front is held.
use Rattle.std.proofs.Common.{◌≡◌, ℕ, ◌+◌, ◌≤◌, ◌<◌, Bool, true, false, not, cond, List, [], ◌∷◌, ◌++◌, length, take, drop, refl, sym, ap, subst, ◌∙◌, arith, length-append, append-nil, length-drop, nat_lt}
use Rattle.std.specs.Prelude.{Option, Some, None, Ok}
use Rattle.std.specs.List.{position_or_len, position, before_first, after_first}
use Rattle.std.proofs.lemmas.List.Sums.{prefix_len-le-length}
use Rattle.std.proofs.lemmas.List.{take-append-le, drop-append-le, length-take, take_all}
use Rattle.std.proofs.lemmas.Bool.{lt-ltb, le-ltb, ltb-true, ltb-false}
use Rattle.program_edge.specs.declared.lines.NextLine.{NextLine}
use Rattle.program_edge.specs.declared.lines.NextLine.TheVariants.{Line, Last}
use Rattle.program_edge.specs.Lines.{a_line, last_line, too_long, no_line, first_line, is_line_feed, ReadsLine, IsReading, Reader, Settled, unread}
use Rattle.program_edge.proofs.Prefixes.{prefix_len-le-append, prefix_len-append_cut, position-found, position-none}

-- a line feed stands behind at most as many bytes as `most`
first_line-within : (most : ℕ) (xs : List ℕ) → position_or_len is_line_feed xs < length xs → position_or_len is_line_feed xs ≤ most → first_line most xs ≡ a_line (before_first is_line_feed xs) (after_first is_line_feed xs)
unfolding first_line
first_line-within most [] fed h = absurd (omega arith)
first_line-within most (x ∷ xs) fed h = rw (le-ltb most (position_or_len is_line_feed (x ∷ xs)) h, lt-ltb (position_or_len is_line_feed (x ∷ xs)) (length (x ∷ xs)) fed) refl

-- no line feed stands in them, and they are at most as many as `most`
first_line-unfed : (most : ℕ) (xs : List ℕ) → 0 < length xs → position_or_len is_line_feed xs ≡ length xs → length xs ≤ most → first_line most xs ≡ last_line xs
unfolding first_line
first_line-unfed most [] some unfed h = absurd (omega arith)
first_line-unfed most (x ∷ xs) some unfed h = rw (le-ltb most (position_or_len is_line_feed (x ∷ xs)) (omega (arith, unfed)), le-ltb (position_or_len is_line_feed (x ∷ xs)) (length (x ∷ xs)) (omega (arith, unfed))) refl

first_line-above : (most : ℕ) (xs : List ℕ) → most < position_or_len is_line_feed xs → first_line most xs ≡ too_long
unfolding first_line
first_line-above most [] h = absurd (omega arith)
first_line-above most (x ∷ xs) h = rw (lt-ltb most (position_or_len is_line_feed (x ∷ xs)) h) refl

first_line-none : (most : ℕ) (xs : List ℕ) → length xs ≡ 0 → first_line most xs ≡ no_line
unfolding first_line
first_line-none most [] e = refl
first_line-none most (x ∷ xs) e = absurd (omega arith)

is_empty : (xs : List ℕ) → length xs ≡ 0 → xs ≡ []
is_empty [] e = refl
is_empty (x ∷ xs) e = absurd (omega arith)

-- the held bytes have a line feed
ends_within : (most n : ℕ) (bytes rest : List ℕ) → Some n ≡ position is_line_feed bytes → n ≤ most → first_line most (bytes ++ rest) ≡ a_line (take n bytes) (drop (n + 1) bytes ++ rest)
ends_within most n bytes rest e h =
    let found = position-found is_line_feed bytes n e in
    let place = prefix_len-append_cut (λ x. not (is_line_feed x)) bytes rest (omega (arith, found.0, found.1)) in
    let at : position_or_len is_line_feed (bytes ++ rest) ≡ n = place ∙ sym found.0 in
    let fed : position_or_len is_line_feed (bytes ++ rest) < length (bytes ++ rest) = omega (arith, at, found.1, length-append bytes rest) in
    let front : n ≤ length bytes = omega (arith, found.1) in
    let behind : n + 1 ≤ length bytes = omega (arith, found.1) in
    first_line-within most (bytes ++ rest) fed (omega (arith, at))
    ∙ ap (λ (k : ℕ). a_line (take k (bytes ++ rest)) (drop (k + 1) (bytes ++ rest))) at
    ∙ ap (λ (l : List ℕ). a_line l (drop (n + 1) (bytes ++ rest))) (take-append-le n bytes rest front)
    ∙ ap (λ (r : List ℕ). a_line (take n bytes) r) (drop-append-le (n + 1) bytes rest behind)

-- a line was handed out
pub line_read : (most n : ℕ) (bytes held after rest l : List ℕ) → held ≡ bytes → Some n ≡ position is_line_feed bytes → n ≤ most → l ≡ take n held → after ≡ drop (n + 1) held → ReadsLine most (bytes ++ rest) (Ok (Line l)) (Some (after ++ rest))
line_read most n bytes held after rest l same e h is left = (
  drop (n + 1) bytes ++ rest,
  ends_within most n bytes rest e h ∙ ap (λ (x : List ℕ). a_line x (drop (n + 1) bytes ++ rest)) (sym (is ∙ ap (take n) same)),
  ap (λ (x : List ℕ). Some (x ++ rest)) (left ∙ ap (drop (n + 1)) same),
)

-- the held bytes have a line feed, too far away
pub feed_too_far : (most n : ℕ) (bytes held rest : List ℕ) → held ≡ bytes → Some n ≡ position is_line_feed bytes → most < n → (first_line most (bytes ++ rest) ≡ too_long) × (Some (held ++ rest) ≡ Some (bytes ++ rest))
feed_too_far most n bytes held rest same e h =
    let found = position-found is_line_feed bytes n e in
    let longer = prefix_len-le-append (λ x. not (is_line_feed x)) bytes rest in
    (first_line-above most (bytes ++ rest) (omega (arith, found.0, longer)), ap (λ (x : List ℕ). Some (x ++ rest)) same)

-- no line feed, and too many bytes
pub held_too_long : (most : ℕ) (bytes held rest : List ℕ) → held ≡ bytes → None ≡ position is_line_feed bytes → most < length bytes → (first_line most (bytes ++ rest) ≡ too_long) × (Some (held ++ rest) ≡ Some (bytes ++ rest))
held_too_long most bytes held rest same e h =
    let longer = prefix_len-le-append (λ x. not (is_line_feed x)) bytes rest in
    (first_line-above most (bytes ++ rest) (omega (arith, position-none is_line_feed bytes e, longer)), ap (λ (x : List ℕ). Some (x ++ rest)) same)

-- nothing is held, and nothing follows
pub nothing_left : (most : ℕ) (bytes held rest : List ℕ) → held ≡ bytes → length bytes ≡ 0 → rest ≡ [] → (first_line most (bytes ++ rest) ≡ no_line) × (Some (held ++ rest) ≡ Some (bytes ++ rest))
nothing_left most bytes held rest same none end =
    (first_line-none most (bytes ++ rest) (omega (arith, ap length end, length-append bytes rest)), ap (λ (x : List ℕ). Some (x ++ rest)) same)

-- the last line was handed out
pub last_read : (most n : ℕ) (bytes held after rest l : List ℕ) → held ≡ bytes → n ≡ length bytes → None ≡ position is_line_feed bytes → 0 < n → n ≤ most → rest ≡ [] → l ≡ take n held → after ≡ drop (n + 1) held → ReadsLine most (bytes ++ rest) (Ok (Last l)) (Some (after ++ rest))
last_read most n bytes held after rest l same len e some h end is left =
    let alone : bytes ++ rest ≡ bytes = ap (λ (r : List ℕ). bytes ++ r) end ∙ append-nil bytes in
    let whole : l ≡ bytes = is ∙ ap (take n) same ∙ take_all n bytes (omega (arith, len)) in
    let none : after ≡ [] = is_empty after (omega (arith, ap length (left ∙ ap (drop (n + 1)) same), length-drop (n + 1) bytes, len)) in (
      ap (first_line most) alone ∙ first_line-unfed most bytes (omega (arith, len)) (position-none is_line_feed bytes e) (omega (arith, len)) ∙ ap last_line (sym whole),
      ap Some (ap (λ (r : List ℕ). after ++ r) end ∙ append-nil after ∙ none),
    )

-- a piece was added to the bytes that are held, which now begin the buffer
pub keeps_reading : (most : ℕ) (buffer : List ℕ) (at searched : ℕ) (piece kept more after : List ℕ) → IsReading most buffer at searched piece → length (drop at buffer) ≤ most → kept ≡ drop at buffer ++ more → length more ≤ 65536 → length after ≡ 65536 → IsReading most kept 0 searched after
keeps_reading most buffer at searched piece kept more after held short is some whole =
    let longer = prefix_len-le-append (λ x. not (is_line_feed x)) (drop at buffer) more in
    let clean : searched ≤ position_or_len is_line_feed kept = rw is (omega (arith, longer, held.clean)) in
    let len = ap length is ∙ length-append (drop at buffer) more in
    record {
      within = omega (arith, clean, prefix_len-le-length (λ x. not (is_line_feed x)) kept);
      clean = clean;
      full = whole;
      bounded = omega (arith, len);
    }

some_is : {x y : List ℕ} → Some x ≡ Some y → x ≡ y
some_is e = cc

ended_twice : {b : Bool} → b ≡ false → b ≡ true → ⊥
ended_twice f t = cc

moved : (old : Reader) (found : NextLine) (bytes : List ℕ) {held : List ℕ} {left after : Option (List ℕ)} → held ≡ bytes → left ≡ after → ReadsLine old.most held (Ok found) left → ReadsLine old.most bytes (Ok found) after
moved old found bytes {held} {left} {after} e f reads =
    let P : List ℕ → Type 0 = λ b. ReadsLine old.most b (Ok found) left in
    let Q : Option (List ℕ) → Type 0 = λ o. ReadsLine old.most bytes (Ok found) o in
    subst Q f (subst P e reads)

by_end : (old new : Reader) (found : NextLine) (left bytes : List ℕ) (ended : Bool) → old.ended ≡ ended → Settled old found new → unread old (Some left) ≡ Some bytes → ReadsLine old.most bytes (Ok found) (unread new (Some left))
by_end old new found left bytes true is settled e =
    let all : old.bytes ++ [] ≡ bytes = append-nil old.bytes ∙ some_is (ap (λ (b : Bool). Some (cond b old.bytes (old.bytes ++ left))) (sym is) ∙ e) in
    let after : Some (new.bytes ++ []) ≡ unread new (Some left) = ap Some (append-nil new.bytes) ∙ ap (λ (b : Bool). Some (cond b new.bytes (new.bytes ++ left))) (sym (settled.ended ∙ is)) in
    moved old found bytes all after (settled.line [] (λ _. refl))
by_end old new found left bytes false is settled e =
    let all : old.bytes ++ left ≡ bytes = some_is (ap (λ (b : Bool). Some (cond b old.bytes (old.bytes ++ left))) (sym is) ∙ e) in
    let after : Some (new.bytes ++ left) ≡ unread new (Some left) = ap (λ (b : Bool). Some (cond b new.bytes (new.bytes ++ left))) (sym (settled.ended ∙ is)) in
    moved old found bytes all after (settled.line left (λ t. absurd (ended_twice is t)))

-- what the held bytes decide is what is next
pub settled_line : (old new : Reader) (found : NextLine) (left : Option (List ℕ)) (bytes : List ℕ) → Settled old found new → unread old left ≡ Some bytes → ReadsLine old.most bytes (Ok found) (unread new left)
settled_line old new found None bytes settled e = absurd (cc)
settled_line old new found (Some left) bytes settled e = by_end old new found left bytes old.ended refl settled e

-- ---- for callers: what a first line says of the bytes

fed_by : (b c : Bool) (front behind all l rest : List ℕ) → cond b too_long (cond c (a_line front behind) (last_line all)) ≡ a_line l rest → (b ≡ false) × (c ≡ true) × (front ≡ l) × (behind ≡ rest)
fed_by true c front behind all l rest e = absurd (cc)
fed_by false true front behind all l rest e = (refl, refl, (cc), (cc))
fed_by false false front behind all l rest e = absurd (cc)

unfed_by : (b c : Bool) (front behind all l : List ℕ) → cond b too_long (cond c (a_line front behind) (last_line all)) ≡ last_line l → (b ≡ false) × (c ≡ false) × (all ≡ l)
unfed_by true c front behind all l e = absurd (cc)
unfed_by false true front behind all l e = absurd (cc)
unfed_by false false front behind all l e = (refl, refl, (cc))

never_none : (b c : Bool) (front behind all : List ℕ) → cond b too_long (cond c (a_line front behind) (last_line all)) ≡ no_line → ⊥
never_none true c front behind all e = cc
never_none false true front behind all e = cc
never_none false false front behind all e = cc

-- a line has at most `most` bytes, its line feed is one more, and the rest follows it
pub a_line-parts : (most : ℕ) (bytes l rest : List ℕ) → first_line most bytes ≡ a_line l rest → (length l ≤ most) × (length bytes ≡ length l + 1 + length rest) × (l ≡ before_first is_line_feed bytes) × (rest ≡ after_first is_line_feed bytes)
unfolding first_line
a_line-parts most [] l rest e = absurd (cc)
a_line-parts most (x ∷ xs) l rest e =
    let place : ℕ = position_or_len is_line_feed (x ∷ xs) in
    let parts = fed_by (nat_lt most place) (nat_lt place (length (x ∷ xs))) (before_first is_line_feed (x ∷ xs)) (after_first is_line_feed (x ∷ xs)) (x ∷ xs) l rest e in
    let within : place ≤ most = ltb-false most place parts.0 in
    let fed : place < length (x ∷ xs) = ltb-true place (length (x ∷ xs)) parts.1 in (
      omega (arith, ap length parts.2, length-take place (x ∷ xs)),
      omega (arith, fed, ap length parts.2, length-take place (x ∷ xs), ap length parts.3, length-drop (place + 1) (x ∷ xs)),
      sym parts.2,
      sym parts.3,
    )

-- the last line is all bytes, at least one and at most `most`, and none of them is a line feed
pub last_line-parts : (most : ℕ) (bytes l : List ℕ) → first_line most bytes ≡ last_line l → (l ≡ bytes) × (0 < length bytes) × (length bytes ≤ most) × (position_or_len is_line_feed bytes ≡ length bytes)
unfolding first_line
last_line-parts most [] l e = absurd (cc)
last_line-parts most (x ∷ xs) l e =
    let place : ℕ = position_or_len is_line_feed (x ∷ xs) in
    let parts = unfed_by (nat_lt most place) (nat_lt place (length (x ∷ xs))) (before_first is_line_feed (x ∷ xs)) (after_first is_line_feed (x ∷ xs)) (x ∷ xs) l e in
    let within : place ≤ most = ltb-false most place parts.0 in
    let all : place ≡ length (x ∷ xs) = omega (arith, ltb-false place (length (x ∷ xs)) parts.1, prefix_len-le-length (λ b. not (is_line_feed b)) (x ∷ xs)) in (
      sym parts.2,
      omega arith,
      omega (arith, within, all),
      all,
    )

-- nothing is there
pub no_line-empty : (most : ℕ) (bytes : List ℕ) → first_line most bytes ≡ no_line → bytes ≡ []
unfolding first_line
no_line-empty most [] e = refl
no_line-empty most (x ∷ xs) e = absurd (never_none (nat_lt most (position_or_len is_line_feed (x ∷ xs))) (nat_lt (position_or_len is_line_feed (x ∷ xs)) (length (x ∷ xs))) _ _ _ e)
