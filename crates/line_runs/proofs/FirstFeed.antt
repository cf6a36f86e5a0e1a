-- The judged lines of some bytes, by where the first line feed stands.
use Rattle.std.proofs.Common.{◌≡◌, ℕ, zero, suc, ◌+◌, ◌-◌, ◌≤◌, ◌<◌, Bool, true, false, cond, List, [], ◌∷◌, length, take, refl, sym, ap, ap₂, ◌∙◌, arith}
use Rattle.std.specs.List.{position_or_len, before_first, after_first}
use Rattle.program_edge.specs.Lines.{is_line_feed}
use Rattle.line_runs.specs.Judged.{Judged, before_all, lines_of}

one_more : (n : ℕ) → 1 + n ≡ suc n
one_more n = omega arith

two_more : (n : ℕ) → 1 + n + 1 ≡ suc (n + 1)
two_more n = omega arith

-- the place of the first line feed
place_here : (f : ℕ → Bool) (b : ℕ) (bs : List ℕ) → f b ≡ true → position_or_len f (b ∷ bs) ≡ 0
place_here f b bs e = rw e refl

place_later : (f : ℕ → Bool) (b : ℕ) (bs : List ℕ) → f b ≡ false → position_or_len f (b ∷ bs) ≡ 1 + position_or_len f bs
place_later f b bs e = rw e refl

-- the first byte ends the line
cut_here : (f : ℕ → Bool) (b : ℕ) (bs : List ℕ) → f b ≡ true → (before_first f (b ∷ bs) ≡ []) × (after_first f (b ∷ bs) ≡ bs)
cut_here f b bs e = (rw e refl, rw e refl)

-- the first byte is one of the line
cut_later : (f : ℕ → Bool) (b : ℕ) (bs : List ℕ) → f b ≡ false → (before_first f (b ∷ bs) ≡ b ∷ before_first f bs) × (after_first f (b ∷ bs) ≡ after_first f bs)
cut_later f b bs e = (rw (e, one_more (position_or_len f bs)) refl, rw (e, two_more (position_or_len f bs)) refl)

lines_here : (w : Bool) (b : ℕ) (bs : List ℕ) → is_line_feed b ≡ true → lines_of w (b ∷ bs) ≡ record { line = []; ends = true } ∷ lines_of w bs
lines_here w b bs e = ap (λ t. cond t (record { line = []; ends = true } ∷ lines_of w bs) (before_all w b (lines_of w bs))) e

lines_later : (w : Bool) (b : ℕ) (bs : List ℕ) → is_line_feed b ≡ false → lines_of w (b ∷ bs) ≡ before_all w b (lines_of w bs)
lines_later w b bs e = ap (λ t. cond t (record { line = []; ends = true } ∷ lines_of w bs) (before_all w b (lines_of w bs))) e

-- ---- a line feed stands among the judged bytes

-- a line, and those behind its line feed
abbrev pub cut : Bool → ℕ → ℕ → List ℕ → List ℕ → List Judged
cut w limit place l rest = record { line = l; ends = true } ∷ lines_of w (take (limit - (place + 1)) rest)

abbrev FirstFed : Bool → ℕ → List ℕ → Type 0
FirstFed w limit bytes = lines_of w (take limit bytes) ≡ cut w limit (position_or_len is_line_feed bytes) (before_first is_line_feed bytes) (after_first is_line_feed bytes)

less_one : (r p : ℕ) → p ≡ 0 → r ≡ suc r - (p + 1)
less_one r p e = omega (arith, e)

less_more : (r p q : ℕ) → q ≡ 1 + p → r - (p + 1) ≡ suc r - (q + 1)
less_more r p q e = omega (arith, e)

fed_here : (w : Bool) (r b : ℕ) (bs : List ℕ) → is_line_feed b ≡ true → FirstFed w (suc r) (b ∷ bs)
fed_here w r b bs e =
    let c = cut_here is_line_feed b bs e in
    lines_here w b (take r bs) e
    ∙ ap (λ k. record { line = []; ends = true } ∷ lines_of w (take k bs)) (less_one r (position_or_len is_line_feed (b ∷ bs)) (place_here is_line_feed b bs e))
    ∙ ap₂ (λ l rest. cut w (suc r) (position_or_len is_line_feed (b ∷ bs)) l rest) (sym c.0) (sym c.1)

fed_later : (w : Bool) (r b : ℕ) (bs : List ℕ) → is_line_feed b ≡ false → FirstFed w r bs → FirstFed w (suc r) (b ∷ bs)
fed_later w r b bs e h =
    let c = cut_later is_line_feed b bs e in
    lines_later w b (take r bs) e
    ∙ ap (before_all w b) h
    ∙ ap (λ k. record { line = b ∷ before_first is_line_feed bs; ends = true } ∷ lines_of w (take k (after_first is_line_feed bs))) (less_more r (position_or_len is_line_feed bs) (position_or_len is_line_feed (b ∷ bs)) (place_later is_line_feed b bs e))
    ∙ ap₂ (λ l rest. cut w (suc r) (position_or_len is_line_feed (b ∷ bs)) l rest) (sym c.0) (sym c.1)

fed_by : (w : Bool) (r b : ℕ) (bs : List ℕ) (t : Bool) → is_line_feed b ≡ t → (t ≡ false → FirstFed w r bs) → FirstFed w (suc r) (b ∷ bs)
fed_by w r b bs true e h = fed_here w r b bs e
fed_by w r b bs false e h = fed_later w r b bs e (h refl)

pub first_fed : (w : Bool) (limit : ℕ) (bytes : List ℕ) → position_or_len is_line_feed bytes < length bytes → position_or_len is_line_feed bytes < limit → FirstFed w limit bytes
first_fed w limit [] some within = absurd (omega (arith, some))
first_fed w zero (b ∷ bs) some within = absurd (omega (arith, within))
first_fed w (suc r) (b ∷ bs) some within =
    fed_by w r b bs (is_line_feed b) refl (λ f. first_fed w r bs (omega (arith, some, place_later is_line_feed b bs f)) (omega (arith, within, place_later is_line_feed b bs f)))

-- ---- no line feed stands there

-- all bytes as one line
abbrev pub one_line : Bool → List ℕ → List Judged
one_line w [] = []
one_line w (b ∷ bs) = record { line = b ∷ bs; ends = w } ∷ []

joined : (w : Bool) (b : ℕ) (bs : List ℕ) → before_all w b (one_line w bs) ≡ one_line w (b ∷ bs)
joined w b [] = refl
joined w b (c ∷ cs) = refl

unfed_by : (w : Bool) (b : ℕ) (bs : List ℕ) (t : Bool) → is_line_feed b ≡ t → position_or_len is_line_feed (b ∷ bs) ≡ length (b ∷ bs) → (t ≡ false → lines_of w bs ≡ one_line w bs) → lines_of w (b ∷ bs) ≡ one_line w (b ∷ bs)
unfed_by w b bs true e h rest = absurd (omega (arith, h, place_here is_line_feed b bs e))
unfed_by w b bs false e h rest = lines_later w b bs e ∙ ap (before_all w b) (rest refl) ∙ joined w b bs

pub unfed : (w : Bool) (bytes : List ℕ) → position_or_len is_line_feed bytes ≡ length bytes → lines_of w bytes ≡ one_line w bytes
unfed w [] h = refl
unfed w (b ∷ bs) h = unfed_by w b bs (is_line_feed b) refl h (λ f. unfed w bs (omega (arith, h, place_later is_line_feed b bs f)))

front_by : (r b : ℕ) (bs : List ℕ) (t : Bool) → is_line_feed b ≡ t → suc r ≤ position_or_len is_line_feed (b ∷ bs) → (t ≡ false → position_or_len is_line_feed (take r bs) ≡ length (take r bs)) → position_or_len is_line_feed (b ∷ take r bs) ≡ length (b ∷ take r bs)
front_by r b bs true e h rest = absurd (omega (arith, h, place_here is_line_feed b bs e))
front_by r b bs false e h rest = place_later is_line_feed b (take r bs) e ∙ ap (λ k. 1 + k) (rest refl) ∙ one_more (length (take r bs))

-- the bytes in front of the first line feed have none
pub unfed_front : (limit : ℕ) (bytes : List ℕ) → limit ≤ position_or_len is_line_feed bytes → position_or_len is_line_feed (take limit bytes) ≡ length (take limit bytes)
unfed_front zero bytes h = refl
unfed_front (suc r) [] h = refl
unfed_front (suc r) (b ∷ bs) h = front_by r b bs (is_line_feed b) refl h (λ f. unfed_front r bs (omega (arith, h, place_later is_line_feed b bs f)))
