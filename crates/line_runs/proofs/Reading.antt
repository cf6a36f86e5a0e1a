-- Reading line by line gives the judged lines of an input.
use Rattle.std.proofs.Common.{◌≡◌, Result, ℕ, ◌+◌, ◌-◌, ◌≤◌, ◌<◌, Bool, true, false, not, cond, List, [], ◌∷◌, length, take, refl, sym, ap, ap₂, ◌∙◌, arith, take_all, nat_lt, nat_le}
use Rattle.std.specs.List.{position_or_len, before_first, after_first}
use Rattle.std.proofs.lemmas.Bool.{le-leb, lt-leb, leb-true, leb-false, lt-ltb, le-ltb, ltb-true, ltb-false}
use Rattle.std.proofs.lemmas.List.{length-take}
use Rattle.std.proofs.lemmas.List.Sums.{prefix_len-le-length}
use Rattle.program_edge.specs.Lines.{a_line, last_line, too_long, no_line, first_line, is_line_feed}
use Rattle.program_edge.specs.declared.status.Status.TheVariants as status
use Rattle.program_edge.proofs.FirstLines.{a_line-parts, last_line-parts, no_line-empty}
use Rattle.line_runs.specs.Judged.{Judged, is_whole, judged, lines_of, whole_line}
use Rattle.program_edge.specs.declared.status.LineWhy.{LineWhy}
use Rattle.line_runs.specs.Output.{Command, Read, behind_line, next_number, read_by, read_from, read_line, read_on, stops}
use Rattle.line_runs.proofs.FirstFeed.{cut, first_fed, one_line, unfed, unfed_front}

place_within : (bytes : List ℕ) → position_or_len is_line_feed bytes ≤ length bytes
place_within bytes = prefix_len-le-length (λ b. not (is_line_feed b)) bytes

-- ---- a line by its length

-- a line that isn't too long
line_short : (longest n : ℕ) (l : Judged) (given : Result (List ℕ) LineWhy) (rest : Read) → length l.line ≤ longest → read_line n (nat_lt longest (length l.line)) l.ends given rest ≡ read_line n false l.ends given rest
line_short longest n l given rest h = ap (λ t. read_line n t l.ends given rest) (le-ltb longest (length l.line) h)

-- a line that is
line_long : (longest n : ℕ) (l : Judged) (given : Result (List ℕ) LineWhy) (rest : Read) → longest < length l.line → read_line n (nat_lt longest (length l.line)) l.ends given rest ≡ stops (status.LineLong n)
line_long longest n l given rest h = ap (λ t. read_line n t l.ends given rest) (lt-ltb longest (length l.line) h)

-- ---- the bytes behind the judged ones

-- no line ends among the judged bytes, and the input has more
late_lines : (c : Command) (ls : List (List ℕ)) (longest : ℕ) (bytes : List ℕ) → length bytes ≤ longest → read_on c longest false ls (one_line false bytes) ≡ stops status.InputLong
late_lines c ls longest [] h = refl
late_lines c ls longest (b ∷ bs) h = line_short longest (next_number ls) (record { line = b ∷ bs; ends = false }) (c.told ls (b ∷ bs)) (behind_line c ls (b ∷ bs) (stops status.InputLong)) h

pub late : (c : Command) (ls : List (List ℕ)) (longest limit : ℕ) (bytes : List ℕ) → limit ≤ position_or_len is_line_feed bytes → limit < length bytes → limit ≤ longest → read_from c longest limit ls bytes ≡ stops status.InputLong
late c ls longest limit bytes place more short =
    ap (λ w. read_on c longest w ls (lines_of w (take limit bytes))) (lt-leb (length bytes) limit more)
    ∙ ap (read_on c longest false ls) (unfed false (take limit bytes) (unfed_front limit bytes place))
    ∙ late_lines c ls longest (take limit bytes) (omega (arith, short, length-take limit bytes))

-- ---- a line that ends with a line feed

-- where the first line feed stands
feed_place : (bytes l rest : List ℕ) → length bytes ≡ length l + 1 + length rest → l ≡ before_first is_line_feed bytes → position_or_len is_line_feed bytes ≡ length l
feed_place bytes l rest len is = omega (arith, len, ap length is, length-take (position_or_len is_line_feed bytes) bytes)

whole_by : (a l r m : ℕ) (t : Bool) → nat_le r (m - (l + 1)) ≡ t → a ≡ l + 1 + r → l < m → nat_le a m ≡ t
whole_by a l r m true e is h = le-leb a m (omega (arith, is, h, leb-true r (m - (l + 1)) e))
whole_by a l r m false e is h = lt-leb a m (omega (arith, is, h, leb-false r (m - (l + 1)) e))

-- the judged lines begin with the line
pub fed_judged : (longest limit : ℕ) (bytes l rest : List ℕ) → first_line longest bytes ≡ a_line l rest → length l < limit → judged limit bytes ≡ whole_line l ∷ judged (limit - (length l + 1)) rest
fed_judged longest limit bytes l rest h within =
    let p = a_line-parts longest bytes l rest h in
    let w = is_whole limit bytes in
    let left = limit - (length l + 1) in
    let place = feed_place bytes l rest p.1 p.2 in
    first_fed w limit bytes (omega (arith, place, p.1)) (omega (arith, place, within))
    ∙ ap (λ k. cut w limit k (before_first is_line_feed bytes) (after_first is_line_feed bytes)) place
    ∙ ap₂ (λ x y. cut w limit (length l) x y) (sym p.2) (sym p.3)
    ∙ ap (λ v. whole_line l ∷ lines_of v (take left rest)) (whole_by (length bytes) (length l) (length rest) limit (is_whole left rest) refl p.1 within)

pub fed_reads : (c : Command) (ls : List (List ℕ)) (longest limit : ℕ) (bytes l rest : List ℕ) → first_line longest bytes ≡ a_line l rest → length l < limit → read_from c longest limit ls bytes ≡ read_by (next_number ls) (c.told ls l) (behind_line c ls l (read_from c longest (limit - (length l + 1)) (l ∷ ls) rest))
fed_reads c ls longest limit bytes l rest h within =
    let p = a_line-parts longest bytes l rest h in
    let left = limit - (length l + 1) in
    ap (λ w. read_on c longest w ls (judged limit bytes)) (whole_by (length bytes) (length l) (length rest) limit (is_whole left rest) refl p.1 within)
    ∙ ap (read_on c longest (is_whole left rest) ls) (fed_judged longest limit bytes l rest h within)
    ∙ line_short longest (next_number ls) (whole_line l) (c.told ls l) (behind_line c ls l (read_from c longest left (l ∷ ls) rest)) p.0

pub fed_late : (c : Command) (ls : List (List ℕ)) (longest limit : ℕ) (bytes l rest : List ℕ) → first_line longest bytes ≡ a_line l rest → limit ≤ length l → read_from c longest limit ls bytes ≡ stops status.InputLong
fed_late c ls longest limit bytes l rest h behind =
    let p = a_line-parts longest bytes l rest h in
    late c ls longest limit bytes (omega (arith, feed_place bytes l rest p.1 p.2, behind)) (omega (arith, p.1, behind)) (omega (arith, p.0, behind))

-- ---- the last line

-- it comes to the same whether the last line ends the input
same_behind : (b : Bool) (r : Read) → cond b r r ≡ r
same_behind true r = refl
same_behind false r = refl

last_lines : (c : Command) (ls : List (List ℕ)) (longest : ℕ) (bytes : List ℕ) → length bytes ≤ longest → read_on c longest true ls (whole_line bytes ∷ []) ≡ read_by (next_number ls) (c.told ls bytes) (c.closing (bytes ∷ ls))
last_lines c ls longest bytes h =
    line_short longest (next_number ls) (whole_line bytes) (c.told ls bytes) (behind_line c ls bytes (c.closing (bytes ∷ ls))) h
    ∙ ap (read_by (next_number ls) (c.told ls bytes)) (same_behind (c.is_last ls bytes) (c.closing (bytes ∷ ls)))

alone : (bytes : List ℕ) → 0 < length bytes → one_line true bytes ≡ whole_line bytes ∷ []
alone [] some = absurd (omega (arith, some))
alone (b ∷ bs) some = refl

-- the line is the only one that is judged
pub last_judged : (longest limit : ℕ) (bytes l : List ℕ) → first_line longest bytes ≡ last_line l → length l ≤ limit → (is_whole limit bytes ≡ true) × (judged limit bytes ≡ whole_line l ∷ [])
last_judged longest limit bytes l h within =
    let p = last_line-parts longest bytes l h in
    let all : length bytes ≤ limit = omega (arith, within, ap length p.0) in
    let whole = le-leb (length bytes) limit all in (
      whole,
      ap (λ w. lines_of w (take limit bytes)) whole
          ∙ ap (lines_of true) (take_all limit bytes all)
          ∙ unfed true bytes p.3
          ∙ alone bytes p.1
          ∙ ap (λ x. whole_line x ∷ []) (sym p.0),
    )

pub last_reads : (c : Command) (ls : List (List ℕ)) (longest limit : ℕ) (bytes l : List ℕ) → first_line longest bytes ≡ last_line l → length l ≤ limit → read_from c longest limit ls bytes ≡ read_by (next_number ls) (c.told ls l) (c.closing (l ∷ ls))
last_reads c ls longest limit bytes l h within =
    let p = last_line-parts longest bytes l h in
    let j = last_judged longest limit bytes l h within in
    ap (λ w. read_on c longest w ls (judged limit bytes)) j.0
    ∙ ap (read_on c longest true ls) j.1
    ∙ last_lines c ls longest l (omega (arith, p.2, ap length p.0))

pub last_late : (c : Command) (ls : List (List ℕ)) (longest limit : ℕ) (bytes l : List ℕ) → first_line longest bytes ≡ last_line l → limit < length l → read_from c longest limit ls bytes ≡ stops status.InputLong
last_late c ls longest limit bytes l h behind =
    let p = last_line-parts longest bytes l h in
    late c ls longest limit bytes (omega (arith, p.3, behind, ap length p.0)) (omega (arith, behind, ap length p.0)) (omega (arith, p.2, behind, ap length p.0))

-- ---- a line that is too long

long_by : (t u : Bool) (x y z : List ℕ) → cond t too_long (cond u (a_line x y) (last_line z)) ≡ too_long → t ≡ true
long_by true u x y z e = refl
long_by false true x y z e = absurd (cc)
long_by false false x y z e = absurd (cc)

long_place : (longest : ℕ) (bytes : List ℕ) → first_line longest bytes ≡ too_long → longest < position_or_len is_line_feed bytes
unfolding first_line
long_place longest [] h = absurd (cc)
long_place longest (b ∷ bs) h = ltb-true longest (position_or_len is_line_feed (b ∷ bs)) (long_by (nat_lt longest (position_or_len is_line_feed (b ∷ bs))) (nat_lt (position_or_len is_line_feed (b ∷ bs)) (length (b ∷ bs))) (before_first is_line_feed (b ∷ bs)) (after_first is_line_feed (b ∷ bs)) (b ∷ bs) h)

long_lines : (c : Command) (ls : List (List ℕ)) (longest : ℕ) (w : Bool) (bytes : List ℕ) → longest < length bytes → read_on c longest w ls (one_line w bytes) ≡ stops (status.LineLong (next_number ls))
long_lines c ls longest w [] h = absurd (omega (arith, h))
long_lines c ls longest w (b ∷ bs) h = line_long longest (next_number ls) (record { line = b ∷ bs; ends = w }) (c.told ls (b ∷ bs)) (behind_line c ls (b ∷ bs) (read_on c longest w ((b ∷ bs) ∷ ls) [])) h

-- no line feed stands among the judged bytes
long_unfed : (c : Command) (ls : List (List ℕ)) (longest limit : ℕ) (bytes : List ℕ) → position_or_len is_line_feed (take limit bytes) ≡ length (take limit bytes) → longest < limit → longest < length bytes → read_from c longest limit ls bytes ≡ stops (status.LineLong (next_number ls))
long_unfed c ls longest limit bytes none more long =
    ap (read_on c longest (is_whole limit bytes) ls) (unfed (is_whole limit bytes) (take limit bytes) none)
    ∙ long_lines c ls longest (is_whole limit bytes) (take limit bytes) (omega (arith, more, long, length-take limit bytes))

-- one stands there
long_fed : (c : Command) (ls : List (List ℕ)) (longest limit : ℕ) (bytes : List ℕ) → longest < position_or_len is_line_feed bytes → position_or_len is_line_feed bytes < length bytes → position_or_len is_line_feed bytes < limit → read_from c longest limit ls bytes ≡ stops (status.LineLong (next_number ls))
long_fed c ls longest limit bytes long some within =
    let w = is_whole limit bytes in
    let place = position_or_len is_line_feed bytes in
    let l = before_first is_line_feed bytes in
    ap (read_on c longest w ls) (first_fed w limit bytes some within)
    ∙ line_long longest (next_number ls) (record { line = l; ends = true }) (c.told ls l) (behind_line c ls l (read_on c longest w (l ∷ ls) (lines_of w (take (limit - (place + 1)) (after_first is_line_feed bytes))))) (omega (arith, long, some, length-take place bytes))

long_some : (c : Command) (ls : List (List ℕ)) (longest limit : ℕ) (bytes : List ℕ) (t : Bool) → nat_lt (position_or_len is_line_feed bytes) (length bytes) ≡ t → longest < position_or_len is_line_feed bytes → position_or_len is_line_feed bytes < limit → read_from c longest limit ls bytes ≡ stops (status.LineLong (next_number ls))
long_some c ls longest limit bytes true e long within = long_fed c ls longest limit bytes long (ltb-true (position_or_len is_line_feed bytes) (length bytes) e) within
long_some c ls longest limit bytes false e long within =
    let none = ltb-false (position_or_len is_line_feed bytes) (length bytes) e in
    let all = take_all limit bytes (omega (arith, none, within)) in
    let place : position_or_len is_line_feed bytes ≡ length bytes = omega (arith, none, place_within bytes) in
    long_unfed c ls longest limit bytes (ap (position_or_len is_line_feed) all ∙ place ∙ sym (ap length all)) (omega (arith, long, within)) (omega (arith, long, place))

long_within : (c : Command) (ls : List (List ℕ)) (longest limit : ℕ) (bytes : List ℕ) (t : Bool) → nat_lt (position_or_len is_line_feed bytes) limit ≡ t → longest < position_or_len is_line_feed bytes → longest < limit → read_from c longest limit ls bytes ≡ stops (status.LineLong (next_number ls))
long_within c ls longest limit bytes true e long more = long_some c ls longest limit bytes (nat_lt (position_or_len is_line_feed bytes) (length bytes)) refl long (ltb-true (position_or_len is_line_feed bytes) limit e)
long_within c ls longest limit bytes false e long more = long_unfed c ls longest limit bytes (unfed_front limit bytes (ltb-false (position_or_len is_line_feed bytes) limit e)) more (omega (arith, long, place_within bytes))

pub long_reads : (c : Command) (ls : List (List ℕ)) (longest limit : ℕ) (bytes : List ℕ) → first_line longest bytes ≡ too_long → longest < limit → read_from c longest limit ls bytes ≡ stops (status.LineLong (next_number ls))
long_reads c ls longest limit bytes h more = long_within c ls longest limit bytes (nat_lt (position_or_len is_line_feed bytes) limit) refl (long_place longest bytes h) more

pub long_late : (c : Command) (ls : List (List ℕ)) (longest limit : ℕ) (bytes : List ℕ) → first_line longest bytes ≡ too_long → limit ≤ longest → read_from c longest limit ls bytes ≡ stops status.InputLong
long_late c ls longest limit bytes h short =
    let long = long_place longest bytes h in
    late c ls longest limit bytes (omega (arith, long, short)) (omega (arith, long, short, place_within bytes)) short

-- ---- the end

none_reads : (c : Command) (ls : List (List ℕ)) (longest limit : ℕ) → read_from c longest limit ls [] ≡ c.closing ls
none_reads c ls longest limit =
    ap (λ w. read_on c longest w ls (lines_of w (take limit []))) (le-leb 0 limit (omega arith))
    ∙ ap (λ x. read_on c longest true ls (lines_of true x)) (take_all limit [] (omega arith))

pub end_reads : (c : Command) (ls : List (List ℕ)) (longest limit : ℕ) (bytes : List ℕ) → first_line longest bytes ≡ no_line → read_from c longest limit ls bytes ≡ c.closing ls
end_reads c ls longest limit bytes h = ap (read_from c longest limit ls) (no_line-empty longest bytes h) ∙ none_reads c ls longest limit
