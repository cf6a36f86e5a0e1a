-- What stops a run, by the length of its input, and which lines are hexadecimal.
use Rattle.std.proofs.Common.{◌≡◌, ◌↔◌, ℕ, ◌%◌, ◌≤◌, ◌<◌, Bool, true, false, cond, List, [], ◌∷◌, length, take, Result, Ok, Err, IsTrue, is_ok, refl, ap, true≢false, nat_lt}
use Rattle.std.specs.List.{AllPass}
use Rattle.std.proofs.lemmas.Bool.{leb-true, leb-false}
use Rattle.hex.specs.Hex.{decode_of, is_hex_digit}
use Rattle.hex.specs.declared.error.FromHexError.{FromHexError}
use Rattle.hex.proofs.HexLemmas.{decode_of-digits, decode_of-ok}
use Rattle.program_edge.specs.Lines.{is_line_feed}
use Rattle.program_edge.specs.declared.status.Status.TheVariants as status
use Rattle.line_runs.specs.Judged.{Judged, before_all, is_whole, judged, lines_of}
use Rattle.program_edge.specs.declared.status.LineWhy.{LineWhy}
use Rattle.line_runs.specs.Output.{Read, next_number, read_by, read_in, read_line, read_on, stops}
use Rattle.packet_show.specs.Shown.{show_command, shown, shown_by}

-- ---- an input is read to its end

by_text : (n : ℕ) (o : Result (List ℕ) LineWhy) (rest : Read) (w : Bool) → (read_by n o rest).end ≡ status.Done → (rest.end ≡ status.Done → w ≡ true) → w ≡ true
by_text n (Err why) rest w h later = absurd (cc)
by_text n (Ok text) rest w h later = later h

by_end : (n : ℕ) (ends : Bool) (o : Result (List ℕ) LineWhy) (rest : Read) (w : Bool) → (read_line n false ends o rest).end ≡ status.Done → (rest.end ≡ status.Done → w ≡ true) → w ≡ true
by_end n true o rest w h later = by_text n o rest w h later
by_end n false o rest w h later = absurd (cc)

by_length : (n : ℕ) (t ends : Bool) (o : Result (List ℕ) LineWhy) (rest : Read) (w : Bool) → (read_line n t ends o rest).end ≡ status.Done → (rest.end ≡ status.Done → w ≡ true) → w ≡ true
by_length n true ends o rest w h later = absurd (cc)
by_length n false ends o rest w h later = by_end n ends o rest w h later

by_whole : (w : Bool) → (cond w (stops status.Done) (stops status.InputLong)).end ≡ status.Done → w ≡ true
by_whole true h = refl
by_whole false h = absurd (cc)

done_whole : (longest : ℕ) (w : Bool) (ls : List (List ℕ)) (more : List Judged) → (read_on show_command longest w ls more).end ≡ status.Done → w ≡ true
done_whole longest w ls [] h = by_whole w h
done_whole longest w ls (l ∷ more) h = by_length (next_number ls) (nat_lt longest (length l.line)) l.ends (shown l.line) (read_on show_command longest w (l.line ∷ ls) more) w h (done_whole longest w (l.line ∷ ls) more)

pub done_within : (longest limit : ℕ) (input : List ℕ) → (read_in show_command longest limit input).end ≡ status.Done → length input ≤ limit
unfolding read_in
done_within longest limit input h = leb-true (length input) limit (done_whole longest (is_whole limit input) [] (judged limit input) h)

-- ---- an input that is too long

-- a line that doesn't end within the judged bytes is of a longer input
abbrev AllEnd : Bool → List Judged → Type 0
AllEnd w [] = Unit {0}
AllEnd w (l ∷ ls) = (l.ends ≡ false → w ≡ false) × AllEnd w ls

before_ends : (w : Bool) (b : ℕ) (ls : List Judged) → AllEnd w ls → AllEnd w (before_all w b ls)
before_ends w b [] h = ((λ e. e), tt)
before_ends w b (l ∷ ls) h = h

ends_by : (w : Bool) (b : ℕ) (t : Bool) (ls : List Judged) → AllEnd w ls → AllEnd w (cond t (record { line = []; ends = true } ∷ ls) (before_all w b ls))
ends_by w b true ls h = ((λ e. absurd (true≢false e)), h)
ends_by w b false ls h = before_ends w b ls h

lines_end : (w : Bool) (bytes : List ℕ) → AllEnd w (lines_of w bytes)
lines_end w [] = tt
lines_end w (b ∷ bs) = ends_by w b (is_line_feed b) (lines_of w bs) (lines_end w bs)

long_text : (n : ℕ) (o : Result (List ℕ) LineWhy) (rest : Read) (w : Bool) → (read_by n o rest).end ≡ status.InputLong → (rest.end ≡ status.InputLong → w ≡ false) → w ≡ false
long_text n (Err why) rest w h later = absurd (cc)
long_text n (Ok text) rest w h later = later h

long_end : (n : ℕ) (ends : Bool) (o : Result (List ℕ) LineWhy) (rest : Read) (w : Bool) → (read_line n false ends o rest).end ≡ status.InputLong → (ends ≡ false → w ≡ false) → (rest.end ≡ status.InputLong → w ≡ false) → w ≡ false
long_end n true o rest w h here later = long_text n o rest w h later
long_end n false o rest w h here later = here refl

long_length : (n : ℕ) (t ends : Bool) (o : Result (List ℕ) LineWhy) (rest : Read) (w : Bool) → (read_line n t ends o rest).end ≡ status.InputLong → (ends ≡ false → w ≡ false) → (rest.end ≡ status.InputLong → w ≡ false) → w ≡ false
long_length n true ends o rest w h here later = absurd (cc)
long_length n false ends o rest w h here later = long_end n ends o rest w h here later

long_by : (w : Bool) → (cond w (stops status.Done) (stops status.InputLong)).end ≡ status.InputLong → w ≡ false
long_by true h = absurd (cc)
long_by false h = refl

long_whole : (longest : ℕ) (w : Bool) (ls : List (List ℕ)) (more : List Judged) → AllEnd w more → (read_on show_command longest w ls more).end ≡ status.InputLong → w ≡ false
long_whole longest w ls [] all h = long_by w h
long_whole longest w ls (l ∷ more) all h = long_length (next_number ls) (nat_lt longest (length l.line)) l.ends (shown l.line) (read_on show_command longest w (l.line ∷ ls) more) w h all.0 (long_whole longest w (l.line ∷ ls) more all.1)

pub long_beyond : (longest limit : ℕ) (input : List ℕ) → (read_in show_command longest limit input).end ≡ status.InputLong → limit < length input
unfolding read_in
long_beyond longest limit input h = leb-false (length input) limit (long_whole longest (is_whole limit input) [] (judged limit input) (lines_end (is_whole limit input) (take limit input)) h)

-- ---- hexadecimal

some_by : (line : List ℕ) (d : Result (List ℕ) FromHexError) → decode_of line ≡ d → IsTrue (is_ok (shown_by d)) → (length line % 2 ≡ 0) × AllPass is_hex_digit line
some_by line (Ok packet) e h = let p = decode_of-ok line packet e in (p.0, p.1)
some_by line (Err x) e h = absurd (cc)

pub hex_lines : (line : List ℕ) → IsTrue (is_ok (shown line)) ↔ ((length line % 2 ≡ 0) × AllPass is_hex_digit line)
unfolding shown
hex_lines line = (some_by line (decode_of line) refl, λ h. let d = decode_of-digits line h.0 h.1 in ap (λ r. is_ok (shown_by r)) d.1)
