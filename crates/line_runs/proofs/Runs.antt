-- What a run has done so far, from line to line, and how it ends.
use Rattle.std.proofs.Common.{◌≡◌, ℕ, ◌+◌, Bool, true, false, cond, List, [], ◌∷◌, ◌++◌, take, drop, Option, Some, None, Result, Ok, Err, refl, sym, ap, ap₂, subst, ◌∙◌, append_assoc, append-nil, take-append-drop, length-append, arith}
use Rattle.std.specs.List.{concat}
use Rattle.std.proofs.lemmas.List.Folds.{concat-append}
use Rattle.program_edge.specs.Lines.{Reader, ReadsLine, a_line, first_line, fresh, last_line, no_line, too_long, unread}
use Rattle.program_edge.specs.declared.lines.NextLine.{NextLine}
use Rattle.program_edge.specs.declared.lines.NextLine.TheVariants.{Line, Last, Long, End}
use Rattle.program_edge.specs.declared.status.LineWhy.{LineWhy}
use Rattle.program_edge.specs.declared.status.Status.{Status}
use Rattle.program_edge.specs.declared.status.Status.TheVariants as status
use Rattle.program_edge.specs.declared.lines.ReadStop.{ReadStop}
use Rattle.program_edge.specs.declared.lines.ReadStop.TheVariants as read
use Rattle.line_runs.specs.Ends.{read_end}
use Rattle.line_runs.specs.Judged.{Judged, judged, whole_line, whole_lines}
use Rattle.line_runs.specs.Output.{Command, EndsAs, Ended, FirstTaken, Read, RunsTo, SomeBytes, WholeLines, behind, behind_line, next_number, read_by, read_from, read_in, stops}
use Rattle.line_runs.specs.Steps.{Gave, Kept, PutsWaiting, StepEnds, StepOn, Steps, TakesLine}
use Rattle.line_runs.specs.declared.taker.Behind.{Behind}
use Rattle.line_runs.specs.declared.taker.Behind.TheVariants as following
use Rattle.line_runs.specs.declared.run.Step.{Step}
use Rattle.line_runs.specs.declared.run.Step.TheVariants.{Goes, Ends}

-- ---- the texts of a list

one_text : (text : List ℕ) → concat (text ∷ []) ≡ text
one_text text = append-nil text

put_all_texts : (held : List ℕ) (texts more : List (List ℕ)) → (held ++ concat texts) ++ concat more ≡ held ++ concat (texts ++ more)
put_all_texts held texts more = append_assoc held (concat texts) (concat more) ∙ ap (λ x. held ++ x) (sym (concat-append texts more))

texts_of : {r s : Read} → r ≡ s → r.texts ≡ s.texts
texts_of e = ap (λ (x : Read). x.texts) e

end_of : {r s : Read} → r ≡ s → r.end ≡ s.end
end_of e = ap (λ (x : Read). x.end) e

-- ---- what follows texts that were written

ended_behind : (texts : List (List ℕ)) (r x : Read) (held : List ℕ) (s : Status) (now : Option (List ℕ)) → r ≡ behind texts x → Ended x (held ++ concat texts) s now → Ended r held s now
ended_behind texts r x held s now e h = record {
  end = end_of e ∙ h.end;
  put = h.put ∙ ap Some (put_all_texts held texts x.texts ∙ ap (λ t. held ++ concat t) (sym (texts_of e)));
}

whole_behind : (texts : List (List ℕ)) (r x : Read) (held : List ℕ) (now : Option (List ℕ)) → r ≡ behind texts x → WholeLines x (held ++ concat texts) now → WholeLines r held now
whole_behind texts r x held now e h = record {
  before = texts ++ h.before;
  after = h.after;
  texts = texts_of e ∙ ap (λ t. texts ++ t) h.texts ∙ sym (append_assoc texts h.before h.after);
  put = h.put ∙ ap Some (put_all_texts held texts h.before);
}

some_behind : (texts : List (List ℕ)) (r x : Read) (held : List ℕ) (now : Option (List ℕ)) → r ≡ behind texts x → SomeBytes x (held ++ concat texts) now → SomeBytes r held now
some_behind texts r x held now e h = record {
  text = concat texts ++ h.text;
  more = h.more;
  front = append_assoc (concat texts) h.text h.more ∙ ap (λ t. concat texts ++ t) h.front ∙ sym (concat-append texts x.texts) ∙ sym (ap concat (texts_of e));
  put = h.put ∙ ap Some (append_assoc held (concat texts) h.text);
}

pub ends_behind : (texts : List (List ℕ)) (r x : Read) (held : List ℕ) (s : Status) (now : Option (List ℕ)) → r ≡ behind texts x → EndsAs x (held ++ concat texts) s now → EndsAs r held s now
ends_behind texts r x held status.ReadFault now e h = whole_behind texts r x held now e h
ends_behind texts r x held status.OutOfMemory now e h = whole_behind texts r x held now e h
ends_behind texts r x held status.WriteFault now e h = some_behind texts r x held now e h
ends_behind texts r x held s now e h = ended_behind texts r x held s now e h

-- ---- how a run ends at a line

-- nothing of the line was written, nor anything behind it
pub ended_here : (r : Read) (held : List ℕ) (s : Status) (now : Option (List ℕ)) → r ≡ stops s → now ≡ Some held → Ended r held s now
ended_here r held s now e h = record { end = end_of e; put = h ∙ ap Some (sym (ap (λ t. held ++ concat t) (texts_of e) ∙ append-nil held)) }

pub nothing_more : (r : Read) (held : List ℕ) (now : Option (List ℕ)) → now ≡ Some held → WholeLines r held now
nothing_more r held now h = record { before = []; after = r.texts; texts = refl; put = h ∙ ap Some (sym (append-nil held)) }

-- how a run ends, whatever its end is
pub ended_so : (r : Read) (held : List ℕ) (s : Status) (now : Option (List ℕ)) → r ≡ stops s → now ≡ Some held → EndsAs r held s now
ended_so r held status.ReadFault now e h = nothing_more r held now h
ended_so r held status.OutOfMemory now e h = nothing_more r held now h
ended_so r held status.WriteFault now e h = record { text = []; more = concat r.texts; front = refl; put = h ∙ ap Some (sym (append-nil held)) }
ended_so r held s now e h = ended_here r held s now e h

-- what was written at an end is the front of the texts
record Front (r : Read) (old new : List ℕ) : Type 0 where
  pub added : List ℕ
  pub more : List ℕ
  pub front : added ++ more ≡ concat r.texts
  pub put : new ≡ old ++ added

some_is : {x y : List ℕ} → Some x ≡ Some y → x ≡ y
some_is e = cc

whole_front : (r : Read) (old new : List ℕ) → WholeLines r old (Some new) → Front r old new
whole_front r old new h = record { added = concat h.before; more = concat h.after; front = sym (ap concat h.texts ∙ concat-append h.before h.after); put = some_is h.put }

ended_front : (r : Read) (old new : List ℕ) (s : Status) → Ended r old s (Some new) → Front r old new
ended_front r old new s h = record { added = concat r.texts; more = []; front = append-nil (concat r.texts); put = some_is h.put }

front_of : (r : Read) (old new : List ℕ) (s : Status) → EndsAs r old s (Some new) → Front r old new
front_of r old new status.ReadFault h = whole_front r old new h
front_of r old new status.OutOfMemory h = whole_front r old new h
front_of r old new status.WriteFault h = record { added = h.text; more = h.more; front = h.front; put = some_is h.put }
front_of r old new s h = ended_front r old new s h

-- ---- one line

-- a line that gives a text
gives_reads : (n : ℕ) (given : Result (List ℕ) LineWhy) (text : List ℕ) (r x : Read) → r ≡ read_by n given x → given ≡ Ok text → r ≡ behind (text ∷ []) x
gives_reads n given text r x e h = e ∙ ap (λ g. read_by n g x) h

-- ---- how a run ends at a line

-- nothing was taken, and nothing added
pub same_step : (knows : List (List ℕ) → Type 0) (c : Command) (longest limit : ℕ) (ls : List (List ℕ)) (bytes old : List ℕ) (s : Status) → knows ls → EndsAs (read_from c longest limit ls bytes) old s (Some old) → StepEnds knows c longest limit ls bytes old s old
same_step knows c longest limit ls bytes old s k e = record {
  ends = e;
  added = [];
  put = sym (append-nil old);
  taken = record { lines = ls; later = judged limit bytes; first = refl; known = k; texts = []; others = (read_from c longest limit ls bytes).texts; gave = refl; each = omega arith; more = concat (c.closing ls).texts; front = refl };
}

pub stopped_step : (knows : List (List ℕ) → Type 0) (c : Command) (longest limit : ℕ) (ls : List (List ℕ)) (bytes old : List ℕ) (s : Status) → knows ls → read_from c longest limit ls bytes ≡ stops s → StepEnds knows c longest limit ls bytes old s old
stopped_step knows c longest limit ls bytes old s k e = same_step knows c longest limit ls bytes old s k (ended_so (read_from c longest limit ls bytes) old s (Some old) e refl)

-- no line could be read
pub unread_step : (knows : List (List ℕ) → Type 0) (c : Command) (longest limit : ℕ) (ls : List (List ℕ)) (bytes old : List ℕ) (s : Status) (e : ReadStop) → s ≡ read_end e → knows ls → StepEnds knows c longest limit ls bytes old s old
unread_step knows c longest limit ls bytes old s read.Failed is k = subst (λ t. StepEnds knows c longest limit ls bytes old t old) (sym is) (same_step knows c longest limit ls bytes old status.ReadFault k (nothing_more (read_from c longest limit ls bytes) old (Some old) refl))
unread_step knows c longest limit ls bytes old s read.OutOfMemory is k = subst (λ t. StepEnds knows c longest limit ls bytes old t old) (sym is) (same_step knows c longest limit ls bytes old status.OutOfMemory k (nothing_more (read_from c longest limit ls bytes) old (Some old) refl))

-- the end of the input
pub closing_step : (knows : List (List ℕ) → Type 0) (c : Command) (longest limit : ℕ) (ls : List (List ℕ)) (bytes old new : List ℕ) (s : Status) → knows ls → read_from c longest limit ls bytes ≡ c.closing ls → EndsAs (c.closing ls) old s (Some new) → StepEnds knows c longest limit ls bytes old s new
closing_step knows c longest limit ls bytes old new s k is e =
    let f = front_of (c.closing ls) old new s e in
    record {
      ends = subst (λ r. EndsAs r old s (Some new)) (sym is) e;
      added = f.added;
      put = f.put;
      taken = record { lines = ls; later = judged limit bytes; first = refl; known = k; texts = []; others = (read_from c longest limit ls bytes).texts; gave = refl; each = omega arith; more = f.more; front = f.front };
    }

-- a line was taken, and behind it is the end of the input
pub last_step : (knows : List (List ℕ) → Type 0) (c : Command) (longest limit : ℕ) (ls : List (List ℕ)) (bytes l old mid new : List ℕ) (later : List Judged) (s : Status) (taken : Type 0) → knows (l ∷ ls) → judged limit bytes ≡ whole_line l ∷ later → read_from c longest limit ls bytes ≡ read_by (next_number ls) (c.told ls l) (c.closing (l ∷ ls)) → Gave (c.told ls l) old mid taken → EndsAs (c.closing (l ∷ ls)) mid s (Some new) → StepEnds knows c longest limit ls bytes old s new
last_step knows c longest limit ls bytes l old mid new later s taken k first is g e =
    let r = read_from c longest limit ls bytes in
    let x = c.closing (l ∷ ls) in
    let f = front_of x mid new s e in
    let reads : r ≡ behind (g.text ∷ []) x = gives_reads (next_number ls) (c.told ls l) g.text r x is g.gives in
    record {
      ends = ends_behind (g.text ∷ []) r x old s (Some new) reads (subst (λ h. EndsAs x h s (Some new)) (g.put ∙ ap (λ t. old ++ t) (sym (one_text g.text))) e);
      added = g.text ++ f.added;
      put = f.put ∙ ap (λ t. t ++ f.added) g.put ∙ append_assoc old g.text f.added;
      taken = record {
        lines = l ∷ ls;
        later = later;
        first = ap (λ t. whole_lines ls ++ t) first ∙ sym (append_assoc (whole_lines ls) (whole_line l ∷ []) later);
        known = k;
        texts = g.text ∷ [];
        others = x.texts;
        gave = texts_of reads;
        each = omega arith;
        more = f.more;
        front = append_assoc g.text f.added f.more ∙ ap₂ (λ a b. a ++ b) (sym (one_text g.text)) f.front;
      };
    }

-- a line that gives nothing
pub refused_step : (knows : List (List ℕ) → Type 0) (c : Command) (longest limit n : ℕ) (ls : List (List ℕ)) (bytes l old new : List ℕ) (x : Read) (s : Status) (last : Bool) (taken : Type 0) → knows ls → n ≡ next_number ls → read_from c longest limit ls bytes ≡ read_by (next_number ls) (c.told ls l) x → TakesLine n (c.told ls l) last old (Err s) new taken → StepEnds knows c longest limit ls bytes old s new
refused_step knows c longest limit n ls bytes l old new x (status.BadLine m why) last taken k at is t =
    subst (λ w. StepEnds knows c longest limit ls bytes old (status.BadLine m why) w) (sym t.same) (stopped_step knows c longest limit ls bytes old (status.BadLine m why) k (is ∙ ap (λ g. read_by (next_number ls) g x) t.gives ∙ ap (λ i. stops (status.BadLine i why)) (sym (t.number ∙ at))))
refused_step knows c longest limit n ls bytes l old new x status.OutOfMemory last taken k at is t =
    subst (λ w. StepEnds knows c longest limit ls bytes old status.OutOfMemory w) (sym t) (same_step knows c longest limit ls bytes old status.OutOfMemory k (nothing_more (read_from c longest limit ls bytes) old (Some old) refl))
refused_step knows c longest limit n ls bytes l old new x s last taken k at is t = absurd t

-- by what stands behind a line that was taken
pub goes_of : (n : ℕ) (given : Result (List ℕ) LineWhy) (last : Bool) (old new : List ℕ) (taken : Type 0) (b : Behind) → b ≡ following.Lines → TakesLine n given last old (Ok b) new taken → (last ≡ false) × Gave given old new taken
goes_of n given last old new taken b is t = subst (λ x. TakesLine n given last old (Ok x) new taken) is t

pub ends_of : (n : ℕ) (given : Result (List ℕ) LineWhy) (last : Bool) (old new : List ℕ) (taken : Type 0) (b : Behind) → b ≡ following.End → TakesLine n given last old (Ok b) new taken → (last ≡ true) × Gave given old new taken
ends_of n given last old new taken b is t = subst (λ x. TakesLine n given last old (Ok x) new taken) is t

-- what comes behind a line that doesn't end the input, and behind one that does
lines_behind : (c : Command) (ls : List (List ℕ)) (l : List ℕ) (x : Read) (b : Bool) → c.is_last ls l ≡ b → behind_line c ls l x ≡ cond b (c.closing (l ∷ ls)) x
lines_behind c ls l x b e = ap (λ t. cond t (c.closing (l ∷ ls)) x) e

-- a line was taken, and others follow
pub line_goes : (c : Command) (took : List (List ℕ) → Type 0) (longest limit left : ℕ) (ls : List (List ℕ)) (bytes l rest old new : List ℕ) → judged limit bytes ≡ whole_line l ∷ judged left rest → read_from c longest limit ls bytes ≡ read_by (next_number ls) (c.told ls l) (behind_line c ls l (read_from c longest left (l ∷ ls) rest)) → (c.is_last ls l ≡ false) × Gave (c.told ls l) old new (took (l ∷ ls)) → StepOn c took longest limit left ls bytes old new (Some rest)
line_goes c took longest limit left ls bytes l rest old new first is t =
    let x = read_from c longest left (l ∷ ls) rest in
    record {
      line = l;
      text = t.1.text;
      rest = rest;
      first = first;
      reads = gives_reads (next_number ls) (c.told ls l) t.1.text (read_from c longest limit ls bytes) (behind_line c ls l x) is t.1.gives ∙ ap (behind (t.1.text ∷ [])) (lines_behind c ls l x false t.0);
      remains = refl;
      put = t.1.put;
      taken = t.1.took;
    }

-- a line was taken that ends the input
pub line_closes : (knows : List (List ℕ) → Type 0) (c : Command) (longest limit left : ℕ) (ls : List (List ℕ)) (bytes l rest old mid new : List ℕ) (s : Status) (taken : Type 0) → knows (l ∷ ls) → judged limit bytes ≡ whole_line l ∷ judged left rest → read_from c longest limit ls bytes ≡ read_by (next_number ls) (c.told ls l) (behind_line c ls l (read_from c longest left (l ∷ ls) rest)) → (c.is_last ls l ≡ true) × Gave (c.told ls l) old mid taken → EndsAs (c.closing (l ∷ ls)) mid s (Some new) → StepEnds knows c longest limit ls bytes old s new
line_closes knows c longest limit left ls bytes l rest old mid new s taken k first is t e =
    last_step knows c longest limit ls bytes l old mid new (judged left rest) s taken k first (is ∙ ap (read_by (next_number ls) (c.told ls l)) (lines_behind c ls l (read_from c longest left (l ∷ ls) rest) true t.0)) t.1 e

-- what a line that was taken gave, whether it ends the input or not
pub gave_of : (n : ℕ) (given : Result (List ℕ) LineWhy) (last : Bool) (old new : List ℕ) (taken : Type 0) (b : Behind) → TakesLine n given last old (Ok b) new taken → Gave given old new taken
gave_of n given last old new taken following.Lines t = t.1
gave_of n given last old new taken following.End t = t.1

-- ---- what the reader found

-- a line that ends with a line feed
pub record FedLine (longest : ℕ) (bytes l : List ℕ) (left : Option (List ℕ)) : Type 0 where
  pub rest : List ℕ
  pub first : first_line longest bytes ≡ a_line l rest
  pub remains : left ≡ Some rest

pub fed_found : (most longest : ℕ) (bytes l : List ℕ) (found : NextLine) (left : Option (List ℕ)) → most ≡ longest → found ≡ Line l → ReadsLine most bytes (Ok found) left → FedLine longest bytes l left
fed_found most longest bytes l found left e f k = let h : ReadsLine most bytes (Ok (Line l)) left = subst (λ x. ReadsLine most bytes (Ok x) left) f k in record { rest = h.0; first = subst (λ m. first_line m bytes ≡ a_line l h.0) e h.1; remains = h.2 }

pub last_found : (most longest : ℕ) (bytes l : List ℕ) (found : NextLine) (left : Option (List ℕ)) → most ≡ longest → found ≡ Last l → ReadsLine most bytes (Ok found) left → first_line longest bytes ≡ last_line l
last_found most longest bytes l found left e f k = let h : ReadsLine most bytes (Ok (Last l)) left = subst (λ x. ReadsLine most bytes (Ok x) left) f k in subst (λ m. first_line m bytes ≡ last_line l) e h.0

pub long_found : (most longest : ℕ) (bytes : List ℕ) (found : NextLine) (left : Option (List ℕ)) → most ≡ longest → found ≡ Long → ReadsLine most bytes (Ok found) left → first_line longest bytes ≡ too_long
long_found most longest bytes found left e f k = let h : ReadsLine most bytes (Ok Long) left = subst (λ x. ReadsLine most bytes (Ok x) left) f k in subst (λ m. first_line m bytes ≡ too_long) e h.0

pub end_found : (most longest : ℕ) (bytes : List ℕ) (found : NextLine) (left : Option (List ℕ)) → most ≡ longest → found ≡ End → ReadsLine most bytes (Ok found) left → first_line longest bytes ≡ no_line
end_found most longest bytes found left e f k = let h : ReadsLine most bytes (Ok End) left = subst (λ x. ReadsLine most bytes (Ok x) left) f k in subst (λ m. first_line m bytes ≡ no_line) e h.0

-- what is said of a line that was handed out holds of what is left to be read
pub fed_steps : (c : Command) (took knows : List (List ℕ) → Type 0) (longest limit : ℕ) (ls : List (List ℕ)) (bytes l slice old new : List ℕ) (result : Step) (left : Option (List ℕ)) → slice ≡ l → FedLine longest bytes l left
    → ((rest : List ℕ) → first_line longest bytes ≡ a_line slice rest → Steps c took knows longest limit ls bytes old result new (Some rest))
    → Steps c took knows longest limit ls bytes old result new left
fed_steps c took knows longest limit ls bytes l slice old new result left is f says =
    subst (λ o. Steps c took knows longest limit ls bytes old result new o) (sym f.remains) (says f.rest (subst (λ x. first_line longest bytes ≡ a_line x f.rest) (sym is) f.first))

-- ---- from line to line

pub unread_fresh : (longest : ℕ) (reader : Reader) (left : Option (List ℕ)) (input : List ℕ) → reader ≡ fresh longest → left ≡ Some input → unread reader left ≡ Some input
unread_fresh longest reader left input e h = rw (e, h) refl

pub kept_first : (c : Command) (took : List (List ℕ) → Type 0) (longest limit left n : ℕ) (input held waits : List ℕ) (ahead now : Option (List ℕ)) → took [] → left ≡ limit → n ≡ 1 → waits ≡ [] → ahead ≡ Some input → now ≡ Some held → Kept c took longest limit input left n held waits ahead now
unfolding read_in
kept_first c took longest limit left n input held waits ahead now t l e w r h =
    subst (λ m. Kept c took longest limit input m n held waits ahead now) (sym l) (record { lines = []; texts = []; rest = input; written = []; number = e; first = refl; reads = refl; each = refl; remains = r; put = h ∙ ap Some (sym (append-nil held)); waiting = w; taken = t })

pub one_line_more : (l : List ℕ) (ls : List (List ℕ)) → next_number ls + 1 ≡ next_number (l ∷ ls)
one_line_more l ls = omega arith

-- what one step of the run says
abbrev pub SaysOf : Command → (List (List ℕ) → Type 0) → (List (List ℕ) → Type 0) → (List (List ℕ) → Type 0) → ℕ → ℕ → ℕ → Option (List ℕ) → List ℕ → Step → List ℕ → Option (List ℕ) → Type 0
SaysOf c took took' knows longest limit n left waits result waits' left' = (ls : List (List ℕ)) (bytes : List ℕ) → took ls → n ≡ next_number ls → left ≡ Some bytes → Steps c took' knows longest limit ls bytes waits result waits' left'

-- the same, with the greatest length of a line in other words
pub says_at : (c : Command) (took took' knows : List (List ℕ) → Type 0) (most longest limit n : ℕ) (left : Option (List ℕ)) (waits : List ℕ) (result : Step) (waits' : List ℕ) (left' : Option (List ℕ)) → most ≡ longest → SaysOf c took took' knows most limit n left waits result waits' left' → SaysOf c took took' knows longest limit n left waits result waits' left'
says_at c took took' knows most longest limit n left waits result waits' left' e says = subst (λ m. SaysOf c took took' knows m limit n left waits result waits' left') e says

pub kept_on : (c : Command) (took took' knows : List (List ℕ) → Type 0) (longest limit left later later' n n' : ℕ) (input held waits waits' waits'' : List ℕ) (ahead ahead' ahead'' now : Option (List ℕ)) → later' ≡ later → n' ≡ n + 1 → waits'' ≡ waits' → ahead'' ≡ ahead' → SaysOf c took took' knows longest left n ahead waits (Goes later) waits' ahead' → Kept c took longest limit input left n held waits ahead now → Kept c took' longest limit input later' n' held waits'' ahead'' now
kept_on c took took' knows longest limit left later later' n n' input held waits waits' waits'' ahead ahead' ahead'' now el next ew ea says k =
    let s = says k.lines k.rest k.taken k.number k.remains in
    let x = read_from c longest later (s.line ∷ k.lines) s.rest in
    subst (λ m. Kept c took' longest limit input m n' held waits'' ahead'' now) (sym el) (record {
      lines = s.line ∷ k.lines;
      texts = k.texts ++ s.text ∷ [];
      rest = s.rest;
      written = k.written;
      number = next ∙ ap (λ m. m + 1) k.number ∙ one_line_more s.line k.lines;
      first = k.first ∙ ap (λ t. whole_lines k.lines ++ t) s.first ∙ sym (append_assoc (whole_lines k.lines) (whole_line s.line ∷ []) (judged later s.rest));
      reads = k.reads ∙ ap (behind k.texts) s.reads ∙ ap (λ t. record { texts = t; end = x.end }) (sym (append_assoc k.texts (s.text ∷ []) x.texts));
      each = omega (arith, length-append k.texts (s.text ∷ []), k.each);
      remains = ea ∙ s.remains;
      put = k.put;
      waiting = ap (λ t. k.written ++ t) (ew ∙ s.put) ∙ sym (append_assoc k.written waits s.text) ∙ ap₂ (λ a b. a ++ b) k.waiting (sym (one_text s.text)) ∙ sym (concat-append k.texts (s.text ∷ []));
      taken = s.taken;
    })

-- some of what waits was written
pub kept_written : (c : Command) (took : List (List ℕ) → Type 0) (longest limit left left' n n' : ℕ) (input held waits waits' : List ℕ) (ahead ahead' now now' : Option (List ℕ)) (result : Option Status) → left' ≡ left → n' ≡ n → ahead' ≡ ahead → result ≡ None → PutsWaiting now result waits waits' now' → Kept c took longest limit input left n held waits ahead now → Kept c took longest limit input left' n' held waits' ahead' now'
kept_written c took longest limit left left' n n' input held waits waits' ahead ahead' now now' result el en ea none puts k =
    let p : PutsWaiting (Some (held ++ k.written)) None waits waits' now' = subst (λ o. PutsWaiting o None waits waits' now') k.put (subst (λ o. PutsWaiting now o waits waits' now') none puts) in
    subst (λ m. Kept c took longest limit input m n' held waits' ahead' now') (sym el) (record {
      lines = k.lines;
      texts = k.texts;
      rest = k.rest;
      written = k.written ++ p.0;
      number = en ∙ k.number;
      first = k.first;
      reads = k.reads;
      each = k.each;
      remains = ea ∙ k.remains;
      put = p.2 ∙ ap Some (append_assoc held k.written p.0);
      waiting = append_assoc k.written p.0 waits' ∙ ap (λ t. k.written ++ t) p.1 ∙ k.waiting;
      taken = k.taken;
    })

-- ---- the end of a run

-- what a run gave so far, and what more it gives
record Given (r : Read) (all : List ℕ) : Type 0 where
  pub more : List ℕ
  pub front : all ++ more ≡ concat r.texts

kept_given : (c : Command) (took : List (List ℕ) → Type 0) (longest limit left n : ℕ) (input held waits : List ℕ) (ahead now : Option (List ℕ)) (k : Kept c took longest limit input left n held waits ahead now) → Given (read_in c longest limit input) (k.written ++ waits)
kept_given c took longest limit left n input held waits ahead now k =
    let x = read_from c longest left k.lines k.rest in
    record { more = concat x.texts; front = ap (λ t. t ++ concat x.texts) k.waiting ∙ sym (concat-append k.texts x.texts) ∙ sym (ap concat (texts_of k.reads)) }

kept_taken : (c : Command) (took knows : List (List ℕ) → Type 0) (longest limit left n : ℕ) (input held waits : List ℕ) (ahead now : Option (List ℕ)) (k : Kept c took longest limit input left n held waits ahead now) → knows k.lines → FirstTaken knows c (judged limit input) (read_in c longest limit input) (k.written ++ waits)
kept_taken c took knows longest limit left n input held waits ahead now k known = record {
  lines = k.lines;
  later = judged left k.rest;
  first = k.first;
  known = known;
  texts = k.texts;
  others = (read_from c longest left k.lines k.rest).texts;
  gave = texts_of k.reads;
  each = k.each;
  more = concat (c.closing k.lines).texts;
  front = ap (λ t. t ++ concat (c.closing k.lines).texts) k.waiting;
}

-- the same, after the step at which the run ended
stop_given : (c : Command) (took knows : List (List ℕ) → Type 0) (longest limit left n : ℕ) (input held waits waits' : List ℕ) (ahead now : Option (List ℕ)) (s : Status) (k : Kept c took longest limit input left n held waits ahead now) → StepEnds knows c longest left k.lines k.rest waits s waits' → Given (read_in c longest limit input) (k.written ++ waits')
stop_given c took knows longest limit left n input held waits waits' ahead now s k e =
    let x = read_from c longest left k.lines k.rest in
    let f = front_of x waits waits' s e.ends in
    record {
      more = f.more;
      front =
          ap (λ t. (k.written ++ t) ++ f.more) f.put
          ∙ ap (λ t. t ++ f.more) (sym (append_assoc k.written waits f.added) ∙ ap (λ t. t ++ f.added) k.waiting)
          ∙ append_assoc (concat k.texts) f.added f.more
          ∙ ap (λ t. concat k.texts ++ t) f.front
          ∙ sym (concat-append k.texts x.texts)
          ∙ sym (ap concat (texts_of k.reads));
    }

stop_taken : (c : Command) (took knows : List (List ℕ) → Type 0) (longest limit left n : ℕ) (input held waits waits' : List ℕ) (ahead now : Option (List ℕ)) (s : Status) (k : Kept c took longest limit input left n held waits ahead now) → StepEnds knows c longest left k.lines k.rest waits s waits' → FirstTaken knows c (judged limit input) (read_in c longest limit input) (k.written ++ waits')
stop_taken c took knows longest limit left n input held waits waits' ahead now s k e =
    let t = e.taken in
    record {
      lines = t.lines;
      later = t.later;
      first = k.first ∙ t.first;
      known = t.known;
      texts = k.texts ++ t.texts;
      others = t.others;
      gave = texts_of k.reads ∙ ap (λ y. k.texts ++ y) t.gave ∙ sym (append_assoc k.texts t.texts t.others);
      each = omega (arith, length-append k.texts t.texts, k.each, t.each);
      more = t.more;
      front =
          ap (λ y. (k.written ++ y) ++ t.more) e.put
          ∙ ap (λ y. y ++ t.more) (sym (append_assoc k.written waits e.added) ∙ ap (λ y. y ++ e.added) k.waiting)
          ∙ append_assoc (concat k.texts) e.added t.more
          ∙ ap (λ y. concat k.texts ++ y) t.front
          ∙ sym (append_assoc (concat k.texts) (concat t.texts) (concat (c.closing t.lines).texts))
          ∙ ap (λ y. y ++ concat (c.closing t.lines).texts) (sym (concat-append k.texts t.texts));
    }

-- a text behind another one was written in part
cut : (a p q more : List ℕ) (k : ℕ) (all : List ℕ) → (a ++ p) ++ more ≡ all → (a ++ take k p) ++ (drop k p ++ more) ≡ all
cut a p q more k all e =
    sym (append_assoc (a ++ take k p) (drop k p) more)
    ∙ ap (λ t. t ++ more) (append_assoc a (take k p) (drop k p) ∙ ap (λ t. a ++ t) (take-append-drop k p))
    ∙ e

-- the writing broke off
broke : (knows : List (List ℕ) → Type 0) (c : Command) (longest limit : ℕ) (input held written waits left : List ℕ) (now : Option (List ℕ)) (s : Status) → Given (read_in c longest limit input) (written ++ waits) → FirstTaken knows c (judged limit input) (read_in c longest limit input) (written ++ waits) → PutsWaiting (Some (held ++ written)) (Some s) waits left now → RunsTo knows c longest limit input held s now
broke knows c longest limit input held written waits left now status.WriteFault g t puts =
    let text = written ++ take puts.0 waits in
    let put = puts.1 ∙ ap Some (append_assoc held written (take puts.0 waits)) in
    record {
      ends = record { text = text; more = drop puts.0 waits ++ g.more; front = cut written waits [] g.more puts.0 (concat (read_in c longest limit input).texts) g.front; put = put };
      written = text;
      put = put;
      taken = record {
        lines = t.lines;
        later = t.later;
        first = t.first;
        known = t.known;
        texts = t.texts;
        others = t.others;
        gave = t.gave;
        each = t.each;
        more = drop puts.0 waits ++ t.more;
        front = cut written waits [] t.more puts.0 (concat t.texts ++ concat (c.closing t.lines).texts) t.front;
      };
    }
broke knows c longest limit input held written waits left now s g t puts = absurd puts

pub kept_broke : (c : Command) (took knows : List (List ℕ) → Type 0) (longest limit left n : ℕ) (input held waits waits' : List ℕ) (ahead now now' : Option (List ℕ)) (result : Option Status) (s : Status) → ((ls : List (List ℕ)) → took ls → knows ls) → result ≡ Some s → PutsWaiting now result waits waits' now' → Kept c took longest limit input left n held waits ahead now → RunsTo knows c longest limit input held s now'
kept_broke c took knows longest limit left n input held waits waits' ahead now now' result s law is puts k =
    broke knows c longest limit input held k.written waits waits' now' s (kept_given c took longest limit left n input held waits ahead now k) (kept_taken c took knows longest limit left n input held waits ahead now k (law k.lines k.taken)) (subst (λ o. PutsWaiting o (Some s) waits waits' now') k.put (subst (λ o. PutsWaiting now o waits waits' now') is puts))

pub stop_broke : (c : Command) (took took' knows : List (List ℕ) → Type 0) (longest limit left n : ℕ) (input held waits waits' waits'' : List ℕ) (ahead ahead' now now' : Option (List ℕ)) (result : Option Status) (s fault : Status) → result ≡ Some fault → PutsWaiting now result waits' waits'' now' → Kept c took longest limit input left n held waits ahead now → SaysOf c took took' knows longest left n ahead waits (Ends s) waits' ahead' → RunsTo knows c longest limit input held fault now'
stop_broke c took took' knows longest limit left n input held waits waits' waits'' ahead ahead' now now' result s fault is puts k says =
    let e = says k.lines k.rest k.taken k.number k.remains in
    broke knows c longest limit input held k.written waits' waits'' now' fault (stop_given c took knows longest limit left n input held waits waits' ahead now s k e) (stop_taken c took knows longest limit left n input held waits waits' ahead now s k e) (subst (λ o. PutsWaiting o (Some fault) waits' waits'' now') k.put (subst (λ o. PutsWaiting now o waits' waits'' now') is puts))

-- what stands in front of a text
abbrev onto : List ℕ → Option (List ℕ) → Option (List ℕ)
onto a None = None
onto a (Some b) = Some (a ++ b)

moved_put : (a old text : List ℕ) (now : Option (List ℕ)) → now ≡ Some (old ++ text) → onto a now ≡ Some ((a ++ old) ++ text)
moved_put a old text now h = ap (onto a) h ∙ ap Some (sym (append_assoc a old text))

moved : (a old : List ℕ) (r : Read) (s : Status) (now : Option (List ℕ)) → EndsAs r old s now → EndsAs r (a ++ old) s (onto a now)
moved a old r status.ReadFault now h = record { before = h.before; after = h.after; texts = h.texts; put = moved_put a old (concat h.before) now h.put }
moved a old r status.OutOfMemory now h = record { before = h.before; after = h.after; texts = h.texts; put = moved_put a old (concat h.before) now h.put }
moved a old r status.WriteFault now h = record { text = h.text; more = h.more; front = h.front; put = moved_put a old h.text now h.put }
moved a old r s now h = moved_ended a old r s now h
  where
    moved_ended : (a old : List ℕ) (r : Read) (s : Status) (now : Option (List ℕ)) → Ended r old s now → Ended r (a ++ old) s (onto a now)
    moved_ended a old r s now h = record { end = h.end; put = moved_put a old (concat r.texts) now h.put }

-- all that waited was written, and the run ended
pub stop_written : (c : Command) (took took' knows : List (List ℕ) → Type 0) (longest limit left n : ℕ) (input held waits waits' waits'' : List ℕ) (ahead ahead' now now' : Option (List ℕ)) (result : Option Status) (s : Status) → result ≡ None → waits'' ≡ [] → PutsWaiting now result waits' waits'' now' → Kept c took longest limit input left n held waits ahead now → SaysOf c took took' knows longest left n ahead waits (Ends s) waits' ahead' → RunsTo knows c longest limit input held s now'
stop_written c took took' knows longest limit left n input held waits waits' waits'' ahead ahead' now now' result s none empty puts k says =
    let e = says k.lines k.rest k.taken k.number k.remains in
    let x = read_from c longest left k.lines k.rest in
    let p : PutsWaiting (Some (held ++ k.written)) None waits' [] now' = subst (λ w. PutsWaiting (Some (held ++ k.written)) None waits' w now') empty (subst (λ o. PutsWaiting o None waits' waits'' now') k.put (subst (λ o. PutsWaiting now o waits' waits'' now') none puts)) in
    let put : now' ≡ Some ((held ++ k.written) ++ waits') = p.2 ∙ ap (λ w. Some ((held ++ k.written) ++ w)) (sym (append-nil p.0) ∙ p.1) in
    let before : (held ++ k.written) ++ waits ≡ held ++ concat k.texts = append_assoc held k.written waits ∙ ap (λ t. held ++ t) k.waiting in
    record {
      ends = ends_behind k.texts (read_in c longest limit input) x held s now' k.reads (subst (λ o. EndsAs x (held ++ concat k.texts) s o) (sym put) (subst (λ h. EndsAs x h s (Some ((held ++ k.written) ++ waits'))) before (moved (held ++ k.written) waits x s (Some waits') e.ends)));
      written = k.written ++ waits';
      put = put ∙ ap Some (append_assoc held k.written waits');
      taken = stop_taken c took knows longest limit left n input held waits waits' ahead now s k e;
    }
