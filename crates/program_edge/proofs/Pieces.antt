-- What pieces move.
use Rattle.std.proofs.Common.{◌≡◌, ℕ, ◌+◌, ◌≤◌, List, [], ◌++◌, length, take, drop, refl, sym, ap, ◌∙◌, arith, append_assoc, append-nil, subst, length-append, length-drop}
use Rattle.std.specs.Prelude.{Option, Some, None, Ok, Err}
use Rattle.std.proofs.lemmas.List.{take-append-drop, take-append-le, drop-drop, length-take, take_all}
use Rattle.std.proofs.Math.Seq.{take-append-add}
use Rattle.program_edge.specs.Pieces.{Moves, Puts, PutsAll}

-- the front of a list, and what stands behind it
splits : (xs front : List ℕ) (i n : ℕ) → front ≡ take n (drop i xs) → drop i xs ≡ front ++ drop (i + n) xs
splits xs front i n e = sym (take-append-drop n (drop i xs)) ∙ ap (λ (f : List ℕ). f ++ drop n (drop i xs)) (sym e) ∙ ap (λ (r : List ℕ). front ++ r) (drop-drop n i xs)

-- n bytes from place `at` on were copied
pub moves : (xs buffer rest : List ℕ) (at n : ℕ) → rest ≡ drop at xs → n ≤ length rest → take n buffer ≡ take n rest → (n ≡ 0 → rest ≡ []) → Moves (drop at xs) n buffer (Some (drop (at + n) xs))
moves xs buffer rest at n is fits copied none = record {
  rest = drop (at + n) xs;
  moved = splits xs (take n buffer) at n (copied ∙ ap (take n) is);
  remains = refl;
  end = (
    (λ e. sym is ∙ none e),
    λ e. omega (arith, ap length (is ∙ e)),
  );
}

-- what was put so far, and what is still to be put
pub record HasPut (before : Option (List ℕ)) (bytes left : List ℕ) (now : Option (List ℕ)) : Type 0 where
  pub count : ℕ
  pub within : count ≤ length bytes
  pub left_is : left ≡ drop count bytes
  pub now_is : (held : List ℕ) → before ≡ Some held → now ≡ Some (held ++ take count bytes)

pub none_put : (before : Option (List ℕ)) (bytes : List ℕ) → HasPut before bytes bytes before
none_put before bytes = record { count = 0; within = omega arith; left_is = refl; now_is = λ held e. e ∙ ap Some (sym (append-nil held)) }

-- the front of a list, in two parts
take_behind : (xs : List ℕ) (i n : ℕ) → i ≤ length xs → take (i + n) xs ≡ take i xs ++ take n (drop i xs)
take_behind xs i n h =
    let len : length (take i xs) ≡ i = omega (arith, length-take i xs) in
    ap (λ (k : ℕ). take (k + n) xs) (sym len)
    ∙ ap (take (length (take i xs) + n)) (sym (take-append-drop i xs))
    ∙ take-append-add (take i xs) (drop i xs) n

-- one more piece
pub piece_put : (E : Type 0) (before : Option (List ℕ)) (bytes left rest : List ℕ) (now after : Option (List ℕ)) (n : ℕ) → HasPut before bytes left now → n ≤ length left → rest ≡ drop n left → Puts {E = E} now (Ok n) left after → HasPut before bytes rest after
piece_put E before bytes left rest now after n so fits is put =
    let len = ap length so.left_is ∙ length-drop so.count bytes in
    record {
      count = so.count + n;
      within = omega (arith, len, so.within);
      left_is = is ∙ ap (drop n) so.left_is ∙ drop-drop n so.count bytes;
      now_is = λ held e.
          let P : Option (List ℕ) → Type 0 = λ o. Puts {E = E} o (Ok n) left after in
          let both = ap (λ (l : List ℕ). take so.count bytes ++ take n l) so.left_is ∙ sym (take_behind bytes so.count n so.within) in
          let more : after ≡ Some ((held ++ take so.count bytes) ++ take n left) = subst P (so.now_is held e) put in
          more ∙ ap Some (append_assoc held (take so.count bytes) (take n left) ∙ ap (λ (l : List ℕ). held ++ l) both);
    }

-- nothing is still to be put
pub all_put : (E : Type 0) (before : Option (List ℕ)) (bytes left : List ℕ) (now : Option (List ℕ)) → HasPut before bytes left now → length left ≡ 0 → PutsAll {E = E} before (Ok tt) bytes now
all_put E None bytes left now so none = tt
all_put E (Some held) bytes left now so none =
    let whole : length bytes ≤ so.count = omega (arith, ap length so.left_is ∙ length-drop so.count bytes) in
    so.now_is held refl ∙ ap (λ (l : List ℕ). Some (held ++ l)) (take_all so.count bytes whole)

-- a piece failed
pub part_put : {E : Type 0} (before : Option (List ℕ)) (bytes left : List ℕ) (now after : Option (List ℕ)) (e : E) → HasPut before bytes left now → Puts now (Err e) left after → PutsAll before (Err e) bytes after
part_put {E} None bytes left now after e so put = tt
part_put {E} (Some held) bytes left now after e so put =
    let P : Option (List ℕ) → Type 0 = λ o. Puts {E = E} o (Err e) left after in (so.count, so.within, subst P (so.now_is held refl) put)

-- all of a front was put, and then some of a piece behind it
pub part_behind : {E : Type 0} (before now after : Option (List ℕ)) (front piece rest all : List ℕ) (e : E) → PutsAll {E = E} before (Ok tt) front now → PutsAll now (Err e) piece after → all ≡ front ++ (piece ++ rest) → PutsAll before (Err e) all after
part_behind {E} None now after front piece rest all e so put is = tt
part_behind {E} (Some held) now after front piece rest all e so put is =
    let P : Option (List ℕ) → Type 0 = λ o. PutsAll {E = E} o (Err e) piece after in
    let broke = subst P so put in
    let n : ℕ = broke.0 in
    let fits : n ≤ length piece = broke.1 in
    let cut : take (length front + n) all ≡ front ++ take n piece =
    ap (take (length front + n)) is ∙ take-append-add front (piece ++ rest) n ∙ ap (λ (l : List ℕ). front ++ l) (take-append-le n piece rest fits) in
    let len = ap length is ∙ length-append front (piece ++ rest) in
    let more = length-append piece rest in (
      length front + n,
      omega (arith, len, more, fits),
      broke.2 ∙ ap Some (append_assoc held front (take n piece) ∙ ap (λ (l : List ℕ). held ++ l) (sym cut)),
    )
