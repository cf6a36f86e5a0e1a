-- Sorted places answer where a text stands.
use Rattle.std.proofs.Common.{◌≡◌, ◌≢◌, ℕ, zero, suc, ◌+◌, ◌<◌, ◌≤◌, ◌⊎◌, inl, inr, false, List, [], ◌∷◌, ◌++◌, refl, sym, ap, ap₂, subst, ◌∙◌, length, get_or, take, drop, map, min, append-nil, Option, Some, None, All, Contains, IsPermutation, arith}
use Rattle.std.specs.Prelude.{slice_get, option_map}
use Rattle.std.specs.declared.cmp.Ordering.{Ordering}
use Rattle.std.specs.declared.cmp.Ordering.TheVariants.{Less, Equal, Greater}
use Rattle.std.specs.Ordering.{nat_cmp, ordering_then, ordering_index, ordering_reverse, is_lt}
use Rattle.std.specs.Cmp.{IsTotalOrder, nat_cmp_is}
use Rattle.std.specs.Cmp.Lexicographic.{slice_cmp}
use Rattle.std.specs.List.{refill}
use denote.Ref.{Bor}
use Rattle.std.specs.List.Sorted.{IsSorted, IsNonDecreasingBy, IsPartitionPoint}
use Rattle.std.proofs.lemmas.Cmp.{then_total, on_total, nat_cmp_total, nat_list_cmp_total, tied_itself, ranked}
use Rattle.std.proofs.lemmas.Map.Lookups.{exact_bytes, exact_unsigned}
use Rattle.std.proofs.lemmas.List.MinMax.{ranks_by}
use Rattle.std.proofs.lemmas.List.Sorted.{sorted_far, searchable_from_sorted, IsPermutation-map, All-permutation, Contains-permutation}
use Rattle.std.proofs.lemmas.List.Elements.{All-push, Contains-append_left, Contains-push}
use Rattle.std.proofs.lemmas.List.{map-append, length-append, length-take, take_all, drop_all}
use Rattle.std.proofs.lemmas.Bool.{cases_lt}
use Rattle.std.proofs.lemmas.Option.{slice_get-get_or, slice_get-map, slice_get_within, get_or_from_slice_get}
use Rattle.scene_check.specs.Places.{Place, place_of, place_cmp, plain_place, AreGathered, ArePlaces, IsFirstFrom, IsNext}

-- the order of places

pub place_total : IsTotalOrder place_cmp
place_total = then_total (on_total (λ (p : Place). p.0.now) nat_list_cmp_total) (on_total (λ (p : Place). p.1) nat_cmp_total)

pub searchable : (ps : List Place) (x : Place) → IsSorted place_cmp ps → IsNonDecreasingBy (λ y. ordering_index (place_cmp y x)) ps
searchable ps x h = searchable_from_sorted place_total (λ (p : Place). p) ps x h

far : (ps : List Place) → IsSorted place_cmp ps → (i j : ℕ) (d : Place) → i ≤ j → j < length ps → is_lt (place_cmp (get_or ps j d) (get_or ps i d)) ≡ false
far ps h = sorted_far (λ (x y : Place). is_lt (place_cmp x y)) (ranks_by place_total (λ (p : Place). p)) ps h

-- places of one text are in the order of their numbers
alike : (p q : Place) → p.0.now ≡ q.0.now → place_cmp p q ≡ nat_cmp p.1 q.1
alike p q e = ap (λ o. ordering_then o (nat_cmp p.1 q.1)) (ap (λ t. slice_cmp nat_cmp t q.0.now) e ∙ tied_itself nat_list_cmp_total q.0.now)

then_equal : (o n : Ordering) → ordering_then o n ≡ Equal → (o ≡ Equal) × (n ≡ Equal)
then_equal Less n h = absurd (cc h)
then_equal Equal n h = (refl, h)
then_equal Greater n h = absurd (cc h)

then_greater : (o n : Ordering) → ordering_then o n ≡ Greater → (o ≡ Greater) ⊎ (o ≡ Equal)
then_greater Less n h = absurd (cc h)
then_greater Equal n h = inr refl
then_greater Greater n h = inl refl

pub equal_parts : (p q : Place) → place_cmp p q ≡ Equal → (p.0.now ≡ q.0.now) × (p.1 ≡ q.1)
equal_parts p q h =
    let e = then_equal (slice_cmp nat_cmp p.0.now q.0.now) (nat_cmp p.1 q.1) h in
    (exact_bytes p.0.now q.0.now e.0, exact_unsigned p.1 q.1 e.1)

less_number : (m n : ℕ) → nat_cmp m n ≡ Less → m < n
less_number m n h = ranked m n Less (sym h)

greater_number : (m n : ℕ) → nat_cmp m n ≡ Greater → n < m
greater_number m n h = ranked m n Greater (sym h)

number_less : (m n : ℕ) → m < n → nat_cmp m n ≡ Less
number_less m n h = sym (nat_cmp_is m n Less h)

-- of a greater place with another text, each place of the sought text is less
other_less : (p f x : Place) → p.0.now ≡ x.0.now → f.0.now ≢ x.0.now → place_cmp f x ≡ Greater → place_cmp p f ≡ Less
other_less p f x e n g =
    ap (λ t. ordering_then (slice_cmp nat_cmp t f.0.now) (nat_cmp p.1 f.1)) e
    ∙ ap (λ o. ordering_then o (nat_cmp p.1 f.1)) (nat_list_cmp_total.antisymm x.0.now f.0.now ∙ ap ordering_reverse greater)
  where
    greater : slice_cmp nat_cmp f.0.now x.0.now ≡ Greater
    greater = elim (then_greater (slice_cmp nat_cmp f.0.now x.0.now) (nat_cmp f.1 x.1) g) [ inl h ↦ h | inr h ↦ absurd (n (exact_bytes f.0.now x.0.now h)) ]

-- what stands among the places

some_same : {X : Type 0} (x y : X) → Some x ≡ Some y → x ≡ y
some_same x y h = cc

-- an element that a list of plain places contains stands among the places
pub record IsAmong (ps : List Place) (text : List ℕ) (at : ℕ) : Type 0 where
  pub index : ℕ
  pub place : Place
  pub there : slice_get ps index ≡ Some place
  pub text_is : place.0.now ≡ text
  pub at_is : place.1 ≡ at

mapped : (ps : List Place) (q : ℕ) (e : List ℕ × ℕ) → option_map plain_place (slice_get ps q) ≡ Some e → (p : Place) × (slice_get ps q ≡ Some p) × (plain_place p ≡ e)
mapped ps q e h = elim (slice_get ps q) as (λ o. option_map plain_place o ≡ Some e → (p : Place) × (o ≡ Some p) × (plain_place p ≡ e)) [ None ↦ λ k. absurd (cc k) | Some p ↦ λ k. (p, refl, some_same (plain_place p) e k) ] h

pub among : (ps : List Place) (text : List ℕ) (at : ℕ) → Contains (map plain_place ps) (text, at) → IsAmong ps text at
among ps text at (q, w, is) =
    let m = mapped ps q (text, at) (sym (slice_get-map plain_place ps q) ∙ slice_get-get_or (map plain_place ps) q (text, at) w ∙ ap Some is) in
    record { index = q; place = m.0; there = m.1; text_is = ap (λ (e : List ℕ × ℕ). e.0) m.2; at_is = ap (λ (e : List ℕ × ℕ). e.1) m.2 }

here_at : (ps : List Place) (texts : List (Option (List ℕ))) → All (λ (p : Place). slice_get texts p.1 ≡ Some (Some p.0.now)) ps → (i : ℕ) (p : Place) → slice_get ps i ≡ Some p → slice_get texts p.1 ≡ Some (Some p.0.now)
here_at ps texts h i p e =
    subst (λ (q : Place). slice_get texts q.1 ≡ Some (Some q.0.now)) (get_or_from_slice_get ps i p p e) (h i p (slice_get_within ps i p e))

-- the three answers of a search

pub found_equal : (ps : List Place) (texts : List (Option (List ℕ))) (x : Place) (i : ℕ) → ArePlaces ps texts → i < length ps → place_cmp (get_or ps i x) x ≡ Equal → IsFirstFrom x.0.now x.1 texts x.1
found_equal ps texts x i h w e =
    let parts = equal_parts (get_or ps i x) x e in
    record {
      from_on = omega arith;
      here = ap (slice_get texts) (sym parts.1) ∙ h.here i x w ∙ ap (λ t. Some (Some t)) parts.0;
      not_before = λ k low high. absurd (omega (arith, low, high));
    }

-- where the search ended: what stands before is less, and what stands from there on is greater
abbrev pub Ends : List Place → Place → ℕ → Type 0
Ends ps x i = IsPartitionPoint (λ (y : Place). place_cmp y x ≡ Less) (λ (y : Place). place_cmp y x ≡ Greater) ps i

-- a place of the sought text from the number on stands where the search ended, or later
stands_after : (ps : List Place) (x : Place) (i : ℕ) → Ends ps x i → (k : ℕ) → x.1 ≤ k → (a : IsAmong ps x.0.now k) → i ≤ a.index
stands_after ps x i ends k low a =
    elim (cases_lt a.index i) [ inl before ↦ absurd (not_less before) | inr after ↦ after ]
  where
    not_less : a.index < i → ⊥
    not_less before =
        let less = ends.0 a.index a.place (omega arith) before in
        let is = get_or_from_slice_get ps a.index a.place a.place a.there in
        let number = less_number a.place.1 x.1 (sym (alike a.place x a.text_is) ∙ ap (λ (p : Place). place_cmp p x) (sym is) ∙ less) in
        omega (arith, number, a.at_is, low)

pub found_next : (ps : List Place) (texts : List (Option (List ℕ))) (x f : Place) (i : ℕ) → ArePlaces ps texts → slice_get ps i ≡ Some f → f.0.now ≡ x.0.now → Ends ps x i → IsFirstFrom x.0.now x.1 texts f.1
found_next ps texts x f i h e same ends =
    let w = slice_get_within ps i f e in
    let is = get_or_from_slice_get ps i f f e in
    let greater = ap (λ (p : Place). place_cmp p x) (sym is) ∙ ends.1 i f (omega arith) w in
    let number = greater_number f.1 x.1 (sym (alike f x same) ∙ greater) in
    record {
      from_on = omega (arith, number);
      here = here_at ps texts h.here i f e ∙ ap (λ t. Some (Some t)) same;
      not_before = λ k low high there. earlier k low high (among ps x.0.now k (h.all x.0.now k there));
    }
  where
    earlier : (k : ℕ) → x.1 ≤ k → k < f.1 → IsAmong ps x.0.now k → ⊥
    earlier k low high a =
        let after = stands_after ps x i ends k low a in
        let up = far ps h.sorted i a.index f after (slice_get_within ps a.index a.place a.there) in
        let less = alike a.place f (a.text_is ∙ sym same) ∙ number_less a.place.1 f.1 (omega (arith, a.at_is, high)) in
        let down = ap₂ (λ (p q : Place). is_lt (place_cmp p q)) (get_or_from_slice_get ps a.index a.place f a.there) (get_or_from_slice_get ps i f f e) ∙ ap is_lt less in
        cc

pub found_other : (ps : List Place) (texts : List (Option (List ℕ))) (x f : Place) (i : ℕ) → ArePlaces ps texts → slice_get ps i ≡ Some f → f.0.now ≢ x.0.now → Ends ps x i → IsNext x.0.now x.1 texts None
found_other ps texts x f i h e other ends = λ k low there. none k low (among ps x.0.now k (h.all x.0.now k there))
  where
    none : (k : ℕ) → x.1 ≤ k → IsAmong ps x.0.now k → ⊥
    none k low a =
        let w = slice_get_within ps i f e in
        let after = stands_after ps x i ends k low a in
        let up = far ps h.sorted i a.index f after (slice_get_within ps a.index a.place a.there) in
        let greater = ap (λ (p : Place). place_cmp p x) (sym (get_or_from_slice_get ps i f f e)) ∙ ends.1 i f (omega arith) w in
        let less = other_less a.place f x a.text_is other greater in
        let down = ap₂ (λ (p q : Place). is_lt (place_cmp p q)) (get_or_from_slice_get ps a.index a.place f a.there) (get_or_from_slice_get ps i f f e) ∙ ap is_lt less in
        cc

pub past_end : {X : Type 0} (xs : List X) (i : ℕ) → slice_get xs i ≡ None → length xs ≤ i
past_end [] i h = omega arith
past_end (x ∷ xs) zero h = absurd (cc h)
past_end (x ∷ xs) (suc i) h = let w = past_end xs i h in omega (arith, w)

pub found_none : (ps : List Place) (texts : List (Option (List ℕ))) (x : Place) (i : ℕ) → ArePlaces ps texts → length ps ≤ i → Ends ps x i → IsNext x.0.now x.1 texts None
found_none ps texts x i h past ends = λ k low there. none k low (among ps x.0.now k (h.all x.0.now k there))
  where
    none : (k : ℕ) → x.1 ≤ k → IsAmong ps x.0.now k → ⊥
    none k low a = let after = stands_after ps x i ends k low a in let w = slice_get_within ps a.index a.place a.there in omega (arith, after, w, past)

-- gathering

pub gathered_none : (texts : List (Option (List ℕ))) → AreGathered [] texts 0
gathered_none texts = record { few = omega arith; here = λ k d w. absurd (omega arith); all = λ t at low there. absurd (omega arith) }

wider : (ps : List Place) (texts : List (Option (List ℕ))) (n : ℕ) → All (λ (p : Place). (p.1 < n) × (slice_get texts p.1 ≡ Some (Some p.0.now))) ps → All (λ (p : Place). (p.1 < n + 1) × (slice_get texts p.1 ≡ Some (Some p.0.now))) ps
wider ps texts n h k d w = let here = h k d w in (omega (arith, here.0), here.1)

-- the text at the end of the front, or none there
pub gathered_more : (ps : List Place) (texts : List (Option (List ℕ))) (n : ℕ) (o : Option (Bor (List ℕ))) → AreGathered ps texts n → slice_get texts n ≡ Some (option_map (λ (t : Bor (List ℕ)). t.now) o) → AreGathered (ps ++ place_of o n) texts (n + 1)
gathered_more ps texts n None h e = rw append-nil (record {
  few = omega (arith, h.few);
  here = wider ps texts n h.here;
  all = λ t at low there. elim (cases_lt at n) [ inl before ↦ h.all t at before there | inr after ↦ absurd (no_text t at (omega (arith, low, after)) there) ];
})
  where
    no_text : (t : List ℕ) (at : ℕ) → at ≡ n → slice_get texts at ≡ Some (Some t) → ⊥
    no_text t at same there = let e2 = ap (slice_get texts) same in cc
gathered_more ps texts n (Some r) h e = record {
  few = omega (arith, h.few, length-append ps ((r, n) ∷ []));
  here = All-push (λ (p : Place). (p.1 < n + 1) × (slice_get texts p.1 ≡ Some (Some p.0.now))) ps (r, n) (wider ps texts n h.here) (omega arith, e);
  all = λ t at low there. elim (cases_lt at n) [ inl before ↦ old t at (h.all t at before there) | inr after ↦ new t at (omega (arith, low, after)) there ];
}
  where
    old : (t : List ℕ) (at : ℕ) → Contains (map plain_place ps) (t, at) → Contains (map plain_place (ps ++ (r, n) ∷ [])) (t, at)
    old t at c = rw map-append (Contains-append_left (map plain_place ps) (map plain_place ((r, n) ∷ [])) (t, at) c)

    new : (t : List ℕ) (at : ℕ) → at ≡ n → slice_get texts at ≡ Some (Some t) → Contains (map plain_place (ps ++ (r, n) ∷ [])) (t, at)
    new t at same there =
        let e2 = ap (slice_get texts) same in
        let is : (r.now, n) ≡ (t, at) = cc in
        rw map-append (subst (λ (x : List ℕ × ℕ). Contains (map plain_place ps ++ (r.now, n) ∷ []) x) is (Contains-push (map plain_place ps) (r.now, n)))

-- a list's front

take_empty : {X : Type 0} (n : ℕ) → take {A = X} n [] ≡ []
take_empty zero = refl
take_empty (suc n) = refl

pub front_get : {X : Type 0} (xs : List X) (m k : ℕ) → k < m → slice_get (take m xs) k ≡ slice_get xs k
front_get {X} [] m k w = ap (λ (l : List X). slice_get l k) (take_empty {X = X} m)
front_get (x ∷ xs) zero k w = absurd (omega arith)
front_get (x ∷ xs) (suc m) zero w = refl
front_get (x ∷ xs) (suc m) (suc k) w = front_get xs m k (omega arith)

pub front_within : {X : Type 0} (xs : List X) (m k : ℕ) (x : X) → slice_get (take m xs) k ≡ Some x → k < min (length xs) m
front_within xs m k x e = let w = slice_get_within (take m xs) k x e in omega (arith, w, length-take m xs)

pub sorted_places : (ps qs : List Place) (texts : List (Option (List ℕ))) (m : ℕ) → AreGathered ps texts (min (length texts) m) → IsPermutation ps qs → IsSorted place_cmp qs → ArePlaces qs (take m texts)
sorted_places ps qs texts m h moved up = record {
  sorted = up;
  here = λ k d w. let there = All-permutation (λ (p : Place). (p.1 < min (length texts) m) × (slice_get texts p.1 ≡ Some (Some p.0.now))) ps qs moved h.here k d w in front_get texts m (get_or qs k d).1 (omega (arith, there.0)) ∙ there.1;
  all = λ t at there.
      let low = front_within texts m at (Some t) there in
      Contains-permutation (map plain_place ps) (map plain_place qs) (t, at) (IsPermutation-map plain_place ps qs moved) (h.all t at low (sym (front_get texts m at (omega (arith, low))) ∙ there));
}

-- a written part that is as long as the whole is the whole
pub refill_whole : {X : Type 0} (n : ℕ) (xs ws : List X) → n ≡ length xs → length ws ≡ length xs → refill n xs ws ≡ ws
refill_whole n xs ws e f =
    let none : drop (length ws) xs ≡ [] = drop_all (length ws) xs (omega (arith, f)) in
    ap (λ rest. take n (ws ++ rest)) none ∙ ap (take n) (append-nil ws) ∙ take_all n ws (omega (arith, e, f))
