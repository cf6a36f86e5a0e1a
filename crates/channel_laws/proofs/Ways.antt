-- One way of a link, as parcels are put there and delivered.
use Rattle.std.proofs.Common.{◌≡◌, ℕ, zero, suc, ◌+◌, ◌≤◌, ℤ, Bool, true, false, cond, not, ◌&&◌, List, [], ◌∷◌, ◌++◌, length, filter, refl, sym, ap, ◌∙◌, drop, arith, Some, append_assoc, length-append, append-nil}
use Rattle.std.specs.Prelude.{slice_get, if◌then◌else◌}
use Rattle.std.specs.List.{list_all}
use Rattle.std.specs.Ordering.{int_eq}
use Rattle.std.proofs.lemmas.Bool.{and_parts, and_from}
use Rattle.std.proofs.lemmas.List.{drop-append-le}
use Rattle.peer_laws.proofs.Each.{all_joined}
use Rattle.world_model.specs.World.{Parcel, Way, Came, is_reliable, is_ordered, next_of, loose_at}
use Rattle.world_model.specs.Happens.{on_link, way_with, after_next, after_loose}
use Rattle.channel_laws.specs.Channels.{came_over, delivered_over, waiting_on}

-- what is next in a list

pub next_splits : {X : Type 0} (xs : List X) (d : ℕ) (x : X) → slice_get xs d ≡ Some x → drop d xs ≡ x ∷ drop (d + 1) xs
next_splits [] zero x h = absurd (cc h)
next_splits [] (suc d) x h = absurd (cc h)
next_splits (z ∷ zs) zero x h = let same : z ≡ x = cc in ap (λ y. y ∷ zs) same
next_splits (z ∷ zs) (suc d) x h = let n : suc (d + 1) ≡ suc d + 1 = omega arith in next_splits zs d x h ∙ ap (λ k. x ∷ drop k (z ∷ zs)) n

pub next_within : {X : Type 0} (xs : List X) (d : ℕ) (x : X) → slice_get xs d ≡ Some x → d + 1 ≤ length xs
next_within [] zero x h = absurd (cc h)
next_within [] (suc d) x h = absurd (cc h)
next_within (z ∷ zs) zero x h = omega arith
next_within (z ∷ zs) (suc d) x h = let more = next_within zs d x h in omega (arith, more)

pub next_passes : {X : Type 0} (p : X → Bool) (xs : List X) (d : ℕ) (x : X) → list_all p xs ≡ true → slice_get xs d ≡ Some x → p x ≡ true
next_passes p [] zero x k h = absurd (cc h)
next_passes p [] (suc d) x k h = absurd (cc h)
next_passes p (z ∷ zs) zero x k h = let same : z ≡ x = cc in ap p (sym same) ∙ (and_parts (p z) (list_all p zs) k).0
next_passes p (z ∷ zs) (suc d) x k h = next_passes p zs d x (and_parts (p z) (list_all p zs) k).1 h

-- the classes of what is put on a link

abbrev pub reliable_parcel : Parcel → Bool
reliable_parcel p = is_reliable p.out.class

abbrev pub loose_parcel : Parcel → Bool
loose_parcel p = not (is_reliable p.out.class)

both_pass : {X : Type 0} (p q : X → Bool) (xs : List X) → list_all q (filter (λ x. p x && q x) xs) ≡ true
both_pass p q [] = refl
both_pass p q (x ∷ xs) = step (p x) (q x) refl (both_pass p q xs)
  where
    step : (t u : Bool) → q x ≡ u → list_all q (filter (λ y. p y && q y) xs) ≡ true → list_all q (cond (t && u) (x ∷ filter (λ y. p y && q y) xs) (filter (λ y. p y && q y) xs)) ≡ true
    step true true k more = and_from (q x) (list_all q (filter (λ y. p y && q y) xs)) k more
    step true false k more = more
    step false u k more = more

link_reliable : (b : ℤ) (ps : List Parcel) → list_all reliable_parcel (on_link b true ps) ≡ true
link_reliable b ps = both_pass (λ (p : Parcel). int_eq p.out.link b) reliable_parcel ps

link_loose : (b : ℤ) (ps : List Parcel) → list_all loose_parcel (on_link b false ps) ≡ true
link_loose b ps = both_pass (λ (p : Parcel). int_eq p.out.link b) loose_parcel ps

-- What a history got over a link from a peer, and then what waits on the way, is all that was sent there.
pub record Got (a : ℤ) (cs : List Came) (y : Way) : Type 0 where
  pub joined : delivered_over a cs ++ waiting_on y ≡ y.sent
  pub within : y.delivered ≤ length y.sent
  pub reliable : list_all reliable_parcel y.sent ≡ true
  pub loose : list_all loose_parcel y.loose ≡ true

pub got_start : (a : ℤ) → Got a [] (record { sent = []; delivered = 0; loose = []; last = 0 })
got_start a = record { joined = refl; within = omega arith; reliable = refl; loose = refl }

-- more is put on the way
pub got_more : (a b : ℤ) (cs : List Came) (y : Way) (ps : List Parcel) → Got a cs y → Got a cs (way_with y b ps)
got_more a b cs y ps g =
    let new = on_link b true ps in
    record {
      joined = ap (λ zs. delivered_over a cs ++ zs) (drop-append-le y.delivered y.sent new g.within) ∙ sym (append_assoc (delivered_over a cs) (waiting_on y) new) ∙ ap (λ zs. zs ++ new) g.joined;
      within = let long = length-append y.sent new in let w = g.within in omega (arith, long, w);
      reliable = all_joined reliable_parcel y.sent new g.reliable (link_reliable b ps);
      loose = all_joined loose_parcel y.loose (on_link b false ps) g.loose (link_loose b ps);
    }

-- an entry that brought nothing reliable over this link
pub got_other : (a : ℤ) (c : Came) (cs : List Came) (y : Way) → came_over a c ≡ [] → Got a cs y → Got a (c ∷ cs) y
got_other a c cs y none g = record { joined = ap (λ zs. (delivered_over a cs ++ zs) ++ waiting_on y) none ∙ ap (λ zs. zs ++ waiting_on y) (append-nil (delivered_over a cs)) ∙ g.joined; within = g.within; reliable = g.reliable; loose = g.loose }

-- an entry that brought the next reliable parcel
pub got_next : (a : ℤ) (c : Came) (cs : List Came) (y : Way) (p : Parcel) → next_of y ≡ Some p → (reliable_parcel p ≡ true → came_over a c ≡ p ∷ []) → Got a cs y → Got a (c ∷ cs) (after_next y)
got_next a c cs y p next brought g =
    let rest = drop (y.delivered + 1) y.sent in
    let one = brought (next_passes reliable_parcel y.sent y.delivered p g.reliable next) in
    record {
      joined = ap (λ zs. (delivered_over a cs ++ zs) ++ rest) one ∙ append_assoc (delivered_over a cs) (p ∷ []) rest ∙ ap (λ zs. delivered_over a cs ++ zs) (sym (next_splits y.sent y.delivered p next)) ∙ g.joined;
      within = next_within y.sent y.delivered p next;
      reliable = g.reliable;
      loose = g.loose;
    }

-- a loose parcel that is delivered moves nothing reliable
pub got_after_loose : (a : ℤ) (cs : List Came) (y : Way) (i : ℕ) (p : Parcel) → Got a cs y → Got a cs (after_loose i p y)
got_after_loose a cs y i p g = step (is_ordered p.out.class)
  where
    step : (t : Bool) → Got a cs (if t then record y { last = i } else y)
    step true = record { joined = g.joined; within = g.within; reliable = g.reliable; loose = g.loose }
    step false = g

-- a loose parcel isn't reliable
pub loose_is : (y : Way) (i : ℕ) (p : Parcel) → list_all loose_parcel y.loose ≡ true → loose_at y i ≡ Some p → loose_parcel p ≡ true
loose_is y zero p k h = absurd (cc h)
loose_is y (suc i) p k h = next_passes loose_parcel y.loose i p k h
