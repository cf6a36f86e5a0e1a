-- What waits on a way, as packets.
use Rattle.std.proofs.Common.{◌≡◌, ℕ, zero, suc, ◌+◌, ◌≤◌, ℤ, true, List, [], ◌∷◌, ◌++◌, length, map, filter, refl, sym, ap, ◌∙◌, drop, arith, Option, Some, None}
use Rattle.std.specs.Prelude.{slice_get}
use Rattle.std.specs.Option.{option_to_list}
use Rattle.std.proofs.lemmas.List.{drop-append-le, map-append}
use Rattle.scene_model.specs.declared.outcome.Out.{Out}
use Rattle.world_model.specs.World.{Parcel, Way, Came, next_of}
use Rattle.world_model.specs.Happens.{parcel_of, on_link, way_with, after_next}
use Rattle.channel_laws.specs.Channels.{waiting_on}
use Rattle.peer_core.specs.Forms.{packet_form}
use Rattle.world_steps.specs.Steps.{IsTaken, waiting_with, waits_for}
use Rattle.world_steps.specs.Stands.{outs}
use Rattle.world_steps.proofs.Links.{on_link_mapped}

outs_mapped : (f : Out → Parcel) → ((x : Out) → (f x).out ≡ x) → (xs : List Out) → outs (map f xs) ≡ xs
outs_mapped f same [] = refl
outs_mapped f same (x ∷ xs) = ap (λ y. y ∷ outs (map f xs)) (same x) ∙ ap (λ ys. x ∷ ys) (outs_mapped f same xs)

-- packets that are sent wait behind those that did
pub waiting_more : (p : ℤ) (c : Came) (b : ℤ) (y : Way) (xs : List Out) → y.delivered ≤ length y.sent → waiting_with (outs (waiting_on y)) xs b ≡ outs (waiting_on (way_with y b (map (parcel_of packet_form p c) xs)))
waiting_more p c b y xs within =
    let f : Out → Parcel = parcel_of packet_form p c in
    let new = on_link b true (map f xs) in
    let mine = filter (waits_for b) xs in
    ap (λ ys. outs (waiting_on y) ++ ys) (sym (outs_mapped f (λ x. refl) mine) ∙ ap outs (sym (on_link_mapped f (λ x. refl) b xs)))
    ∙ sym (map-append (λ (q : Parcel). q.out) (waiting_on y) new)
    ∙ ap outs (sym (drop-append-le y.delivered y.sent new within))

-- The parcel that has waited longest is the next one of the way, and then the others wait.
pub record IsFirst (y : Way) (x : Out) (xs : List Out) : Type 0 where
  pub parcel : Parcel
  pub next : next_of y ≡ Some parcel
  pub is : parcel.out ≡ x
  pub rest : outs (waiting_on (after_next y)) ≡ xs

first_in : (ps : List Parcel) (d : ℕ) (x : Out) (xs : List Out) → outs (drop d ps) ≡ x ∷ xs → (q : Parcel) × (slice_get ps d ≡ Some q) × (q.out ≡ x) × (outs (drop (d + 1) ps) ≡ xs)
first_in [] zero x xs h = absurd (cc h)
first_in [] (suc d) x xs h = absurd (cc h)
first_in (p ∷ ps) zero x xs h = let here : p.out ≡ x = cc in let rest : outs ps ≡ xs = cc in (p, refl, here, rest)
first_in (p ∷ ps) (suc d) x xs h =
    let t = first_in ps d x xs h in
    let n : suc d + 1 ≡ suc (d + 1) = omega arith in
    (t.0, t.1, t.2, ap (λ k. outs (drop k (p ∷ ps))) n ∙ t.3)

none_in : (ps : List Parcel) (d : ℕ) → outs (drop d ps) ≡ [] → slice_get ps d ≡ None
none_in [] zero h = refl
none_in [] (suc d) h = refl
none_in (p ∷ ps) zero h = absurd (cc h)
none_in (p ∷ ps) (suc d) h = none_in ps d h

pub first_waits : (y : Way) (x : Out) (xs : List Out) → outs (waiting_on y) ≡ x ∷ xs → IsFirst y x xs
first_waits y x xs h = let t = first_in y.sent y.delivered x xs h in record { parcel = t.0; next = t.1; is = t.2; rest = t.3 }

-- where nothing waits, there is no next one
pub none_waits : (y : Way) → outs (waiting_on y) ≡ [] → next_of y ≡ None
none_waits y h = none_in y.sent y.delivered h

-- nothing waits where nothing was sent
pub nothing_waits : (y : Way) → y.sent ≡ [] → outs (waiting_on y) ≡ []
nothing_waits y h = ap (λ ps. outs (drop y.delivered ps)) h ∙ none_dropped y.delivered
  where
    none_dropped : (n : ℕ) → outs (drop {A = Parcel} n []) ≡ []
    none_dropped zero = refl
    none_dropped (suc n) = refl

-- the first of a queue, as it is taken

none_left : {X : Type 0} (old new : List X) → old ≡ new → new ≡ drop 1 old → old ≡ []
none_left [] new same rest = refl
none_left {X} (x ∷ xs) new same rest = absurd (let longer = ap {B = ℕ} (λ (zs : List X). length zs) (same ∙ rest) in omega (arith, longer))

pub front_taken : (old new : List Out) (r : Option Out) → old ≡ option_to_list r ++ new → new ≡ drop 1 old → IsTaken old new r
front_taken old new None split rest = let none = none_left old new split rest in (none, sym split ∙ none)
front_taken old new (Some x) split rest = split
