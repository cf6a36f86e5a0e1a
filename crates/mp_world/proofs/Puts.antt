-- Clients that are looked for and written one after the other.
use Rattle.std.proofs.Common.{◌≡◌, ℕ, zero, suc, ◌+◌, ◌<◌, ◌≤◌, ℤ, Bool, true, false, List, [], ◌∷◌, ◌++◌, length, take, drop, refl, sym, ap, ap₂, ◌∙◌, arith, Option, Some, None}
use Rattle.std.specs.Prelude.{slice_get, slice_index_or, option_map, if◌then◌else◌}
use Rattle.std.specs.List.{slice_set}
use Rattle.std.specs.Ordering.{int_eq}
use Rattle.scene_model.specs.declared.outcome.Out.{Out}
use Rattle.world_steps.specs.Steps.{Client, place_of, with_down, with_packets}
use Rattle.world_steps.proofs.Links.{some_same}

-- what stands at a place that there is
pub got_at : {X : Type 0} (xs : List X) (i : ℕ) (x : X) → i < length xs → x ≡ slice_index_or xs i x → slice_get xs i ≡ Some x
got_at [] i x below e = absurd (omega (arith, below))
got_at (y ∷ xs) zero x below e = ap Some (sym e)
got_at (y ∷ xs) (suc i) x below e = got_at xs i x (omega (arith, below)) e

-- a client that is looked for

-- none so far, and not this one
pub place_later : (p : ℤ) (cs : List Client) (i : ℕ) (c : Client) → slice_get cs i ≡ Some c → place_of p (take i cs) ≡ None → int_eq c.number p ≡ false → place_of p (take (i + 1) cs) ≡ None
place_later p [] i c at none other = absurd (cc at)
place_later p (d ∷ cs) zero c at none other = ap (λ (x : Client). if int_eq x.number p then Some 0 else None) (some_same d c at) ∙ ap (λ t. if t then Some 0 else None) other
place_later p (d ∷ cs) (suc i) c at none other =
    let n : suc i + 1 ≡ suc (i + 1) = omega arith in
    ap (λ k. place_of p (take k (d ∷ cs))) n ∙ step (int_eq d.number p) (λ rest. place_later p cs i c at rest other) none
  where
    mapped : (o : Option ℕ) → option_map suc o ≡ None → o ≡ None
    mapped None h = refl
    mapped (Some j) h = absurd (cc h)

    step : (t : Bool) → (place_of p (take i cs) ≡ None → place_of p (take (i + 1) cs) ≡ None) → (if t then Some 0 else option_map suc (place_of p (take i cs))) ≡ None
        → (if t then Some 0 else option_map suc (place_of p (take (i + 1) cs))) ≡ None
    step true more h = absurd (cc h)
    step false more h = ap (option_map suc) (more (mapped (place_of p (take i cs)) h))

-- none before, and this one
pub place_here : (p : ℤ) (cs : List Client) (i : ℕ) (c : Client) → slice_get cs i ≡ Some c → place_of p (take i cs) ≡ None → int_eq c.number p ≡ true → place_of p cs ≡ Some i
place_here p [] i c at none same = absurd (cc at)
place_here p (d ∷ cs) zero c at none same = ap (λ (x : Client). if int_eq x.number p then Some 0 else option_map suc (place_of p cs)) (some_same d c at) ∙ ap (λ t. if t then Some 0 else option_map suc (place_of p cs)) same
place_here p (d ∷ cs) (suc i) c at none same = step (int_eq d.number p) (λ rest. place_here p cs i c at rest same) none
  where
    mapped : (o : Option ℕ) → option_map suc o ≡ None → o ≡ None
    mapped None h = refl
    mapped (Some j) h = absurd (cc h)

    step : (t : Bool) → (place_of p (take i cs) ≡ None → place_of p cs ≡ Some i) → (if t then Some 0 else option_map suc (place_of p (take i cs))) ≡ None → (if t then Some 0 else option_map suc (place_of p cs)) ≡ Some (suc i)
    step true more h = absurd (cc h)
    step false more h = ap (option_map suc) (more (mapped (place_of p (take i cs)) h))

-- a client that is looked at, by its fields

pub found_here : (p : ℤ) (cs : List Client) (i : ℕ) (c d : Client) → i < length cs → c ≡ slice_index_or cs i c → place_of p (take i cs) ≡ None → d ≡ c → int_eq d.number p ≡ true → (place_of p cs ≡ Some i) × (i < length cs)
found_here p cs i c d below at none is same = (place_here p cs i c (got_at cs i c below at) none (ap (λ (x : Client). int_eq x.number p) (sym is) ∙ same), below)

pub found_later : (p : ℤ) (cs : List Client) (i : ℕ) (c d : Client) → i < length cs → c ≡ slice_index_or cs i c → place_of p (take i cs) ≡ None → d ≡ c → int_eq d.number p ≡ false → place_of p (take (i + 1) cs) ≡ None
found_later p cs i c d below at none is other = place_later p cs i c (got_at cs i c below at) none (ap (λ (x : Client). int_eq x.number p) (sym is) ∙ other)

-- clients that are written

-- the clients before a place with their packets, the others as they were
abbrev pub put_front : List Out → ℕ → List Client → List Client
put_front packets i cs = with_packets packets (take i cs) ++ drop i cs

pub put_first : (packets : List Out) (cs : List Client) → cs ≡ put_front packets 0 cs
put_first packets cs = refl

pub put_length : (packets : List Out) (i : ℕ) (cs : List Client) → length (put_front packets i cs) ≡ length cs
put_length packets zero cs = refl
put_length packets (suc i) [] = refl
put_length packets (suc i) (c ∷ cs) = ap suc (put_length packets i cs)

-- the client at the place is as it was
pub put_at : (packets : List Out) (i : ℕ) (cs : List Client) → slice_get (put_front packets i cs) i ≡ slice_get cs i
put_at packets zero cs = refl
put_at packets (suc i) [] = refl
put_at packets (suc i) (c ∷ cs) = put_at packets i cs

pub put_next : (packets : List Out) (i : ℕ) (cs : List Client) (c : Client) → slice_get cs i ≡ Some c → slice_set (put_front packets i cs) i (with_down packets c) ≡ put_front packets (i + 1) cs
put_next packets i [] c at = absurd (cc at)
put_next packets zero (d ∷ cs) c at = ap (λ x. with_down packets x ∷ cs) (sym (some_same d c at))
put_next packets (suc i) (d ∷ cs) c at =
    let n : suc i + 1 ≡ suc (i + 1) = omega arith in
    ap (λ ds. with_down packets d ∷ ds) (put_next packets i cs c at) ∙ sym (ap (λ k. put_front packets k (d ∷ cs)) n)

pub put_all : (packets : List Out) (n : ℕ) (cs : List Client) → length cs ≤ n → put_front packets n cs ≡ with_packets packets cs
put_all packets zero [] h = refl
put_all packets (suc n) [] h = refl
put_all packets zero (c ∷ cs) h = absurd (omega (arith, h))
put_all packets (suc n) (c ∷ cs) h = ap (λ ds. with_down packets c ∷ ds) (put_all packets n cs (omega (arith, h)))

-- the client at a place with its packets, after those before it
pub put_step : (packets : List Out) (cs ds : List Client) (i : ℕ) (c d : Client) → i < length cs → ds ≡ put_front packets i cs → c ≡ slice_index_or ds i c → d ≡ with_down packets c → slice_set ds i d ≡ put_front packets (i + 1) cs
put_step packets cs ds i c d below is at now =
    let long : length ds ≡ length cs = ap (λ (xs : List Client). length xs) is ∙ put_length packets i cs in
    let there : slice_get cs i ≡ Some c = sym (put_at packets i cs) ∙ sym (ap (λ xs. slice_get xs i) is) ∙ got_at ds i c (omega (arith, below, long)) at in
    ap₂ (λ xs x. slice_set xs i x) is now ∙ put_next packets i cs c there
