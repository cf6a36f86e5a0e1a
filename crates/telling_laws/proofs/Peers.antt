-- What is made for several peers, seen by one of them.
use Rattle.std.proofs.Common.{◌≡◌, ℕ, ℤ, Bool, true, false, ◌||◌, List, [], ◌∷◌, refl, sym, ap, ◌∙◌, Some}
use Rattle.std.specs.Ordering.{int_eq}
use Rattle.gd_variant.specs.Words.{has_int}
use Rattle.gd_variant.specs.declared.value.Variant.{Variant}
use Rattle.peer_laws.proofs.Numbers.{int_is}
use Rattle.delta_props.specs.Telling.{ToldValues, told_of}
use Rattle.telling_laws.specs.Telling.{over_peers, HasOnce}

-- what is made for one peer leaves what others were told, and one entry for each key
pub record IsForOne (op : ℤ → ToldValues → ToldValues) : Type 0 where
  pub once : (b : ℤ) (t : ToldValues) → HasOnce t → HasOnce (op b t)
  pub other : (b c : ℤ) (id : ℕ) (t : ToldValues) → HasOnce t → int_eq b c ≡ false → told_of b id (op c t) ≡ told_of b id t

pub over_once : (op : ℤ → ToldValues → ToldValues) → IsForOne op → (bs : List ℤ) (t : ToldValues) → HasOnce t → HasOnce (over_peers op bs t)
over_once op for_one [] t h = h
over_once op for_one (b ∷ bs) t h = over_once op for_one bs (op b t) (for_one.once b t h)

-- what is left as it was for the peer itself stays
pub over_kept : (op : ℤ → ToldValues → ToldValues) → IsForOne op → (b : ℤ) (id : ℕ) → ((t : ToldValues) → HasOnce t → told_of b id (op b t) ≡ told_of b id t)
    → (bs : List ℤ) (t : ToldValues) → HasOnce t → told_of b id (over_peers op bs t) ≡ told_of b id t
over_kept op for_one b id keeps [] t h = refl
over_kept op for_one b id keeps (c ∷ bs) t h = over_kept op for_one b id keeps bs (op c t) (for_one.once c t h) ∙ step (int_eq b c) refl
  where
    step : (k : Bool) → int_eq b c ≡ k → told_of b id (op c t) ≡ told_of b id t
    step true e = ap (λ d. told_of b id (op d t)) (sym (int_is b c e)) ∙ keeps t h
    step false e = for_one.other b c id t h e

-- what is put for the peer itself, where it is among them
over_stays : (op : ℤ → ToldValues → ToldValues) → IsForOne op → (b : ℤ) (id : ℕ) (vs : List Variant) → ((t : ToldValues) → HasOnce t → told_of b id (op b t) ≡ Some vs)
    → (bs : List ℤ) (t : ToldValues) → HasOnce t → told_of b id t ≡ Some vs → told_of b id (over_peers op bs t) ≡ Some vs
over_stays op for_one b id vs puts [] t h k = k
over_stays op for_one b id vs puts (c ∷ bs) t h k = over_stays op for_one b id vs puts bs (op c t) (for_one.once c t h) (step (int_eq b c) refl)
  where
    step : (s : Bool) → int_eq b c ≡ s → told_of b id (op c t) ≡ Some vs
    step true e = ap (λ d. told_of b id (op d t)) (sym (int_is b c e)) ∙ puts t h
    step false e = for_one.other b c id t h e ∙ k

pub over_put : (op : ℤ → ToldValues → ToldValues) → IsForOne op → (b : ℤ) (id : ℕ) (vs : List Variant) → ((t : ToldValues) → HasOnce t → told_of b id (op b t) ≡ Some vs)
    → (bs : List ℤ) (t : ToldValues) → HasOnce t → has_int b bs ≡ true → told_of b id (over_peers op bs t) ≡ Some vs
over_put op for_one b id vs puts [] t h k = absurd (cc k)
over_put op for_one b id vs puts (c ∷ bs) t h k = step (int_eq b c) refl k (λ l. over_put op for_one b id vs puts bs (op c t) (for_one.once c t h) l)
  where
    step : (s : Bool) → int_eq b c ≡ s → (s || has_int b bs) ≡ true → (has_int b bs ≡ true → told_of b id (over_peers op bs (op c t)) ≡ Some vs) → told_of b id (over_peers op bs (op c t)) ≡ Some vs
    step true e l more = over_stays op for_one b id vs puts bs (op c t) (for_one.once c t h) (ap (λ d. told_of b id (op d t)) (sym (int_is b c e)) ∙ puts t h)
    step false e l more = more l
