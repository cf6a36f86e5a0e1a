-- The peer that knows the others isn't among those that are up.
use Rattle.std.proofs.Common.{◌≡◌, ℤ, pos, Bool, true, false, cond, ◌||◌, List, [], ◌∷◌, refl, ◌∙◌, filter}
use Rattle.std.specs.Prelude.{int_lt}
use Rattle.std.specs.Ordering.{int_eq}
use Rattle.std.proofs.lemmas.Bool.{or_parts, or_from}
use Rattle.gd_variant.specs.Words.{has_int, put_by}
use Rattle.scene_model.proofs.ListLaws.{any-put_by}
use Rattle.peer_laws.proofs.Numbers.{int_comm}
use Rattle.peer_steps.specs.Peers.{Peers, is_bad_peer}

-- after another one came up
pub put_apart : (p : Peers) (b : ℤ) → is_bad_peer p b ≡ false → has_int p.me p.up ≡ false → has_int p.me (put_by int_lt b p.up) ≡ false
put_apart p b good apart =
    let front = or_parts (int_lt b (pos 1) || int_eq b p.me) (has_int b p.come) good in
    let own = or_parts (int_lt b (pos 1)) (int_eq b p.me) front.0 in
    any-put_by (int_eq p.me) int_lt b p.up ∙ or_from (int_eq p.me b) (has_int p.me p.up) (int_comm p.me b ∙ own.1) apart

-- after one went down
pub left_apart : (me : ℤ) (test : ℤ → Bool) (us : List ℤ) → has_int me us ≡ false → has_int me (filter test us) ≡ false
left_apart me test [] h = refl
left_apart me test (u ∷ us) h = step (test u) (left_apart me test us parts.1)
  where
    parts : (int_eq me u ≡ false) × (has_int me us ≡ false)
    parts = or_parts (int_eq me u) (has_int me us) h

    step : (b : Bool) → has_int me (filter test us) ≡ false → has_int me (cond b (u ∷ filter test us) (filter test us)) ≡ false
    step true more = or_from (int_eq me u) (has_int me (filter test us)) parts.0 more
    step false more = more
