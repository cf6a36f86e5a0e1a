-- On-change properties one after the other, and masks of those that differ.
use Rattle.std.proofs.Common.{◌≡◌, ℕ, zero, suc, ◌+◌, ◌-◌, ◌*◌, ◌^◌, ◌<◌, ◌≤◌, Bool, true, false, cond, List, [], ◌∷◌, refl, sym, ap, ap₂, subst, ◌∙◌, length, get_or, map, filter, drop, Option, arith}
use Rattle.std.specs.Prelude.{if◌then◌else◌}
use Rattle.std.proofs.lemmas.List.{drop_more, drop_all}
use Rattle.std.proofs.lemmas.Grind.{pow_more}
use Rattle.gd_variant.specs.declared.value.Variant.{Variant}
use Rattle.scene_model.specs.declared.scene.SyncProp.{SyncProp}
use Rattle.scene_model.specs.Syncs.{is_on_change}
use Rattle.peer_model.specs.Changes.{mask_of}
use Rattle.delta_props.specs.Telling.{changes_in, bit_of, is_untold, untold}

-- a property that is told when it changes stands first, and another doesn't
pub on_first : (p : SyncProp) (ps : List SyncProp) → is_on_change p.mode ≡ true → changes_in (p ∷ ps) ≡ p.prop ∷ changes_in ps
on_first p ps h = ap (λ b. map (λ (q : SyncProp). q.prop) (cond b (p ∷ filter (λ (q : SyncProp). is_on_change q.mode) ps) (filter (λ (q : SyncProp). is_on_change q.mode) ps))) h

pub off_first : (p : SyncProp) (ps : List SyncProp) → is_on_change p.mode ≡ false → changes_in (p ∷ ps) ≡ changes_in ps
off_first p ps h = ap (λ b. map (λ (q : SyncProp). q.prop) (cond b (p ∷ filter (λ (q : SyncProp). is_on_change q.mode) ps) (filter (λ (q : SyncProp). is_on_change q.mode) ps))) h

-- the properties from a place on
pub on_there : (ps : List SyncProp) (i : ℕ) (p : SyncProp) → i < length ps → p ≡ get_or ps i p → is_on_change p.mode ≡ true → changes_in (drop i ps) ≡ p.prop ∷ changes_in (drop (i + 1) ps)
on_there ps i p low here h = ap changes_in (drop_more ps i p low ∙ ap (λ (q : SyncProp). q ∷ drop (i + 1) ps) (sym here)) ∙ on_first p (drop (i + 1) ps) h

pub off_there : (ps : List SyncProp) (i : ℕ) (p : SyncProp) → i < length ps → p ≡ get_or ps i p → is_on_change p.mode ≡ false → changes_in (drop i ps) ≡ changes_in (drop (i + 1) ps)
off_there ps i p low here h = ap changes_in (drop_more ps i p low ∙ ap (λ (q : SyncProp). q ∷ drop (i + 1) ps) (sym here)) ∙ off_first p (drop (i + 1) ps) h

-- there are no more of them than properties, and no more from a place on than in all
more_or_same : (b : Bool) (n m : ℕ) (p : List ℕ) (ps : List (List ℕ)) → m ≤ length ps → m ≤ length (cond b (p ∷ ps) ps)
more_or_same true n m p ps h = omega (arith, h)
more_or_same false n m p ps h = h

first_case : (p : SyncProp) (ps : List SyncProp) → changes_in (p ∷ ps) ≡ cond (is_on_change p.mode) (p.prop ∷ changes_in ps) (changes_in ps)
first_case p ps = step (is_on_change p.mode) refl
  where
    step : (b : Bool) → is_on_change p.mode ≡ b → changes_in (p ∷ ps) ≡ cond b (p.prop ∷ changes_in ps) (changes_in ps)
    step true h = on_first p ps h
    step false h = off_first p ps h

pub fewer_left : (ps : List SyncProp) (i : ℕ) → length (changes_in (drop i ps)) ≤ length (changes_in ps)
fewer_left ps zero = omega arith
fewer_left [] (suc i) = omega arith
fewer_left (p ∷ ps) (suc i) = subst (λ qs. length (changes_in (drop i ps)) ≤ length qs) (sym (first_case p ps)) (more_or_same (is_on_change p.mode) 0 (length (changes_in (drop i ps))) p.prop (changes_in ps) (fewer_left ps i))

-- a mask is below the number that has one bit more than the mask may have
pub mask_below : (bs : List Bool) → mask_of bs < 2 ^ length bs
mask_below [] = omega arith
mask_below (b ∷ bs) = step b (mask_below bs) two
  where
    two : 2 ^ suc (length bs) ≡ 2 ^ length bs * 2
    two = let e : suc (length bs) ≡ length bs + 1 = omega arith in ap (λ k. 2 ^ k) e ∙ pow_more 2 (length bs)

    step : (c : Bool) → mask_of bs < 2 ^ length bs → 2 ^ suc (length bs) ≡ 2 ^ length bs * 2 → (if c then 1 else 0) + 2 * mask_of bs < 2 ^ suc (length bs)
    step true h e = omega (arith, h, e)
    step false h e = omega (arith, h, e)

untold_length : (now : List ℕ → Variant) (told : Option (List Variant)) (i : ℕ) (ps : List (List ℕ)) → length (untold now told i ps) ≡ length ps
untold_length now told i [] = refl
untold_length now told i (p ∷ ps) = ap suc (untold_length now told (i + 1) ps)

pow_up : (n m : ℕ) → 2 ^ n ≤ 2 ^ (n + m)
pow_up n zero = let e : n + 0 ≡ n = omega arith in subst (λ k. 2 ^ n ≤ 2 ^ k) (sym e) (omega arith)
pow_up n (suc m) =
    let e : n + suc m ≡ (n + m) + 1 = omega arith in
    let two : 2 ^ ((n + m) + 1) ≡ 2 ^ (n + m) * 2 = pow_more 2 (n + m) in
    subst (λ k. 2 ^ n ≤ 2 ^ k) (sym e) (omega (arith, two, pow_up n m))

pow_low : (n k : ℕ) → n ≤ k → 2 ^ n ≤ 2 ^ k
pow_low n k h = let e : n + (k - n) ≡ k = omega (arith, h) in subst (λ j. 2 ^ n ≤ 2 ^ j) e (pow_up n (k - n))

-- the mask of properties that differ, from a place on
pub record IsMasking (now : List ℕ → Variant) (told : Option (List Variant)) (props : List SyncProp) (count place at mask : ℕ) : Type 0 where
  pub low : place ≤ length props
  pub made : mask ≡ mask_of (untold now told at (changes_in (drop place props)))
  pub left : at + length (changes_in (drop place props)) ≡ count

pub masking_begins : (now : List ℕ → Variant) (told : Option (List Variant)) (props : List SyncProp) (count : ℕ) → IsMasking now told props count (length props) count 0
masking_begins now told props count = record {
  low = omega arith;
  made = sym (ap (λ ps. mask_of (untold now told count (changes_in ps))) (drop_all (length props) props (omega arith)));
  left = ap (λ ps. count + length (changes_in ps)) (drop_all (length props) props (omega arith)) ∙ none count;
}
  where
    none : (n : ℕ) → n + 0 ≡ n
    none n = omega arith

-- there is a place before for a property that is told when it changes
pub masking_place : (now : List ℕ → Variant) (told : Option (List Variant)) (props : List SyncProp) (count place at mask : ℕ) (p : SyncProp) → IsMasking now told props count place at mask → count ≡ length (changes_in props) → 0 < place
    → p ≡ get_or props (place - 1) p → is_on_change p.mode ≡ true → 1 ≤ at
masking_place now told props count place at mask p m all some here on =
    let next : place - 1 + 1 ≡ place = omega (arith, some) in
    let more : length (changes_in (drop (place - 1) props)) ≡ suc (length (changes_in (drop place props))) = ap length (on_there props (place - 1) p (omega (arith, some, m.low)) here on) ∙ ap (λ k. suc (length (changes_in (drop k props)))) next in
    omega (arith, more, fewer_left props (place - 1), m.left, all)

-- one property more
pub masking_on : (now : List ℕ → Variant) (told : Option (List Variant)) (props : List SyncProp) (count place at mask : ℕ) (p : SyncProp) → IsMasking now told props count place at mask → 0 < place
    → 1 ≤ at → p ≡ get_or props (place - 1) p → is_on_change p.mode ≡ true
    → IsMasking now told props count (place - 1) (at - 1) (bit_of (is_untold told (at - 1) (now p.prop)) + 2 * mask)
masking_on now told props count place at mask p m some one here on =
    let next : place - 1 + 1 ≡ place = omega (arith, some) in
    let before : at - 1 + 1 ≡ at = omega (arith, one) in
    let there : changes_in (drop (place - 1) props) ≡ p.prop ∷ changes_in (drop place props) = on_there props (place - 1) p (omega (arith, some, m.low)) here on ∙ ap (λ k. p.prop ∷ changes_in (drop k props)) next in
    record {
      low = omega (arith, m.low);
      made = ap (λ k. bit_of (is_untold told (at - 1) (now p.prop)) + 2 * k) (m.made ∙ ap (λ k. mask_of (untold now told k (changes_in (drop place props)))) (sym before))
          ∙ sym (ap (λ ps. mask_of (untold now told (at - 1) ps)) there);
      left = omega (arith, ap length there, m.left, one);
    }

pub masking_off : (now : List ℕ → Variant) (told : Option (List Variant)) (props : List SyncProp) (count place at mask : ℕ) (p : SyncProp) → IsMasking now told props count place at mask → 0 < place
    → p ≡ get_or props (place - 1) p → is_on_change p.mode ≡ false → IsMasking now told props count (place - 1) at mask
masking_off now told props count place at mask p m some here off =
    let next : place - 1 + 1 ≡ place = omega (arith, some) in
    let there : changes_in (drop (place - 1) props) ≡ changes_in (drop place props) = off_there props (place - 1) p (omega (arith, some, m.low)) here off ∙ ap (λ k. changes_in (drop k props)) next in
    record {
      low = omega (arith, m.low);
      made = m.made ∙ sym (ap (λ ps. mask_of (untold now told at ps)) there);
      left = ap (λ ps. at + length ps) there ∙ m.left;
    }

-- a mask of at most 64 properties has 64 bits
pub masking_fits : (now : List ℕ → Variant) (told : Option (List Variant)) (props : List SyncProp) (count place at mask : ℕ) → IsMasking now told props count place at mask → count ≤ 64 → mask < 2 ^ 64
masking_fits now told props count place at mask m few =
    let bits = untold now told at (changes_in (drop place props)) in
    let low : 2 ^ length bits ≤ 2 ^ 64 = pow_low (length bits) 64 (omega (arith, untold_length now told at (changes_in (drop place props)), m.left, few)) in
    omega (arith, low, mask_below bits, m.made)

-- it is whole at the first place
pub masking_done : (now : List ℕ → Variant) (told : Option (List Variant)) (props : List SyncProp) (count place at mask : ℕ) → IsMasking now told props count place at mask → count ≡ length (changes_in props) → place ≡ 0
    → mask ≡ mask_of (untold now told 0 (changes_in props))
masking_done now told props count place at mask m all none =
    let whole : changes_in (drop place props) ≡ changes_in props = ap (λ k. changes_in (drop k props)) none in
    let first : at ≡ 0 = omega (arith, m.left, ap length whole, all) in
    m.made ∙ ap₂ (λ k ps. mask_of (untold now told k ps)) first whole
