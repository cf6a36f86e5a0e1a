-- Lists with one element changed, taken away or put in.
use Rattle.std.proofs.Common.{◌≡◌, ℕ, zero, suc, ◌+◌, ◌<◌, Bool, true, false, cond, not, List, [], ◌∷◌, ◌++◌, refl, sym, ap, ap₂, ◌∙◌, length, get_or, map, take, drop, Some, None, arith}
use Rattle.std.specs.Prelude.{slice_get, option_map}
use Rattle.std.specs.List.{position_or_len, insert, remove, slice_set}
use Rattle.std.specs.Option.{option_map_or}
use Rattle.std.proofs.lemmas.List.{map-append, map-set}
use Rattle.std.proofs.lemmas.Option.{slice_get-map, slice_get-get_or}
use Rattle.headless_tree.specs.Lists.{change_at, change_first, without_first}

one_more : (n : ℕ) → 1 + n ≡ suc n
one_more n = omega arith

-- the first element that passes, taken away by its place
remove_step : {X : Type 0} (b : Bool) (x : X) (xs : List X) (n : ℕ) (ys : List X) → remove xs n ≡ ys → remove (x ∷ xs) (cond (not b) (1 + n) 0) ≡ cond b xs (x ∷ ys)
remove_step true x xs n ys h = refl
remove_step false x xs n ys h = rw (one_more n) (ap (λ zs. x ∷ zs) h)

pub remove_first : {X : Type 0} (p : X → Bool) (xs : List X) → remove xs (position_or_len p xs) ≡ without_first p xs
remove_first p [] = refl
remove_first p (x ∷ xs) = remove_step (p x) x xs (position_or_len p xs) (without_first p xs) (remove_first p xs)

-- the first element that passes, changed by its place
change_later : {X : Type 0} (f : X → X) (x : X) (xs : List X) (n : ℕ) → change_at (suc n) f (x ∷ xs) ≡ x ∷ change_at n f xs
change_later f x xs n = elim (slice_get xs n) as (λ o. option_map_or (λ z. slice_set (x ∷ xs) (suc n) (f z)) o (x ∷ xs) ≡ x ∷ option_map_or (λ z. slice_set xs n (f z)) o xs) [ None ↦ refl | Some z ↦ refl ]

change_step : {X : Type 0} (f : X → X) (b : Bool) (x : X) (xs : List X) (n : ℕ) (ys : List X) → change_at n f xs ≡ ys → change_at (cond (not b) (1 + n) 0) f (x ∷ xs) ≡ cond b (f x ∷ xs) (x ∷ ys)
change_step f true x xs n ys h = refl
change_step f false x xs n ys h = rw (one_more n) (change_later f x xs n ∙ ap (λ zs. x ∷ zs) h)

pub change_by_place : {X : Type 0} (p : X → Bool) (f : X → X) (xs : List X) → change_at (position_or_len p xs) f xs ≡ change_first p f xs
change_by_place p f [] = refl
change_by_place p f (x ∷ xs) = change_step f (p x) x xs (position_or_len p xs) (change_first p f xs) (change_by_place p f xs)

-- two changes that agree on what stands at the place
pub change_same : {X : Type 0} (f g : X → X) (xs : List X) (i : ℕ) (x : X) → slice_get xs i ≡ Some x → f x ≡ g x → change_at i f xs ≡ change_at i g xs
change_same f g xs i x here same = ap (λ o. option_map_or (λ z. slice_set xs i (f z)) o xs) here ∙ ap (slice_set xs i) same ∙ sym (ap (λ o. option_map_or (λ z. slice_set xs i (g z)) o xs) here)

-- a write of one element, seen through a map
pub changed : {X Y : Type 0} (g : X → Y) (f : Y → Y) (xs : List X) (i : ℕ) (x y : X) → i < length xs → x ≡ get_or xs i x → g y ≡ f (g x) → map g (slice_set xs i y) ≡ change_at i f (map g xs)
changed g f xs i x y low is same =
    map-set g xs i y ∙ ap (slice_set (map g xs) i) same
    ∙ sym (ap (λ o. option_map_or (λ z. slice_set (map g xs) i (f z)) o (map g xs)) (slice_get-map g xs i ∙ ap (option_map g) (slice_get-get_or xs i x low ∙ ap Some (sym is))))

-- parts of a mapped list
pub map-take : {X Y : Type 0} (f : X → Y) (n : ℕ) (xs : List X) → map f (take n xs) ≡ take n (map f xs)
map-take f zero xs = refl
map-take f (suc n) [] = refl
map-take f (suc n) (x ∷ xs) = ap (λ ys. f x ∷ ys) (map-take f n xs)

pub map-drop : {X Y : Type 0} (f : X → Y) (n : ℕ) (xs : List X) → map f (drop n xs) ≡ drop n (map f xs)
map-drop f zero xs = refl
map-drop f (suc n) [] = refl
map-drop f (suc n) (x ∷ xs) = map-drop f n xs

pub map-remove : {X Y : Type 0} (f : X → Y) (xs : List X) (i : ℕ) → map f (remove xs i) ≡ remove (map f xs) i
map-remove f xs i = map-append f (take i xs) (drop (suc i) xs) ∙ ap₂ (λ ys zs. ys ++ zs) (map-take f i xs) (map-drop f (suc i) xs)

pub map-insert : {X Y : Type 0} (f : X → Y) (xs : List X) (i : ℕ) (x : X) → map f (insert xs i x) ≡ insert (map f xs) i (f x)
map-insert f xs i x = map-append f (take i xs) (x ∷ drop i xs) ∙ ap₂ (λ ys zs. ys ++ f x ∷ zs) (map-take f i xs) (map-drop f i xs)
