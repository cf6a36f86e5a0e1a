-- Lists of what is made of each element, and lists joined end to end.
use Rattle.std.proofs.Common.{◌≡◌, ℤ, Bool, true, false, cond, List, [], ◌∷◌, ◌++◌, refl, sym, ap, ap₂, ◌∙◌, map, filter}
use Rattle.std.specs.Prelude.{flat_map, int_lt}
use Rattle.std.specs.List.{list_any, list_all, All}
use Rattle.std.proofs.lemmas.Bool.{and_parts, or_parts}
use Rattle.std.proofs.lemmas.List.{append-nil, map-append}
use Rattle.std.proofs.lemmas.List.Elements.{All-head, All-tail, filter-append}
use Rattle.gd_variant.specs.Words.{put_by}
use Rattle.peer_laws.proofs.Numbers.{not_less}

-- one element of each

pub map_each : {X Y : Type 0} (f g : X → Y) (xs : List X) → ((x : X) → f x ≡ g x) → map f xs ≡ map g xs
map_each f g [] h = refl
map_each f g (x ∷ xs) h = ap₂ (λ y ys. y ∷ ys) (h x) (map_each f g xs h)

pub map_agree : {X Y : Type 0} (f g : X → Y) (xs : List X) → All (λ x. f x ≡ g x) xs → map f xs ≡ map g xs
map_agree f g [] h = refl
map_agree f g (x ∷ xs) h = ap₂ (λ y ys. y ∷ ys) (All-head (λ z. f z ≡ g z) x xs h) (map_agree f g xs (All-tail (λ z. f z ≡ g z) x xs h))

-- maps agree where the elements pass no test outside of which they agree
pub map_outside : {X Y : Type 0} (q : X → Bool) (f g : X → Y) (xs : List X) → list_any q xs ≡ false → ((x : X) → q x ≡ false → f x ≡ g x) → map f xs ≡ map g xs
map_outside q f g [] h k = refl
map_outside q f g (x ∷ xs) h k = ap₂ (λ y ys. y ∷ ys) (k x (or_parts (q x) (list_any q xs) h).0) (map_outside q f g xs (or_parts (q x) (list_any q xs) h).1 k)

pub map-map : {X Y Z : Type 0} (g : Y → Z) (f : X → Y) (xs : List X) → map g (map f xs) ≡ map (λ x. g (f x)) xs
map-map g f [] = refl
map-map g f (x ∷ xs) = ap (λ ys. g (f x) ∷ ys) (map-map g f xs)

-- lists joined end to end

pub flat_each : {X Y : Type 0} (f g : X → List Y) → ((x : X) → f x ≡ g x) → (xs : List X) → flat_map f xs ≡ flat_map g xs
flat_each f g h [] = refl
flat_each f g h (x ∷ xs) = ap₂ (λ a b. a ++ b) (h x) (flat_each f g h xs)

-- lists joined agree where the elements pass a test at which they agree
pub flat_agree : {X Y : Type 0} (p : X → Bool) (f g : X → List Y) (xs : List X) → list_all p xs ≡ true → ((x : X) → p x ≡ true → f x ≡ g x) → flat_map f xs ≡ flat_map g xs
flat_agree p f g [] h k = refl
flat_agree p f g (x ∷ xs) h k = ap₂ (λ a b. a ++ b) (k x (and_parts (p x) (list_all p xs) h).0) (flat_agree p f g xs (and_parts (p x) (list_all p xs) h).1 k)

pub map-flat : {X Y Z : Type 0} (g : Y → Z) (f : X → List Y) (xs : List X) → map g (flat_map f xs) ≡ flat_map (λ x. map g (f x)) xs
map-flat g f [] = refl
map-flat g f (x ∷ xs) = map-append g (f x) (flat_map f xs) ∙ ap (λ ys. map g (f x) ++ ys) (map-flat g f xs)

pub filter-flat : {X Y : Type 0} (p : Y → Bool) (f : X → List Y) (xs : List X) → filter p (flat_map f xs) ≡ flat_map (λ x. filter p (f x)) xs
filter-flat p f [] = refl
filter-flat p f (x ∷ xs) = filter-append p (f x) (flat_map f xs) ∙ ap (λ ys. filter p (f x) ++ ys) (filter-flat p f xs)

-- empty lists may be left out
pub flat-filter : {X Y : Type 0} (p : X → Bool) (f : X → List Y) → ((x : X) → p x ≡ false → f x ≡ []) → (xs : List X) → flat_map f (filter p xs) ≡ flat_map f xs
flat-filter p f h [] = refl
flat-filter p f h (x ∷ xs) = step (flat-filter p f h xs) (p x) refl
  where
    step : flat_map f (filter p xs) ≡ flat_map f xs → (b : Bool) → p x ≡ b → flat_map f (cond b (x ∷ filter p xs) (filter p xs)) ≡ f x ++ flat_map f xs
    step more true e = ap (λ ys. f x ++ ys) more
    step more false e = more ∙ sym (ap (λ ys. ys ++ flat_map f xs) (h x e))

-- lists that are all empty
pub flat_none : {X Y : Type 0} (p : X → Bool) (f : X → List Y) → ((x : X) → p x ≡ true → f x ≡ []) → (xs : List X) → list_all p xs ≡ true → flat_map f xs ≡ []
flat_none p f k [] h = refl
flat_none p f k (x ∷ xs) h = ap₂ (λ a b. a ++ b) (k x (and_parts (p x) (list_all p xs) h).0) (flat_none p f k xs (and_parts (p x) (list_all p xs) h).1)

-- the one list that isn't empty
pub flat_one : {X Y : Type 0} (p : X → Bool) (f : X → List Y) → ((x : X) → p x ≡ true → f x ≡ []) → (before : X → X → Bool) (x : X) (ys : List X) → list_all p ys ≡ true → flat_map f (put_by before x ys) ≡ f x
flat_one p f k before x [] h = append-nil (f x)
flat_one p f k before x (y ∷ ys) h = elim (before y x) as (λ b. flat_map f (cond b (y ∷ put_by before x ys) (x ∷ y ∷ ys)) ≡ f x) [
  | true ↦ ap₂ (λ a b. a ++ b) (k y (and_parts (p y) (list_all p ys) h).0) (flat_one p f k before x ys (and_parts (p y) (list_all p ys) h).1)
  | false ↦ ap (λ b. f x ++ b) (flat_none p f k (y ∷ ys) h) ∙ append-nil (f x)
]

-- lists of one element each
pub flat_singles : {X Y : Type 0} (p : X → Bool) (f : X → List Y) (g : X → Y) → ((x : X) → p x ≡ true → f x ≡ g x ∷ []) → (xs : List X) → list_all p xs ≡ true → flat_map f xs ≡ map g xs
flat_singles p f g k [] h = refl
flat_singles p f g k (x ∷ xs) h = ap₂ (λ a b. a ++ b) (k x (and_parts (p x) (list_all p xs) h).0) (flat_singles p f g k xs (and_parts (p x) (list_all p xs) h).1)

-- a number whose list is empty may be put into a list
pub flat_skip : {Y : Type 0} (f : ℤ → List Y) (b : ℤ) → f b ≡ [] → (ys : List ℤ) → flat_map f (put_by int_lt b ys) ≡ flat_map f ys
flat_skip f b h [] = ap (λ zs. zs ++ []) h
flat_skip f b h (y ∷ ys) = step (flat_skip f b h ys) (int_lt y b)
  where
    step : flat_map f (put_by int_lt b ys) ≡ flat_map f ys → (c : Bool) → flat_map f (cond c (y ∷ put_by int_lt b ys) (b ∷ y ∷ ys)) ≡ f y ++ flat_map f ys
    step more true = ap (λ zs. f y ++ zs) more
    step more false = ap (λ zs. zs ++ (f y ++ flat_map f ys)) h

-- a number whose list is empty may be put in before another
pub flat_skip_under : {Y : Type 0} (f : ℤ → List Y) (a b : ℤ) → f b ≡ [] → (ys : List ℤ) → flat_map f (put_by int_lt a (put_by int_lt b ys)) ≡ flat_map f (put_by int_lt a ys)
flat_skip_under f a b h [] = step (int_lt b a)
  where
    step : (c : Bool) → flat_map f (cond c (b ∷ a ∷ []) (a ∷ b ∷ [])) ≡ f a ++ []
    step true = ap (λ zs. zs ++ (f a ++ [])) h
    step false = ap (λ zs. f a ++ (zs ++ [])) h
flat_skip_under f a b h (y ∷ ys) = step (flat_skip_under f a b h ys) (int_lt y b) refl (int_lt b a) refl (int_lt y a) refl
  where
    step : flat_map f (put_by int_lt a (put_by int_lt b ys)) ≡ flat_map f (put_by int_lt a ys) → (c : Bool) → int_lt y b ≡ c → (d : Bool) → int_lt b a ≡ d → (e : Bool) → int_lt y a ≡ e
        → flat_map f (put_by int_lt a (cond c (y ∷ put_by int_lt b ys) (b ∷ y ∷ ys))) ≡ flat_map f (put_by int_lt a (y ∷ ys))
    step more true p d q true r = ap (λ k. flat_map f (cond k (y ∷ put_by int_lt a (put_by int_lt b ys)) (a ∷ y ∷ put_by int_lt b ys))) r ∙ ap (λ zs. f y ++ zs) more ∙ sym (ap (λ k. flat_map f (cond k (y ∷ put_by int_lt a ys) (a ∷ y ∷ ys))) r)
    step more true p d q false r = ap (λ k. flat_map f (cond k (y ∷ put_by int_lt a (put_by int_lt b ys)) (a ∷ y ∷ put_by int_lt b ys))) r ∙ ap (λ zs. f a ++ (f y ++ zs)) (flat_skip f b h ys) ∙ sym (ap (λ k. flat_map f (cond k (y ∷ put_by int_lt a ys) (a ∷ y ∷ ys))) r)
    step more false p true q e r = ap (λ k. flat_map f (cond k (b ∷ put_by int_lt a (y ∷ ys)) (a ∷ b ∷ y ∷ ys))) q ∙ ap (λ zs. zs ++ flat_map f (put_by int_lt a (y ∷ ys))) h
    step more false p false q e r =
        ap (λ k. flat_map f (cond k (b ∷ put_by int_lt a (y ∷ ys)) (a ∷ b ∷ y ∷ ys))) q ∙ ap (λ zs. f a ++ (zs ++ (f y ++ flat_map f ys))) h
        ∙ sym (ap (λ k. flat_map f (cond k (y ∷ put_by int_lt a ys) (a ∷ y ∷ ys))) (not_less a b y q p))
