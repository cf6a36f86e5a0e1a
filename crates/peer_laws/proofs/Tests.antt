-- Tests that pass or fail, options, and tables of reasons.
use Rattle.std.proofs.Common.{◌≡◌, Bool, true, false, not, ◌||◌, List, ◌∷◌, refl, is_some, Option, Some, None}
use Rattle.std.specs.Prelude.{is_none, option_map, option_and_then}
use Rattle.gd_variant.specs.Words.{some_is, when, first_of, first_some}

-- tests

-- what isn't false
pub not_false : (b : Bool) → not b ≡ false → b ≡ true
not_false true h = refl
not_false false h = absurd (cc h)

-- a test that is never true
pub never : (b : Bool) → (b ≡ true → true ≡ false) → b ≡ false
never true h = h refl
never false h = refl

pub or_true : (a : Bool) → (a || true) ≡ true
or_true true = refl
or_true false = refl

-- options

pub some_of : {X : Type 0} (o : Option X) → is_some o ≡ true → (x : X) × (o ≡ Some x)
some_of None h = absurd (cc h)
some_of (Some x) h = (x, refl)

-- what passes a test is something
pub some_passes : {X : Type 0} (p : X → Bool) (o : Option X) → some_is p o ≡ true → (x : X) × (o ≡ Some x) × (p x ≡ true)
some_passes p None h = absurd (cc h)
some_passes p (Some x) h = (x, refl, h)

-- what an option leads to comes from something
pub then_some : {X Y : Type 0} (f : X → Option Y) (o : Option X) (y : Y) → option_and_then f o ≡ Some y → (x : X) × (o ≡ Some x) × (f x ≡ Some y)
then_some f None y h = absurd (cc h)
then_some f (Some x) y h = (x, refl, h)

pub some_from : {X : Type 0} (o : Option X) → is_none o ≡ false → is_some o ≡ true
some_from None h = absurd (cc h)
some_from (Some x) h = refl

pub none_mapped : {X Y : Type 0} (f : X → Y) (o : Option X) → option_map f o ≡ None → o ≡ None
none_mapped f None h = refl
none_mapped f (Some x) h = absurd (cc h)

-- where none of two is the first, there is none
pub first_none : {X : Type 0} (a b : Option X) → first_some a b ≡ None → (a ≡ None) × (b ≡ None)
first_none None b h = (refl, h)
first_none (Some x) b h = absurd (cc h)

-- tables of reasons

-- where no answer is given, no row holds
pub no_row : {X : Type 0} (b : Bool) (x : X) (rows : List (Option X)) → first_of (when b x ∷ rows) ≡ None → (b ≡ false) × (first_of rows ≡ None)
no_row true x rows h = absurd (cc h)
no_row false x rows h = (refl, h)

pub no_answer : {X : Type 0} (b : Bool) (x : X) → when b x ≡ None → b ≡ false
no_answer true x h = absurd (cc h)
no_answer false x h = refl

-- where no first answer is given, none is
pub no_first : {X : Type 0} (o : Option X) (rows : List (Option X)) → first_of (o ∷ rows) ≡ None → (o ≡ None) × (first_of rows ≡ None)
no_first (Some x) rows h = absurd (cc h)
no_first None rows h = (refl, h)
