-- Ways to read bytes up to their end, and beside each: what it finds, and where and why it breaks.
use Rattle.std.specs.Prelude.{◌≡◌, ℕ, zero, suc, ◌+◌, ◌<◌, Bool, true, false, List, [], ◌∷◌, ◌++◌, length, take, drop, Result, Ok, Err, nat_eq, nat_lt, ◌⊎◌, if◌then◌else◌}
use Rattle.byte_fields.specs.declared.fault.Fault.{Fault}
use Rattle.byte_fields.specs.Fields.{◌>>=◌, fault}
use Rattle.gd_variant.specs.declared.message.Why.{Why}
use Rattle.gd_variant.specs.declared.message.Why.TheVariants.{Short}
use Rattle.variant_codec.specs.Parts.{SpellsEach}
use Rattle.variant_codec.specs.Readers.{Reader, Relation, Breaking, IsShort}

-- reads all of the bytes
abbrev pub Whole : Type 0 → Type 0
Whole X = List ℕ → Result X Fault

-- ---- all bytes, as they are

abbrev pub rest_at : Whole (List ℕ)
rest_at bytes = Ok bytes

abbrev pub IsRest : Relation (List ℕ)
IsRest s b = s ≡ b

-- ---- what was read, seen by a function

abbrev pub seen_by : {X Y : Type 0} → (X → Y) → Whole X → Whole Y
seen_by f read bytes = read bytes >>= λ x. Ok (f x)

-- ---- a part behind which the bytes end; the fault stands at the first byte after it

abbrev pub ending_by : {X : Type 0} → Why → Reader X → Whole X
ending_by reason read bytes = read bytes >>= λ x. if nat_eq (length x.1) 0 then Ok x.0 else Err (fault (length x.1) reason)

-- the part breaks, or it is whole and bytes follow it
abbrev pub EndBreaks : {X : Type 0} → Why → Relation X → Breaking → Breaking
EndBreaks {X} reason R B b rest why =
    B b rest why
    ⊎ ((x : X) × (front : List ℕ) × R x front × (b ≡ front ++ rest) × (0 < length rest) × (why ≡ reason))

-- ---- a part, and behind it what the part decides on, up to the end

abbrev pub before_by : {X Y : Type 0} → Reader X → (X → Whole Y) → Whole Y
before_by read next bytes = read bytes >>= λ x. next x.0 x.1

-- ---- the same, where a test of the part and of how many bytes follow it has to hold; the fault stands at the part

abbrev pub fitting_by : {X Y : Type 0} → (X → ℕ → Bool) → Why → Reader X → (X → Whole Y) → Whole Y
fitting_by ok reason read next bytes = read bytes >>= λ x. if ok x.0 (length x.1) then next x.0 x.1 else Err (fault (length bytes) reason)

abbrev pub Fitting : {X Y : Type 0} → (X → ℕ → Bool) → Relation X → (X → Relation Y) → Relation Y
Fitting {X} ok R S y b = (x : X) × (front : List ℕ) × (more : List ℕ) × R x front × (ok x (length more) ≡ true) × S x y more × (b ≡ front ++ more)

-- the part breaks, or it doesn't pass the test, or it does and the rest breaks
abbrev pub FittingBreaks : {X : Type 0} → (X → ℕ → Bool) → Why → Relation X → Breaking → (X → Breaking) → Breaking
FittingBreaks {X} ok reason R B C b rest why =
    B b rest why
    ⊎ (((x : X) × (front : List ℕ) × (more : List ℕ) × R x front × (b ≡ front ++ more) × (ok x (length more) ≡ false) × (rest ≡ b) × (why ≡ reason))
    ⊎ ((x : X) × (front : List ℕ) × (more : List ℕ) × R x front × (b ≡ front ++ more) × (ok x (length more) ≡ true) × C x more rest why))

-- ---- parts one after the other up to the end

-- at most so many; each takes a byte at least, so the number of bytes is enough
unfoldable pub filling_by : {X : Type 0} → Reader X → ℕ → Whole (List X)
filling_by read n [] = Ok []
filling_by read zero (b ∷ bytes) = Ok []
filling_by read (suc n) (b ∷ bytes) = read (b ∷ bytes) >>= λ first. filling_by read n first.1 >>= λ others. Ok (first.0 ∷ others)

abbrev pub filled_by : {X : Type 0} → Reader X → Whole (List X)
filled_by read bytes = filling_by read (length bytes) bytes

-- some parts are right, bytes are left, and the next part breaks
abbrev pub FillBreaks : {X : Type 0} → Relation X → Breaking → Breaking
FillBreaks {X} R B b rest why =
    (xs : List X) × (front : List ℕ) × (more : List ℕ) × SpellsEach R xs front × (b ≡ front ++ more) × (0 < length more) × B more rest why

-- ---- a region of so many bytes, whose end counts as the end of the bytes for what stands inside

abbrev pub followed_by : {X : Type 0} → List ℕ → Result X Fault → Result (X × List ℕ) Fault
followed_by after (Ok x) = Ok (x, after)
followed_by after (Err f) = Err (fault (f.left + length after) f.why)

abbrev pub region_by : {X : Type 0} → ℕ → Whole X → Reader X
region_by n read bytes = if nat_lt (length bytes) n then Err (fault (length bytes) Short) else followed_by (drop n bytes) (read (take n bytes))

abbrev pub Region : {X : Type 0} → ℕ → Relation X → Relation X
Region n R x b = (length b ≡ n) × R x b

-- the region isn't there whole, or it breaks inside
abbrev pub RegionBreaks : ℕ → Breaking → Breaking
RegionBreaks n B b rest why =
    IsShort n b rest why
    ⊎ ((front : List ℕ) × (after : List ℕ) × (inner : List ℕ) × (length front ≡ n) × (b ≡ front ++ after) × B front inner why × (rest ≡ inner ++ after))

-- ---- one of two, as a test says

abbrev pub Chosen : {X : Type 0} → Bool → Relation X → Relation X → Relation X
Chosen true R S = R
Chosen false R S = S

abbrev pub ChosenBreaks : Bool → Breaking → Breaking → Breaking
ChosenBreaks true B C = B
ChosenBreaks false B C = C
