-- Ways to put readers together, and beside each: what it finds, and where and why it breaks.
--
-- A breaking relates some bytes, their end from the first wrong field on, and why that field is wrong.
use Rattle.std.specs.Prelude.{◌≡◌, ℕ, zero, suc, ◌<◌, Bool, true, false, List, [], ◌∷◌, ◌++◌, length, take, drop, Result, Ok, Err, nat_lt, ◌⊎◌, if◌then◌else◌}
use Rattle.std.specs.Int.{Width}
use Rattle.byte_fields.specs.declared.fault.Fault.{Fault}
use Rattle.byte_fields.specs.Fields.{◌>>=◌, fault, word}
use Rattle.gd_variant.specs.declared.message.Why.{Why}
use Rattle.gd_variant.specs.declared.message.Why.TheVariants.{Short}

abbrev pub Reader : Type 0 → Type 0
Reader X = List ℕ → Result (X × List ℕ) Fault

abbrev pub Relation : Type 0 → Type 1
Relation X = X → List ℕ → Type 0

abbrev pub Breaking : Type 1
Breaking = List ℕ → List ℕ → Why → Type 0

-- ---- one field

-- so many bytes
abbrev pub raw_at : ℕ → Reader (List ℕ)
raw_at n bytes = if nat_lt (length bytes) n then Err (fault (length bytes) Short) else Ok (take n bytes, drop n bytes)

abbrev pub IsRaw : ℕ → Relation (List ℕ)
IsRaw n s b = (length s ≡ n) × (b ≡ s)

-- a field of so many bytes isn't there whole
abbrev pub IsShort : ℕ → Breaking
IsShort n b rest why = (length b < n) × (rest ≡ b) × (why ≡ Short)

-- a number below a limit, in the bytes of its width
abbrev pub IsWord : Width → ℕ → Relation ℕ
IsWord w limit n b = (n < limit) × (b ≡ word w n)

-- nothing at all, which stands for a value
abbrev pub done_at : {X : Type 0} → X → Reader X
done_at x bytes = Ok (x, bytes)

abbrev pub IsDone : {X : Type 0} → X → Relation X
IsDone x y b = (y ≡ x) × (b ≡ [])

abbrev pub NeverBreaks : Breaking
NeverBreaks b rest why = ⊥

-- ---- a part seen by a function

abbrev pub mapped_by : {X Y : Type 0} → (X → Y) → Reader X → Reader Y
mapped_by f read bytes = read bytes >>= λ x. Ok (f x.0, x.1)

abbrev pub Mapped : {X Y : Type 0} → (X → Y) → Relation X → Relation Y
Mapped {X} f R y b = (x : X) × (y ≡ f x) × R x b

-- ---- a part that has to pass a test; the fault stands at its first byte

abbrev pub checked_by : {X : Type 0} → (X → Bool) → Why → Reader X → Reader X
checked_by ok reason read bytes = read bytes >>= λ x. if ok x.0 then Ok x else Err (fault (length bytes) reason)

abbrev pub Checked : {X : Type 0} → (X → Bool) → Relation X → Relation X
Checked ok R x b = (ok x ≡ true) × R x b

-- the part breaks, or it is whole and doesn't pass the test
abbrev pub CheckBreaks : {X : Type 0} → (X → Bool) → Why → Relation X → Breaking → Breaking
CheckBreaks {X} ok reason R B b rest why =
    B b rest why
    ⊎ ((x : X) × (front : List ℕ) × (more : List ℕ) × R x front × (b ≡ front ++ more) × (ok x ≡ false) × (rest ≡ b) × (why ≡ reason))

-- ---- a part, and another behind it that the first decides on

abbrev pub then_by : {X Y : Type 0} → Reader X → (X → Reader Y) → Reader Y
then_by read next bytes = read bytes >>= λ x. next x.0 x.1

abbrev pub Then : {X Y : Type 0} → Relation X → (X → Relation Y) → Relation Y
Then {X} R S y b = (x : X) × (front : List ℕ) × (more : List ℕ) × R x front × S x y more × (b ≡ front ++ more)

-- the first part breaks, or it is right and the second breaks
abbrev pub ThenBreaks : {X : Type 0} → Relation X → Breaking → (X → Breaking) → Breaking
ThenBreaks {X} R B C b rest why =
    B b rest why
    ⊎ ((x : X) × (front : List ℕ) × (more : List ℕ) × R x front × (b ≡ front ++ more) × C x more rest why)

-- ---- a number of parts, each as those before it allow

abbrev pub list_by : {X : Type 0} → (List X → Reader X) → List X → ℕ → Reader (List X)
list_by read before zero bytes = Ok (before, bytes)
list_by read before (suc n) bytes = read before bytes >>= λ x. list_by read (before ++ x.0 ∷ []) n x.1

abbrev pub Each : {X : Type 0} → (List X → Relation X) → List X → Relation (List X)
Each R before [] b = b ≡ []
Each R before (x ∷ xs) b = (front : List ℕ) × (more : List ℕ) × R before x front × Each R (before ++ x ∷ []) xs more × (b ≡ front ++ more)

-- so many parts
abbrev pub EachOf : {X : Type 0} → (List X → Relation X) → ℕ → Relation (List X)
EachOf R n xs b = (length xs ≡ n) × Each R [] xs b

-- some parts are right, fewer than there have to be, and the next breaks
abbrev pub EachBreaks : {X : Type 0} → (List X → Relation X) → (List X → Breaking) → ℕ → Breaking
EachBreaks {X} R B n b rest why =
    (xs : List X) × (front : List ℕ) × (more : List ℕ) × Each R [] xs front × (length xs < n) × (b ≡ front ++ more) × B xs more rest why

-- ---- parts that are one field of so many bytes

abbrev pub whole_by : {X : Type 0} → ℕ → Reader X → Reader X
whole_by size read bytes = if nat_lt (length bytes) size then Err (fault (length bytes) Short) else read bytes
