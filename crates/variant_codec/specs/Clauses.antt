-- What the contracts of the codec say.
use Rattle.std.specs.Prelude.{◌≡◌, ℕ, ◌-◌, ◌≤◌, List, ◌++◌, length, take, Result, Ok, Err, ◌⊎◌, IsTrue}
use Rattle.byte_fields.specs.Fields.{IsBytes}
use Rattle.byte_fields.specs.declared.fault.Fault.{Fault}
use Rattle.byte_fields.specs.declared.fault.CodecStop.{CodecStop}
use Rattle.byte_fields.specs.declared.fault.CodecStop.TheVariants as stops
use Rattle.gd_variant.specs.declared.value.Variant.{Variant}
use Rattle.gd_variant.specs.declared.message.Bad.{Bad}
use Rattle.gd_variant.specs.Tree.{Tree, plain}
use Rattle.gd_variant.specs.Sound.{is_sound_tree, is_sound}
use Rattle.variant_codec.specs.Readers.{Relation, Breaking}
use Rattle.variant_codec.specs.Breaks.{IsBad}

-- what a decoder returned is what reading gives, unless memory ran out
abbrev pub Decodes : List ℕ → Result (Variant × ℕ) CodecStop → Result (Tree × List ℕ) Fault → Type 0
Decodes b (Ok x) read = (rest : List ℕ) × (read ≡ Ok (plain x.0, rest)) × (x.1 ≡ length b - length rest)
Decodes b (Err stops.OutOfMemory) read = Unit {0}
Decodes b (Err (stops.Bad bad)) read = (f : Fault) × (read ≡ Err f) × (bad.at ≡ length b - f.left) × (bad.why ≡ f.why)

-- the front of the bytes is a form of the value, and the value is sound
pub record IsFound (R : Relation Tree) (b : List ℕ) (v : Variant) (len : ℕ) : Type 0 where
  pub within : len ≤ length b
  pub spells : R (plain v) (take len b)
  pub sound : IsTrue (is_sound v)

-- the answer, unless memory ran out
abbrev pub Is : {X : Type 0} → Result X CodecStop → Result X CodecStop → Type 0
Is result answer = (result ≡ answer) ⊎ (result ≡ Err stops.OutOfMemory)

-- a form at the front is read, whatever follows it
abbrev pub ReadsForms : Relation Tree → List ℕ → Result (Variant × ℕ) CodecStop → Type 0
ReadsForms R b result = (v : Variant) (front rest : List ℕ) → IsTrue (is_sound v) → R (plain v) front → b ≡ front ++ rest → Is result (Ok (v, length front))

-- what was written is read again, whatever follows it
abbrev pub ReadsWritten : (Tree → List ℕ) → List ℕ → Result (Variant × ℕ) CodecStop → Type 0
ReadsWritten write b result = (v : Variant) (rest : List ℕ) → IsTrue (is_sound v) → b ≡ write (plain v) ++ rest → Is result (Ok (v, length (write (plain v))))

-- a fault is the one that the bytes have
abbrev pub FaultsRightly : Breaking → List ℕ → Result (Variant × ℕ) CodecStop → Type 0
FaultsRightly B b result = (bad : Bad) → result ≡ Err (stops.Bad bad) → IsBad B b bad

-- where the bytes break, the fault is answered
abbrev pub ReadsFaults : Breaking → List ℕ → Result (Variant × ℕ) CodecStop → Type 0
ReadsFaults B b result = (bad : Bad) → IsBad B b bad → Is result (Err (stops.Bad bad))

-- no form begins another form, so bytes have one value and one length
abbrev pub NoneBeginsAnother : Relation Tree → Type 0
NoneBeginsAnother R = (t u : Tree) (a b x y : List ℕ) → IsTrue (is_sound_tree t) → IsTrue (is_sound_tree u) → R t a → R u b → a ++ x ≡ b ++ y → (t ≡ u) × (a ≡ b)

-- the written form of each sound tree is a form of it, and has the length that the size tells
abbrev pub WritesForms : Relation Tree → (Tree → List ℕ) → (Tree → ℕ) → Type 0
WritesForms R write size = (t : Tree) → IsTrue (is_sound_tree t) → R t (write t) × (length (write t) ≡ size t)

-- the form of a sound value stands at the front of the bytes
pub record Begins (R : Relation Tree) (b : List ℕ) : Type 0 where
  pub value : Tree
  pub front : List ℕ
  pub rest : List ℕ
  pub parts : b ≡ front ++ rest
  pub sound : IsTrue (is_sound_tree value)
  pub form : R value front

-- the bytes have one fault, and no other
pub record OneFault (B : Breaking) (b : List ℕ) : Type 0 where
  pub bad : Bad
  pub is : IsBad B b bad
  pub only : (other : Bad) → IsBad B b other → other ≡ bad

-- bytes begin with a value's form, or they have exactly one fault, and never both
abbrev pub ValueOrFault : Relation Tree → Breaking → Type 0
ValueOrFault R B = (b : List ℕ) → IsBytes b → length b ≤ 8388608 → (Begins R b × ((bad : Bad) → IsBad B b bad → ⊥)) ⊎ (OneFault B b × (Begins R b → ⊥))
