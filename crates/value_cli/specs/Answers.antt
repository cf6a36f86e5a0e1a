-- What a line of hexadecimal digits is answered.
use Rattle.std.specs.Prelude.{◌≡◌, ℕ, List, [], ◌∷◌, ◌++◌, length, drop, nat_eq, nat_le, Result, Ok, Err, MatchBool, ◌⊎◌, codes}
use Rattle.std.specs.List.{starts_with}
use Rattle.hex.specs.Hex.{decode_of}
use Rattle.hex.specs.declared.error.FromHexError.{FromHexError}
use Rattle.gd_variant.specs.declared.message.Bad.{Bad}
use Rattle.gd_variant.specs.declared.message.Why.TheVariants.{TooLong}
use Rattle.gd_variant.specs.declared.value.Variant.{Variant}
use Rattle.gd_variant.specs.Sound.{most_bytes}
use Rattle.gd_variant.specs.Tree.{Tree, plain}
use Rattle.session_text.specs.Decoded.{decoded_line}
use Rattle.session_text.specs.Messages.{bad_line}
use Rattle.variant_codec.specs.Breaks.{Breaks, BreaksSmall, IsBad}
use Rattle.variant_codec.specs.Clauses.{IsFound}
use Rattle.variant_codec.specs.Grammar.{Spells, SpellsSmall}
use Rattle.variant_codec.specs.Readers.{Relation, Breaking}
use Rattle.variant_codec.specs.Tests.{most_levels}
use Rattle.variant_codec.specs.Written.{written, written_small}

-- a value stands at the front of the bytes: the length of its form, the value, and what is written for it
pub record TellsValue (R : Relation Tree) (write : Tree → List ℕ) (b text : List ℕ) : Type 0 where
  pub value : Variant
  pub len : ℕ
  pub found : IsFound R b value len
  pub told : text ≡ decoded_line len value (write (plain value))

-- the first wrong field of the bytes
pub record TellsFault (B : Breaking) (b text : List ℕ) : Type 0 where
  pub bad : Bad
  pub broken : IsBad B b bad
  pub told : text ≡ bad_line bad

-- what is told of bytes in binary form
abbrev pub TellsBinary : List ℕ → List ℕ → Type 0
TellsBinary b text = TellsValue Spells written b text ⊎ TellsFault (Breaks most_levels) b text

-- what is told of bytes in compressed form
abbrev pub TellsSmall : List ℕ → List ℕ → Type 0
TellsSmall b text = TellsValue SpellsSmall written_small b text ⊎ TellsFault BreaksSmall b text

-- more bytes than a value has
abbrev pub long_line : List ℕ
long_line = bad_line (record { at = 0; why = TooLong })

-- no even number of hexadecimal digits
abbrev pub hex_line : List ℕ
hex_line = codes "[\"bad\",0,\"Hex\"]\n"

-- what is told of digits, by what is told of their bytes
abbrev pub TellsDigits : (List ℕ → List ℕ → Type 0) → Result (List ℕ) FromHexError → List ℕ → Type 0
TellsDigits T (Ok b) text = MatchBool (nat_le (length b) most_bytes) (T b text) (text ≡ long_line)
TellsDigits T (Err e) text = text ≡ hex_line

-- in front of the digits of a compressed form
abbrev pub small_word : List ℕ
small_word = codes "small "

-- what a line is answered
abbrev pub Answers : List ℕ → List ℕ → Type 0
Answers line text =
    MatchBool (starts_with nat_eq line small_word)
    (TellsDigits TellsSmall (decode_of (drop 6 line)) text)
    (TellsDigits TellsBinary (decode_of line) text)

-- what lines are answered, one after the other
abbrev pub AnswersEach : (List ℕ → List ℕ → Type 0) → List (List ℕ) → List ℕ → Type 0
AnswersEach A [] text = text ≡ []
AnswersEach A (l ∷ ls) text = (front : List ℕ) × (rest : List ℕ) × A l front × AnswersEach A ls rest × (text ≡ front ++ rest)
