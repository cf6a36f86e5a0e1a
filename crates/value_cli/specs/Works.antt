-- What a repeated work goes over.
use Rattle.std.specs.Prelude.{◌≡◌, ℕ, List, ◌++◌, length, decimal, codes, Result, Err, ◌⊎◌}
use Rattle.byte_fields.specs.declared.fault.CodecStop.{CodecStop}
use Rattle.byte_fields.specs.declared.fault.CodecStop.TheVariants as stops
use Rattle.hex.specs.Hex.{decode_of}
use Rattle.gd_variant.specs.declared.message.Bad.{Bad}
use Rattle.gd_variant.specs.declared.value.Variant.{Variant}
use Rattle.gd_variant.specs.Tree.{plain}
use Rattle.variant_codec.specs.Breaks.{Breaks, IsBad}
use Rattle.variant_codec.specs.Clauses.{IsFound}
use Rattle.variant_codec.specs.Grammar.{Spells}
use Rattle.variant_codec.specs.Tests.{most_levels}
use Rattle.variant_codec.specs.Written.{written}
use Rattle.value_cli.specs.declared.repeats.Work.{Work}
use Rattle.value_cli.specs.declared.repeats.Work.TheVariants.{Copy, Decode, Encode}
use Rattle.value_cli.specs.Answers.{TellsDigits, TellsFault}

-- how many bytes the work goes over: those of the form that is read, of the one that is written, or all
abbrev pub GoesOver : Work → List ℕ → ℕ → Type 0
GoesOver Decode b n = (v : Variant) × IsFound Spells b v n
GoesOver Encode b n = (v : Variant) × (len : ℕ) × IsFound Spells b v len × (n ≡ length (written (plain v)))
GoesOver Copy b n = n ≡ length b

-- a fault is the one that the bytes have
abbrev pub StopsRightly : List ℕ → Result ℕ CodecStop → Type 0
StopsRightly b result = (bad : Bad) → result ≡ Err (stops.Bad bad) → IsBad (Breaks most_levels) b bad

-- a line with that number, or the first wrong field
abbrev pub TellsWork : Work → List ℕ → List ℕ → Type 0
TellsWork w b text = ((n : ℕ) × GoesOver w b n × (text ≡ decimal n ++ codes "\n")) ⊎ TellsFault (Breaks most_levels) b text

-- what a line is answered
abbrev pub Works : Work → List ℕ → List ℕ → Type 0
Works w line text = TellsDigits (TellsWork w) (decode_of line) text
