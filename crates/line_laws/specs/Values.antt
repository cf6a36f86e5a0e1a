-- What is written of values can be read: it is plain and not too deep.
use Rattle.std.specs.Prelude.{◌≡◌, true}
use Rattle.gd_variant.specs.declared.value.Variant.{Variant}
use Rattle.gd_variant.specs.Sound.{is_sound}
use Rattle.session_text.specs.Values.{value_of}
use Rattle.line_laws.specs.Texts.{IsReadable}

-- a sound value is plain where it is written, and at most 99 deep
abbrev pub ArePlainValues : Type 0
ArePlainValues = (v : Variant) → is_sound v ≡ true → IsReadable 99 (value_of v)
