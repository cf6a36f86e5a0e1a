-- Fields of bytes: reading from left to right with the first fault, and the bytes of a number.
use Rattle.std.specs.Prelude.{ℕ, ◌-◌, ◌<◌, List, length, take, drop, slice_index, Option, Some, None, Result, Ok, Err, nat_lt, if◌then◌else◌}
use Rattle.std.specs.Int.{Width, byte_len, from_le_bytes, to_le_bytes}
use Rattle.gd_variant.specs.declared.message.Bad.{Bad}
use Rattle.gd_variant.specs.declared.message.Why.{Why}
use Rattle.gd_variant.specs.declared.message.Why.TheVariants.{Short}
pub use Rattle.gd_variant.specs.Steps.{◌>>=◌}
use Rattle.gd_variant.specs.Steps.{FailsWith, GivesBy}
use Rattle.byte_fields.specs.declared.fault.Fault.{Fault}
use Rattle.byte_fields.specs.declared.fault.ReadError.{ReadError}
use Rattle.byte_fields.specs.declared.fault.ReadError.TheVariants as errors
use Rattle.byte_fields.specs.declared.fault.CodecStop.{CodecStop}
use Rattle.byte_fields.specs.declared.fault.CodecStop.TheVariants as stops

-- each number of a list is a byte
abbrev pub IsBytes : List ℕ → Type 0
IsBytes bytes = (i : ℕ) → slice_index bytes i < 256

-- the reason of a reader inside a decoder to stop, unless memory ran out
abbrev pub fault_in : ReadError → Option Fault
fault_in errors.Memory = None
fault_in (errors.Fault f) = Some f

-- the reason of a decoder to give nothing, unless memory ran out
abbrev pub bad_in : CodecStop → Option Bad
bad_in stops.OutOfMemory = None
bad_in (stops.Bad bad) = Some bad

-- an error is either that reading fails so, or that memory ran out
abbrev pub Fails : {Y : Type 0} → ReadError → Result Y Fault → Type 0
Fails e read = FailsWith (fault_in e) read

-- what a reader returned, seen by view, is what reading gives, unless memory ran out
abbrev pub Gives : {X Y : Type 0} → (X → Y) → Result X ReadError → Result Y Fault → Type 0
Gives = GivesBy fault_in

-- what a decoder returned, seen by view, is what reading gives, unless memory ran out
abbrev pub Answers : {X Y : Type 0} → (X → Y) → Result X CodecStop → Result Y Bad → Type 0
Answers = GivesBy bad_in

-- the wrong field begins so many bytes before the end
abbrev pub fault : ℕ → Why → Fault
fault left why = record { left = left; why = why }

-- the place of a fault in so many bytes
abbrev pub placed : {A : Type 0} → ℕ → Result A Fault → Result A Bad
placed len (Ok x) = Ok x
placed len (Err f) = Err (record { at = len - f.left; why = f.why })

-- a number in the bytes of its width, the lowest first
unfoldable pub word : Width → ℕ → List ℕ
word w n = to_le_bytes w n

-- the number at the front, and the bytes after it
unfoldable pub number_at : Width → List ℕ → Result (ℕ × List ℕ) Fault
number_at w bytes = if nat_lt (length bytes) (byte_len w) then Err (fault (length bytes) Short) else Ok (from_le_bytes w (take (byte_len w) bytes), drop (byte_len w) bytes)
