-- Where the bytes of a packet break, and why, stated over the whole list: the bytes before the wrong field
-- divide into right fields as the grammar asks for them, the field that has to come next stands there, and
-- the reason is the first row of the table of reasons that holds of it.
use Rattle.std.specs.Prelude.{◌≡◌, ℕ, ◌-◌, ◌<◌, ℤ, Bool, true, false, List, [], ◌∷◌, ◌++◌, length, take, nat_eq, ◌⊎◌}
use Rattle.std.specs.Int.{byte_len}
use Rattle.std.specs.Str.{is_utf8}
use Rattle.gd_variant.specs.Sound.{has_no_zero}
use Rattle.gd_variant.specs.declared.message.Message.TheVariants as message
use Rattle.gd_variant.specs.declared.message.Why.TheVariants.{Utf8, Empty, Command, Width, PathEnd, Digits, Count, Size, Trailing, Nested}
use Rattle.variant_codec.specs.Readers.{Breaking, IsRaw, IsShort, IsDone, NeverBreaks, Checked, CheckBreaks, ThenBreaks, EachBreaks}
use Rattle.variant_codec.specs.Breaks.{Word, WordBreaks, BreaksSmall}
use Rattle.variant_codec.specs.Parts.{SpellsShort}
use Rattle.packet_form.specs.declared.head.CallHead.{CallHead}
use Rattle.packet_form.specs.declared.head.Head.{Head}
use Rattle.packet_form.specs.declared.head.Head.TheVariants as head
use Rattle.packet_form.specs.Head.{is_command, has_width, is_plain, width_of, method_width}
use Rattle.packet_form.specs.Wholes.{EndBreaks, FittingBreaks, FillBreaks, Region, RegionBreaks, ChosenBreaks}
use Rattle.packet_form.specs.Tests.{is_some, ends_name, is_offset, method_end, offset_fits, is_digit, is_zero, is_flag, is_subcommand}
use Rattle.packet_form.specs.Grammar.{Byte, Id, MethodId, IsHead, IsValue, IsIds, IsNameOf, IsCountedArgs, IsArgs, IsDigit, IsDigits, IsDigest, IsFlag, IsArgFor, IsEntry, IsDeltaEntry, HalfWord, LongWord}

-- ---- fields

-- a packet without a byte
abbrev pub IsEmpty : Breaking
IsEmpty b rest why = (b ≡ []) × (rest ≡ b) × (why ≡ Empty)

-- the first byte: Empty, then Command, then Width
abbrev pub HeadBreaks : Breaking
HeadBreaks = CheckBreaks has_width Width (Checked is_command Byte) (CheckBreaks is_command Command Byte IsEmpty)

-- so many ids: one of them isn't there
abbrev pub IdsBreak : ℕ → Breaking
IdsBreak n = EachBreaks (λ _. Word) (λ _. WordBreaks) n

-- values up to the end: one of them breaks
abbrev pub ValuesBreak : Breaking
ValuesBreak = FillBreaks IsValue BreaksSmall

-- a path up to the end: no zero byte, or bytes behind the first, or no text
abbrev pub PathBreaks : Breaking
PathBreaks b rest why =
    ((has_no_zero b ≡ true) × (rest ≡ b) × (why ≡ PathEnd))
    ⊎ (((t : List ℕ) × (has_no_zero t ≡ true) × (b ≡ t ++ 0 ∷ rest) × (0 < length rest) × (why ≡ Trailing))
    ⊎ ((t : List ℕ) × (has_no_zero t ≡ true) × (b ≡ t ++ 0 ∷ []) × (is_utf8 t ≡ false) × (rest ≡ b) × (why ≡ Utf8)))

-- a name of a stated length: not there whole, or not ended by its only zero byte, or no text
abbrev pub NameBreaks : ℕ → Breaking
NameBreaks len =
    CheckBreaks (λ s. is_utf8 (take (len - 1) s)) Utf8 (Checked (ends_name len) (IsRaw len))
    (CheckBreaks (ends_name len) PathEnd (IsRaw len) (IsShort len))

-- ---- calls

abbrev pub CountBreaks : Breaking
CountBreaks = CheckBreaks is_some Count Byte (IsShort 1)

abbrev pub CountedArgsBreak : Breaking
CountedArgsBreak = ThenBreaks (Checked is_some Byte) CountBreaks (λ n. EachBreaks (λ _. IsValue) (λ _. BreaksSmall) n)

abbrev pub ArgsBreak : Bool → Breaking
ArgsBreak raw = ChosenBreaks raw NeverBreaks (EndBreaks Trailing IsCountedArgs CountedArgsBreak)

abbrev pub MethodIdBreaks : CallHead → Breaking
MethodIdBreaks h = IsShort (byte_len (method_width h.wide_method))

abbrev pub IdCallBreaks : CallHead → Breaking
IdCallBreaks h = ThenBreaks (MethodId h) (MethodIdBreaks h) (λ method. ArgsBreak h.raw)

abbrev pub PathCallBreaks : CallHead → ℕ → Breaking
PathCallBreaks h n =
    ThenBreaks (MethodId h) (MethodIdBreaks h) (λ method.
    ThenBreaks (Region n (IsArgs h.raw)) (RegionBreaks n (ArgsBreak h.raw)) (λ args. PathBreaks))

abbrev pub TargetCallBreaks : CallHead → ℕ → Breaking
TargetCallBreaks h id = ChosenBreaks (is_offset h.node id) (PathCallBreaks h (id - 2147483648 - method_end h)) (IdCallBreaks h)

abbrev pub CallBreaks : CallHead → Breaking
CallBreaks h = FittingBreaks (offset_fits h) PathEnd (Id h) (IsShort (byte_len (width_of h.node))) (TargetCallBreaks h)

-- ---- names and confirms

abbrev pub DigitBreaks : Breaking
DigitBreaks = CheckBreaks is_digit Digits Byte (IsShort 1)

-- each digit is a field
abbrev pub DigestBreaks : Breaking
DigestBreaks = EachBreaks (λ _. IsDigits) (λ _. ThenBreaks IsDigit DigitBreaks (λ high. DigitBreaks)) 16

abbrev pub SimplifyBreaks : Breaking
SimplifyBreaks =
    ThenBreaks IsDigest DigestBreaks (λ digest.
    ThenBreaks (Checked is_zero Byte) (CheckBreaks is_zero Digits Byte (IsShort 1)) (λ _.
    ThenBreaks Word WordBreaks (λ id. PathBreaks)))

abbrev pub FlagBreaks : Breaking
FlagBreaks = CheckBreaks is_flag Digits Byte (IsShort 1)

abbrev pub ConfirmBreaks : Breaking
ConfirmBreaks = ThenBreaks IsFlag FlagBreaks (λ ok. EndBreaks Trailing Word WordBreaks)

-- ---- spawns

abbrev pub ArgBreaks : Breaking
ArgBreaks = ThenBreaks Word WordBreaks (λ size. RegionBreaks size (EndBreaks Size IsValue BreaksSmall))

abbrev pub ArgForBreaks : ℕ → Breaking
ArgForBreaks scene = ChosenBreaks (nat_eq scene 255) ArgBreaks NeverBreaks

abbrev pub SpawnBreaks : Breaking
SpawnBreaks =
    ThenBreaks Byte (IsShort 1) (λ scene.
    ThenBreaks Word WordBreaks (λ spawner.
    ThenBreaks Word WordBreaks (λ net.
    ThenBreaks Word WordBreaks (λ count.
    ThenBreaks (Checked is_some Word) (CheckBreaks is_some PathEnd Word WordBreaks) (λ len.
    ThenBreaks (IsIds count) (IdsBreak count) (λ syncs.
    ThenBreaks (IsNameOf len) (NameBreaks len) (λ name.
    ThenBreaks (IsArgFor scene) (ArgForBreaks scene) (λ arg. ValuesBreak))))))))

abbrev pub DespawnBreaks : Breaking
DespawnBreaks = EndBreaks Trailing Word WordBreaks

-- ---- samples and changes

abbrev pub SizedValuesBreak : Breaking
SizedValuesBreak = ThenBreaks Word WordBreaks (λ size. RegionBreaks size ValuesBreak)

abbrev pub EntryBreaks : Breaking
EntryBreaks = ThenBreaks Word WordBreaks (λ id. SizedValuesBreak)

abbrev pub DeltaEntryBreaks : Breaking
DeltaEntryBreaks = ThenBreaks Word WordBreaks (λ id. ThenBreaks LongWord (IsShort 8) (λ mask. SizedValuesBreak))

abbrev pub SyncBreaks : Breaking
SyncBreaks = ThenBreaks HalfWord (IsShort 2) (λ tick. FillBreaks IsEntry EntryBreaks)

abbrev pub DeltaBreaks : Breaking
DeltaBreaks = FillBreaks IsDeltaEntry DeltaEntryBreaks

-- ---- whole packets

abbrev pub PlainOfBreaks : Head → Breaking
PlainOfBreaks (head.Call h) = CallBreaks h
PlainOfBreaks head.Simplify = SimplifyBreaks
PlainOfBreaks head.Confirm = ConfirmBreaks
PlainOfBreaks head.Raw = NeverBreaks
PlainOfBreaks head.Spawn = SpawnBreaks
PlainOfBreaks head.Despawn = DespawnBreaks
PlainOfBreaks head.Sync = SyncBreaks
PlainOfBreaks head.Delta = DeltaBreaks
PlainOfBreaks head.System = λ b rest why. (rest ≡ b) × (why ≡ Nested)

-- a system packet in a relay is Nested at its first byte
abbrev pub InnerBreaks : Breaking
InnerBreaks = ThenBreaks (Checked is_plain IsHead) (CheckBreaks is_plain Nested IsHead HeadBreaks) PlainOfBreaks

abbrev pub PayloadBreaks : ℕ → ℤ → Breaking
PayloadBreaks sub peer =
    ChosenBreaks (nat_eq sub 0) NeverBreaks
    (ChosenBreaks (nat_eq sub 1) (EndBreaks Trailing (IsDone (message.AddPeer peer)) NeverBreaks)
    (ChosenBreaks (nat_eq sub 2) (EndBreaks Trailing (IsDone (message.DelPeer peer)) NeverBreaks)
    InnerBreaks))

abbrev pub SystemBreaks : Breaking
SystemBreaks =
    ThenBreaks (Checked is_subcommand Byte) (CheckBreaks is_subcommand Command Byte (IsShort 1)) (λ sub.
    ThenBreaks SpellsShort (IsShort 4) (PayloadBreaks sub))

abbrev pub MessageOfBreaks : Head → Breaking
MessageOfBreaks h = ChosenBreaks (is_plain h) (PlainOfBreaks h) SystemBreaks

abbrev pub MessageBreaks : Breaking
MessageBreaks = ThenBreaks IsHead HeadBreaks MessageOfBreaks
