-- Which bytes are a packet of a message: a first byte, and behind it the layout of its command.
use Rattle.std.specs.Prelude.{◌≡◌, ℕ, ◌+◌, ◌-◌, ◌*◌, ◌<◌, ◌^◌, ℤ, Bool, true, List, [], ◌∷◌, ◌++◌, length, Some, None, Option, nat_eq}
use Rattle.std.specs.Int.{w8, w16, w64, byte_len}
use Rattle.gd_variant.specs.Tree.{plain as tree_of}
use Rattle.gd_variant.specs.Sound.{is_text, nesting}
use Rattle.gd_variant.specs.declared.value.Variant.{Variant}
use Rattle.gd_variant.specs.declared.message.Entry.{Entry}
use Rattle.gd_variant.specs.declared.message.DeltaEntry.{DeltaEntry}
use Rattle.gd_variant.specs.declared.message.Target.TheVariants as target
use Rattle.gd_variant.specs.declared.message.Plain.{Plain}
use Rattle.gd_variant.specs.declared.message.Plain.TheVariants as plain
use Rattle.gd_variant.specs.declared.message.Message.{Message}
use Rattle.gd_variant.specs.declared.message.Message.TheVariants as message
use Rattle.variant_codec.specs.Grammar.{SpellsSmall}
use Rattle.variant_codec.specs.Parts.{SpellsShort, SpellsEach}
use Rattle.variant_codec.specs.Readers.{Relation, IsWord, IsDone, Mapped, Checked, Then, EachOf}
use Rattle.variant_codec.specs.Breaks.{Word}
use Rattle.packet_form.specs.declared.head.CallHead.{CallHead}
use Rattle.packet_form.specs.declared.head.Head.{Head}
use Rattle.packet_form.specs.declared.head.Head.TheVariants as head
use Rattle.packet_form.specs.Head.{is_command, has_width, head_of, is_plain, width_of, method_width}
use Rattle.packet_form.specs.Wholes.{IsRest, Fitting, Region, Chosen}
use Rattle.packet_form.specs.Tests.{is_some, raw_args, is_offset, method_end, offset_fits, is_digit, digit_of, is_zero, is_flag, entry_of, delta_entry_of, is_subcommand}

-- ---- fields

-- a number of one byte, of two and of eight
abbrev pub Byte : Relation ℕ
Byte = IsWord w8 (2 ^ 8)

abbrev pub HalfWord : Relation ℕ
HalfWord = IsWord w16 (2 ^ 16)

abbrev pub LongWord : Relation ℕ
LongWord = IsWord w64 (2 ^ 64)

-- a number of one, two or four bytes
abbrev pub Id : CallHead → Relation ℕ
Id h = IsWord (width_of h.node) (2 ^ (8 * byte_len (width_of h.node)))

abbrev pub MethodId : CallHead → Relation ℕ
MethodId h = IsWord (method_width h.wide_method) (2 ^ (8 * byte_len (method_width h.wide_method)))

abbrev pub IsHead : Relation Head
IsHead = Mapped head_of (Checked has_width (Checked is_command Byte))

-- a compressed value that nests 32 deep at most
abbrev pub IsValue : Relation Variant
IsValue v b = (nesting (tree_of v) < 33) × SpellsSmall (tree_of v) b

abbrev pub IsValues : Relation (List Variant)
IsValues = SpellsEach IsValue

abbrev pub IsIds : ℕ → Relation (List ℕ)
IsIds n = EachOf (λ _. Word) n

-- a text and a zero byte
abbrev pub IsPath : Relation (List ℕ)
IsPath t b = (is_text t ≡ true) × (b ≡ t ++ 0 ∷ [])

-- the same with a length that was stated
abbrev pub IsNameOf : ℕ → Relation (List ℕ)
IsNameOf len t b = (length t + 1 ≡ len) × IsPath t b

-- ---- calls

abbrev pub IsCountedArgs : Relation (List Variant)
IsCountedArgs = Then (Checked is_some Byte) (λ n. EachOf (λ _. IsValue) n)

-- the arguments: raw bytes, or a count and as many values
abbrev pub IsArgs : Bool → Relation (List Variant)
IsArgs raw = Chosen raw (Mapped raw_args IsRest) IsCountedArgs

abbrev pub IsIdCall : CallHead → ℕ → Relation Plain
IsIdCall h id = Then (MethodId h) (λ method. Mapped (λ args. plain.Call (target.Id id) method args) (IsArgs h.raw))

abbrev pub IsPathCall : CallHead → ℕ → Relation Plain
IsPathCall h n =
    Then (MethodId h) (λ method.
    Then (Region n (IsArgs h.raw)) (λ args.
    Mapped (λ path. plain.Call (target.At path) method args) IsPath))

abbrev pub IsTargetCall : CallHead → ℕ → Relation Plain
IsTargetCall h id = Chosen (is_offset h.node id) (IsPathCall h (id - 2147483648 - method_end h)) (IsIdCall h id)

-- a node id, a method id and arguments; with the offset of a path in place of the id, the path stands there
abbrev pub IsCall : CallHead → Relation Plain
IsCall h = Fitting (offset_fits h) (Id h) (IsTargetCall h)

-- ---- names and confirms

abbrev pub IsDigit : Relation ℕ
IsDigit = Mapped digit_of (Checked is_digit Byte)

-- a byte of a digest, its high digit first
abbrev pub IsDigits : Relation ℕ
IsDigits = Then IsDigit (λ high. Mapped (λ low. 16 * high + low) IsDigit)

-- 32 lower-case hexadecimal digits
abbrev pub IsDigest : Relation (List ℕ)
IsDigest = EachOf (λ _. IsDigits) 16

-- digits, a zero byte, an id, a path
abbrev pub IsSimplify : Relation Plain
IsSimplify =
    Then IsDigest (λ digest.
    Then (Checked is_zero Byte) (λ _.
    Then Word (λ id.
    Mapped (λ path. plain.Simplify digest id path) IsPath)))

abbrev pub IsFlag : Relation Bool
IsFlag = Mapped is_some (Checked is_flag Byte)

-- a byte 0 or 1, an id
abbrev pub IsConfirm : Relation Plain
IsConfirm = Then IsFlag (λ ok. Mapped (λ id. plain.Confirm ok id) Word)

-- ---- spawns

-- a size, and one value of so many bytes
abbrev pub IsArg : Relation Variant
IsArg = Then Word (λ size. Region size IsValue)

abbrev pub IsArgFor : ℕ → Relation (Option Variant)
IsArgFor scene = Chosen (nat_eq scene 255) (Mapped (λ v. Some v) IsArg) (IsDone None)

-- scene, spawner, net id, number of ids, length of the name, ids, name, custom argument, values
abbrev pub IsSpawn : Relation Plain
IsSpawn =
    Then Byte (λ scene.
    Then Word (λ spawner.
    Then Word (λ net.
    Then Word (λ count.
    Then (Checked is_some Word) (λ len.
    Then (IsIds count) (λ syncs.
    Then (IsNameOf len) (λ name.
    Then (IsArgFor scene) (λ arg.
    Mapped (λ values. plain.Spawn scene spawner net syncs name arg values) IsValues))))))))

abbrev pub IsDespawn : Relation Plain
IsDespawn = Mapped (λ net. plain.Despawn net) Word

-- ---- samples and changes

-- a size, and values of so many bytes
abbrev pub IsSizedValues : Relation (List Variant)
IsSizedValues = Then Word (λ size. Region size IsValues)

abbrev pub IsEntry : Relation Entry
IsEntry = Then Word (λ id. Mapped (entry_of id) IsSizedValues)

abbrev pub IsDeltaEntry : Relation DeltaEntry
IsDeltaEntry = Then Word (λ id. Then LongWord (λ mask. Mapped (delta_entry_of id mask) IsSizedValues))

abbrev pub IsSync : Relation Plain
IsSync = Then HalfWord (λ tick. Mapped (λ entries. plain.Sync tick entries) (SpellsEach IsEntry))

abbrev pub IsDelta : Relation Plain
IsDelta = Mapped (λ entries. plain.Delta entries) (SpellsEach IsDeltaEntry)

-- ---- whole packets

-- what stands behind a first byte
abbrev pub IsPlainOf : Head → Relation Plain
IsPlainOf (head.Call h) = IsCall h
IsPlainOf head.Simplify = IsSimplify
IsPlainOf head.Confirm = IsConfirm
IsPlainOf head.Raw = Mapped (λ s. plain.Raw s) IsRest
IsPlainOf head.Spawn = IsSpawn
IsPlainOf head.Despawn = IsDespawn
IsPlainOf head.Sync = IsSync
IsPlainOf head.Delta = IsDelta
IsPlainOf head.System = λ p b. ⊥

-- a packet that one peer means for another
abbrev pub IsInner : Relation Plain
IsInner = Then (Checked is_plain IsHead) IsPlainOf

-- the payload of a system packet
abbrev pub IsPayload : ℕ → ℤ → Relation Message
IsPayload sub peer =
    Chosen (nat_eq sub 0) (Mapped (λ bytes. message.Auth peer bytes) IsRest)
    (Chosen (nat_eq sub 1) (IsDone (message.AddPeer peer))
    (Chosen (nat_eq sub 2) (IsDone (message.DelPeer peer))
    (Mapped (λ inner. message.Relay peer inner) IsInner)))

-- a subcommand, a peer, a payload
abbrev pub IsSystem : Relation Message
IsSystem = Then (Checked is_subcommand Byte) (λ sub. Then SpellsShort (IsPayload sub))

abbrev pub IsMessageOf : Head → Relation Message
IsMessageOf h = Chosen (is_plain h) (Mapped (λ p. message.Plain p) (IsPlainOf h)) IsSystem

-- the bytes are a packet of the message
abbrev pub IsMessage : Relation Message
IsMessage = Then IsHead IsMessageOf
