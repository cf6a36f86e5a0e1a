-- The written form of a call is a call.
use Rattle.std.proofs.Common.{◌≡◌, ℕ, ◌+◌, ◌-◌, ◌*◌, ◌^◌, ◌<◌, ◌≤◌, Bool, true, false, List, [], ◌∷◌, ◌++◌, length, refl, sym, ap, subst, arith, inl, inr}
use Rattle.std.specs.Prelude.{not, ◌&&◌, ◌||◌, nat_le, nat_lt}
use Rattle.std.specs.Int.{w8, w32, byte_len}
use Rattle.std.proofs.lemmas.Bool.{cases_Bool, ltb-true, le-leb, lt-leb, lt-ltb, ne_eqb}
use Rattle.std.proofs.lemmas.List.{length-append, append-nil}
use Rattle.byte_fields.specs.Fields.{word}
use Rattle.gd_variant.specs.Sound.{is_text}
use Rattle.gd_variant.specs.declared.value.Variant.{Variant}
use Rattle.gd_variant.specs.declared.value.Variant.TheVariants.{PackedBytes}
use Rattle.gd_variant.specs.declared.message.Target.{Target}
use Rattle.gd_variant.specs.declared.message.Target.TheVariants as target
use Rattle.gd_variant.specs.declared.message.Plain.TheVariants as plain
use Rattle.variant_codec.specs.Readers.{Relation}
use Rattle.packet_form.specs.declared.head.NodeWidth.{NodeWidth}
use Rattle.packet_form.specs.declared.head.NodeWidth.TheVariants.{One, Two, Four}
use Rattle.packet_form.specs.declared.head.CallHead.{CallHead}
use Rattle.packet_form.specs.declared.head.Head.TheVariants as head
use Rattle.packet_form.specs.Head.{is_command, has_width, head_of, width_of, method_width, method_size, call_byte}
use Rattle.packet_form.specs.Wholes.{Chosen}
use Rattle.packet_form.specs.Tests.{is_some, raw_args, is_offset, method_end, offset_fits}
use Rattle.packet_form.specs.Grammar.{MethodId, IsHead, IsArgs, IsIdCall, IsPathCall, IsTargetCall, IsCall}
use Rattle.packet_form.specs.Written.{written_values, AreSound, fewest_node, is_wide_method, is_raw, raw_bytes, args_bytes, target_width, head_for, node_number, target_bytes, call_bytes, FitsTarget}
use Rattle.packet_form.proofs.WrittenParts.{counted_values}
use Rattle.packet_form.proofs.Lengths.{call_size, method_length, text_size}

-- ---- the first byte

record Byte (n : ℕ) (h : CallHead) : Type 0 where
  same : head_of n ≡ head.Call h
  width : has_width n ≡ true
  command : is_command n ≡ true
  fits : n < 2 ^ 8

abbrev flags : NodeWidth → Bool → Bool → CallHead
flags k wide raw = record { node = k; wide_method = wide; raw = raw }

byte_is : (k : NodeWidth) (wide raw : Bool) → Byte (call_byte (flags k wide raw)) (flags k wide raw)
unfolding head_of
byte_is One false false = record { same = refl; width = refl; command = refl; fits = omega arith }
byte_is One false true = record { same = refl; width = refl; command = refl; fits = omega arith }
byte_is One true false = record { same = refl; width = refl; command = refl; fits = omega arith }
byte_is One true true = record { same = refl; width = refl; command = refl; fits = omega arith }
byte_is Two false false = record { same = refl; width = refl; command = refl; fits = omega arith }
byte_is Two false true = record { same = refl; width = refl; command = refl; fits = omega arith }
byte_is Two true false = record { same = refl; width = refl; command = refl; fits = omega arith }
byte_is Two true true = record { same = refl; width = refl; command = refl; fits = omega arith }
byte_is Four false false = record { same = refl; width = refl; command = refl; fits = omega arith }
byte_is Four false true = record { same = refl; width = refl; command = refl; fits = omega arith }
byte_is Four true false = record { same = refl; width = refl; command = refl; fits = omega arith }
byte_is Four true true = record { same = refl; width = refl; command = refl; fits = omega arith }

pub call_head_written : (h : CallHead) → IsHead (head.Call h) (word w8 (call_byte h))
call_head_written h = let b = byte_is h.node h.wide_method h.raw in (call_byte h, sym b.same, (b.width, (b.command, (b.fits, refl))))

-- ---- numbers

node_fits : (id : ℕ) → id < 2147483648 → id < 2 ^ (8 * byte_len (width_of (fewest_node id)))
node_fits id lt =
    elim (cases_Bool (nat_lt id 256)) [
      | inl a ↦ rw a (ltb-true id 256 a)
      | inr a ↦ elim (cases_Bool (nat_lt id 65536)) [
        | inl b ↦ rw (a, b) (ltb-true id 65536 b)
        | inr b ↦ rw (a, b) (omega (arith, lt))
      ]
    ]

method_fits : (method : ℕ) → method < 2 ^ 16 → method < 2 ^ (8 * byte_len (method_width (is_wide_method method)))
method_fits method lt =
    elim (cases_Bool (nat_lt method 256)) [
      | inl a ↦ rw a (ltb-true method 256 a)
      | inr a ↦ rw a lt
    ]

or_true : (b : Bool) → (b || true) ≡ true
or_true true = refl
or_true false = refl

-- a node's id is no offset
no_offset : (k : NodeWidth) (id : ℕ) → id < 2147483648 → is_offset k id ≡ false
no_offset One id lt = refl
no_offset Two id lt = refl
no_offset Four id lt = lt-leb 2147483648 id lt

-- ---- arguments

raw_again : (args : List Variant) → is_raw args ≡ true → args ≡ raw_args (raw_bytes args)
raw_again [] h = refl
raw_again (PackedBytes [] ∷ []) h = absurd cc
raw_again (PackedBytes (b ∷ bytes) ∷ []) h = refl
raw_again (PackedBytes bytes ∷ v ∷ args) h = absurd cc
raw_again (v ∷ args) h = absurd cc

some_args : (args : List Variant) → is_raw args ≡ false → is_some (length args) ≡ true
some_args [] h = absurd cc
some_args (v ∷ args) h = ap not (ne_eqb (length (v ∷ args)) 0 (λ e. omega (arith, e)))

args_written : (args : List Variant) → length args ≤ 255 → AreSound args → IsArgs (is_raw args) args (args_bytes args)
unfolding args_bytes
args_written args few sound =
    elim (cases_Bool (is_raw args)) [
      | inl a ↦ rw a (raw_bytes args, raw_again args a, refl)
      | inr a ↦ rw a (length args, word w8 (length args), written_values args, (some_args args a, (omega (arith, few), refl)), counted_values args sound, refl)
    ]

-- ---- whole calls

-- the form behind the first byte
abbrev behind : Target → ℕ → List Variant → List ℕ
behind t method args =
    word (width_of (target_width t)) (node_number t (method_end (head_for t method args) + length (args_bytes args)))
    ++ (word (method_width (is_wide_method method)) method ++ (args_bytes args ++ target_bytes t))

first_of_two : {X : Type 0} (test : Bool) (R S : Relation X) (x : X) (b : List ℕ) → test ≡ true → R x b → Chosen test R S x b
first_of_two test R S x b e r = rw e r

second_of_two : {X : Type 0} (test : Bool) (R S : Relation X) (x : X) (b : List ℕ) → test ≡ false → S x b → Chosen test R S x b
second_of_two test R S x b e s = rw e s

id_call : (h : CallHead) (id method : ℕ) (args : List Variant) (b c : List ℕ) → id < 2147483648 → MethodId h method b → IsArgs h.raw args c → IsTargetCall h id (plain.Call (target.Id id) method args) (b ++ c)
id_call h id method args b c lt m a =
    second_of_two (is_offset h.node id) (IsPathCall h (id - 2147483648 - method_end h)) (IsIdCall h id) (plain.Call (target.Id id) method args) (b ++ c) (no_offset h.node id lt)
    (method, b, c, m, (args, refl, a), refl)

path_call : (h : CallHead) (n method : ℕ) (args : List Variant) (path b c : List ℕ) → h.node ≡ Four → n ≡ 2147483648 + (method_end h + length c) → is_text path ≡ true → MethodId h method b → IsArgs h.raw args c → IsTargetCall h n (plain.Call (target.At path) method args) (b ++ (c ++ (path ++ 0 ∷ [])))
path_call h n method args path b c four at text m a =
    first_of_two (is_offset h.node n) (IsPathCall h (n - 2147483648 - method_end h)) (IsIdCall h n) (plain.Call (target.At path) method args) (b ++ (c ++ (path ++ 0 ∷ []))) (rw four (le-leb 2147483648 n (omega (arith, at))))
    (method, b, c ++ (path ++ 0 ∷ []), m, (args, c, path ++ 0 ∷ [], (omega (arith, at), a), (path, refl, (text, refl)), refl), refl)

-- the offset is behind the method id and within the packet
offset_is_right : (h : CallHead) (n count left : ℕ) → n ≡ 2147483648 + (method_end h + count) → method_size h.wide_method + count < left → offset_fits h n left ≡ true
offset_is_right h n count left at lt =
    let after : nat_le (method_end h) (n - 2147483648) ≡ true = le-leb (method_end h) (n - 2147483648) (omega (arith, at)) in
    let within : nat_lt (n - 2147483648) (5 + left) ≡ true = lt-ltb (n - 2147483648) (5 + left) (omega (arith, at, lt)) in
    rw (after, within) (or_true (not (is_offset h.node n)))

pub call_written : (t : Target) (method : ℕ) (args : List Variant) → FitsTarget t → method < 2 ^ 16 → length args ≤ 255 → AreSound args → length (call_bytes t method args) ≤ 8388608 → IsCall (head_for t method args) (plain.Call t method args) (behind t method args)
call_written (target.Id id) method args fits method_below few sound short =
    let h = head_for (target.Id id) method args in
    let args_right : IsArgs h.raw args (args_bytes args ++ []) = subst (IsArgs h.raw args) (sym (append-nil (args_bytes args))) (args_written args few sound) in
    let m = word (method_width (is_wide_method method)) method in (
      id,
      word (width_of (fewest_node id)) id,
      m ++ (args_bytes args ++ []),
      (node_fits id fits, refl),
      ap (λ b. not b || (nat_le (method_end h) (id - 2147483648) && nat_lt (id - 2147483648) (5 + length (m ++ (args_bytes args ++ []))))) (no_offset (fewest_node id) id fits),
      id_call h id method args m (args_bytes args ++ []) fits (method_fits method method_below, refl) args_right,
      refl,
    )
call_written (target.At path) method args fits method_below few sound short =
    let h = head_for (target.At path) method args in
    let n = 2147483648 + (method_end h + length (args_bytes args)) in
    let m = word (method_width (is_wide_method method)) method in
    let size = call_size (target.At path) method args in
    let more = length-append m (args_bytes args ++ (path ++ 0 ∷ [])) in
    let both = length-append (args_bytes args) (path ++ 0 ∷ []) in (
      n,
      word w32 n,
      m ++ (args_bytes args ++ (path ++ 0 ∷ [])),
      (omega (arith, size, short), refl),
      offset_is_right h n (length (args_bytes args)) (length (m ++ (args_bytes args ++ (path ++ 0 ∷ [])))) refl (omega (arith, more, both, text_size path, method_length (is_wide_method method) method)),
      path_call h n method args path m (args_bytes args) refl refl fits (method_fits method method_below, refl) (args_written args few sound),
      refl,
    )
