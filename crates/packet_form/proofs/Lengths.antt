-- How long the parts of a written packet are.
use Rattle.std.proofs.Common.{◌≡◌, ℕ, ◌+◌, ◌*◌, ◌/◌, ◌%◌, ◌<◌, ◌^◌, Bool, true, false, List, [], ◌∷◌, ◌++◌, length, refl, ◌∙◌, arith}
use Rattle.std.specs.Prelude.{ℤ, Option, Some}
use Rattle.std.specs.List.{flat_map}
use Rattle.std.specs.Int.{w8, w16, w32, w64, byte_len}
use Rattle.std.proofs.lemmas.List.{length-append}
use Rattle.byte_fields.specs.Fields.{word}
use Rattle.byte_fields.specs.Complement.{bits_of, half32}
use Rattle.byte_fields.proofs.Fields.{wide8, wide16, wide32, wide64, length-word}
use Rattle.gd_variant.specs.declared.value.Variant.{Variant}
use Rattle.gd_variant.specs.declared.message.Entry.{Entry}
use Rattle.gd_variant.specs.declared.message.DeltaEntry.{DeltaEntry}
use Rattle.gd_variant.specs.declared.message.Target.{Target}
use Rattle.variant_codec.specs.Written.{written_short}
use Rattle.packet_form.specs.declared.head.NodeWidth.{NodeWidth}
use Rattle.packet_form.specs.declared.head.NodeWidth.TheVariants.{One, Two, Four}
use Rattle.packet_form.specs.Head.{width_of, method_width, method_size, call_byte}
use Rattle.packet_form.specs.Tests.{method_end}
use Rattle.packet_form.specs.Written.{written_value, written_values, ids_bytes, sized_bytes, args_bytes, target_width, head_for, node_number, target_bytes, is_wide_method, is_raw, raw_bytes, call_bytes, digit, digits_of, simplify_bytes, arg_bytes, spawn_bytes, entry_bytes, delta_entry_bytes, system_bytes}

-- ---- numbers

pub byte_size : (n : ℕ) → length (word w8 n) ≡ 1
byte_size n = length-word w8 (2 ^ 8) wide8 n

pub half_size : (n : ℕ) → length (word w16 n) ≡ 2
half_size n = length-word w16 (2 ^ 16) wide16 n

pub word_size : (n : ℕ) → length (word w32 n) ≡ 4
word_size n = length-word w32 (2 ^ 32) wide32 n

pub long_size : (n : ℕ) → length (word w64 n) ≡ 8
long_size n = length-word w64 (2 ^ 64) wide64 n

pub node_size : (k : NodeWidth) (n : ℕ) → length (word (width_of k) n) ≡ byte_len (width_of k)
node_size One n = byte_size n
node_size Two n = half_size n
node_size Four n = word_size n

pub method_length : (wide : Bool) (n : ℕ) → length (word (method_width wide) n) ≡ method_size wide
method_length true n = half_size n
method_length false n = byte_size n

-- ---- one after the other

-- each of the same length
pub each_size : {X : Type 0} (write : X → List ℕ) (n : ℕ) → ((x : X) → length (write x) ≡ n) → (xs : List X) → length (flat_map write xs) ≡ n * length xs
each_size write n each [] = omega arith
each_size write n each (x ∷ xs) = omega (arith, each x, each_size write n each xs, length-append (write x) (flat_map write xs))

pub ids_size : (ids : List ℕ) → length (ids_bytes ids) ≡ 4 * length ids
ids_size ids = each_size (word w32) 4 word_size ids

digits_size : (n : ℕ) → length (digits_of n) ≡ 2
digits_size n = omega (arith, length-append (word w8 (digit (n / 16))) (word w8 (digit (n % 16))), byte_size (digit (n / 16)), byte_size (digit (n % 16)))

pub digest_size : (digest : List ℕ) → length (flat_map digits_of digest) ≡ 2 * length digest
digest_size digest = each_size digits_of 2 digits_size digest

-- ---- parts

pub text_size : (t : List ℕ) → length (t ++ 0 ∷ []) ≡ length t + 1
text_size t = length-append t (0 ∷ [])

pub sized_size : (vs : List Variant) → length (sized_bytes vs) ≡ 4 + length (written_values vs)
unfolding sized_bytes
sized_size vs = omega (arith, length-append (word w32 (length (written_values vs))) (written_values vs), word_size (length (written_values vs)))

pub entry_size : (e : Entry) → length (entry_bytes e) ≡ 8 + length (written_values e.values)
unfolding entry_bytes
entry_size e = omega (arith, length-append (word w32 e.id) (sized_bytes e.values), word_size e.id, sized_size e.values)

pub delta_entry_size : (e : DeltaEntry) → length (delta_entry_bytes e) ≡ 16 + length (written_values e.values)
unfolding delta_entry_bytes
delta_entry_size e =
    omega (
      arith,
      length-append (word w32 e.id) (word w64 e.mask ++ sized_bytes e.values),
      length-append (word w64 e.mask) (sized_bytes e.values),
      word_size e.id,
      long_size e.mask,
      sized_size e.values,
    )

pub arg_size : (v : Variant) → length (arg_bytes (Some v)) ≡ 4 + length (written_value v)
arg_size v = omega (arith, length-append (word w32 (length (written_value v))) (written_value v), word_size (length (written_value v)))

-- no argument or raw bytes, or a count and values
pub raw_size : (args : List Variant) → is_raw args ≡ true → length (args_bytes args) ≡ length (raw_bytes args)
unfolding args_bytes
raw_size args raw = rw raw refl

pub counted_size : (args : List Variant) → is_raw args ≡ false → length (args_bytes args) ≡ 1 + length (written_values args)
unfolding args_bytes
counted_size args counted = rw counted (omega (arith, length-append (word w8 (length args)) (written_values args), byte_size (length args)))

-- ---- packets

-- a number in front
pub byte_front : (n : ℕ) (b : List ℕ) → length (word w8 n ++ b) ≡ 1 + length b
byte_front n b = omega (arith, length-append (word w8 n) b, byte_size n)

pub half_front : (n : ℕ) (b : List ℕ) → length (word w16 n ++ b) ≡ 2 + length b
half_front n b = omega (arith, length-append (word w16 n) b, half_size n)

pub call_size : (t : Target) (method : ℕ) (args : List Variant) → length (call_bytes t method args) ≡ 1 + byte_len (width_of (target_width t)) + method_size (is_wide_method method) + length (args_bytes args) + length (target_bytes t)
unfolding call_bytes
call_size t method args =
    let h = head_for t method args in
    let n = node_number t (method_end h + length (args_bytes args)) in
    let node = word (width_of (target_width t)) n in
    let m = word (method_width (is_wide_method method)) method in
    omega (
      arith,
      length-append (word w8 (call_byte h)) (node ++ (m ++ (args_bytes args ++ target_bytes t))),
      length-append node (m ++ (args_bytes args ++ target_bytes t)),
      length-append m (args_bytes args ++ target_bytes t),
      length-append (args_bytes args) (target_bytes t),
      byte_size (call_byte h),
      node_size (target_width t) n,
      method_length (is_wide_method method) method,
    )

pub simplify_size : (digest : List ℕ) (id : ℕ) (path : List ℕ) → length (simplify_bytes digest id path) ≡ 7 + 2 * length digest + length path
unfolding simplify_bytes
simplify_size digest id path =
    let digits = flat_map digits_of digest in
    omega (
      arith,
      length-append (word w8 1) (digits ++ (word w8 0 ++ (word w32 id ++ (path ++ 0 ∷ [])))),
      length-append digits (word w8 0 ++ (word w32 id ++ (path ++ 0 ∷ []))),
      length-append (word w8 0) (word w32 id ++ (path ++ 0 ∷ [])),
      length-append (word w32 id) (path ++ 0 ∷ []),
      text_size path,
      byte_size 1,
      digest_size digest,
      byte_size 0,
      word_size id,
    )

pub spawn_size : (scene spawner net : ℕ) (syncs name values : List ℕ) → length (spawn_bytes scene spawner net syncs name values) ≡ 19 + 4 * length syncs + length name + length values
unfolding spawn_bytes
spawn_size scene spawner net syncs name values = omega (
  arith,
  length-append (word w8 4) (word w8 scene ++ (word w32 spawner ++ (word w32 net ++ (word w32 (length syncs) ++ (word w32 (length name + 1) ++ (ids_bytes syncs ++ (name ++ (0 ∷ values)))))))),
  length-append (word w8 scene) (word w32 spawner ++ (word w32 net ++ (word w32 (length syncs) ++ (word w32 (length name + 1) ++ (ids_bytes syncs ++ (name ++ (0 ∷ values))))))),
  length-append (word w32 spawner) (word w32 net ++ (word w32 (length syncs) ++ (word w32 (length name + 1) ++ (ids_bytes syncs ++ (name ++ (0 ∷ values)))))),
  length-append (word w32 net) (word w32 (length syncs) ++ (word w32 (length name + 1) ++ (ids_bytes syncs ++ (name ++ (0 ∷ values))))),
  length-append (word w32 (length syncs)) (word w32 (length name + 1) ++ (ids_bytes syncs ++ (name ++ (0 ∷ values)))),
  length-append (word w32 (length name + 1)) (ids_bytes syncs ++ (name ++ (0 ∷ values))),
  length-append (ids_bytes syncs) (name ++ (0 ∷ values)),
  length-append name (0 ∷ values),
  ids_size syncs,
  byte_size 4,
  byte_size scene,
  word_size spawner,
  word_size net,
  word_size (length syncs),
  word_size (length name + 1),
)

pub filled_spawn_size : (scene spawner net : ℕ) (syncs name : List ℕ) (arg : Option Variant) (values : List Variant) → length (spawn_bytes scene spawner net syncs name (arg_bytes arg ++ written_values values)) ≡ 19 + 4 * length syncs + length name + length (arg_bytes arg) + length (written_values values)
filled_spawn_size scene spawner net syncs name arg values = omega (arith, spawn_size scene spawner net syncs name (arg_bytes arg ++ written_values values), length-append (arg_bytes arg) (written_values values))

pub system_size : (sub : ℕ) (peer : ℤ) (payload : List ℕ) → length (system_bytes sub peer payload) ≡ 6 + length payload
unfolding system_bytes
system_size sub peer payload =
    omega (
      arith,
      length-append (word w8 7) (word w8 sub ++ (written_short peer ++ payload)),
      length-append (word w8 sub) (written_short peer ++ payload),
      length-append (written_short peer) payload,
      byte_size 7,
      byte_size sub,
      word_size (bits_of half32 peer),
    )
