-- A message holds no more than its packet has bytes.
use Rattle.std.proofs.Common.{◌≡◌, ℕ, suc, ◌+◌, ◌-◌, ◌^◌, ◌≤◌, Bool, true, false, List, [], ◌∷◌, length, sym, ap, subst, arith, inl, inr}
use Rattle.std.specs.Prelude.{ℤ, Some, Result, Ok, Err, IfOk, nat_eq, nat_le, sum_by}
use Rattle.std.specs.Int.{w8, w16}
use Rattle.std.proofs.lemmas.Bool.{cases_Bool}
use Rattle.std.proofs.lemmas.List.{length-append}
use Rattle.std.proofs.lemmas.List.Sums.{sum_by-cons}
use Rattle.byte_fields.specs.Fields.{word}
use Rattle.byte_fields.proofs.Fields.{wide8, wide16, length-word}
use Rattle.gd_variant.specs.Tree.{Tree, Trees, nil, boolean, int, text, name, path, ints, opaque, dict, array, packed_bytes, packed_ints, packed_texts, none, item, plain as tree_of}
use Rattle.gd_variant.specs.Size.{text_size, int_width, tree_size, trees_size, small_tree_size}
use Rattle.gd_variant.specs.declared.value.Variant.TheVariants.{PackedBytes}
use Rattle.gd_variant.specs.declared.message.Target.TheVariants as target
use Rattle.gd_variant.specs.declared.message.Plain.TheVariants as plain
use Rattle.gd_variant.specs.declared.message.Message.{Message}
use Rattle.gd_variant.specs.declared.message.Message.TheVariants as message
use Rattle.variant_codec.specs.Parts.{SpellsEach}
use Rattle.variant_codec.specs.Readers.{Relation, Mapped, Then}
use Rattle.variant_codec.proofs.Fields.{each_to}
use Rattle.variant_codec.proofs.Spelled.{small_spelled_size}
use Rattle.packet_form.specs.declared.head.CallHead.{CallHead}
use Rattle.packet_form.specs.declared.head.Head.{Head}
use Rattle.packet_form.specs.declared.head.Head.TheVariants as head
use Rattle.packet_form.specs.Head.{is_plain, method_width}
use Rattle.packet_form.specs.Wholes.{IsRest, Fitting, Region, Chosen}
use Rattle.packet_form.specs.Tests.{raw_args, is_offset, method_end, offset_fits, entry_of, delta_entry_of}
use Rattle.packet_form.specs.Grammar.{MethodId, IsValue, IsValues, IsPath, IsNameOf, IsCountedArgs, IsArgs, IsIdCall, IsPathCall, IsCall, IsSimplify, IsConfirm, IsArg, IsArgFor, IsSpawn, IsDespawn, IsSizedValues, IsEntry, IsDeltaEntry, IsSync, IsDelta, IsPlainOf, IsInner, IsPayload, IsSystem, IsMessage}
use Rattle.packet_form.specs.Held.{bytes_of_texts, held_by, held_by_all, held_by_value, held_by_values, held_by_arg, held_by_plain, held_by_message}
use Rattle.packet_form.specs.Packets.{Frames}

-- ---- trees

text_held : (t : List ℕ) → length t ≤ text_size t
text_held t = omega arith

texts_held : (ts : List (List ℕ)) → bytes_of_texts ts ≤ sum_by text_size ts
texts_held [] = omega arith
texts_held (t ∷ ts) = omega (arith, sum_by-cons length t ts, sum_by-cons text_size t ts, text_held t, texts_held ts)

int_held : (z : ℤ) → 1 ≤ tree_size (int z)
int_held z = elim (cases_Bool (nat_le (int_width z) 4)) [ inl e ↦ rw e (omega arith) | inr e ↦ rw e (omega arith) ]

opaque_held : (c : ℕ) (w : Bool) (bytes : List ℕ) → suc (length bytes) ≤ tree_size (opaque c w bytes)
opaque_held c w bytes = elim (cases_Bool (nat_le 32 c)) [ inl e ↦ rw e (omega arith) | inr e ↦ rw e (omega arith) ]

mutual
  tree_held : (t : Tree) → held_by t ≤ tree_size t
  tree_held nil = omega arith
  tree_held (boolean x) = omega arith
  tree_held (int z) = int_held z
  tree_held (text t) = omega (arith, text_held t)
  tree_held (name t) = omega (arith, text_held t)
  tree_held (path a ns ss) = omega (arith, texts_held ns, texts_held ss)
  tree_held (ints c zs) = omega arith
  tree_held (opaque c w bytes) = opaque_held c w bytes
  tree_held (dict ts) = omega (arith, trees_held ts)
  tree_held (array ts) = omega (arith, trees_held ts)
  tree_held (packed_bytes bytes) = omega arith
  tree_held (packed_ints w zs) = omega arith
  tree_held (packed_texts ts) = omega (arith, texts_held ts)

  trees_held : (ts : Trees) → held_by_all ts ≤ trees_size ts
  trees_held none = omega arith
  trees_held (item t ts) = omega (arith, tree_held t, trees_held ts)

small_tree_held : (t : Tree) → held_by t ≤ small_tree_size t
small_tree_held (boolean x) = omega arith
small_tree_held (int z) = omega arith
small_tree_held t = tree_held t

-- ---- what a form holds

-- no more than so much, and a byte each beyond it
record HoldsWithin {X : Type 0} (held : X → ℕ) (more : ℕ) (R : Relation X) : Type 0 where
  within : (x : X) (b : List ℕ) → R x b → held x ≤ more + length b

-- a part holds so much, and what follows it counts on that
held_then : {X Y : Type 0} {R : Relation X} {S : X → Relation Y} {held : Y → ℕ} {more : ℕ} (part : X → ℕ) → HoldsWithin part 0 R → ((x : X) → HoldsWithin held (more + part x) (S x)) → HoldsWithin held more (Then R S)
held_then part one others = record { within = λ y b (x, front, back, r, s, e). omega (arith, one.within x front r, (others x).within y back s, ap length e, length-append front back) }

-- what follows a part holds it all
held_behind : {X Y : Type 0} {R : Relation X} {S : X → Relation Y} {held : Y → ℕ} {more : ℕ} → ((x : X) → HoldsWithin held more (S x)) → HoldsWithin held more (Then R S)
held_behind others = record { within = λ y b (x, front, back, r, s, e). omega (arith, (others x).within y back s, ap length e, length-append front back) }

held_seen : {X Y : Type 0} (f : X → Y) {R : Relation X} {held : Y → ℕ} {more : ℕ} → HoldsWithin (λ x. held (f x)) more R → HoldsWithin held more (Mapped f R)
held_seen f {held = held} {more = more} all = record { within = λ y b (x, e, r). subst (λ z. held z ≤ more + length b) (sym e) (all.within x b r) }

held_region : {X : Type 0} (n : ℕ) {R : Relation X} {held : X → ℕ} {more : ℕ} → HoldsWithin held more R → HoldsWithin held more (Region n R)
held_region n all = record { within = λ x b r. all.within x b r.1 }

held_fitting : {X Y : Type 0} (test : X → ℕ → Bool) {R : Relation X} {S : X → Relation Y} {held : Y → ℕ} {more : ℕ} → ((x : X) → HoldsWithin held more (S x)) → HoldsWithin held more (Fitting test R S)
held_fitting test others = record { within = λ y b (x, front, back, r, t, s, e). omega (arith, (others x).within y back s, ap length e, length-append front back) }

held_chosen : {X : Type 0} (test : Bool) {R S : Relation X} {held : X → ℕ} {more : ℕ} → HoldsWithin held more R → HoldsWithin held more S → HoldsWithin held more (Chosen test R S)
held_chosen true r s = r
held_chosen false r s = s

each_within : {X : Type 0} {R : Relation X} {held : X → ℕ} → HoldsWithin held 0 R → (xs : List X) (b : List ℕ) → SpellsEach R xs b → sum_by held xs ≤ length b
each_within one [] b s = omega arith
each_within {held = held} one (x ∷ xs) b (front, back, r, s, e) = omega (arith, sum_by-cons held x xs, one.within x front r, each_within one xs back s, ap length e, length-append front back)

held_each : {X : Type 0} {R : Relation X} {held : X → ℕ} → HoldsWithin held 0 R → HoldsWithin (sum_by held) 0 (SpellsEach R)
held_each one = record { within = λ xs b s. omega (arith, each_within one xs b s) }

held_rest : HoldsWithin length 0 IsRest
held_rest = record { within = λ s b e. omega (arith, ap length e) }

-- nothing is held
held_none : {X : Type 0} {R : Relation X} {held : X → ℕ} {more : ℕ} → ((x : X) (b : List ℕ) → R x b → held x ≡ 0) → HoldsWithin held more R
held_none nothing = record { within = λ x b r. omega (arith, nothing x b r) }

-- ---- parts

value_held : HoldsWithin held_by_value 0 IsValue
value_held = record { within = λ v b s. omega (arith, small_tree_held (tree_of v), small_spelled_size (tree_of v) b s.1) }

values_held : HoldsWithin held_by_values 0 IsValues
values_held = held_each value_held

path_held : (t b : List ℕ) → IsPath t b → suc (length t) ≤ length b
path_held t b (is, e) = omega (arith, ap length e, length-append t (0 ∷ []))

method_length : (wide : Bool) (n : ℕ) (b : List ℕ) → b ≡ word (method_width wide) n → 1 ≤ length b
method_length true n b e = omega (arith, ap length e, length-word w16 (2 ^ 16) wide16 n)
method_length false n b e = omega (arith, ap length e, length-word w8 (2 ^ 8) wide8 n)

method_held : (h : CallHead) → HoldsWithin (λ _. 1) 0 (MethodId h)
method_held h = record { within = λ n b r. omega (arith, method_length h.wide_method n b r.1) }

-- ---- calls

counted_held : HoldsWithin held_by_values 0 IsCountedArgs
counted_held = held_behind (λ n. record { within = λ vs b e. values_held.within vs b (each_to IsValue [] vs b e.1) })

-- raw bytes are one value besides
raw_within : (s : List ℕ) → held_by_values (raw_args s) ≤ 1 + length s
raw_within [] = omega arith
raw_within (c ∷ s) = omega (arith, sum_by-cons held_by_value (PackedBytes (c ∷ s)) [])

raw_held : HoldsWithin (λ s. held_by_values (raw_args s)) 1 IsRest
raw_held = record { within = λ s b e. omega (arith, raw_within s, ap length e) }

args_held : (raw : Bool) → HoldsWithin held_by_values 1 (IsArgs raw)
args_held raw = held_chosen raw (held_seen raw_args raw_held) (record { within = λ vs b r. omega (arith, counted_held.within vs b r) })

id_call_held : (h : CallHead) (id : ℕ) → HoldsWithin held_by_plain 0 (IsIdCall h id)
id_call_held h id = held_then (λ _. 1) (method_held h) (λ method. held_seen (λ args. plain.Call (target.Id id) method args) (record { within = λ args b r. omega (arith, (args_held h.raw).within args b r) }))

path_call_held : (h : CallHead) (n : ℕ) → HoldsWithin held_by_plain 0 (IsPathCall h n)
path_call_held h n =
    held_then (λ _. 1) (method_held h) (λ method.
    held_then (λ args. held_by_values args - 1) (record { within = λ args b r. omega (arith, (args_held h.raw).within args b r.1) }) (λ args.
    held_seen (λ path. plain.Call (target.At path) method args) (record { within = λ path b r. omega (arith, path_held path b r) })))

call_held : (h : CallHead) → HoldsWithin held_by_plain 0 (IsCall h)
call_held h = held_fitting (offset_fits h) (λ id. held_chosen (is_offset h.node id) (path_call_held h (id - 2147483648 - method_end h)) (id_call_held h id))

-- ---- the other layouts

simplify_held : HoldsWithin held_by_plain 0 IsSimplify
simplify_held =
    held_behind (λ digest. held_behind (λ _. held_behind (λ id. held_seen (λ path. plain.Simplify digest id path) (record { within = λ path b r. omega (arith, path_held path b r) }))))

confirm_held : HoldsWithin held_by_plain 0 IsConfirm
confirm_held = held_behind (λ ok. held_seen (λ id. plain.Confirm ok id) (record { within = λ id b r. omega arith }))

arg_held : HoldsWithin held_by_value 0 IsArg
arg_held = held_behind (λ size. held_region size value_held)

arg_for_held : (scene : ℕ) → HoldsWithin held_by_arg 0 (IsArgFor scene)
arg_for_held scene = held_chosen (nat_eq scene 255) (held_seen (λ v. Some v) arg_held) (held_none (λ arg b r. ap held_by_arg r.0))

name_held : (len : ℕ) → HoldsWithin length 0 (IsNameOf len)
name_held len = record { within = λ t b r. omega (arith, path_held t b r.1) }

spawn_held : HoldsWithin held_by_plain 0 IsSpawn
spawn_held =
    held_behind (λ scene. held_behind (λ spawner. held_behind (λ net. held_behind (λ count. held_behind (λ len. held_behind (λ syncs.
    held_then length (name_held len) (λ name.
    held_then held_by_arg (arg_for_held scene) (λ arg.
    held_seen (λ values. plain.Spawn scene spawner net syncs name arg values) (record { within = λ values b r. omega (arith, values_held.within values b r) })))))))))

despawn_held : HoldsWithin held_by_plain 0 IsDespawn
despawn_held = held_seen (λ net. plain.Despawn net) (record { within = λ net b r. omega arith })

sized_values_held : HoldsWithin held_by_values 0 IsSizedValues
sized_values_held = held_behind (λ size. held_region size values_held)

entry_held : HoldsWithin (λ e. held_by_values e.values) 0 IsEntry
entry_held = held_behind (λ id. held_seen (entry_of id) sized_values_held)

delta_entry_held : HoldsWithin (λ e. held_by_values e.values) 0 IsDeltaEntry
delta_entry_held = held_behind (λ id. held_behind (λ mask. held_seen (delta_entry_of id mask) sized_values_held))

sync_held : HoldsWithin held_by_plain 0 IsSync
sync_held = held_behind (λ tick. held_seen (λ entries. plain.Sync tick entries) (held_each entry_held))

delta_held : HoldsWithin held_by_plain 0 IsDelta
delta_held = held_seen (λ entries. plain.Delta entries) (held_each delta_entry_held)

-- ---- whole packets

plain_held : (h : Head) → HoldsWithin held_by_plain 0 (IsPlainOf h)
plain_held (head.Call h) = call_held h
plain_held head.Simplify = simplify_held
plain_held head.Confirm = confirm_held
plain_held head.Raw = held_seen (λ s. plain.Raw s) held_rest
plain_held head.Spawn = spawn_held
plain_held head.Despawn = despawn_held
plain_held head.Sync = sync_held
plain_held head.Delta = delta_held
plain_held head.System = record { within = λ p b r. absurd r }

inner_held : HoldsWithin held_by_plain 0 IsInner
inner_held = held_behind plain_held

payload_held : (sub : ℕ) (peer : ℤ) → HoldsWithin held_by_message 0 (IsPayload sub peer)
payload_held sub peer =
    held_chosen (nat_eq sub 0) (held_seen (λ bytes. message.Auth peer bytes) held_rest)
    (held_chosen (nat_eq sub 1) (held_none (λ m b r. ap held_by_message r.0))
    (held_chosen (nat_eq sub 2) (held_none (λ m b r. ap held_by_message r.0))
    (held_seen (λ inner. message.Relay peer inner) inner_held)))

system_held : HoldsWithin held_by_message 0 IsSystem
system_held = held_behind (λ sub. held_behind (payload_held sub))

message_held : HoldsWithin held_by_message 0 IsMessage
message_held = held_behind (λ h. held_chosen (is_plain h) (held_seen (λ p. message.Plain p) (plain_held h)) system_held)

-- a message holds no more than its packet has bytes
pub bounded : (m : Message) (b : List ℕ) → Frames m b → held_by_message m ≤ length b
bounded m b f = omega (arith, message_held.within m b f.frames)

-- the same of what a decoder answered
pub answer_held : {E : Type 0} (b : List ℕ) (result : Result Message E) → IfOk result (λ m. Frames m b) → IfOk result (λ m. held_by_message m ≤ length b)
answer_held b (Ok m) f = bounded m b f
answer_held b (Err e) f = tt
