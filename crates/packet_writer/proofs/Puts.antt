-- Putting bytes at the end, one after the other.
use Rattle.std.proofs.Common.{◌≡◌, ℕ, ◌+◌, ◌<◌, ◌≤◌, List, [], ◌∷◌, ◌++◌, length, get_or, Result, Ok, Err, refl, sym, ap, ◌∙◌, append_assoc, arith}
use Rattle.std.specs.Prelude.{ℤ, OnOk}
use Rattle.std.specs.Int.{w8, w32}
use Rattle.std.specs.List.{flat_map}
use Rattle.std.proofs.lemmas.List.{append-nil}
use Rattle.std.proofs.lemmas.List.Folds.{length-flat_map-take}
use Rattle.byte_fields.specs.Fields.{word}
use Rattle.gd_variant.specs.declared.value.Variant.{Variant}
use Rattle.gd_variant.specs.declared.message.Target.{Target}
use Rattle.variant_codec.specs.Written.{written_short}
use Rattle.packet_form.specs.declared.head.CallHead.{CallHead}
use Rattle.packet_form.specs.Head.{width_of, method_width, call_byte}
use Rattle.packet_form.specs.Tests.{method_end}
use Rattle.packet_form.specs.Written.{args_bytes, target_width, head_for, node_number, target_bytes, is_wide_method, call_bytes, ids_bytes, spawn_bytes, system_bytes}

-- a step that was done, and what is put after it
pub put_then : {E : Type 0} (r : Result (Unit {0}) E) (old now new a b : List ℕ) → now ≡ old ++ a → OnOk r (new ≡ now ++ b) → OnOk r (new ≡ old ++ (a ++ b))
put_then (Ok x) old now new a b e h = h ∙ ap (λ (c : List ℕ). c ++ b) e ∙ append_assoc old a b
put_then (Err x) old now new a b e h = tt

pub put_three : {E : Type 0} (r : Result (Unit {0}) E) (o o1 o2 new a b c : List ℕ) → o1 ≡ o ++ a → o2 ≡ o1 ++ b → OnOk r (new ≡ o2 ++ c) → OnOk r (new ≡ o ++ (a ++ (b ++ c)))
put_three r o o1 o2 new a b c e f h = put_then r o o1 new a (b ++ c) e (put_then r o1 o2 new b c f h)

pub put_five : {E : Type 0} (r : Result (Unit {0}) E) (o o1 o2 o3 o4 new a b c d z : List ℕ) → o1 ≡ o ++ a → o2 ≡ o1 ++ b → o3 ≡ o2 ++ c → o4 ≡ o3 ++ d → OnOk r (new ≡ o4 ++ z) → OnOk r (new ≡ o ++ (a ++ (b ++ (c ++ (d ++ z)))))
put_five r o o1 o2 o3 o4 new a b c d z e f g i h = put_three r o o1 o2 new a b (c ++ (d ++ z)) e f (put_three r o2 o3 o4 new c d z g i h)

pub put_four : {E : Type 0} (r : Result (Unit {0}) E) (o o1 o2 o3 new a b c z : List ℕ) → o1 ≡ o ++ a → o2 ≡ o1 ++ b → o3 ≡ o2 ++ c → OnOk r (new ≡ o3 ++ z) → OnOk r (new ≡ o ++ (a ++ (b ++ (c ++ z))))
put_four r o o1 o2 o3 new a b c z e f g h = put_then r o o1 new a (b ++ (c ++ z)) e (put_three r o1 o2 o3 new b c z f g h)

-- what stands behind eight parts
behind_three : (a b c rest : List ℕ) → (a ++ (b ++ c)) ++ rest ≡ a ++ (b ++ (c ++ rest))
behind_three a b c rest = append_assoc a (b ++ c) rest ∙ ap (λ (z : List ℕ). a ++ z) (append_assoc b c rest)

behind_eight : (a b c d e f g h rest : List ℕ) → (a ++ (b ++ (c ++ (d ++ (e ++ (f ++ (g ++ h))))))) ++ rest ≡ a ++ (b ++ (c ++ (d ++ (e ++ (f ++ (g ++ (h ++ rest)))))))
behind_eight a b c d e f g h rest =
    behind_three a b (c ++ (d ++ (e ++ (f ++ (g ++ h))))) rest
    ∙ ap (λ (z : List ℕ). a ++ (b ++ z)) (behind_three c d (e ++ (f ++ (g ++ h))) rest)
    ∙ ap (λ (z : List ℕ). a ++ (b ++ (c ++ (d ++ z)))) (behind_three e f (g ++ h) rest)
    ∙ ap (λ (z : List ℕ). a ++ (b ++ (c ++ (d ++ (e ++ (f ++ z)))))) (append_assoc g h rest)

-- a fact that holds anyway
pub when_ok : {E : Type 0} (r : Result (Unit {0}) E) (P : Type 0) → P → OnOk r P
when_ok (Ok x) P h = h
when_ok (Err x) P h = tt

-- what follows from a fact of what went well
pub on_ok : {E : Type 0} (r : Result (Unit {0}) E) (P Q : Type 0) → (P → Q) → OnOk r P → OnOk r Q
on_ok (Ok x) P Q f h = f h
on_ok (Err x) P Q f h = tt

pub zero_byte : word w8 0 ≡ 0 ∷ []
unfolding word
zero_byte = refl

-- one of them is no longer than all
pub part_short : {X : Type 0} (write : X → List ℕ) (xs : List X) (i : ℕ) (x : X) → i < length xs → x ≡ get_or xs i x → length (write x) ≤ length (flat_map write xs)
part_short write xs i x lt is = omega (arith, ap (λ z. length (write z)) is, length-flat_map-take write xs i x lt)

-- ---- a call

pub put_call_bytes : {E : Type 0} (r : Result (Unit {0}) E) (t : Target) (method : ℕ) (args : List Variant) (h : CallHead) (first offset : ℕ) (o o1 o2 o3 o4 new : List ℕ)
    → h ≡ head_for t method args → first ≡ call_byte h → offset ≡ method_end h + length (args_bytes args)
    → o1 ≡ o ++ word w8 first → o2 ≡ o1 ++ word (width_of (target_width t)) (node_number t offset) → o3 ≡ o2 ++ word (method_width (is_wide_method method)) method → o4 ≡ o3 ++ args_bytes args
    → OnOk r (new ≡ o4 ++ target_bytes t) → OnOk r (new ≡ o ++ call_bytes t method args)
unfolding call_bytes
put_call_bytes r t method args h first offset o o1 o2 o3 o4 new is byte at e f g i k =
    put_five r o o1 o2 o3 o4 new _ _ _ _ (target_bytes t)
    (e ∙ ap (λ n. o ++ word w8 n) (byte ∙ ap call_byte is))
    (f ∙ ap (λ n. o1 ++ word (width_of (target_width t)) (node_number t n)) (at ∙ ap (λ z. method_end z + length (args_bytes args)) is))
    g i k

-- ---- a spawn

-- a spawn up to the end of its name
pub put_spawn_bytes : {E : Type 0} (r : Result (Unit {0}) E) (scene spawner net : ℕ) (syncs name o o1 o2 o3 o4 o5 o6 o7 new : List ℕ)
    → o1 ≡ o ++ word w8 4 → o2 ≡ o1 ++ word w8 scene → o3 ≡ o2 ++ word w32 spawner → o4 ≡ o3 ++ word w32 net → o5 ≡ o4 ++ word w32 (length syncs) → o6 ≡ o5 ++ word w32 (length name + 1) → o7 ≡ o6 ++ ids_bytes syncs
    → OnOk r (new ≡ o7 ++ (name ++ 0 ∷ [])) → OnOk r (new ≡ o ++ spawn_bytes scene spawner net syncs name [])
unfolding spawn_bytes
put_spawn_bytes r scene spawner net syncs name o o1 o2 o3 o4 o5 o6 o7 new e1 e2 e3 e4 e5 e6 e7 h =
    put_four r o o1 o2 o3 new _ _ _ _ e1 e2 e3 (put_five r o3 o4 o5 o6 o7 new _ _ _ _ _ e4 e5 e6 e7 h)

-- the custom argument and the values behind it
spawn_tail : (scene spawner net : ℕ) (syncs name values : List ℕ) → spawn_bytes scene spawner net syncs name values ≡ spawn_bytes scene spawner net syncs name [] ++ values
unfolding spawn_bytes
spawn_tail scene spawner net syncs name values =
    let a = word w8 4 in
    let b = word w8 scene in
    let c = word w32 spawner in
    let d = word w32 net in
    let e = word w32 (length syncs) in
    let f = word w32 (length name + 1) in
    let g = ids_bytes syncs in
    let h = name ++ 0 ∷ [] in
    ap (λ (z : List ℕ). a ++ (b ++ (c ++ (d ++ (e ++ (f ++ (g ++ z))))))) (sym (append_assoc name (0 ∷ []) values))
    ∙ sym (behind_eight a b c d e f g h values)

pub put_spawn_tail : {E : Type 0} (r : Result (Unit {0}) E) (scene spawner net : ℕ) (syncs name arg values o o1 o2 new : List ℕ)
    → o1 ≡ o ++ spawn_bytes scene spawner net syncs name [] → o2 ≡ o1 ++ arg → OnOk r (new ≡ o2 ++ values) → OnOk r (new ≡ o ++ spawn_bytes scene spawner net syncs name (arg ++ values))
put_spawn_tail r scene spawner net syncs name arg values o o1 o2 new e f h =
    on_ok r _ _ (λ k. k ∙ ap (λ (z : List ℕ). o ++ z) (sym (spawn_tail scene spawner net syncs name (arg ++ values)))) (put_three r o o1 o2 new (spawn_bytes scene spawner net syncs name []) arg values e f h)

-- ---- a system packet

pub put_system_bytes : {E : Type 0} (r : Result (Unit {0}) E) (sub : ℕ) (peer : ℤ) (o o1 o2 new : List ℕ) → o1 ≡ o ++ word w8 7 → o2 ≡ o1 ++ word w8 sub → OnOk r (new ≡ o2 ++ written_short peer) → OnOk r (new ≡ o ++ system_bytes sub peer [])
unfolding system_bytes
put_system_bytes r sub peer o o1 o2 new e f h =
    put_three r o o1 o2 new (word w8 7) (word w8 sub) (written_short peer ++ []) e f
    (on_ok r _ _ (λ k. k ∙ ap (λ (z : List ℕ). o2 ++ z) (sym (append-nil (written_short peer)))) h)

system_tail : (sub : ℕ) (peer : ℤ) (payload : List ℕ) → system_bytes sub peer [] ++ payload ≡ system_bytes sub peer payload
unfolding system_bytes
system_tail sub peer payload =
    behind_three (word w8 7) (word w8 sub) (written_short peer ++ []) payload
    ∙ ap (λ (z : List ℕ). word w8 7 ++ (word w8 sub ++ (z ++ payload))) (append-nil (written_short peer))

-- what stands behind a peer
pub put_payload : {E : Type 0} (r : Result (Unit {0}) E) (sub : ℕ) (peer : ℤ) (payload o o1 new : List ℕ) → o1 ≡ o ++ system_bytes sub peer [] → OnOk r (new ≡ o1 ++ payload) → OnOk r (new ≡ o ++ system_bytes sub peer payload)
put_payload r sub peer payload o o1 new e h = on_ok r _ _ (λ k. k ∙ ap (λ (z : List ℕ). o ++ z) (system_tail sub peer payload)) (put_then r o o1 new (system_bytes sub peer []) payload e h)
