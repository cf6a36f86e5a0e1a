-- The packet that is written for a message is a packet of it.
use Rattle.std.proofs.Common.{◌≡◌, ℕ, ◌+◌, ◌^◌, ◌<◌, ◌≤◌, true, List, [], ◌∷◌, ◌++◌, length, refl, sym, ap, append_assoc, arith, Ok, Some, None}
use Rattle.std.specs.Prelude.{ℤ, Option, not}
use Rattle.std.specs.Int.{w8, w16, w32, w64}
use Rattle.std.specs.List.{flat_map, AllByRecursion}
use Rattle.std.proofs.lemmas.Bool.{ne_eqb}
use Rattle.std.proofs.lemmas.List.{length-append}
use Rattle.byte_fields.specs.Fields.{word}
use Rattle.byte_fields.specs.Complement.{IsWithin, half32}
use Rattle.gd_variant.specs.declared.value.Variant.{Variant}
use Rattle.gd_variant.specs.declared.message.Entry.{Entry}
use Rattle.gd_variant.specs.declared.message.DeltaEntry.{DeltaEntry}
use Rattle.gd_variant.specs.declared.message.Target.{Target}
use Rattle.gd_variant.specs.declared.message.Plain.{Plain}
use Rattle.gd_variant.specs.declared.message.Plain.TheVariants as plain
use Rattle.gd_variant.specs.declared.message.Message.{Message}
use Rattle.gd_variant.specs.declared.message.Message.TheVariants as message
use Rattle.variant_codec.specs.Written.{written_short}
use Rattle.packet_form.specs.declared.head.Head.{Head}
use Rattle.packet_form.specs.declared.head.Head.TheVariants as head
use Rattle.packet_form.specs.Head.{is_command, has_width, head_of, is_plain, bit}
use Rattle.packet_form.specs.Tests.{is_some, is_subcommand}
use Rattle.packet_form.specs.Grammar.{IsHead, IsValue, IsSizedValues, IsArg, IsArgFor, IsEntry, IsDeltaEntry, IsPlainOf, IsInner, IsPayload, IsMessageOf, IsMessage}
use Rattle.packet_form.specs.Written.{written_value, written_values, ids_bytes, sized_bytes, head_for, call_bytes, digits_of, simplify_bytes, arg_bytes, spawn_bytes, entry_bytes, delta_entry_bytes, written_plain, system_bytes, written_packet, AreSound, IsArgSound, FitsEntry, FitsDeltaEntry, FitsPlain}
use Rattle.packet_form.proofs.Top.{read_only}
use Rattle.packet_form.specs.Packets.{Frames, IsWritable, read_packet}
use Rattle.packet_form.proofs.Lengths.{entry_size, delta_entry_size, arg_size, spawn_size, system_size}
use Rattle.packet_form.proofs.WrittenParts.{each_written, value_written, values_written, ids_written, digest_written, flag_written, path_written, name_written}
use Rattle.packet_form.proofs.WrittenCalls.{call_head_written, call_written}

-- ---- the first byte

-- a first byte that is no call's
head_written : (n : ℕ) (h : Head) → h ≡ head_of n → has_width n ≡ true → is_command n ≡ true → n < 2 ^ 8 → IsHead h (word w8 n)
head_written n h e width command lt = (n, e, (width, (command, (lt, refl))))

simplify_head : IsHead head.Simplify (word w8 1)
unfolding head_of
simplify_head = head_written 1 head.Simplify refl refl refl (omega arith)

confirm_head : IsHead head.Confirm (word w8 2)
unfolding head_of
confirm_head = head_written 2 head.Confirm refl refl refl (omega arith)

raw_head : IsHead head.Raw (word w8 3)
unfolding head_of
raw_head = head_written 3 head.Raw refl refl refl (omega arith)

spawn_head : IsHead head.Spawn (word w8 4)
unfolding head_of
spawn_head = head_written 4 head.Spawn refl refl refl (omega arith)

despawn_head : IsHead head.Despawn (word w8 5)
unfolding head_of
despawn_head = head_written 5 head.Despawn refl refl refl (omega arith)

sync_head : IsHead head.Sync (word w8 6)
unfolding head_of
sync_head = head_written 6 head.Sync refl refl refl (omega arith)

system_head : IsHead head.System (word w8 7)
unfolding head_of
system_head = head_written 7 head.System refl refl refl (omega arith)

delta_head : IsHead head.Delta (word w8 22)
unfolding head_of
delta_head = head_written 22 head.Delta refl refl refl (omega arith)

-- ---- regions

sized_written : (vs : List Variant) → AreSound vs → length (written_values vs) < 2 ^ 32 → IsSizedValues vs (sized_bytes vs)
unfolding sized_bytes
sized_written vs sound lt = (length (written_values vs), word w32 (length (written_values vs)), written_values vs, (lt, refl), (refl, values_written vs sound), refl)

arg_written : (v : Variant) → IsValue v (written_value v) → length (written_value v) < 2 ^ 32 → IsArg v (arg_bytes (Some v))
arg_written v value lt = (length (written_value v), word w32 (length (written_value v)), written_value v, (lt, refl), (refl, value), refl)

-- a custom argument stands exactly where the scene is 255
arg_for_written : (scene : ℕ) (arg : Option Variant) → IsArgSound scene arg → length (arg_bytes arg) < 2 ^ 32 → IsArgFor scene arg (arg_bytes arg)
arg_for_written scene None other short = rw other (refl, refl)
arg_for_written scene (Some v) a short = let size = arg_size v in rw a.0 (v, refl, arg_written v (value_written v a.1) (omega (arith, size, short)))

entry_written : (e : Entry) → FitsEntry e → length (entry_bytes e) ≤ 8388608 → IsEntry e (entry_bytes e)
unfolding entry_bytes
entry_written e fits short =
    let size = entry_size e in
    (e.id, word w32 e.id, sized_bytes e.values, (fits.0, refl), (e.values, refl, sized_written e.values fits.1 (omega (arith, size, short))), refl)

delta_entry_written : (e : DeltaEntry) → FitsDeltaEntry e → length (delta_entry_bytes e) ≤ 8388608 → IsDeltaEntry e (delta_entry_bytes e)
unfolding delta_entry_bytes
delta_entry_written e fits short =
    let size = delta_entry_size e in
    (e.id, word w32 e.id, word w64 e.mask ++ sized_bytes e.values, (fits.0, refl), (e.mask, word w64 e.mask, sized_bytes e.values, (fits.1, refl), (e.values, refl, sized_written e.values fits.2 (omega (arith, size, short))), refl), refl)

some_length : (name : List ℕ) → is_some (length name + 1) ≡ true
some_length name = ap not (ne_eqb (length name + 1) 0 (λ e. omega (arith, e)))

-- ---- plain packets

-- what a layout says of a packet without its first byte
behind_head : (h : Head) (p : Plain) (front more : List ℕ) → is_plain h ≡ true → IsHead h front → IsPlainOf h p more → IsInner p (front ++ more)
behind_head h p front more is f m = (h, front, more, (is, f), m, refl)

call_is : (t : Target) (method : ℕ) (args : List Variant) → FitsPlain (plain.Call t method args) → length (call_bytes t method args) ≤ 8388608 → IsInner (plain.Call t method args) (call_bytes t method args)
unfolding call_bytes
call_is t method args fits short =
    behind_head (head.Call (head_for t method args)) (plain.Call t method args) _ _ refl (call_head_written (head_for t method args))
    (call_written t method args fits.0 fits.1 fits.2 fits.3 short)

simplify_is : (digest : List ℕ) (id : ℕ) (path : List ℕ) → FitsPlain (plain.Simplify digest id path) → IsInner (plain.Simplify digest id path) (simplify_bytes digest id path)
unfolding simplify_bytes
simplify_is digest id path fits =
    behind_head head.Simplify (plain.Simplify digest id path) (word w8 1) _ refl simplify_head
    (digest, flat_map digits_of digest, _, digest_written digest fits.0 fits.1, (0, word w8 0, _, (refl, (omega arith, refl)), (id, word w32 id, path ++ 0 ∷ [], (fits.2, refl), (path, refl, path_written path fits.3), refl), refl), refl)

spawn_is : (scene spawner net : ℕ) (syncs name : List ℕ) (arg : Option Variant) (values : List Variant) → FitsPlain (plain.Spawn scene spawner net syncs name arg values)
    → length (spawn_bytes scene spawner net syncs name (arg_bytes arg ++ written_values values)) ≤ 8388608 → IsInner (plain.Spawn scene spawner net syncs name arg values) (spawn_bytes scene spawner net syncs name (arg_bytes arg ++ written_values values))
unfolding spawn_bytes
spawn_is scene spawner net syncs name arg values fits short =
    let spawn = fits.0 in
    let size = spawn_size scene spawner net syncs name (arg_bytes arg ++ written_values values) in
    let both = length-append (arg_bytes arg) (written_values values) in
    let tail = arg_bytes arg ++ written_values values in
    behind_head head.Spawn (plain.Spawn scene spawner net syncs name arg values) (word w8 4) _ refl spawn_head (
      scene,
      word w8 scene,
      _,
      (spawn.scene_fits, refl),
      (
        spawner,
        word w32 spawner,
        _,
        (spawn.spawner_fits, refl),
        (
          net,
          word w32 net,
          _,
          (spawn.net_fits, refl),
          (
            length syncs,
            word w32 (length syncs),
            _,
            (spawn.count_fits, refl),
            (
              length name + 1,
              word w32 (length name + 1),
              _,
              (some_length name, (spawn.is_name.short, refl)),
              (
                syncs,
                ids_bytes syncs,
                _,
                ids_written syncs spawn.syncs_fit,
                (
                  name,
                  name ++ 0 ∷ [],
                  tail,
                  name_written name spawn.is_name,
                  (
                    arg,
                    arg_bytes arg,
                    written_values values,
                    arg_for_written scene arg fits.1 (omega (arith, size, both, short)),
                    (values, refl, values_written values fits.2),
                    refl,
                  ),
                  sym (append_assoc name (0 ∷ []) tail),
                ),
                refl,
              ),
              refl,
            ),
            refl,
          ),
          refl,
        ),
        refl,
      ),
      refl,
    )

sync_is : (tick : ℕ) (entries : List Entry) → tick < 2 ^ 16 → AllByRecursion FitsEntry entries → length (word w8 6 ++ (word w16 tick ++ flat_map entry_bytes entries)) ≤ 8388608
    → IsInner (plain.Sync tick entries) (word w8 6 ++ (word w16 tick ++ flat_map entry_bytes entries))
sync_is tick entries below fits short =
    let all = length-append (word w8 6) (word w16 tick ++ flat_map entry_bytes entries) in
    let both = length-append (word w16 tick) (flat_map entry_bytes entries) in
    behind_head head.Sync (plain.Sync tick entries) (word w8 6) _ refl sync_head
    (tick, word w16 tick, flat_map entry_bytes entries, (below, refl), (entries, refl, each_written IsEntry entry_bytes FitsEntry 8388608 entry_written entries fits (omega (arith, all, both, short))), refl)

delta_is : (entries : List DeltaEntry) → AllByRecursion FitsDeltaEntry entries → length (word w8 22 ++ flat_map delta_entry_bytes entries) ≤ 8388608 → IsInner (plain.Delta entries) (word w8 22 ++ flat_map delta_entry_bytes entries)
delta_is entries fits short =
    let all = length-append (word w8 22) (flat_map delta_entry_bytes entries) in
    behind_head head.Delta (plain.Delta entries) (word w8 22) _ refl delta_head
    (entries, refl, each_written IsDeltaEntry delta_entry_bytes FitsDeltaEntry 8388608 delta_entry_written entries fits (omega (arith, all, short)))

plain_is : (p : Plain) → FitsPlain p → length (written_plain p) ≤ 8388608 → IsInner p (written_plain p)
plain_is (plain.Call t method args) fits short = call_is t method args fits short
plain_is (plain.Simplify digest id path) fits short = simplify_is digest id path fits
plain_is (plain.Confirm ok id) fits short = behind_head head.Confirm (plain.Confirm ok id) (word w8 2) _ refl confirm_head (ok, word w8 (bit ok), word w32 id, flag_written ok, (id, refl, (fits, refl)), refl)
plain_is (plain.Raw bytes) fits short = behind_head head.Raw (plain.Raw bytes) (word w8 3) bytes refl raw_head (bytes, refl, refl)
plain_is (plain.Spawn scene spawner net syncs name arg values) fits short = spawn_is scene spawner net syncs name arg values fits short
plain_is (plain.Despawn net) fits short = behind_head head.Despawn (plain.Despawn net) (word w8 5) (word w32 net) refl despawn_head (net, refl, (fits, refl))
plain_is (plain.Sync tick entries) fits short = sync_is tick entries fits.0 fits.1 short
plain_is (plain.Delta entries) fits short = delta_is entries fits short

-- ---- messages

as_message : (h : Head) (p : Plain) (more : List ℕ) → is_plain h ≡ true → IsPlainOf h p more → IsMessageOf h (message.Plain p) more
as_message h p more is m = rw is (p, refl, m)

-- a packet that one peer means for another is a message too
message_of_inner : (p : Plain) (b : List ℕ) → IsInner p b → IsMessage (message.Plain p) b
message_of_inner p b i = (i.0, i.1, i.2, i.3.1, as_message i.0 p i.2 i.3.0 i.4, i.5)

-- a system packet
system_is : (sub : ℕ) (peer : ℤ) (payload : List ℕ) (m : Message) → is_subcommand sub ≡ true → sub < 2 ^ 8 → IsWithin half32 peer → IsPayload sub peer m payload → IsMessage m (system_bytes sub peer payload)
unfolding system_bytes
system_is sub peer payload m is lt within p = (head.System, word w8 7, _, system_head, (sub, word w8 sub, _, (is, (lt, refl)), (peer, written_short peer, payload, (within, refl), p, refl), refl), refl)

-- what is written is a packet of the message
pub written_is : (m : Message) → IsWritable m → IsMessage m (written_packet m)
written_is (message.Plain p) w = message_of_inner p (written_plain p) (plain_is p w.fits w.short)
written_is (message.Auth peer bytes) w = system_is 0 peer bytes (message.Auth peer bytes) refl (omega arith) w.fits (bytes, refl, refl)
written_is (message.AddPeer peer) w = system_is 1 peer [] (message.AddPeer peer) refl (omega arith) w.fits (refl, refl)
written_is (message.DelPeer peer) w = system_is 2 peer [] (message.DelPeer peer) refl (omega arith) w.fits (refl, refl)
written_is (message.Relay peer inner) w =
    let size = system_size 3 peer (written_plain inner) in
    system_is 3 peer (written_plain inner) (message.Relay peer inner) refl (omega arith) w.fits.0 (inner, refl, plain_is inner w.fits.1 (omega (arith, size, w.short)))

pub written_frames : (m : Message) → IsWritable m → Frames m (written_packet m)
written_frames m w = record { short = w.short; frames = written_is m w }

-- what is written is read again
pub round_trip : (m : Message) → IsWritable m → read_packet (written_packet m) ≡ Ok m
round_trip m w = read_only (written_packet m) m (written_frames m w)
