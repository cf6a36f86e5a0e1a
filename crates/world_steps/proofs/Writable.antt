-- The packet of a change can be written, and is read again, where the operations are sound.
use Rattle.std.proofs.Common.{◌≡◌, ℕ, zero, suc, ◌*◌, ◌^◌, ◌<◌, ◌≤◌, ℤ, Bool, true, false, cond, not, ◌||◌, List, [], ◌∷◌, length, refl, arith, nat_eq, nat_le, inl, inr, Option, Some, None, length-append}
use Rattle.std.specs.Prelude.{find, is_none, nat_lt}
use Rattle.std.specs.Int.{w8, w32}
use Rattle.std.specs.List.{list_all}
use Rattle.std.specs.Str.{is_utf8}
use Rattle.std.proofs.lemmas.Bool.{cases_Bool, leb-true, lt-ltb, ltb-true, leb-false, eqb-true, and_parts, or_parts}
use Rattle.byte_fields.specs.Fields.{word}
use Rattle.gd_variant.specs.Tree.{Tree, boolean, int, plain}
use Rattle.gd_variant.specs.Size.{int_width, tree_size, small_tree_size}
use Rattle.gd_variant.specs.Sound.{is_sound, is_text, has_no_zero}
use Rattle.gd_variant.specs.declared.value.Variant.{Variant}
use Rattle.gd_variant.specs.declared.message.Plain.TheVariants as packet
use Rattle.gd_variant.specs.declared.message.Message.TheVariants.{Plain as plain_packet}
use Rattle.variant_codec.proofs.Forms.{small_written_size, small_int_short}
use Rattle.packet_form.specs.Packets.{most_bytes}
use Rattle.packet_form.specs.Written.{FitsSpawn, IsName, IsArgSound, AreIds, AreSound, arg_bytes, written_value, written_values, written_packet}
use Rattle.packet_form.proofs.Lengths.{byte_size, word_size, filled_spawn_size}
use Rattle.packet_form.proofs.Written.{round_trip}
use Rattle.scene_model.specs.declared.scene.Scene.{Scene}
use Rattle.scene_model.specs.declared.scene.Node.{Node}
use Rattle.scene_model.specs.declared.scene.SyncDef.{SyncDef}
use Rattle.scene_model.specs.declared.spawn.SpawnMsg.{SpawnMsg}
use Rattle.scene_model.specs.Lookup.{fixed_node_at}
use Rattle.scene_model.specs.Paths.{is_name}
use Rattle.scene_model.specs.Syncs.{fixed_bit}
use Rattle.scene_model.specs.Valid.{IsValidScene}
use Rattle.peer_model.specs.Rows.{syncs_at}
use Rattle.peer_model.specs.Updates.{Hide, Show, all_spawn_props, shown_place}
use Rattle.peer_model.specs.Faults.{all_fit, bad_id, wrong_spawn}
use Rattle.peer_model.specs.View.{fits}
use Rattle.peer_laws.proofs.Tests.{not_false}
use Rattle.peer_steps.proofs.PlacesOf.{nodes_few}
use Rattle.peer_core.proofs.SpawnProps.{AreFew, few_at}
use Rattle.world_laws.specs.Said.{SaysShow}
use Rattle.world_steps.proofs.Links.{IsReadable}
use Rattle.world_steps.proofs.Lists.{got_within}

-- values

-- the compressed form is no longer
int_no_longer : (z : ℤ) → small_tree_size (int z) ≤ tree_size (int z)
int_no_longer z =
    let nine = small_int_short z in
    let size = small_written_size (int z) in
    elim (cases_Bool (nat_le (int_width z) 4)) [
      | inl e ↦ let le = leb-true (int_width z) 4 e in rw e (omega (arith, le))
      | inr e ↦ rw e (omega (arith, nine, size))
    ]

no_longer : (t : Tree) → small_tree_size t ≤ tree_size t
no_longer (boolean b) = omega arith
no_longer (int z) = int_no_longer z
no_longer t = omega arith

value_short : (v : Variant) → fits v ≡ true → length (written_value v) ≤ 65536
value_short v h =
    let short = leb-true (tree_size (plain v)) 65536 h in
    omega (arith, small_written_size (plain v), no_longer (plain v), short)

pub values_short : (vs : List Variant) → list_all fits vs ≡ true → length (written_values vs) ≤ 65536 * length vs
values_short [] h = omega arith
values_short (v ∷ vs) h =
    let p = and_parts (fits v) (list_all fits vs) h in
    omega (arith, length-append (written_value v) (written_values vs), value_short v p.0, values_short vs p.1)

pub values_sound : (vs : List Variant) → list_all is_sound vs ≡ true → AreSound vs
values_sound [] h = tt
values_sound (v ∷ vs) h = let p = and_parts (is_sound v) (list_all is_sound vs) h in (p.0, values_sound vs p.1)

argument_short : (a : Option Variant) (vs : List Variant) → all_fit a vs ≡ true → (length (arg_bytes a) ≤ 65540) × (list_all fits vs ≡ true)
argument_short None vs h = (omega arith, h)
argument_short (Some v) vs h =
    let p = and_parts (fits v) (list_all fits vs) h in
    let four = word_size (length (written_value v)) in
    (omega (arith, length-append (word w32 (length (written_value v))) (written_value v), four, value_short v p.0), p.1)

-- numbers

-- whether a number is below those of fixed nodes
abbrev pub is_small : ℕ → Bool
is_small n = nat_lt n fixed_bit

pub good_small : (n : ℕ) → bad_id n ≡ false → is_small n ≡ true
good_small n h = let high = leb-false fixed_bit n (or_parts (nat_eq n 0) (nat_le fixed_bit n) h).1 in lt-ltb n fixed_bit (omega (arith, high))

pub none_bad : (n : ℕ) (ns : List ℕ) → find bad_id (n ∷ ns) ≡ None → (bad_id n ≡ false) × (find bad_id ns ≡ None)
none_bad n ns h = step (bad_id n) h
  where
    step : (t : Bool) → cond t (Some n) (find bad_id ns) ≡ None → (t ≡ false) × (find bad_id ns ≡ None)
    step true k = absurd (cc k)
    step false k = (refl, k)

ids_small : (ns : List ℕ) → find bad_id ns ≡ None → AreIds ns
ids_small [] h = tt
ids_small (n ∷ ns) h =
    let parts = none_bad n ns h in
    let low = ltb-true n fixed_bit (good_small n parts.0) in
    (omega (arith, low), ids_small ns parts.1)

-- names

name_short : (name : List ℕ) → is_name name ≡ true → length name ≤ 64
name_short name h = leb-true (length name) 64 (and_parts _ _ (and_parts _ _ h).0).1

name_fits : (name : List ℕ) → is_name name ≡ true → is_text name ≡ true → IsName name
name_fits name named text =
    let parts = and_parts (has_no_zero name) (is_utf8 name) text in
    let short = name_short name named in
    record { zero = parts.0; utf8 = parts.1; short = omega (arith, short) }

-- the spawner's id

-- a fixed node has a small path id
pub path_id_small : (s : Scene) → IsValidScene s → (id : ℕ) → is_none (fixed_node_at s id) ≡ false → id ≤ 4096
path_id_small s v zero h = omega arith
path_id_small s v (suc i) h = step (fixed_node_at s (suc i)) refl h
  where
    step : (o : Option Node) → fixed_node_at s (suc i) ≡ o → is_none o ≡ false → suc i ≤ 4096
    step None e k = absurd (cc k)
    step (Some n) e k = let below = got_within s.nodes i n e in let few = nodes_few s v in omega (arith, below, few)

id_small : (s : Scene) → IsValidScene s → (id : ℕ) → is_none (fixed_node_at s id) ≡ false → id < 2 ^ 32
id_small s v id h = let low = path_id_small s v id h in omega (arith, low)

-- at any place there are few synchronizers, and few properties
few_of : (s : Scene) → IsValidScene s → (place : Option ℕ) → AreFew (syncs_at s place)
few_of s v None = record { syncs = omega arith; props = omega arith }
few_of s v (Some place) = few_at s v place

-- What is asked of a Show beside what it says: its name is a text, it has an argument just where its scene is a custom one, and its values are sound.
pub record IsSoundShow (m : SpawnMsg) : Type 0 where
  pub text : is_text m.name ≡ true
  pub byte : m.scene < 256
  pub argument : IsArgSound m.scene m.arg
  pub values : list_all is_sound m.values ≡ true

-- what a right spawn has
record Counts (defs : List SyncDef) (m : SpawnMsg) : Type 0 where
  pub ids : length m.syncs ≡ length defs
  pub values : length m.values ≡ length (all_spawn_props defs)
  pub fit : all_fit m.arg m.values ≡ true

counts : (defs : List SyncDef) (m : SpawnMsg) → wrong_spawn defs m ≡ false → Counts defs m
counts defs m h =
    let last = or_parts (not (nat_eq (length m.syncs) (length defs)) || not (nat_eq (length m.values) (length (all_spawn_props defs)))) (not (all_fit m.arg m.values)) h in
    let first = or_parts (not (nat_eq (length m.syncs) (length defs))) (not (nat_eq (length m.values) (length (all_spawn_props defs)))) last.0 in
    record {
      ids = eqb-true (length m.syncs) (length defs) (not_false (nat_eq (length m.syncs) (length defs)) first.0);
      values = eqb-true (length m.values) (length (all_spawn_props defs)) (not_false (nat_eq (length m.values) (length (all_spawn_props defs))) first.1);
      fit = not_false (all_fit m.arg m.values) last.1;
    }

-- a Show that says what it may is read back
pub show_readable : (s : Scene) → IsValidScene s → (auth : ℤ) (m : SpawnMsg) → SaysShow s auth m → IsSoundShow m → IsReadable (Show m)
show_readable s v auth m says sound = record {
  back = round_trip (plain_packet (packet.Spawn m.scene m.spawner m.net m.syncs m.name m.arg m.values)) (record { fits = (spawn_fits, sound.argument, values_sound m.values sound.values); short = short });
  row = refl;
}
  where
    defs : List SyncDef
    defs = syncs_at s (shown_place s m)

    few : AreFew defs
    few = few_of s v (shown_place s m)

    has : Counts defs m
    has = counts defs m says.right

    named : is_name m.name ≡ true
    named = not_false (is_name m.name) says.name

    range : (bad_id m.net ≡ false) × (find bad_id m.syncs ≡ None)
    range = none_bad m.net m.syncs says.range

    spawn_fits : FitsSpawn m.scene m.spawner m.net m.syncs m.name
    spawn_fits =
        let low = ltb-true m.net fixed_bit (good_small m.net range.0) in
        let byte = sound.byte in
        let syncs = few.syncs in
        let ids = has.ids in
        record {
          scene_fits = omega (arith, byte);
          spawner_fits = id_small s v m.spawner says.known;
          net_fits = omega (arith, low);
          count_fits = omega (arith, syncs, ids);
          syncs_fit = ids_small m.syncs range.1;
          is_name = name_fits m.name named sound.text;
        }

    short : length (written_packet (plain_packet (packet.Spawn m.scene m.spawner m.net m.syncs m.name m.arg m.values))) ≤ most_bytes
    short =
        let arg = argument_short m.arg m.values has.fit in
        let syncs = few.syncs in
        let props = few.props in
        let ids = has.ids in
        let values = has.values in
        omega (arith, filled_spawn_size m.scene m.spawner m.net m.syncs m.name m.arg m.values, values_short m.values arg.1, arg.0, name_short m.name named, ids, values, syncs, props)

-- so is a Hide of a small number
pub hide_readable : (num : ℕ) → is_small num ≡ true → IsReadable (Hide num)
hide_readable num h =
    let low = ltb-true num fixed_bit h in
    record { back = round_trip (plain_packet (packet.Despawn num)) (record { fits = omega (arith, low); short = short }); row = refl }
  where
    short : length (written_packet (plain_packet (packet.Despawn num))) ≤ most_bytes
    short = let four = word_size num in let one = byte_size 5 in omega (arith, length-append (word w8 5) (word w32 num), four, one)
