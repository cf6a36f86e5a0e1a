-- A row of a valid scene has a packet, and that packet is read again.
use Rattle.std.proofs.Common.{◌≡◌, ℕ, ◌*◌, ◌<◌, ◌≤◌, Bool, true, false, ◌&&◌, List, [], ◌∷◌, ◌++◌, length, refl, arith, inl, inr, Option, Some, None, Ok}
use Rattle.std.specs.Prelude.{ℤ, find, option_map, option_and_then, nat_eq, nat_le, nat_lt}
use Rattle.std.specs.List.{list_all}
use Rattle.std.proofs.lemmas.Bool.{cases_Bool, leb-true, ltb-true, eqb-true, ne_eqb, and_parts, and_from}
use Rattle.std.proofs.lemmas.List.{length-append, length-map}
use Rattle.gd_variant.specs.Words.{text_eq, or_else}
use Rattle.gd_variant.specs.Tree.{Tree, boolean, int, plain}
use Rattle.gd_variant.specs.Size.{int_width, tree_size, small_tree_size}
use Rattle.gd_variant.specs.Sound.{is_sound}
use Rattle.gd_variant.specs.declared.value.Variant.{Variant}
use Rattle.gd_variant.specs.declared.value.Variant.TheVariants.{Nil}
use Rattle.gd_variant.specs.declared.message.Plain.{Plain}
use Rattle.gd_variant.specs.declared.message.Plain.TheVariants as packet
use Rattle.gd_variant.specs.declared.message.Message.TheVariants.{Plain as plain_packet}
use Rattle.variant_codec.proofs.Forms.{small_written_size, small_int_short}
use Rattle.packet_form.specs.Packets.{most_bytes, IsEncodable, IsWritable}
use Rattle.packet_form.specs.Written.{written_value, written_values, written_packet, arg_bytes, delta_entry_bytes, IsArgSound, AreSound}
use Rattle.gd_variant.specs.declared.message.DeltaEntry.{DeltaEntry}
use Rattle.peer_core.specs.Parts.{is_right_entry}
use Rattle.std.specs.Int.{w8, w32}
use Rattle.byte_fields.specs.Fields.{word}
use Rattle.packet_form.proofs.Lengths.{byte_size, word_size, arg_size, delta_entry_size, filled_spawn_size}
use Rattle.packet_form.proofs.Written.{round_trip}
use Rattle.scene_model.specs.declared.scene.Scene.{Scene}
use Rattle.scene_model.specs.declared.scene.Prop.{Prop}
use Rattle.scene_model.specs.Paths.{is_name}
use Rattle.scene_model.specs.Lookup.{fixed_path_id, value_in}
use Rattle.scene_model.specs.Valid.{IsValidScene}
use Rattle.peer_model.specs.Rows.{syncs_at}
use Rattle.peer_model.specs.Updates.{Live, all_spawn_props, live_at}
use Rattle.peer_model.specs.View.{fits}
use Rattle.headless_tree.specs.Nodes.{value_at}
use Rattle.peer_laws.specs.Shown.{values_in}
use Rattle.peer_laws.proofs.Places.{all_found}
use Rattle.peer_steps.specs.declared.rows.SpawnedRow.{SpawnedRow}
use Rattle.peer_steps.specs.Rights.{is_right_value, has_right_values, is_right_argument, is_right_byte, is_right_row}
use Rattle.peer_steps.specs.Steps.{row_packet}
use Rattle.peer_core.specs.Forms.{packet_form}
use Rattle.peer_core.proofs.SpawnProps.{few_at}

-- values

-- the compressed form is no longer
int_no_longer : (z : ℤ) → small_tree_size (int z) ≤ tree_size (int z)
int_no_longer z =
    let nine = small_int_short z in
    let size = small_written_size (int z) in
    elim (cases_Bool (nat_le (int_width z) 4)) [
      | inl e ↦ let le = leb-true (int_width z) 4 e in rw e (omega (arith, le))
      | inr e ↦ rw e (omega (arith, nine, size))
    ]

no_longer : (t : Tree) → small_tree_size t ≤ tree_size t
no_longer (boolean b) = omega arith
no_longer (int z) = int_no_longer z
no_longer t = omega arith

value_short : (v : Variant) → is_right_value v ≡ true → length (written_value v) ≤ 65536
value_short v h =
    let short = leb-true (tree_size (plain v)) 65536 (and_parts (is_sound v) (fits v) h).1 in
    omega (arith, small_written_size (plain v), no_longer (plain v), short)

values_short : (vs : List Variant) → list_all is_right_value vs ≡ true → length (written_values vs) ≤ 65536 * length vs
values_short [] h = omega arith
values_short (v ∷ vs) h =
    let p = and_parts (is_right_value v) (list_all is_right_value vs) h in
    omega (arith, length-append (written_value v) (written_values vs), value_short v p.0, values_short vs p.1)

values_sound : (vs : List Variant) → list_all is_right_value vs ≡ true → AreSound vs
values_sound [] h = tt
values_sound (v ∷ vs) h =
    let p = and_parts (is_right_value v) (list_all is_right_value vs) h in
    ((and_parts (is_sound v) (fits v) p.0).0, values_sound vs p.1)

-- packets

-- what is asked of a spawn
pub record IsShown (s : Scene) (place byte : ℕ) (ids name : List ℕ) (arg : Option Variant) (values : List Variant) : Type 0 where
  pub byte_right : is_right_byte byte arg ≡ true
  pub argument : is_right_argument arg ≡ true
  pub named : is_name name ≡ true
  pub each_id : length ids ≡ length (syncs_at s (Some place))
  pub each_value : length values ≡ length (all_spawn_props (syncs_at s (Some place)))
  pub values_right : list_all is_right_value values ≡ true

pub name_short : (name : List ℕ) → is_name name ≡ true → length name ≤ 64
name_short name h = leb-true (length name) 64 (and_parts _ _ (and_parts _ _ h).0).1

no_custom : (byte : ℕ) → byte < 255 → nat_eq byte 255 ≡ false
no_custom byte lt = ne_eqb byte 255 (λ e. omega (arith, e, lt))

argument_sound : (byte : ℕ) (arg : Option Variant) → is_right_byte byte arg ≡ true → is_right_argument arg ≡ true → IsArgSound byte arg
argument_sound byte None right h = no_custom byte (ltb-true byte 255 right)
argument_sound byte (Some v) right h = (right, (and_parts (is_sound v) (fits v) h).0)

argument_short : (arg : Option Variant) → is_right_argument arg ≡ true → length (arg_bytes arg) ≤ 65540
argument_short None h = omega arith
argument_short (Some v) h = omega (arith, arg_size v, value_short v h)

-- a spawn of a valid scene has a packet
pub spawn_encodable : (s : Scene) → IsValidScene s → (place byte spawner net : ℕ) (ids name : List ℕ) (arg : Option Variant) (values : List Variant) → IsShown s place byte ids name arg values
    → IsEncodable (plain_packet (packet.Spawn byte spawner net ids name arg values))
spawn_encodable s v place byte spawner net ids name arg values r = record { sound = (argument_sound byte arg r.byte_right r.argument, values_sound values r.values_right); short = short }
  where
    short : length (written_packet (plain_packet (packet.Spawn byte spawner net ids name arg values))) ≤ most_bytes
    short =
        let few = few_at s v place in
        omega (arith, filled_spawn_size byte spawner net ids name arg values, argument_short arg r.argument, values_short values r.values_right, name_short name r.named, r.each_id, r.each_value, few.syncs, few.props)

-- so has the packet that hides a row
pub despawn_encodable : (num : ℕ) → IsEncodable (plain_packet (packet.Despawn num))
despawn_encodable num = record { sound = tt; short = omega (arith, length-append (word w8 5) (word w32 num), byte_size 5, word_size num) }

-- so has the packet that tells values of one synchronizer
pub entry_encodable : (e : DeltaEntry) → is_right_entry e ≡ true → IsEncodable (plain_packet (packet.Delta (e ∷ [])))
entry_encodable e h =
    let parts = and_parts (nat_le (length e.values) 64) (list_all is_right_value e.values) h in
    record {
      sound = (values_sound e.values parts.1, tt);
      short = omega (arith, length-append (word w8 22) (delta_entry_bytes e ++ []), byte_size 22, length-append (delta_entry_bytes e) [], delta_entry_size e, values_short e.values parts.1, leb-true (length e.values) 64 parts.0);
    }

-- the values of nodes

abbrev right_prop : Prop → Bool
right_prop p = is_right_value p.value

pub value_right : (nodes : List Live) (path prop : List ℕ) → list_all has_right_values nodes ≡ true → is_right_value (or_else (value_at nodes path prop) Nil) ≡ true
value_right nodes path prop h = at_node (live_at nodes path) refl
  where
    at_prop : (props : List Prop) → list_all right_prop props ≡ true → (o : Option Prop) → find (λ (p : Prop). text_eq p.name prop) props ≡ o → is_right_value (or_else (option_map (λ (p : Prop). p.value) o) Nil) ≡ true
    at_prop props k None e = refl
    at_prop props k (Some p) e = all_found right_prop (λ (q : Prop). text_eq q.name prop) props p k e

    at_node : (o : Option Live) → live_at nodes path ≡ o → is_right_value (or_else (option_and_then (λ (n : Live). value_in n.values prop) o) Nil) ≡ true
    at_node None e = refl
    at_node (Some n) e = at_prop n.values (all_found has_right_values (λ (m : Live). text_eq m.path path) nodes n h e) (find (λ (p : Prop). text_eq p.name prop) n.values) refl

pub values_right : (nodes : List Live) (path : List ℕ) (props : List (List ℕ)) → list_all has_right_values nodes ≡ true → list_all is_right_value (values_in nodes path props) ≡ true
values_right nodes path [] h = refl
values_right nodes path (p ∷ ps) h = and_from (is_right_value (or_else (value_at nodes path p) Nil)) (list_all is_right_value (values_in nodes path ps)) (value_right nodes path p h) (values_right nodes path ps h)

-- rows

row_shown : (s : Scene) (nodes : List Live) → list_all has_right_values nodes ≡ true → (r : SpawnedRow) → is_right_row s r ≡ true → IsShown s r.place r.byte r.ids r.name r.arg (values_in nodes r.path (all_spawn_props (syncs_at s (Some r.place))))
row_shown s nodes values r h =
    let parts = and_parts (is_name r.name && nat_eq (length r.ids) (length (syncs_at s (Some r.place)))) ((is_right_byte r.byte r.arg && is_right_argument r.arg) && nat_lt r.place (length s.scenes)) h in
    let front = and_parts (is_name r.name) (nat_eq (length r.ids) (length (syncs_at s (Some r.place)))) parts.0 in
    let given = and_parts (is_right_byte r.byte r.arg) (is_right_argument r.arg) (and_parts (is_right_byte r.byte r.arg && is_right_argument r.arg) (nat_lt r.place (length s.scenes)) parts.1).0 in
    record {
      byte_right = given.0;
      argument = given.1;
      named = front.0;
      each_id = eqb-true (length r.ids) (length (syncs_at s (Some r.place))) front.1;
      each_value = length-map (all_spawn_props (syncs_at s (Some r.place))) (λ p. or_else (value_at nodes r.path p) Nil);
      values_right = values_right nodes r.path (all_spawn_props (syncs_at s (Some r.place))) values;
    }

-- a row has a packet
pub encodable : (s : Scene) → IsValidScene s → (nodes : List Live) → list_all has_right_values nodes ≡ true → (r : SpawnedRow) → is_right_row s r ≡ true → IsEncodable (plain_packet (row_packet s nodes r))
encodable s v nodes values r h = spawn_encodable s v r.place r.byte (or_else (fixed_path_id s r.spawner) 0) r.num r.ids r.name r.arg (values_in nodes r.path (all_spawn_props (syncs_at s (Some r.place)))) (row_shown s nodes values r h)

-- what is written of a message that has a packet is read as that message
pub readable : (p : Plain) → IsWritable (plain_packet p) → packet_form.read_packet (packet_form.written_packet (plain_packet p)) ≡ Ok (plain_packet p)
readable p w = round_trip (plain_packet p) w
