-- The packet of a Tell can be written, and is read again, where the values are sound.
use Rattle.std.proofs.Common.{◌≡◌, ℕ, ◌-◌, ◌^◌, ◌<◌, ◌≤◌, ℤ, Bool, true, false, not, ◌&&◌, List, [], ◌∷◌, ◌++◌, length, map, filter, refl, ◌∙◌, subst, arith, is_some, nat_le, pow_mono, Option, Some, None, length-append}
use Rattle.std.specs.Prelude.{flat_map, is_none}
use Rattle.std.specs.Int.{w8}
use Rattle.std.specs.List.{list_all, AllByRecursion}
use Rattle.std.proofs.lemmas.Bool.{leb-true, leb-false}
use Rattle.std.proofs.lemmas.List.{length-map}
use Rattle.std.proofs.lemmas.List.Folds.{list_all-map}
use Rattle.byte_fields.specs.Fields.{word}
use Rattle.gd_variant.specs.Sound.{is_sound}
use Rattle.gd_variant.specs.declared.message.DeltaEntry.{DeltaEntry}
use Rattle.gd_variant.specs.declared.message.Plain.TheVariants as packet
use Rattle.gd_variant.specs.declared.message.Message.TheVariants.{Plain as plain_packet}
use Rattle.packet_form.specs.Packets.{most_bytes}
use Rattle.packet_form.specs.Written.{delta_entry_bytes, written_packet}
use Rattle.packet_form.proofs.Lengths.{byte_size, delta_entry_size}
use Rattle.packet_form.proofs.Written.{round_trip}
use Rattle.scene_model.specs.declared.scene.Scene.{Scene}
use Rattle.scene_model.specs.declared.scene.Node.{Node}
use Rattle.scene_model.specs.Lookup.{fixed_node_at, sync_of}
use Rattle.scene_model.specs.Syncs.{Syncer, change_props, fixed_bit}
use Rattle.scene_model.specs.Valid.{IsValidScene}
use Rattle.peer_model.specs.Heard.{Who, Heard}
use Rattle.peer_model.specs.Values.{own_value, keep_if}
use Rattle.peer_model.specs.Visible.{own_syncers}
use Rattle.peer_model.specs.View.{fits, tree_of}
use Rattle.peer_model.specs.Faults.{auth_is, is_fixed_id}
use Rattle.peer_model.specs.Updates.{Replica, Tell}
use Rattle.peer_model.specs.Changes.{differs, mask_of, tell_for, tell_of}
use Rattle.peer_laws.specs.Built.{AllAccepted}
use Rattle.peer_laws.proofs.Each.{all_each, every_joined}
use Rattle.peer_laws.proofs.FactsOf.{facts}
use Rattle.peer_laws.proofs.Filters.{kept_length}
use Rattle.world_laws.specs.Marks.{Mark, fixed_sync_of}
use Rattle.world_laws.proofs.Law.{built_done, every_weaker}
use Rattle.world_laws.proofs.Short.{own_short}
use Rattle.world_laws.proofs.Tellings.{IsFound}
use Rattle.delta_props.proofs.Few.{named_few}
use Rattle.delta_props.proofs.Masks.{mask_below}
use Rattle.telling_laws.proofs.Collecting.{Serves}
use Rattle.telling_laws.proofs.Serving.{all_serve}
use Rattle.world_steps.proofs.Links.{IsReadable, AllReadable}
use Rattle.world_steps.proofs.SoundValues.{is_sound_heard, own_sound}
use Rattle.world_steps.proofs.Writable.{path_id_small, values_short, values_sound}

-- What is asked of a Tell: its numbers have their widths, and it has few values, which are sound and not too long.
record IsTellable (t : DeltaEntry) : Type 0 where
  pub id : t.id < 2 ^ 32
  pub mask : t.mask < 2 ^ 64
  pub few : length t.values ≤ 64
  pub short : list_all fits t.values ≡ true
  pub sound : list_all is_sound t.values ≡ true

tell_readable : (t : DeltaEntry) → IsTellable t → IsReadable (Tell t)
tell_readable t is = record {
  back = round_trip (plain_packet (packet.Delta (t ∷ []))) (record { fits = ((is.id, is.mask, values_sound t.values is.sound), tt); short = short });
  row = refl;
}
  where
    short : length (written_packet (plain_packet (packet.Delta (t ∷ [])))) ≤ most_bytes
    short =
        let few = is.few in
        omega (arith, length-append (word w8 22) (delta_entry_bytes t ++ []), byte_size 22, length-append (delta_entry_bytes t) [], delta_entry_size t, values_short t.values is.short, few)

-- an id that a hearer takes from its authority has the width of ids: a row's is low, and a fixed synchronizer's is a path id beside bit 31
id_fits : (s : Scene) → IsValidScene s → (auth : ℤ) (id : ℕ) → (is_fixed_id id && not (auth_is auth (fixed_sync_of s id))) ≡ false → id < 2 ^ 32
id_fits s v auth id h = step (is_fixed_id id) refl h
  where
    node_there : (o : Option Node) → not (auth_is auth (keep_if (λ n. is_some (sync_of n)) o)) ≡ false → is_none o ≡ false
    node_there None k = absurd (cc k)
    node_there (Some n) k = refl

    step : (t : Bool) → nat_le fixed_bit id ≡ t → (t && not (auth_is auth (fixed_sync_of s id))) ≡ false → id < 2 ^ 32
    step false e k = let high = leb-false fixed_bit id e in omega (arith, high)
    step true e k =
        let low = leb-true fixed_bit id e in
        let small = path_id_small s v (id - fixed_bit) (node_there (fixed_node_at s (id - fixed_bit)) k) in
        omega (arith, low, small)

-- a mask of at most 64 bits has the width of masks
mask_fits : {X : Type 0} (q : X → Bool) (xs : List X) → length xs ≤ 64 → mask_of (map q xs) < 2 ^ 64
mask_fits q xs few =
    let below : mask_of (map q xs) < 2 ^ length xs = subst (λ n. mask_of (map q xs) < 2 ^ n) (length-map xs q) (mask_below (map q xs)) in
    let high : 2 ^ length xs ≤ 2 ^ 64 = pow_mono few in
    omega (arith, below, high)

-- a synchronizer has at most 64 on-change properties
abbrev pub IsFew : Syncer → Type 0
IsFew y = length (change_props y.def) ≤ 64

-- each of a peer's own has
pub own_few : (who : Who) (es : List Heard) → IsValidScene who.scene → AllAccepted who es → AllByRecursion IsFew (own_syncers who es)
own_few who es v all =
    every_weaker (Serves who es (tree_of who es)) IsFew (λ y h. named_few who.scene v (tree_of who es) y.path y.place (h.node, y.def) h.there)
    (own_syncers who es) (all_serve who es v (facts who es v all))

module _ (who : Who) (es : List Heard) (v : IsValidScene who.scene) (all : AllAccepted who es) (sound : list_all is_sound_heard es ≡ true) (ms : List Mark) where
  tell_reads : (y : Syncer) → IsFound who es ms y → IsFew y → (q : List ℕ → Bool) (names : List (List ℕ)) → filter q (change_props y.def) ≡ names → AllReadable (tell_for who es y (mask_of (map q (change_props y.def))) names)
  tell_reads y found few q [] e = tt
  tell_reads y found few q (p ∷ ps) e =
      let now = own_value who es y.node in
      let fewer : length (p ∷ ps) ≤ length (change_props y.def) = subst (λ ns. length ns ≤ length (change_props y.def)) e (kept_length q (change_props y.def)) in (
        tell_readable (record { id = y.id; mask = mask_of (map q (change_props y.def)); values = map now (p ∷ ps) }) (record {
          id = id_fits who.scene v who.id y.id found.owned;
          mask = mask_fits q (change_props y.def) few;
          few = omega (arith, length-map (p ∷ ps) now, fewer, few);
          short = list_all-map fits now (p ∷ ps) ∙ all_each (λ n. fits (now n)) (own_short who v es (built_done who es all) y.node) (p ∷ ps);
          sound = list_all-map is_sound now (p ∷ ps) ∙ all_each (λ n. is_sound (now n)) (own_sound who es v all sound y.node) (p ∷ ps);
        }),
        tt,
      )

  -- Tells of synchronizers that are found by their ids are read back
  pub tells_read : (r : Replica) (ys : List Syncer) → AllByRecursion (IsFound who es ms) ys → AllByRecursion IsFew ys → AllReadable (flat_map (tell_of who es r) ys)
  tells_read r [] found few = tt
  tells_read r (y ∷ ys) found few = every_joined IsReadable (tell_of who es r y) (flat_map (tell_of who es r) ys)
      (tell_reads y found.0 few.0 (differs who es r y) (filter (differs who es r y) (change_props y.def)) refl) (tells_read r ys found.1 few.1)
