-- The entries of a frame can be written, and received entries leave the parts of a peer right.
use Rattle.std.proofs.Common.{◌≡◌, ◌/◌, ◌%◌, ◌≤◌, ℕ, suc, ℤ, Bool, true, false, cond, List, [], ◌∷◌, refl, sym, ap, ap₂, subst, ◌∙◌, length, map, nat_eq, nat_le, Option, Some, None, arith}
use Rattle.std.specs.Prelude.{slice_get, find, option_map, option_and_then}
use Rattle.std.specs.List.{list_all, cons_option}
use Rattle.std.proofs.lemmas.Bool.{and_from, le-leb}
use Rattle.std.proofs.lemmas.List.{length-map}
use Rattle.gd_variant.specs.Words.{text_eq, or_else}
use Rattle.gd_variant.specs.declared.value.Variant.TheVariants.{Nil}
use Rattle.gd_variant.specs.declared.message.DeltaEntry.{DeltaEntry}
use Rattle.scene_model.specs.declared.scene.Scene.{Scene}
use Rattle.scene_model.specs.declared.scene.Prop.{Prop}
use Rattle.scene_model.specs.declared.scene.SyncDef.{SyncDef}
use Rattle.scene_model.specs.declared.spawn.SyncRef.{SyncRef}
use Rattle.scene_model.specs.declared.outcome.Fault.{Fault}
use Rattle.scene_model.specs.Lookup.{fixed_node, sync_of}
use Rattle.scene_model.specs.Nodes.{Live, live_at}
use Rattle.scene_model.specs.Syncs.{change_props}
use Rattle.scene_model.specs.Valid.{IsValidScene}
use Rattle.peer_model.specs.Rows.{syncs_at}
use Rattle.peer_model.specs.Updates.{masked}
use Rattle.peer_model.specs.Changes.{mask_of}
use Rattle.headless_tree.specs.Nodes.{TreeOf}
use Rattle.peer_laws.proofs.Places.{all_found}
use Rattle.peer_laws.proofs.Tests.{then_some}
use Rattle.delta_props.specs.Telling.{ToldValues, value_of, told_by, told_sync, sync_by, sync_at, sync_named, collected, untold, told_of, with_told}
use Rattle.delta_props.specs.Taking.{delta_taken}
use Rattle.delta_props.proofs.Few.{named_few}
use Rattle.scene_model.specs.declared.outcome.Outcome.{Outcome}
use Rattle.peer_steps.specs.Fits.{Fits}
use Rattle.peer_steps.specs.Kept.{Kept, kept_tree}
use Rattle.peer_steps.specs.Rights.{is_right_value, has_right_values}
use Rattle.peer_steps.specs.Peers.{Peers}
use Rattle.peer_steps.specs.Sound.{are_sound_entries}
use Rattle.peer_steps.specs.Steps.{Taken, shown_answer, shown_taken, entries_judged, entries_put, entries_by, entries_taken}
use Rattle.peer_steps.specs.Track.{Track}
use Rattle.peer_steps.proofs.EntriesFit.{fits_entries}
use Rattle.peer_core.specs.Parts.{AreRight, is_right_entry, parts_kept}

-- values of nodes

right_prop : Prop → Bool
right_prop p = is_right_value p.value

value_right : (n : Live) (prop : List ℕ) → has_right_values n ≡ true → is_right_value (value_of n prop) ≡ true
value_right n prop h = by (find (λ (p : Prop). text_eq p.name prop) n.values) refl
  where
    by : (o : Option Prop) → find (λ (p : Prop). text_eq p.name prop) n.values ≡ o → is_right_value (or_else (option_map (λ (p : Prop). p.value) o) Nil) ≡ true
    by None e = refl
    by (Some p) e = all_found (λ (q : Prop). is_right_value q.value) (λ (q : Prop). text_eq q.name prop) n.values p h e

values_right : (n : Live) (props : List (List ℕ)) → has_right_values n ≡ true → list_all is_right_value (map (value_of n) props) ≡ true
values_right n [] h = refl
values_right n (p ∷ ps) h = and_from (is_right_value (value_of n p)) (list_all is_right_value (map (value_of n) ps)) (value_right n p h) (values_right n ps h)

masked_few : {X : Type 0} (mask : ℕ) (xs : List X) → length (masked mask xs) ≤ length xs
masked_few mask [] = omega arith
masked_few mask (x ∷ xs) = step (nat_eq (mask % 2) 1) (masked_few (mask / 2) xs)
  where
    step : (b : Bool) → length (masked (mask / 2) xs) ≤ length xs → length (cond b (x ∷ masked (mask / 2) xs) (masked (mask / 2) xs)) ≤ suc (length xs)
    step true h = omega (arith, h)
    step false h = omega (arith, h)

-- what a frame tells of one synchronizer

entry_right : (n : Live) (id mask : ℕ) (props : List (List ℕ)) → has_right_values n ≡ true → length props ≤ 64 → is_right_entry (record { id = id; mask = mask; values = map (value_of n) (masked mask props) }) ≡ true
entry_right n id mask props h few =
    and_from (nat_le (length (map (value_of n) (masked mask props))) 64) (list_all is_right_value (map (value_of n) (masked mask props)))
    (le-leb (length (map (value_of n) (masked mask props))) 64 (omega (arith, few, masked_few mask props, length-map (masked mask props) (value_of n))))
    (values_right n (masked mask props) h)

one_right : (b : ℤ) (id : ℕ) (n : Live) (props : List (List ℕ)) (mask : ℕ) (told : ToldValues) (es : List DeltaEntry) → has_right_values n ≡ true → length props ≤ 64 → list_all is_right_entry es ≡ true → list_all is_right_entry (cons_option (told_by b id (value_of n) props mask told).0 es) ≡ true
one_right b id n props mask told es h few all = step (nat_eq mask 0)
  where
    step : (c : Bool) → list_all is_right_entry (cons_option (cond {A = Option DeltaEntry × ToldValues} c (None, told) (Some (record { id = id; mask = mask; values = map (value_of n) (masked mask props) }), with_told b id (map (value_of n) props) told)).0 es) ≡ true
    step true = all
    step false = and_from (is_right_entry (record { id = id; mask = mask; values = map (value_of n) (masked mask props) })) (list_all is_right_entry es) (entry_right n id mask props h few) all

-- a synchronizer that is named serves a node of the tree

served : (nodes : List Live) (d : SyncDef) (y : Live × SyncDef) → list_all has_right_values nodes ≡ true → (o : Option Live) → live_at nodes d.of ≡ o → option_map (λ (m : Live). (m, d)) o ≡ Some y → has_right_values y.0 ≡ true
served nodes d y h None e k = absurd (cc k)
served nodes d y h (Some m) e k =
    let same : (m, d) ≡ y = cc in
    ap (λ (x : Live × SyncDef). has_right_values x.0) (sym same) ∙ all_found has_right_values (λ (x : Live). text_eq x.path d.of) nodes m h e

own : (n : Live) (o : Option SyncDef) (y : Live × SyncDef) → has_right_values n ≡ true → option_map (λ (d : SyncDef). (n, d)) o ≡ Some y → has_right_values y.0 ≡ true
own n None y h k = absurd (cc k)
own n (Some d) y h k = let same : (n, d) ≡ y = cc in ap (λ (x : Live × SyncDef). has_right_values x.0) (sym same) ∙ h

by_place : (s : Scene) (nodes : List Live) (k : ℕ) (n : Live) (place : Option ℕ) (y : Live × SyncDef) → list_all has_right_values nodes ≡ true → has_right_values n ≡ true → sync_by s nodes k n place ≡ Some y → has_right_values y.0 ≡ true
by_place s nodes k n None y h right e =
    let found = then_some (λ (d : SyncDef). option_map (λ (m : Live). (m, d)) (live_at nodes d.of)) (option_and_then sync_of (fixed_node s n.path)) y e in
    served nodes found.0 y h (live_at nodes found.0.of) refl found.2
by_place s nodes k n (Some place) y h right e = own n (slice_get (syncs_at s (Some place)) k) y right e

named_right : (s : Scene) (nodes : List Live) (path : List ℕ) (k : ℕ) (y : Live × SyncDef) → list_all has_right_values nodes ≡ true → sync_named s nodes path k ≡ Some y → has_right_values y.0 ≡ true
named_right s nodes path k y h e =
    let found = then_some (sync_at s nodes k) (live_at nodes path) y e in
    by_place s nodes k found.0 found.0.place y h (all_found has_right_values (λ (m : Live). text_eq m.path path) nodes found.0 h found.1) found.2

sync_right : (b : ℤ) (s : Scene) (nodes : List Live) (x : SyncRef) (told : ToldValues) (es : List DeltaEntry) → IsValidScene s → list_all has_right_values nodes ≡ true → list_all is_right_entry es ≡ true → (o : Option (Live × SyncDef)) → sync_named s nodes x.path x.k ≡ o
    → list_all is_right_entry (cons_option (told_sync b x.id o told).0 es) ≡ true
sync_right b s nodes x told es valid h all None e = all
sync_right b s nodes x told es valid h all (Some y) e =
    one_right b x.id y.0 (change_props y.1) (mask_of (untold (value_of y.0) (told_of b x.id told) 0 (change_props y.1))) told es (named_right s nodes x.path x.k y h e) (named_few s valid nodes x.path x.k y e) all

-- what a frame tells a peer
pub frame_right : (b : ℤ) (s : Scene) (nodes : List Live) (syncs : List SyncRef) (told : ToldValues) → IsValidScene s → list_all has_right_values nodes ≡ true → list_all is_right_entry (collected b s nodes syncs told).0 ≡ true
frame_right b s nodes [] told valid h = refl
frame_right b s nodes (x ∷ xs) told valid h =
    let y = sync_named s nodes x.path x.k in
    sync_right b s nodes x told (collected b s nodes xs (told_sync b x.id y told).1).0 valid h (frame_right b s nodes xs (told_sync b x.id y told).1 valid h) y refl

-- received entries

pub changed_right : (p : Peers) (t u : TreeOf) (r : Track) (from : ℤ) (es : List DeltaEntry) (o : Option Fault) → are_sound_entries es ≡ true → (o, u) ≡ entries_taken from es t → AreRight p.me t r → AreRight p.me u r
changed_right p t u r from es o sound made h = record {
  fits = subst (λ (x : Option Fault × TreeOf). Fits p.me x.1 r) (sym made) (fits_entries p.me r from es t sound h.fits);
  tracked = h.tracked;
}

puts_scene : (from : ℤ) (es : List DeltaEntry) (t : TreeOf) → (entries_put from es t).scene ≡ t.scene
puts_scene from [] t = refl
puts_scene from (e ∷ es) t = puts_scene from es (delta_taken from e t).1

taken_scene : (from : ℤ) (es : List DeltaEntry) (t : TreeOf) (o : Option Fault) → (entries_by from es t o).1.scene ≡ t.scene
taken_scene from es t (Some x) = refl
taken_scene from es t None = puts_scene from es t

pub changed_is : (k : Kept) (s : Bool) (p : Peers) (t u : TreeOf) (r : Track) (told : ToldValues) (from : ℤ) (es : List DeltaEntry) (f : Option Fault) (o : Outcome) → parts_kept s p t r told ≡ k → (f, u) ≡ entries_taken from es t → o ≡ shown_answer f
    → ◌≡◌ {A = Taken} (record { outcome = o; kept = parts_kept s p u r told }) (shown_taken k (entries_taken from es (kept_tree k)))
changed_is k s p t u r told from es f o is made answer =
    let here = parts_kept s p t r told in
    let scene : u.scene ≡ t.scene = ap (λ (x : Option Fault × TreeOf). x.1.scene) made ∙ taken_scene from es t (entries_judged t from es) in
    ap₂ {C = Taken} (λ (x : Outcome) (c : Scene). record { outcome = x; kept = record here { who = record { id = p.me; scene = c }; nodes = u.nodes } }) answer scene
    ∙ ap (shown_taken here) made
    ∙ ap (λ (j : Kept). shown_taken j (entries_taken from es (kept_tree j))) is
