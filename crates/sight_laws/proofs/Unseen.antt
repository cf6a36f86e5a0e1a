-- A frame leaves what a peer was told of a synchronizer that it may not see: no other tells the same property.
use Rattle.std.proofs.Common.{◌≡◌, ℕ, ℤ, Bool, true, false, ◌||◌, List, [], ◌∷◌, ◌++◌, refl, sym, ap, ◌∙◌, subst, map, filter, nat_eq, Option, Some, None}
use Rattle.std.specs.Prelude.{flat_map, zip, ◌/◌, ◌%◌, option_map, option_and_then, if◌then◌else◌}
use Rattle.std.specs.List.{AllByRecursion, Contains}
use Rattle.std.proofs.lemmas.Bool.{or_parts, or_from}
use Rattle.std.proofs.lemmas.List.{map-append}
use Rattle.gd_variant.specs.Words.{text_eq, has_text}
use Rattle.gd_variant.specs.declared.message.DeltaEntry.{DeltaEntry}
use Rattle.scene_model.specs.declared.scene.SyncDef.{SyncDef}
use Rattle.scene_model.specs.declared.scene.SyncProp.{SyncProp}
use Rattle.scene_model.specs.declared.event.Op.TheVariants.{Frame}
use Rattle.scene_model.specs.Lookup.{value_in}
use Rattle.scene_model.specs.Syncs.{Syncer, syncer_with, change_props, is_on_change}
use Rattle.scene_model.specs.Valid.{IsValidScene}
use Rattle.scene_model.proofs.TextLaws.{text_eq-true, text_eq-same, text_eq-sym}
use Rattle.peer_model.specs.Heard.{Who, Heard, does}
use Rattle.peer_model.specs.Rows.{own_rows}
use Rattle.peer_model.specs.Values.{own_value}
use Rattle.peer_model.specs.Visible.{visible_to, own_syncers}
use Rattle.peer_model.specs.Updates.{Tell, Live, Replica, apply_updates, assign_all, masked, tell_node, live_at, replica_syncers}
use Rattle.peer_model.specs.Changes.{tell_of, tell_for, differs, mask_of, value_told}
use Rattle.peer_model.proofs.Shown.{joined_updates}
use Rattle.peer_laws.proofs.Once.{filter_lacks}
use Rattle.world_laws.specs.Done.{AllDone}
use Rattle.world_laws.specs.Marks.{Mark, live_marks, own_marks, all_syncers}
use Rattle.world_laws.proofs.Moving.{syncers_marked, marks_move_on}
use Rattle.world_laws.proofs.Own.{own_apart, own_unfixed}
use Rattle.world_laws.proofs.Law.{found, every_weaker}
use Rattle.world_laws.proofs.Tellings.{IsFound}
use Rattle.sight_laws.specs.Told.{told_to}
use Rattle.sight_laws.specs.Laws.{ToldUnseenStays}
use Rattle.sight_laws.proofs.Lists.{of_member, map_same}
use Rattle.sight_laws.proofs.Sends.{all_left, nothing_shifts}
use Rattle.sight_laws.proofs.Frames.{frame_seen}
use Rattle.sight_laws.proofs.Apart.{Apart, Disjoint, all_pairs, pairs_split}
use Rattle.world_laws.proofs.Settled.{all_spare_it}
use Rattle.world_laws.proofs.Sparing.{part_has}
use Rattle.world_laws.proofs.Assigning.{found_path, found_told}
use Rattle.world_laws.proofs.Frames as frame

-- what Tells of others assign

masked_lacks : (p : List ℕ) (mask : ℕ) (ts : List (List ℕ)) → has_text p ts ≡ false → has_text p (masked mask ts) ≡ false
masked_lacks p mask [] h = refl
masked_lacks p mask (t ∷ ts) h = step (nat_eq (mask % 2) 1) (masked_lacks p (mask / 2) ts parts.1)
  where
    parts : (text_eq p t ≡ false) × (has_text p ts ≡ false)
    parts = or_parts (text_eq p t) (has_text p ts) h

    step : (b : Bool) → has_text p (masked (mask / 2) ts) ≡ false → has_text p (if b then t ∷ masked (mask / 2) ts else masked (mask / 2) ts) ≡ false
    step true more = or_from (text_eq p t) (has_text p (masked (mask / 2) ts)) parts.0 more
    step false more = more

apart_changes : (d e : SyncDef) → Disjoint d e → (p : List ℕ) → has_text p (change_props d) ≡ true → has_text p (change_props e) ≡ false
apart_changes d e h p k = filter_lacks (λ (x : SyncProp). x.prop) (λ (x : SyncProp). is_on_change x.mode) p e.props (h p (part_has (λ (x : SyncProp). is_on_change x.mode) p d.props k))

-- Tells of others

node_spared : (y z : Syncer) (t : DeltaEntry) (p : List ℕ) → has_text p (change_props y.def) ≡ true → Apart y z → (n : Live) → text_eq n.path y.node ≡ true → value_in (tell_node (Some z) t n).values p ≡ value_in n.values p
node_spared y z t p own apart n at = step (text_eq n.path z.node) refl
  where
    step : (b : Bool) → text_eq n.path z.node ≡ b → value_in (if b then assign_all (zip (masked t.mask (change_props z.def)) t.values) n.values else n.values) p ≡ value_in n.values p
    step true e = all_spare_it p (masked t.mask (change_props z.def)) t.values n.values (masked_lacks p t.mask (change_props z.def) (apart_changes y.def z.def (apart (text_eq-sym z.node y.node ∙ ap (λ u. text_eq u z.node) (sym (text_eq-true n.path y.node at)) ∙ e)) p own))
    step false e = refl

nodes_spared : (y z : Syncer) (t : DeltaEntry) (p : List ℕ) → has_text p (change_props y.def) ≡ true → Apart y z → (nodes : List Live)
    → option_and_then (λ (n : Live). value_in n.values p) (live_at (map (tell_node (Some z) t) nodes) y.node) ≡ option_and_then (λ (n : Live). value_in n.values p) (live_at nodes y.node)
nodes_spared y z t p own apart nodes = ap (option_and_then (λ (n : Live). value_in n.values p)) (found_told z t nodes y.node) ∙ step (live_at nodes y.node) refl
  where
    step : (o : Option Live) → live_at nodes y.node ≡ o → option_and_then (λ (n : Live). value_in n.values p) (option_map (tell_node (Some z) t) o) ≡ option_and_then (λ (n : Live). value_in n.values p) o
    step None e = refl
    step (Some n) e = node_spared y z t p own apart n (found_path nodes y.node n e)

module _ (who : Who) (es : List Heard) (ms : List Mark) (from : Replica) (y : Syncer) (p : List ℕ) (own : has_text p (change_props y.def) ≡ true) where
  one_spared : (z : Syncer) → IsFound who es ms z → Apart y z → (r : Replica) → live_marks r.rows ≡ ms → (mask : ℕ) (names : List (List ℕ))
      → (value_told (apply_updates who.scene who.id r (tell_for who es z mask names)) y.node p ≡ value_told r y.node p) × (live_marks (apply_updates who.scene who.id r (tell_for who es z mask names)).rows ≡ ms)
  one_spared z known apart r marks mask [] = (refl, marks)
  one_spared z known apart r marks mask (n ∷ ns) = (
    ap (λ o. option_and_then (λ (m : Live). value_in m.values p) (live_at (map (tell_node o t) r.fixed ++ map (tell_node o t) r.rows) y.node)) there
        ∙ ap (λ nodes. option_and_then (λ (m : Live). value_in m.values p) (live_at nodes y.node)) (sym (map-append (tell_node (Some z) t) r.fixed r.rows))
        ∙ nodes_spared y z t p own apart (r.fixed ++ r.rows),
    marks_move_on who.scene who.id r (Tell t ∷ []) ∙ marks,
  )
    where
      t : DeltaEntry
      t = record { id = z.id; mask = mask; values = map (own_value who es z.node) (n ∷ ns) }

      there : syncer_with z.id (replica_syncers who.scene who.id r.rows) ≡ Some z
      there = ap (syncer_with z.id) (syncers_marked who.scene who.id r.rows ∙ ap (all_syncers who.scene who.id) marks) ∙ known.there

  tells_spare : (zs : List Syncer) → AllByRecursion (IsFound who es ms) zs → AllByRecursion (Apart y) zs → (r : Replica) → live_marks r.rows ≡ ms → value_told (apply_updates who.scene who.id r (flat_map (tell_of who es from) zs)) y.node p ≡ value_told r y.node p
  tells_spare [] h a r marks = refl
  tells_spare (z ∷ zs) h a r marks =
      let one = one_spared z h.0 a.0 r marks (mask_of (map (differs who es from z) (change_props z.def))) (filter (differs who es from z) (change_props z.def)) in
      ap (λ (k : Replica). value_told k y.node p) (joined_updates who.scene who.id r (tell_of who es from z) (flat_map (tell_of who es from) zs))
      ∙ tells_spare zs h.1 a.1 (apply_updates who.scene who.id r (tell_of who es from z)) one.1
      ∙ one.0

-- each text of a list is in it
texts_have : (ts : List (List ℕ)) → AllByRecursion (λ t. has_text t ts ≡ true) ts
texts_have [] = tt
texts_have (t ∷ ts) = (ap (λ b. b || has_text t ts) (text_eq-same t), every_weaker (λ u. has_text u ts ≡ true) (λ u. has_text u (t ∷ ts) ≡ true) (λ u e. or_right (text_eq u t) (has_text u ts) e) ts (texts_have ts))
  where
    or_right : (a b : Bool) → b ≡ true → (a || b) ≡ true
    or_right true b h = refl
    or_right false b h = h

-- a synchronizer that a peer may not see is apart from all that it may see
apart_of : (who : Who) (es : List Heard) (b : ℤ) → IsValidScene who.scene → AllDone who es → (y : Syncer) → Contains (own_syncers who es) y → visible_to who es b y ≡ false → AllByRecursion (Apart y) (filter (visible_to who (does Frame ∷ es) b) (own_syncers who (does Frame ∷ es)))
apart_of who es b v all y has unseen = subst (AllByRecursion (Apart y)) (sym (frame_seen who es b))
    (of_member (λ z. visible_to who es b z ≡ false → AllByRecursion (Apart z) (filter (visible_to who es b) (own_syncers who es))) (own_syncers who es) y
    (pairs_split (visible_to who es b) (own_syncers who es) (all_pairs who v (own_rows who es) (own_apart who es all) (own_unfixed who es all))) has unseen)

pub told_unseen_stays : ToldUnseenStays
told_unseen_stays who es b y v all up has unseen = map_same (value_told (told_to who (does Frame ∷ es) b) y.node) (value_told (told_to who es b) y.node) (change_props y.def)
    (every_weaker (λ p. has_text p (change_props y.def) ≡ true) (λ p. value_told (told_to who (does Frame ∷ es) b) y.node p ≡ value_told (told_to who es b) y.node p)
    (λ p own. ap (λ (k : Replica). value_told k y.node p) (frame.after who es b v all up)
    ∙ tells_spare who (does Frame ∷ es) (own_marks (frame.seen who es b v all up)) (frame.shown who es b v all up) y p own (frame.ys who es b v all up) (found who v (does Frame) es all b up (told_to who es b) (frame.part who es b v all up)) (apart_of who es b v all.1 y has unseen) (frame.shown who es b v all up) (frame.marks who es b v all up)
    ∙ ap (λ us. value_told (apply_updates who.scene who.id (told_to who es b) us) y.node p) (nothing_shifts who es (does Frame) v all b up up refl (all_left who es (does Frame) b refl)))
    (change_props y.def) (texts_have (change_props y.def)))
