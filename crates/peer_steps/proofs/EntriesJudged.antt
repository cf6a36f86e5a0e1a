-- Why a received entry is a fault, by the nodes of the tree and by the definitions.
use Rattle.std.proofs.Common.{◌≡◌, ℕ, zero, suc, ◌-◌, ℤ, Bool, true, false, List, [], ◌∷◌, refl, sym, ap, ap₂, ◌∙◌, map, nat_eq, arith, Option, Some, None}
use Rattle.std.specs.Prelude.{find, flat_map, if◌then◌else◌, zip, option_and_then, option_map, position, slice_get}
use Rattle.std.specs.List.{position_or_len}
use Rattle.std.specs.Ordering.{int_eq}
use Rattle.gd_variant.specs.Words.{numbered}
use Rattle.gd_variant.specs.declared.message.DeltaEntry.{DeltaEntry}
use Rattle.scene_model.specs.declared.scene.Scene.{Scene}
use Rattle.scene_model.specs.declared.scene.Node.{Node}
use Rattle.scene_model.specs.declared.scene.SyncDef.{SyncDef}
use Rattle.scene_model.specs.Lookup.{fixed_node_at, sync_of}
use Rattle.scene_model.specs.Syncs.{Syncer, fixed_bit, row_syncer, row_syncers, syncer_with}
use Rattle.peer_model.specs.Heard.{Who}
use Rattle.peer_model.specs.Rows.{syncs_at}
use Rattle.peer_model.specs.Updates.{Live, live_syncers}
use Rattle.peer_model.specs.Faults.{delta_fault, is_fixed_id}
use Rattle.headless_tree.specs.Numbers.{has_number}
use Rattle.headless_tree.proofs.Places.{found_at, first_is, not_found}
use Rattle.peer_laws.specs.Facts.{rows_under}
use Rattle.delta_props.specs.Taking.{def_judged, delta_judged, fixed_meant, meant_judged, row_meant, row_placed, row_sync}
use Rattle.peer_steps.proofs.Meanings.{aim, aimed, none_find, none_found, placed_has, row_at, row_lacks, row_meant_is}
use Rattle.peer_steps.proofs.ViewIds.{Unshared}

-- why an entry is a fault

-- a fixed node stands at the place before its path id
pub node_before : (s : Scene) (j : ℕ) (n : Node) → fixed_node_at s j ≡ Some n → slice_get s.nodes (j - 1) ≡ Some n
node_before s zero n h = absurd (cc h)
node_before s (suc i) n h = let e : suc i - 1 ≡ i = omega arith in ap (slice_get s.nodes) e ∙ h

module _ (who : Who) (c : ℤ) (nodes : List Live) (t : DeltaEntry) where
  -- an id of a fixed synchronizer
  fixed_judged : is_fixed_id t.id ≡ true → meant_judged who.scene t (fixed_meant who.scene c t.id) ≡ delta_fault who c (rows_under c nodes) t
  fixed_judged high = step (fixed_node_at who.scene (t.id - fixed_bit)) refl
    where
      step : (o : Option Node) → fixed_node_at who.scene (t.id - fixed_bit) ≡ o → meant_judged who.scene t (fixed_meant who.scene c t.id) ≡ delta_fault who c (rows_under c nodes) t
      step None e = rw (high, e) refl
      step (Some n) e = by (sync_of n) refl
        where
          by : (q : Option SyncDef) → sync_of n ≡ q → meant_judged who.scene t (fixed_meant who.scene c t.id) ≡ delta_fault who c (rows_under c nodes) t
          by None f = rw (high, e) (rw f refl)
          by (Some d) f = own (int_eq n.auth c) refl
            where
              own : (b : Bool) → int_eq n.auth c ≡ b → meant_judged who.scene t (fixed_meant who.scene c t.id) ≡ delta_fault who c (rows_under c nodes) t
              own false g = rw (high, e) (rw f (rw g refl))
              own true g =
                  let there = node_before who.scene (t.id - fixed_bit) n e in
                  rw (high, e) (rw f (rw g (rw there (rw f refl))))

  by_aims : (y : Option Syncer) → option_map (λ (z : Syncer). z.def) y ≡ option_map (λ (a : List ℕ × SyncDef). a.1) (option_map aim y)
  by_aims None = refl
  by_aims (Some y) = refl

  of_aims : (path : List ℕ) (d : Option SyncDef) → option_map (λ (a : List ℕ × SyncDef). a.1) (option_map (aimed path) d) ≡ d
  of_aims path None = refl
  of_aims path (Some d) = refl

  no_syncs : (path : List ℕ) (id k : ℕ) (ids : List ℕ) → syncer_with id (map (row_syncer path) (numbered k (zip ids []))) ≡ None
  no_syncs path id k [] = refl
  no_syncs path id k (i ∷ ids) = refl

  -- of the node that has the number
  node_judged : (i : ℕ) (n : Live) → meant_judged who.scene t (row_sync who.scene t.id i (Some n)) ≡ def_judged t (option_map (λ (y : Syncer). y.def) (syncer_with t.id (live_syncers who.scene n)))
  node_judged i n = step n.place refl
    where
      step : (p : Option ℕ) → n.place ≡ p → meant_judged who.scene t (row_sync who.scene t.id i (Some n)) ≡ def_judged t (option_map (λ (y : Syncer). y.def) (syncer_with t.id (live_syncers who.scene n)))
      step None e = rw e (ap (λ o. def_judged t (option_map (λ (y : Syncer). y.def) o)) (sym (no_syncs n.path t.id 0 n.ids)))
      step (Some place) e = by (position (nat_eq t.id) n.ids) refl
        where
          by : (k : Option ℕ) → position (nat_eq t.id) n.ids ≡ k → meant_judged who.scene t (row_sync who.scene t.id i (Some n)) ≡ def_judged t (option_map (λ (y : Syncer). y.def) (syncer_with t.id (live_syncers who.scene n)))
          by None f =
              let lacks = none_find (λ (y : Syncer). nat_eq y.id t.id) (live_syncers who.scene n) (row_lacks n.path t.id 0 n.ids (syncs_at who.scene n.place) (none_found (nat_eq t.id) n.ids (not_found (nat_eq t.id) n.ids f))) in
              rw (e, f) refl ∙ ap (λ o. def_judged t (option_map (λ (y : Syncer). y.def) o)) (sym lacks)
          by (Some k) f =
              let has = placed_has t.id n.ids k f in
              let at = row_at n.path t.id 0 n.ids (syncs_at who.scene (Some place)) has in
              let defs_is : option_map (λ (y : Syncer). y.def) (syncer_with t.id (live_syncers who.scene n)) ≡ slice_get (syncs_at who.scene (Some place)) k =
              ap (λ q. option_map (λ (y : Syncer). y.def) (syncer_with t.id (row_syncers n.path n.ids (syncs_at who.scene q)))) e
              ∙ by_aims (syncer_with t.id (row_syncers n.path n.ids (syncs_at who.scene (Some place)))) ∙ ap (option_map (λ (a : List ℕ × SyncDef). a.1)) at ∙ of_aims n.path (slice_get (syncs_at who.scene (Some place)) (position_or_len (nat_eq t.id) n.ids))
              ∙ ap (slice_get (syncs_at who.scene (Some place))) (first_is (nat_eq t.id) n.ids k f) in
              def_by (slice_get (syncs_at who.scene (Some place)) k) refl ∙ ap (def_judged t) (sym defs_is)
            where
              def_by : (d : Option SyncDef) → slice_get (syncs_at who.scene (Some place)) k ≡ d → meant_judged who.scene t (row_sync who.scene t.id i (Some n)) ≡ def_judged t (slice_get (syncs_at who.scene (Some place)) k)
              def_by None g = rw (e, f) (rw g refl)
              def_by (Some d) g = rw (e, f) (rw g (rw g refl))

  row_judged : Unshared (rows_under c nodes) → meant_judged who.scene t (row_meant who.scene nodes c t.id) ≡ def_judged t (option_map (λ (y : Syncer). y.def) (syncer_with t.id (flat_map (live_syncers who.scene) (rows_under c nodes))))
  row_judged apart = ap (meant_judged who.scene t) refl ∙ step (position (has_number c t.id) nodes) refl ∙ sym (ap (λ o. def_judged t (option_map (λ (y : Syncer). y.def) o)) (row_meant_is who.scene c t.id nodes apart))
    where
      step : (o : Option ℕ) → position (has_number c t.id) nodes ≡ o → meant_judged who.scene t (row_placed who.scene nodes t.id o) ≡ def_judged t (option_map (λ (y : Syncer). y.def) (option_and_then (λ n. syncer_with t.id (live_syncers who.scene n)) (find (has_number c t.id) nodes)))
      step None e = ap (λ q. def_judged t (option_map (λ (y : Syncer). y.def) (option_and_then (λ n. syncer_with t.id (live_syncers who.scene n)) q))) (sym (not_found (has_number c t.id) nodes e))
      step (Some i) e = by (slice_get nodes i) refl ∙ ap (λ q. def_judged t (option_map (λ (y : Syncer). y.def) (option_and_then (λ n. syncer_with t.id (live_syncers who.scene n)) q))) (found_at (has_number c t.id) nodes i e)
        where
          by : (q : Option Live) → slice_get nodes i ≡ q → meant_judged who.scene t (row_sync who.scene t.id i (slice_get nodes i)) ≡ def_judged t (option_map (λ (y : Syncer). y.def) (option_and_then (λ n. syncer_with t.id (live_syncers who.scene n)) (slice_get nodes i)))
          by None f = rw f refl
          by (Some n) f = ap (λ q. meant_judged who.scene t (row_sync who.scene t.id i q)) f ∙ node_judged i n ∙ ap (λ q. def_judged t (option_map (λ (y : Syncer). y.def) (option_and_then (λ m. syncer_with t.id (live_syncers who.scene m)) q))) (sym f)

  -- the table of faults of an id that is a row's
  rows_of_faults : is_fixed_id t.id ≡ false → def_judged t (option_map (λ (y : Syncer). y.def) (syncer_with t.id (flat_map (live_syncers who.scene) (rows_under c nodes)))) ≡ delta_fault who c (rows_under c nodes) t
  rows_of_faults low = step (syncer_with t.id (flat_map (live_syncers who.scene) (rows_under c nodes))) refl
    where
      step : (o : Option Syncer) → syncer_with t.id (flat_map (live_syncers who.scene) (rows_under c nodes)) ≡ o → def_judged t (option_map (λ (y : Syncer). y.def) (syncer_with t.id (flat_map (live_syncers who.scene) (rows_under c nodes)))) ≡ delta_fault who c (rows_under c nodes) t
      step None e = rw (low, e) refl
      step (Some y) e = rw (low, e) refl

  pub entry_judged_is : Unshared (rows_under c nodes) → delta_judged who.scene nodes c t ≡ delta_fault who c (rows_under c nodes) t
  entry_judged_is apart = step (is_fixed_id t.id) refl
    where
      step : (b : Bool) → is_fixed_id t.id ≡ b → delta_judged who.scene nodes c t ≡ delta_fault who c (rows_under c nodes) t
      step true e = ap (λ b. meant_judged who.scene t (if b then fixed_meant who.scene c t.id else row_meant who.scene nodes c t.id)) e ∙ fixed_judged e
      step false e = ap (λ b. meant_judged who.scene t (if b then fixed_meant who.scene c t.id else row_meant who.scene nodes c t.id)) e ∙ row_judged apart ∙ rows_of_faults e

pub all_judged_is : (who : Who) (c : ℤ) (nodes : List Live) (ts : List DeltaEntry) → Unshared (rows_under c nodes) → map (delta_judged who.scene nodes c) ts ≡ map (delta_fault who c (rows_under c nodes)) ts
all_judged_is who c nodes [] apart = refl
all_judged_is who c nodes (t ∷ ts) apart = ap₂ (λ x xs. x ∷ xs) (entry_judged_is who c nodes t apart) (all_judged_is who c nodes ts apart)
