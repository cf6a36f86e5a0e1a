-- Received values leave a tree and the own rows fitting.
use Rattle.std.proofs.Common.{◌≡◌, ℕ, zero, suc, ℤ, Bool, true, not, List, [], ◌∷◌, refl, sym, ap, ◌∙◌, nat_eq, length, Option, Some, None}
use Rattle.std.specs.Prelude.{slice_get, zip, Result, Ok, Err}
use Rattle.std.specs.List.{list_all, slice_set}
use Rattle.std.specs.Option.{option_map_or}
use Rattle.headless_tree.proofs.Numbered.{all_at}
use Rattle.std.proofs.lemmas.Bool.{and_parts, and_from, or_parts}
use Rattle.gd_variant.specs.Sound.{is_sound}
use Rattle.gd_variant.specs.declared.value.Variant.{Variant}
use Rattle.gd_variant.specs.declared.message.DeltaEntry.{DeltaEntry}
use Rattle.scene_model.specs.declared.scene.SyncDef.{SyncDef}
use Rattle.scene_model.specs.declared.outcome.Fault.{Fault}
use Rattle.scene_model.specs.declared.outcome.Fault.TheVariants.{BadMask, WrongValues}
use Rattle.scene_model.specs.Syncs.{change_props}
use Rattle.peer_model.specs.Faults.{bad_mask, wrong_delta}
use Rattle.peer_model.specs.Updates.{masked}
use Rattle.peer_model.specs.View.{fits}
use Rattle.headless_tree.specs.Lists.{change_at}
use Rattle.headless_tree.specs.Nodes.{TreeOf}
use Rattle.peer_laws.proofs.Each.{all_both}
use Rattle.peer_laws.proofs.Tests.{no_row, not_false}
use Rattle.delta_props.specs.declared.meaning.Meant.{Meant}
use Rattle.delta_props.specs.Taking.{def_at, def_judged, delta_judged, delta_taken, entry_judged, entry_put, meant, meant_judged, nodes_taken, put_prop, put_props}
use Rattle.peer_steps.specs.Fits.{Fits}
use Rattle.peer_steps.specs.Rights.{is_right_value, has_right_values, is_before}
use Rattle.peer_steps.specs.Sound.{are_sound_entries}
use Rattle.peer_steps.specs.Steps.{entries_by, entries_judged, entries_put, entries_taken}
use Rattle.peer_steps.specs.Track.{Track}
use Rattle.peer_steps.proofs.Fitting.{right_changed}

all_set : {X : Type 0} (p : X → Bool) (i : ℕ) (y : X) (xs : List X) → p y ≡ true → list_all p xs ≡ true → list_all p (slice_set xs i y) ≡ true
all_set p i y [] k h = refl
all_set p zero y (x ∷ xs) k h = and_from (p y) (list_all p xs) k (and_parts (p x) (list_all p xs) h).1
all_set p (suc i) y (x ∷ xs) k h = let parts = and_parts (p x) (list_all p xs) h in and_from (p x) (list_all p (slice_set xs i y)) parts.0 (all_set p i y xs k parts.1)

all_changed : {X : Type 0} (p : X → Bool) (i : ℕ) (f : X → X) → ((x : X) → p x ≡ true → p (f x) ≡ true) → (xs : List X) → list_all p xs ≡ true → list_all p (change_at i f xs) ≡ true
all_changed {X} p i f k xs h = step (slice_get xs i) refl
  where
    step : (o : Option X) → slice_get xs i ≡ o → list_all p (option_map_or (λ x. slice_set xs i (f x)) o xs) ≡ true
    step None e = h
    step (Some x) e = all_set p i (f x) xs (k x (all_at p xs i x e h)) h

module _ (me : ℤ) (k : Track) where
  one_put : (place : ℕ) (name : List ℕ) (value : Variant) (t : TreeOf) → is_right_value value ≡ true → Fits me t k → Fits me (record t { nodes = put_prop place name value t.nodes }) k
  one_put place name value t right f = record {
    valid = f.valid;
    values = all_changed has_right_values place _ (λ n h. right_changed name value n right h) t.nodes f.values;
    rows = f.rows;
    before = all_changed (is_before me k.next) place _ (λ n h. h) t.nodes f.before;
  }

  all_put : (place : ℕ) (names : List (List ℕ)) (values : List Variant) (t : TreeOf) → list_all is_right_value values ≡ true → Fits me t k → Fits me (record t { nodes = put_props place (zip names values) t.nodes }) k
  all_put place [] [] t right f = f
  all_put place [] (v ∷ vs) t right f = f
  all_put place (n ∷ ns) [] t right f = f
  all_put place (n ∷ ns) (v ∷ vs) t right f =
      let parts = and_parts (is_right_value v) (list_all is_right_value vs) right in
      all_put place ns vs (record t { nodes = put_prop place n v t.nodes }) parts.1 (one_put place n v t parts.0 f)

  -- values that aren't too long, where an entry is no fault
  entry_short : (t : DeltaEntry) (d : SyncDef) → entry_judged t d ≡ None → list_all fits t.values ≡ true
  entry_short t d h =
      let second = no_row (bad_mask t.mask d) (BadMask t.mask) _ h in
      let third = no_row (wrong_delta t d) WrongValues _ second.1 in
      not_false (list_all fits t.values) (or_parts (not (nat_eq (length t.values) (length (masked t.mask (change_props d))))) (not (list_all fits t.values)) third.0).1

  entry_fits : (t : DeltaEntry) (tree : TreeOf) → list_all is_sound t.values ≡ true → Fits me tree k → (d : Option SyncDef) (place : Option ℕ) → ((e : SyncDef) → d ≡ Some e → entry_judged t e ≡ None) → Fits me (record tree { nodes = entry_put t d place tree.nodes }) k
  entry_fits t tree sound f None place judged = f
  entry_fits t tree sound f (Some d) None judged = f
  entry_fits t tree sound f (Some d) (Some place) judged = all_put place (masked t.mask (change_props d)) t.values tree (all_both is_sound fits t.values sound (entry_short t d (judged d refl))) f

  taken_fits : (t : DeltaEntry) (tree : TreeOf) → list_all is_sound t.values ≡ true → Fits me tree k → (o : Option Fault) (m : Result Meant Fault) → meant_judged tree.scene t m ≡ o → Fits me (record tree { nodes = nodes_taken tree.scene t o m tree.nodes }) k
  taken_fits t tree sound f (Some w) m judged = f
  taken_fits t tree sound f None (Err w) judged = f
  taken_fits t tree sound f None (Ok x) judged = entry_fits t tree sound f (def_at tree.scene x.at) x.place (λ d e. sym (ap (def_judged t) e) ∙ judged)

  fits_put : (c : ℤ) (ts : List DeltaEntry) (tree : TreeOf) → are_sound_entries ts ≡ true → Fits me tree k → Fits me (entries_put c ts tree) k
  fits_put c [] tree sound f = f
  fits_put c (t ∷ ts) tree sound f =
      let parts = and_parts (list_all is_sound t.values) (are_sound_entries ts) sound in
      fits_put c ts (delta_taken c t tree).1 parts.1 (taken_fits t tree parts.0 f (delta_judged tree.scene tree.nodes c t) (meant tree.scene tree.nodes c t.id) refl)

  -- values of another peer
  pub fits_entries : (c : ℤ) (ts : List DeltaEntry) (tree : TreeOf) → are_sound_entries ts ≡ true → Fits me tree k → Fits me (entries_taken c ts tree).1 k
  fits_entries c ts tree sound f = by (entries_judged tree c ts)
    where
      by : (o : Option Fault) → Fits me (entries_by c ts tree o).1 k
      by (Some w) = f
      by None = fits_put c ts tree sound f
