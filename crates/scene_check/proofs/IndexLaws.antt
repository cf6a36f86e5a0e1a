-- What an indexed scene answers.
use Rattle.std.proofs.Common.{◌≡◌, ◌≢◌, ℕ, ◌+◌, ◌<◌, ◌≤◌, inl, inr, Bool, true, false, ◌&&◌, List, [], ◌∷◌, refl, sym, ap, ◌∙◌, length, get_or, map, take, drop, Option, Some, None, arith}
use Rattle.std.specs.Prelude.{slice_get, option_map, option_and_then, find, filter_map}
use Rattle.std.specs.List.{list_any}
use Rattle.std.proofs.lemmas.Bool.{cases_lt}
use Rattle.std.proofs.lemmas.Option.{slice_get_within, slice_get-get_or}
use Rattle.std.proofs.lemmas.Map.Keys.{any_passes_from_place}
use Rattle.gd_variant.specs.Words.{text_eq, has_text, some_is}
use Rattle.scene_model.specs.declared.scene.Node.{Node}
use Rattle.scene_model.specs.declared.scene.SpawnerDef.{SpawnerDef}
use Rattle.scene_model.specs.declared.scene.SyncDef.{SyncDef}
use Rattle.scene_model.specs.declared.scene.SyncProp.{SyncProp}
use Rattle.scene_model.specs.Lookup.{spawner_of, sync_of}
use Rattle.scene_model.specs.Valid.{shares_prop, synced_before}
use Rattle.scene_check.specs.Places.{IsFirstFrom, IsNext, is_below, under_of, target_of, if_any}
use Rattle.scene_model.proofs.TextLaws.{text_eq-sym, text_eq-true}
use Rattle.scene_model.proofs.ListLaws.{any_ext, any-filter_map}
use Rattle.scene_check.proofs.PlaceLaws.{front_get}
use Rattle.scene_check.proofs.SearchLaws.{has_key, any_none, front_there, front_back, mapped_back, next_finds, next_none_finds, next_is_before}

find_ext : {X : Type 0} (p q : X → Bool) → ((x : X) → p x ≡ q x) → (xs : List X) → find p xs ≡ find q xs
find_ext {X} p q h xs = let e : p ≡ q = λ i x. h x i in ap (λ (r : X → Bool). find r xs) e

pub named_before : {X : Type 0} (name : X → List ℕ) (xs : List X) (t : List ℕ) (at : ℕ) (o : Option ℕ) → at ≤ 4096 → IsNext t 0 (take 4096 (map (λ x. Some (name x)) xs)) o → is_below at o ≡ list_any (λ x. text_eq (name x) t) (take at xs)
named_before name xs t at o low h = sym (next_is_before (λ x. Some (name x)) xs 4096 t at o low h) ∙ any_ext (λ x. text_eq t (name x)) (λ x. text_eq (name x) t) (λ x. text_eq-sym t (name x)) (take at xs)

pub named_found : {X : Type 0} (name : X → List ℕ) (xs : List X) (t : List ℕ) (at : ℕ) → IsFirstFrom t 0 (take 4096 (map (λ x. Some (name x)) xs)) at → slice_get xs at ≡ find (λ x. text_eq (name x) t) xs
named_found {X} name xs t at h =
    let there = front_there (map (λ x. Some (name x)) xs) 4096 at (Some t) h.here in
    let back = mapped_back (λ (x : X). Some (name x)) xs at t there.1 in
    back.1 ∙ sym (next_finds (λ (x : X). Some (name x)) xs 4096 t at back.0 h back.1) ∙ find_ext (λ x. text_eq t (name x)) (λ x. text_eq (name x) t) (λ x. text_eq-sym t (name x)) xs

pub named_past : {X : Type 0} (name : X → List ℕ) (xs : List X) (t : List ℕ) → IsNext t 0 (take 4096 (map (λ x. Some (name x)) xs)) None → find (λ x. text_eq (name x) t) (drop 4096 xs) ≡ find (λ x. text_eq (name x) t) xs
named_past {X} name xs t h =
    find_ext (λ x. text_eq (name x) t) (λ x. text_eq t (name x)) (λ x. text_eq-sym (name x) t) (drop 4096 xs)
    ∙ sym (next_none_finds (λ (x : X). Some (name x)) xs 4096 t h)
    ∙ find_ext (λ x. text_eq t (name x)) (λ x. text_eq (name x) t) (λ x. text_eq-sym t (name x)) xs

under_test : (t : List ℕ) (o : Option SpawnerDef) → some_is (text_eq t) (option_map (λ (d : SpawnerDef). d.under) o) ≡ some_is (λ (e : SpawnerDef). text_eq e.under t) o
under_test t None = refl
under_test t (Some d) = text_eq-sym t d.under

pub under_before : (nodes : List Node) (t : List ℕ) (at : ℕ) (o : Option ℕ) → at ≤ 4096 → IsNext t 0 (take 4096 (map under_of nodes)) o → is_below at o ≡ list_any (λ (e : SpawnerDef). text_eq e.under t) (filter_map spawner_of (take at nodes))
under_before nodes t at o low h =
    sym (next_is_before under_of nodes 4096 t at o low h)
    ∙ any_ext (has_key under_of t) (λ (n : Node). some_is (λ (e : SpawnerDef). text_eq e.under t) (spawner_of n)) (λ n. under_test t (spawner_of n)) (take at nodes)
    ∙ any-filter_map (λ (e : SpawnerDef). text_eq e.under t) spawner_of (take at nodes)

-- synchronizers of one node

-- whether a node is a synchronizer of the same node, with a property in common
abbrev pub clashes : SyncDef → Node → Bool
clashes d n = some_is (λ (e : SyncDef). text_eq e.of d.of && shares_prop d e) (sync_of n)

pub clash_is_before : (nodes : List Node) (d : SyncDef) → list_any (clashes d) nodes ≡ synced_before nodes d
clash_is_before nodes d = any-filter_map (λ (e : SyncDef). text_eq e.of d.of && shares_prop d e) sync_of nodes

shares_none : (ps : List SyncProp) → list_any (λ (p : SyncProp). has_text p.prop []) ps ≡ false
shares_none [] = refl
shares_none (p ∷ ps) = shares_none ps

shares_empty : (d e : SyncDef) → e.props ≡ [] → shares_prop d e ≡ false
shares_empty d e none = ap (λ (es : List SyncProp). list_any (λ (p : SyncProp). has_text p.prop (map (λ (q : SyncProp). q.prop) es)) d.props) none ∙ shares_none d.props

-- a synchronizer that has nothing, or serves another node, doesn't clash
apart : (d e : SyncDef) (ps : List SyncProp) → e.props ≡ ps → if_any ps e.of ≢ Some d.of → (text_eq e.of d.of && shares_prop d e) ≡ false
apart d e [] is other = ap (λ b. text_eq e.of d.of && b) (shares_empty d e is) ∙ never (text_eq e.of d.of)
  where
    never : (b : Bool) → (b && false) ≡ false
    never true = refl
    never false = refl
apart d e (p ∷ ps) is other = differ (text_eq e.of d.of) refl
  where
    differ : (b : Bool) → text_eq e.of d.of ≡ b → (b && shares_prop d e) ≡ false
    differ true same = absurd (other (ap Some (text_eq-true e.of d.of same)))
    differ false same = refl

no_clash : (d : SyncDef) (o : Option SyncDef) → option_and_then (λ (e : SyncDef). if_any e.props e.of) o ≢ Some d.of → some_is (λ (e : SyncDef). text_eq e.of d.of && shares_prop d e) o ≡ false
no_clash d None other = refl
no_clash d (Some e) other = apart d e e.props refl other

-- no node between two places clashes, where the search found none there
pub skipped : (nodes : List Node) (d : SyncDef) (from to : ℕ) → to ≤ 4096 → ((k : ℕ) → from ≤ k → k < to → slice_get (take 4096 (map target_of nodes)) k ≢ Some (Some d.of)) → (k : ℕ) (n : Node) → from ≤ k → k < to → slice_get nodes k ≡ Some n → clashes d n ≡ false
skipped nodes d from to low h k n f w e = no_clash d (sync_of n) (λ is. h k f w (front_back target_of nodes 4096 k n d.of (omega (arith, low, w)) e is))

each_false : {X : Type 0} (p : X → Bool) (xs : List X) (k : ℕ) (x : X) → list_any p xs ≡ false → slice_get xs k ≡ Some x → p x ≡ false
each_false p xs k x none e = false_or_true (p x) refl
  where
    false_or_true : (b : Bool) → p x ≡ b → b ≡ false
    false_or_true false h = refl
    false_or_true true h = let yes_ = any_passes_from_place p xs k x e h in cc

-- what holds up to one place holds up to the next
pub none_up_to : (nodes : List Node) (d : SyncDef) (from to : ℕ) → list_any (clashes d) (take from nodes) ≡ false → ((k : ℕ) (n : Node) → from ≤ k → k < to → slice_get nodes k ≡ Some n → clashes d n ≡ false) → list_any (clashes d) (take to nodes) ≡ false
none_up_to nodes d from to before later = any_none (clashes d) (take to nodes) (λ k n e. each k n (front_there nodes to k n e))
  where
    each : (k : ℕ) (n : Node) → (k < to) × (slice_get nodes k ≡ Some n) → clashes d n ≡ false
    each k n there = elim (cases_lt k from) [ inl w ↦ each_false (clashes d) (take from nodes) k n before (front_get nodes from k w ∙ there.1) | inr f ↦ later k n f there.0 there.1 ]

pub some_up_to : (nodes : List Node) (d : SyncDef) (k to : ℕ) (n : Node) → k < to → slice_get nodes k ≡ Some n → clashes d n ≡ true → list_any (clashes d) (take to nodes) ≡ true
some_up_to nodes d k to n w e h = any_passes_from_place (clashes d) (take to nodes) k n (front_get nodes to k w ∙ e) h

-- one turn of the search for a clash

pub target_within : (nodes : List Node) (t : List ℕ) (from at : ℕ) → IsFirstFrom t from (take 4096 (map target_of nodes)) at → (at < 4096) × (at < length nodes)
target_within nodes t from at h =
    let there = front_there (map target_of nodes) 4096 at (Some t) h.here in
    let back = mapped_back target_of nodes at t there.1 in
    (there.0, slice_get_within nodes at back.0 back.1)

pub free_before : (nodes : List Node) (d : SyncDef) (from found at : ℕ) → list_any (clashes d) (take from nodes) ≡ false → IsFirstFrom d.of from (take 4096 (map target_of nodes)) found → at ≤ found → false ≡ synced_before (take at nodes) d
free_before nodes d from found at free h low =
    let w = target_within nodes d.of from found h in
    sym (sym (clash_is_before (take at nodes) d) ∙ none_up_to nodes d from at free (λ k n f v e. skipped nodes d from found (omega (arith, w.0)) h.not_before k n f (omega (arith, v, low)) e))

pub clash_found : (nodes : List Node) (d : SyncDef) (from found at : ℕ) (n : Node) → IsFirstFrom d.of from (take 4096 (map target_of nodes)) found → found < at → n ≡ get_or nodes found n → clashes d n ≡ true → true ≡ synced_before (take at nodes) d
clash_found nodes d from found at n h low is yes_ =
    let w = target_within nodes d.of from found h in
    sym (sym (clash_is_before (take at nodes) d) ∙ some_up_to nodes d found at n low (slice_get-get_or nodes found n w.1 ∙ ap Some (sym is)) yes_)

pub free_past : (nodes : List Node) (d : SyncDef) (from found : ℕ) (n : Node) → list_any (clashes d) (take from nodes) ≡ false → IsFirstFrom d.of from (take 4096 (map target_of nodes)) found → n ≡ get_or nodes found n → clashes d n ≡ false → list_any (clashes d) (take (found + 1) nodes) ≡ false
free_past nodes d from found n free h is no_ = none_up_to nodes d from (found + 1) free each
  where
    w : (found < 4096) × (found < length nodes)
    w = target_within nodes d.of from found h

    here : (k : ℕ) (m : Node) → k ≡ found → slice_get nodes k ≡ Some m → clashes d m ≡ false
    here k m same e = let at_found = slice_get-get_or nodes found n w.1 in let e2 = ap (slice_get nodes) same in let is_n : m ≡ n = cc in ap (clashes d) is_n ∙ no_

    each : (k : ℕ) (m : Node) → from ≤ k → k < found + 1 → slice_get nodes k ≡ Some m → clashes d m ≡ false
    each k m f v e = elim (cases_lt k found) [ inl below ↦ skipped nodes d from found (omega (arith, w.0)) h.not_before k m f below e | inr up ↦ here k m (omega (arith, up, v)) e ]

pub free_all : (nodes : List Node) (d : SyncDef) (from at : ℕ) → at ≤ 4096 → list_any (clashes d) (take from nodes) ≡ false → IsNext d.of from (take 4096 (map target_of nodes)) None → false ≡ synced_before (take at nodes) d
free_all nodes d from at low free h = sym (sym (clash_is_before (take at nodes) d) ∙ none_up_to nodes d from at free (λ k n f v e. skipped nodes d from 4096 (omega arith) (λ j g u. h j g) k n f (omega (arith, v, low)) e))
