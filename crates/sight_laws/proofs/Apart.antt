-- No two synchronizers of a node have a property in common.
use Rattle.std.proofs.Common.{◌≡◌, ℕ, ◌+◌, ℤ, Bool, true, false, cond, not, ◌&&◌, ◌||◌, List, [], ◌∷◌, ◌++◌, refl, sym, ap, ◌∙◌, subst, map, filter, Option, Some, None}
use Rattle.std.specs.Prelude.{zip, flat_map, filter_map}
use Rattle.std.specs.List.{list_all, AllByRecursion, cons_option}
use Rattle.std.specs.Ordering.{int_eq}
use Rattle.std.proofs.lemmas.Bool.{or_parts, true≢false}
use Rattle.std.proofs.lemmas.List.Folds.{list_any-append}
use Rattle.gd_variant.specs.Words.{text_eq, has_text, some_is, numbered}
use Rattle.scene_model.specs.declared.scene.Scene.{Scene}
use Rattle.scene_model.specs.declared.scene.Node.{Node}
use Rattle.scene_model.specs.declared.scene.SyncDef.{SyncDef}
use Rattle.scene_model.specs.Lookup.{fixed_paths, sync_of, prop_names}
use Rattle.scene_model.specs.Syncs.{Syncer, fixed_syncer, fixed_syncers, row_syncer, sync_id}
use Rattle.scene_model.specs.Valid.{IsValidScene, has_twice, node_why, synced, shares_prop, synced_before}
use Rattle.scene_model.proofs.TextLaws.{text_eq-true, text_eq-sym}
use Rattle.peer_model.specs.Heard.{Who}
use Rattle.peer_model.specs.Rows.{OwnRow, syncs_at, row_paths}
use Rattle.peer_model.specs.Visible.{row_syncers_of}
use Rattle.peer_laws.proofs.Tests.{never}
use Rattle.peer_laws.proofs.Each.{every_joined, every_kept}
use Rattle.peer_laws.proofs.Scenes.{EachRight, nodes_right, right_node, all_right}
use Rattle.sight_laws.proofs.Lists.{every_both}
use Rattle.world_laws.proofs.Law.{every_weaker, flat_own}
use Rattle.world_laws.proofs.Sparing.{shares_none, Among, among_more, among_last, has_target, fixed_nodes, twice_split, block_nodes, rows_nodes, place_once, none_text}
use Rattle.world_laws.specs.Marks.{own_mark, own_marks, mark_syncers}

-- no property in common
abbrev pub Disjoint : SyncDef → SyncDef → Type 0
Disjoint d e = (p : List ℕ) → has_text p (synced d) ≡ true → has_text p (synced e) ≡ false

disjoint_back : (d e : SyncDef) → Disjoint d e → Disjoint e d
disjoint_back d e h p k = never (has_text p (synced d)) (λ f. sym k ∙ h p f)

-- two synchronizers of one node
abbrev pub Apart : Syncer → Syncer → Type 0
Apart y z = text_eq z.node y.node ≡ true → Disjoint y.def z.def

apart_back : (y z : Syncer) → Apart y z → Apart z y
apart_back y z h k = disjoint_back y.def z.def (h (text_eq-sym z.node y.node ∙ k))

-- each of a list with each later one
abbrev pub Pairs : List Syncer → Type 0
Pairs [] = Unit {0}
Pairs (y ∷ ys) = AllByRecursion (Apart y) ys × Pairs ys

pairs_joined : (xs ys : List Syncer) → Pairs xs → Pairs ys → AllByRecursion (λ x. AllByRecursion (Apart x) ys) xs → Pairs (xs ++ ys)
pairs_joined [] ys h k m = k
pairs_joined (x ∷ xs) ys h k m = (every_joined (Apart x) xs ys h.0 m.0, pairs_joined xs ys h.1 k m.1)

-- those that fail a test are apart from those that pass it
pub pairs_split : (p : Syncer → Bool) (ys : List Syncer) → Pairs ys → AllByRecursion (λ y. p y ≡ false → AllByRecursion (Apart y) (filter p ys)) ys
pairs_split p [] h = tt
pairs_split p (x ∷ xs) h = (first (p x) refl, every_both (Apart x) (λ y. p y ≡ false → AllByRecursion (Apart y) (filter p xs)) (λ y. p y ≡ false → AllByRecursion (Apart y) (cond (p x) (x ∷ filter p xs) (filter p xs))) (λ y a k e. later y (p x) a (k e)) xs h.0 (pairs_split p xs h.1))
  where
    first : (b : Bool) → p x ≡ b → b ≡ false → AllByRecursion (Apart x) (cond b (x ∷ filter p xs) (filter p xs))
    first true e f = absurd (true≢false f)
    first false e f = every_kept (Apart x) p xs h.0

    later : (y : Syncer) (b : Bool) → Apart x y → AllByRecursion (Apart y) (filter p xs) → AllByRecursion (Apart y) (cond b (x ∷ filter p xs) (filter p xs))
    later y true a k = (apart_back x y a, k)
    later y false a k = k

-- fixed synchronizers

later_apart : (s : Scene) (auth : ℤ) (y : Syncer) (i : ℕ) (earlier ns : List Node) → y.node ≡ y.def.of → Among y.def earlier → EachRight (node_why s) earlier ns → AllByRecursion (Apart y) (filter_map (fixed_syncer auth) (numbered i ns))
later_apart s auth y i earlier [] at among h = tt
later_apart s auth y i earlier (n ∷ ns) at among h = step (later_apart s auth y (i + 1) (earlier ++ n ∷ []) ns at (among_more y.def earlier n among) h.1) (int_eq n.auth auth) refl (sync_of n) refl
  where
    apart : (e : SyncDef) → sync_of n ≡ Some e → text_eq y.def.of e.of ≡ true → Disjoint y.def e
    apart e is same =
        let right = (or_parts (has_twice (prop_names n.props)) (some_is (λ (x : SyncDef). has_twice (synced x) || synced_before earlier x) (sync_of n)) (right_node s earlier n h.0).props).1 in
        let before = (or_parts (has_twice (synced e)) (synced_before earlier e) (sym (ap (some_is (λ (x : SyncDef). has_twice (synced x) || synced_before earlier x)) is) ∙ right)).1 in
        let none = among (λ (x : SyncDef). text_eq x.of e.of && shares_prop e x) before in
        disjoint_back e y.def (shares_none e y.def (sym (ap (λ b. b && shares_prop e y.def) same) ∙ none))

    step : AllByRecursion (Apart y) (filter_map (fixed_syncer auth) (numbered (i + 1) ns)) → (b : Bool) → int_eq n.auth auth ≡ b → (o : Option SyncDef) → sync_of n ≡ o → AllByRecursion (Apart y) (cons_option (fixed_syncer auth (i, n)) (filter_map (fixed_syncer auth) (numbered (i + 1) ns)))
    step more false e o f = rw e more
    step more true e None f = rw (e, f) more
    step more true e (Some d) f = rw (e, f) (λ k. apart d f (text_eq-sym y.def.of d.of ∙ ap (text_eq d.of) (sym at) ∙ k), more)

fixed_pairs : (s : Scene) (auth : ℤ) (i : ℕ) (earlier ns : List Node) → EachRight (node_why s) earlier ns → Pairs (filter_map (fixed_syncer auth) (numbered i ns))
fixed_pairs s auth i earlier [] h = tt
fixed_pairs s auth i earlier (n ∷ ns) h = step (fixed_pairs s auth (i + 1) (earlier ++ n ∷ []) ns h.1) (int_eq n.auth auth) refl (sync_of n) refl
  where
    step : Pairs (filter_map (fixed_syncer auth) (numbered (i + 1) ns)) → (b : Bool) → int_eq n.auth auth ≡ b → (o : Option SyncDef) → sync_of n ≡ o → Pairs (cons_option (fixed_syncer auth (i, n)) (filter_map (fixed_syncer auth) (numbered (i + 1) ns)))
    step more false e o f = rw e more
    step more true e None f = rw (e, f) more
    step more true e (Some d) f = rw (e, f) (later_apart s auth (record { path = n.path; place = 0; id = sync_id i; node = d.of; def = d }) (i + 1) (earlier ++ n ∷ []) ns refl (among_last d earlier n f) h.1, more)

-- synchronizers of rows

block_others : (path : List ℕ) (y : Syncer) (i : ℕ) (ids : List ℕ) (ds : List SyncDef) → ((p : List ℕ) → has_text p (synced y.def) ≡ true → has_text p (flat_map synced ds) ≡ false) → AllByRecursion (Apart y) (map (row_syncer path) (numbered i (zip ids ds)))
block_others path y i [] [] h = tt
block_others path y i [] (d ∷ ds) h = tt
block_others path y i (id ∷ ids) [] h = tt
block_others path y i (id ∷ ids) (d ∷ ds) h =
    let parts : (p : List ℕ) → has_text p (synced y.def) ≡ true → (has_text p (synced d) ≡ false) × (has_text p (flat_map synced ds) ≡ false) =
    λ p k. or_parts (has_text p (synced d)) (has_text p (flat_map synced ds)) (sym (list_any-append (text_eq p) (synced d) (flat_map synced ds)) ∙ h p k) in
    (λ k p q. (parts p q).0, block_others path y (i + 1) ids ds (λ p k. (parts p k).1))

block_pairs : (path : List ℕ) (i : ℕ) (ids : List ℕ) (ds : List SyncDef) → has_twice (flat_map synced ds) ≡ false → Pairs (map (row_syncer path) (numbered i (zip ids ds)))
block_pairs path i [] [] h = tt
block_pairs path i [] (d ∷ ds) h = tt
block_pairs path i (id ∷ ids) [] h = tt
block_pairs path i (id ∷ ids) (d ∷ ds) h =
    let parts = twice_split (synced d) (flat_map synced ds) h in
    (block_others path (record { path = path; place = i; id = id; node = path; def = d }) (i + 1) ids ds parts.1.1, block_pairs path (i + 1) ids ds parts.1.0)

-- synchronizers of different nodes
nodes_apart : (y : Syncer) (zs : List Syncer) → AllByRecursion (λ (z : Syncer). text_eq y.node z.node ≡ false) zs → AllByRecursion (Apart y) zs
nodes_apart y zs h = every_weaker (λ (z : Syncer). text_eq y.node z.node ≡ false) (Apart y) (λ z k e. absurd (true≢false (sym e ∙ text_eq-sym z.node y.node ∙ k))) zs h

rows_pairs : (s : Scene) → IsValidScene s → (rs : List OwnRow) → has_twice (row_paths rs) ≡ false → Pairs (flat_map (mark_syncers s) (own_marks rs))
rows_pairs s v [] h = tt
rows_pairs s v (r ∷ rs) h =
    let parts = or_parts (has_text r.path (row_paths rs)) (has_twice (row_paths rs)) h in
    let rest = flat_map (mark_syncers s) (own_marks rs) in
    let others = rows_nodes s (text_eq r.path) rs parts.0 in
    pairs_joined (mark_syncers s (own_mark r)) rest (block_pairs r.path 0 r.ids (syncs_at s (Some r.place)) (place_once s v r.place)) (rows_pairs s v rs parts.1)
    (every_weaker (λ (y : Syncer). y.node ≡ r.path) (λ y. AllByRecursion (Apart y) rest)
    (λ y e. nodes_apart y rest (every_weaker (λ (z : Syncer). text_eq r.path z.node ≡ false) (λ (z : Syncer). text_eq y.node z.node ≡ false) (λ z k. ap (λ t. text_eq t z.node) e ∙ k) rest others))
    (mark_syncers s (own_mark r)) (block_nodes (λ t. t ≡ r.path) r.path refl 0 r.ids (syncs_at s (Some r.place))))

-- all synchronizers of a peer
pub all_pairs : (who : Who) → IsValidScene who.scene → (rs : List OwnRow) → has_twice (row_paths rs) ≡ false → list_all (λ (r : OwnRow). not (has_text r.path (fixed_paths who.scene))) rs ≡ true → Pairs (fixed_syncers who.scene who.id ++ flat_map (row_syncers_of who) rs)
all_pairs who v rs apart unfixed =
    let fixed = fixed_syncers who.scene who.id in
    let s = who.scene in
    let rows = flat_map (mark_syncers who.scene) (own_marks rs) in
    subst (λ zs. Pairs (fixed_syncers who.scene who.id ++ zs)) (sym (flat_own who rs))
    (pairs_joined fixed rows (fixed_pairs s who.id 1 [] s.nodes (nodes_right s v)) (rows_pairs s v rs apart)
    (every_weaker (λ (y : Syncer). has_text y.node (fixed_paths s) ≡ true) (λ y. AllByRecursion (Apart y) rows)
    (λ y h. nodes_apart y rows (every_weaker (λ (z : Syncer). has_text z.node (fixed_paths s) ≡ false) (λ (z : Syncer). text_eq y.node z.node ≡ false) (λ z k. never (text_eq y.node z.node) (λ e. sym h ∙ ap (λ t. has_text t (fixed_paths s)) (text_eq-true y.node z.node e) ∙ k)) rows (rows_nodes s (λ t. has_text t (fixed_paths s)) rs (none_text (fixed_paths s) rs unfixed))))
    fixed (fixed_nodes s who.id 1 s.nodes (all_right (node_why s) (has_target s) (λ earlier n h. ap not (right_node s earlier n h).target) [] s.nodes (nodes_right s v)))))
