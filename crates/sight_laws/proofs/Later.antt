-- Who sees what, one event later.
use Rattle.std.proofs.Common.{◌≡◌, ℕ, zero, suc, ◌+◌, ◌<◌, ℤ, Bool, true, false, cond, not, ◌&&◌, List, [], ◌∷◌, refl, sym, ap, ap₂, ◌∙◌, map, filter, nat_eq, arith, Option, Some, None}
use Rattle.std.specs.Prelude.{zip, if◌then◌else◌}
use Rattle.std.proofs.lemmas.Bool.{ne_eqb, eq-eqb}
use Rattle.std.proofs.lemmas.List.Sums.{take_while-cons}
use Rattle.gd_variant.specs.Words.{text_eq, some_is, or_else, numbered}
use Rattle.scene_model.specs.declared.scene.SyncDef.{SyncDef}
use Rattle.scene_model.specs.declared.event.SpawnOp.{SpawnOp}
use Rattle.scene_model.specs.declared.event.Op.TheVariants.{Spawn, Custom, Public, For, Filter}
use Rattle.scene_model.specs.Syncs.{Syncer, row_syncer, row_syncers}
use Rattle.scene_model.proofs.ListLaws.{filter_ext}
use Rattle.scene_model.proofs.TextLaws.{text_eq-same}
use Rattle.peer_model.specs.Heard.{Who, Heard, does}
use Rattle.peer_model.specs.Peers.{peers_up}
use Rattle.peer_model.specs.Rows.{OwnRow, row_made, since_spawn, spawns, spawn_in, spawned_path, spawned_scene, syncs_at, count_from, next_number}
use Rattle.peer_model.specs.Visible.{sees, row_syncers_of}
use Rattle.peer_laws.proofs.Joined.{map-map, map_each}
use Rattle.sight_laws.specs.Sights.{Sight, RowSight, first_sight, any_sees, change_at, sight_next, sight_after, sight_of, row_sight}
use Rattle.sight_laws.specs.Seen.{SightSet, set_in}
use Rattle.sight_laws.proofs.Settings.{sees_is_kept}
use Rattle.sight_laws.proofs.Events.{set_alone}

-- one synchronizer

-- whether a setting names a path
abbrev pub sets_at : List ℕ → Heard → Bool
sets_at path e = some_is (λ (s : SightSet). text_eq s.path path) (set_in e)

-- a synchronizer after a setting
abbrev pub next_by : Syncer → Option SightSet → Sight → Sight
next_by y None v = v
next_by y (Some s) v = if text_eq s.path y.path && nat_eq s.place y.place then s.change v else v

next_is : (y : Syncer) (e : Heard) (v : Sight) → sight_next y e v ≡ next_by y (set_in e) v
next_is y (does (Public p k on)) v = refl
next_is y (does (For p k b on)) v = refl
next_is y (does (Filter p k peers)) v = refl
next_is y e v = refl

-- what an event spawns at a path
pub spawns_is : (who : Who) (p : List ℕ) (e : Heard) → spawns who p e ≡ some_is (λ (o : SpawnOp). text_eq (spawned_path who o) p) (spawn_in e)
spawns_is who p (does (Spawn o)) = refl
spawns_is who p (does (Custom o)) = refl
spawns_is who p e = refl

pub unspawned : (who : Who) (p : List ℕ) (e : Heard) → spawn_in e ≡ None → spawns who p e ≡ false
unspawned who p e h = spawns_is who p e ∙ ap (some_is (λ (o : SpawnOp). text_eq (spawned_path who o) p)) h

-- the events since a spawn, one event later
since_later : (who : Who) (p : List ℕ) (e : Heard) (es : List Heard) → since_spawn who p (e ∷ es) ≡ cond (not (spawns who p e)) (e ∷ since_spawn who p es) []
since_later who p e es = take_while-cons (λ d. not (spawns who p d)) e es

pub sight_later : (who : Who) (e : Heard) (es : List Heard) (y : Syncer) → spawns who y.path e ≡ false → sight_of who (e ∷ es) y ≡ next_by y (set_in e) (sight_of who es y)
sight_later who e es y h = ap (sight_after y) (since_later who y.path e es ∙ ap (λ t. cond (not t) (e ∷ since_spawn who y.path es) []) h) ∙ next_is y e (sight_of who es y)

sight_new : (who : Who) (e : Heard) (es : List Heard) (y : Syncer) → spawns who y.path e ≡ true → sight_of who (e ∷ es) y ≡ first_sight y.def
sight_new who e es y h = ap (sight_after y) (since_later who y.path e es ∙ ap (λ t. cond (not t) (e ∷ since_spawn who y.path es) []) h)

next_left : (y : Syncer) (o : Option SightSet) (v : Sight) → some_is (λ (s : SightSet). text_eq s.path y.path) o ≡ false → next_by y o v ≡ v
next_left y None v h = refl
next_left y (Some s) v h = ap (λ t. if t && nat_eq s.place y.place then s.change v else v) h

-- no setting and no spawn there, nothing changes
pub sight_left : (who : Who) (e : Heard) (es : List Heard) (y : Syncer) → spawns who y.path e ≡ false → sets_at y.path e ≡ false → sight_of who (e ∷ es) y ≡ sight_of who es y
sight_left who e es y h k = sight_later who e es y h ∙ next_left y (set_in e) (sight_of who es y) k

-- the synchronizers of a row

-- who sees each
abbrev pub row_sights : Who → List Heard → OwnRow → List Sight
row_sights who es r = map (sight_of who es) (row_syncers_of who r)

over_row : (f : Syncer → Sight) (path : List ℕ) (zs : List (ℕ × SyncDef)) (n : ℕ) → map f (map (row_syncer path) (numbered n zs)) ≡ map (λ z. f (row_syncer path z)) (numbered n zs)
over_row f path zs n = map-map f (row_syncer path) (numbered n zs)

pub row_sights_left : (who : Who) (e : Heard) (es : List Heard) (r : OwnRow) → spawns who r.path e ≡ false → sets_at r.path e ≡ false → row_sights who (e ∷ es) r ≡ row_sights who es r
row_sights_left who e es r h k =
    let zs = zip r.ids (syncs_at who.scene (Some r.place)) in
    over_row (sight_of who (e ∷ es)) r.path zs 0
    ∙ map_each (λ z. sight_of who (e ∷ es) (row_syncer r.path z)) (λ z. sight_of who es (row_syncer r.path z)) (numbered 0 zs) (λ z. sight_left who e es (row_syncer r.path z) h k)
    ∙ sym (over_row (sight_of who es) r.path zs 0)

-- one of numbered synchronizers that is changed

module _ (path : List ℕ) (k : ℕ) (f : Sight → Sight) (g h : Syncer → Sight) (at : (z : ℕ × (ℕ × SyncDef)) → h (row_syncer path z) ≡ (if nat_eq k z.0 then f (g (row_syncer path z)) else g (row_syncer path z))) where
  changed_past : (n : ℕ) (zs : List (ℕ × SyncDef)) → k < n → map h (map (row_syncer path) (numbered n zs)) ≡ map g (map (row_syncer path) (numbered n zs))
  changed_past n [] l = refl
  changed_past n (z ∷ zs) l = ap₂ (λ v vs. v ∷ vs) (at (n, z) ∙ ap (λ t. if t then f (g (row_syncer path (n, z))) else g (row_syncer path (n, z))) (ne_eqb k n (λ e. omega (arith, e, l)))) (changed_past (n + 1) zs (omega (arith, l)))

  changed_at : (n j : ℕ) (zs : List (ℕ × SyncDef)) → k ≡ n + j → map h (map (row_syncer path) (numbered n zs)) ≡ change_at j f (map g (map (row_syncer path) (numbered n zs)))
  changed_at n j [] l = refl
  changed_at n zero (z ∷ zs) l = ap₂ (λ v vs. v ∷ vs) (at (n, z) ∙ ap (λ t. if t then f (g (row_syncer path (n, z))) else g (row_syncer path (n, z))) (eq-eqb k n (omega (arith, l)))) (changed_past (n + 1) zs (omega (arith, l)))
  changed_at n (suc j) (z ∷ zs) l = ap₂ (λ v vs. v ∷ vs) (at (n, z) ∙ ap (λ t. if t then f (g (row_syncer path (n, z))) else g (row_syncer path (n, z))) (ne_eqb k n (λ e. omega (arith, e, l)))) (changed_at (n + 1) j zs (omega (arith, l)))

pub row_sights_set : (who : Who) (e : Heard) (es : List Heard) (r : OwnRow) (s : SightSet) → set_in e ≡ Some s → text_eq s.path r.path ≡ true → row_sights who (e ∷ es) r ≡ change_at s.place s.change (row_sights who es r)
row_sights_set who e es r s h same = changed_at r.path s.place s.change (sight_of who es) (sight_of who (e ∷ es))
    (λ z. sight_later who e es (row_syncer r.path z) (unspawned who r.path e (set_alone e s h).0) ∙ ap (λ o. next_by (row_syncer r.path z) o (sight_of who es (row_syncer r.path z))) h ∙ ap (λ t. if t && nat_eq s.place z.0 then s.change (sight_of who es (row_syncer r.path z)) else sight_of who es (row_syncer r.path z)) same)
    0 s.place (zip r.ids (syncs_at who.scene (Some r.place))) (omega arith)

-- of a new row they are as the scene has them
firsts : (path : List ℕ) (g : Syncer → Sight) → ((z : ℕ × (ℕ × SyncDef)) → g (row_syncer path z) ≡ first_sight z.1.1) → (n i : ℕ) (ds : List SyncDef) → map g (map (row_syncer path) (numbered n (zip (count_from i ds) ds))) ≡ map first_sight ds
firsts path g h n i [] = refl
firsts path g h n i (d ∷ ds) = ap₂ (λ v vs. v ∷ vs) (h (n, (i, d))) (firsts path g h (n + 1) (i + 1) ds)

pub row_sights_new : (who : Who) (e : Heard) (es : List Heard) (o : SpawnOp) → spawn_in e ≡ Some o → row_sights who (e ∷ es) (row_made who es o) ≡ map first_sight (syncs_at who.scene (spawned_scene who o))
row_sights_new who e es o h = step (spawned_scene who o)
  where
    path : List ℕ
    path = spawned_path who o

    here : spawns who path e ≡ true
    here = spawns_is who path e ∙ ap (some_is (λ (p : SpawnOp). text_eq (spawned_path who p) path)) h ∙ text_eq-same path

    step : (place : Option ℕ) → map (sight_of who (e ∷ es)) (row_syncers path (count_from (next_number who es + 1) (syncs_at who.scene place)) (syncs_at who.scene (Some (or_else place 0)))) ≡ map first_sight (syncs_at who.scene place)
    step None = refl
    step (Some k) = firsts path (sight_of who (e ∷ es)) (λ z. sight_new who e es (row_syncer path z) here) 0 (next_number who es + 1) (syncs_at who.scene (Some k))

-- rows

-- a row by its number, who sees its synchronizers, and who is up
abbrev pub sight_row : ℕ → List Sight → List ℤ → RowSight
sight_row num ys up = record { num = num; syncs = ys; shown = filter (any_sees ys) up }

pub row_sight_is : (who : Who) (es : List Heard) (r : OwnRow) → row_sight who es r ≡ sight_row r.num (row_sights who es r) (peers_up es)
row_sight_is who es r = ap (λ bs. row_with bs) (filter_ext (λ b. sees who es b r) (any_sees (row_sights who es r)) (λ b. sees_is_kept who es b r) (peers_up es))
  where
    row_with : List ℤ → RowSight
    row_with bs = record { num = r.num; syncs = row_sights who es r; shown = bs }
