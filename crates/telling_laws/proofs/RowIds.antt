-- The synchronizers of an own row have its ids.
use Rattle.std.proofs.Common.{◌≡◌, ℕ, ◌+◌, true, List, [], ◌∷◌, refl, sym, ap, ◌∙◌, subst, map, filter, is_some, Option, Some, None}
use Rattle.std.specs.Prelude.{zip, option_and_then}
use Rattle.std.specs.List.{AllByRecursion, Contains}
use Rattle.gd_variant.specs.Words.{numbered, or_else, some_is}
use Rattle.scene_model.specs.declared.scene.SyncDef.{SyncDef}
use Rattle.scene_model.specs.declared.event.SpawnOp.{SpawnOp}
use Rattle.scene_model.specs.Lookup.{scene_place, spawner_at}
use Rattle.scene_model.specs.Syncs.{Syncer, row_syncer}
use Rattle.scene_model.specs.Valid.{IsValidScene}
use Rattle.peer_model.specs.Heard.{Who, Heard}
use Rattle.peer_model.specs.Rows.{OwnRow, count_from, own_rows, row_made, spawn_in, spawned_scene, syncs_at}
use Rattle.peer_model.specs.Refusals.{may_make}
use Rattle.peer_model.specs.Visible.{row_syncers_of}
use Rattle.peer_laws.proofs.Each.{every_joined, every_kept}
use Rattle.peer_laws.proofs.Tests.{not_false, some_of, some_from}
use Rattle.peer_laws.proofs.TreeSpawns.{IsAllowed, allowed}
use Rattle.world_laws.specs.Done.{AllDone}
use Rattle.world_laws.specs.Marks.{new_rows}
use Rattle.world_laws.proofs.Own.{leaves, name_under, own_later, spawn_in_is}
use Rattle.sight_laws.proofs.Lists.{of_member}

-- whether a row has the ids that follow its number, one for each synchronizer of its scene
abbrev CountsOn : Who → OwnRow → Type 0
CountsOn who r = r.ids ≡ count_from (r.num + 1) (syncs_at who.scene (Some r.place))

new_counts : (who : Who) (es : List Heard) (o : SpawnOp) → IsValidScene who.scene → IsAllowed who es o → CountsOn who (row_made who es o)
new_counts who es o v may =
    let def = some_of (spawner_at who.scene o.spawner) (some_from (spawner_at who.scene o.spawner) may.spawner) in
    let named = name_under who (row_made who es o) v def.0 def.1 (ap (some_is (may_make o)) (sym def.1) ∙ not_false (some_is (may_make o) (spawner_at who.scene o.spawner)) may.scene) in
    let placed : spawned_scene who o ≡ scene_place who.scene named.0 = ap (option_and_then (scene_place who.scene)) named.1 in
    ap (λ k. count_from ((row_made who es o).num + 1) (syncs_at who.scene k)) (again (spawned_scene who o) (ap is_some placed ∙ named.3))
  where
    again : (k : Option ℕ) → is_some k ≡ true → k ≡ Some (or_else k 0)
    again None h = absurd (cc h)
    again (Some i) h = refl

own_counts : (who : Who) (es : List Heard) → IsValidScene who.scene → AllDone who es → AllByRecursion (CountsOn who) (own_rows who es)
own_counts who [] v all = tt
own_counts who (e ∷ es) v all = subst (AllByRecursion (CountsOn who)) (sym (own_later who es e))
    (every_joined (CountsOn who) (filter (leaves e) (own_rows who es)) (new_rows who es (spawn_in e)) (every_kept (CountsOn who) (leaves e) (own_rows who es) (own_counts who es v all.1)) (step (spawn_in e) refl))
  where
    step : (o : Option SpawnOp) → spawn_in e ≡ o → AllByRecursion (CountsOn who) (new_rows who es o)
    step None h = tt
    step (Some o) h = (new_counts who es o v (allowed who es o (spawn_in_is who es e o h all.0.no_refusal)), tt)

counted_ids : (path : List ℕ) (k n : ℕ) (ds : List SyncDef) → map (λ (z : Syncer). z.id) (map (row_syncer path) (numbered k (zip (count_from n ds) ds))) ≡ count_from n ds
counted_ids path k n [] = refl
counted_ids path k n (d ∷ ds) = ap (λ is. n ∷ is) (counted_ids path (k + 1) (n + 1) ds)

pub row_ids : (who : Who) (es : List Heard) → IsValidScene who.scene → AllDone who es → (r : OwnRow) → Contains (own_rows who es) r → map (λ (z : Syncer). z.id) (row_syncers_of who r) ≡ r.ids
row_ids who es v all r has =
    let counts = of_member (CountsOn who) (own_rows who es) r (own_counts who es v all) has in
    ap (λ is. map (λ (z : Syncer). z.id) (map (row_syncer r.path) (numbered 0 (zip is (syncs_at who.scene (Some r.place)))))) counts
    ∙ counted_ids r.path 0 (r.num + 1) (syncs_at who.scene (Some r.place)) ∙ sym counts
