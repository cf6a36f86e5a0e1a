-- What the calls of a spawn tell, put together.
use Rattle.std.proofs.Common.{◌≡◌, ℕ, ◌+◌, ◌<◌, ◌≤◌, ℤ, true, List, sym, ap, ap₂, ◌∙◌, subst, length, arith}
use Rattle.std.specs.List.{list_all}
use Rattle.gd_variant.specs.Words.{put_by}
use Rattle.scene_model.specs.declared.scene.Prop.{Prop}
use Rattle.scene_model.specs.declared.scene.Scene.{Scene}
use Rattle.scene_model.specs.declared.event.SpawnOp.{SpawnOp}
use Rattle.scene_model.specs.Paths.{joined}
use Rattle.peer_model.specs.Rows.{syncs_at, spawned_scene}
use Rattle.peer_model.specs.Values.{argument_prop}
use Rattle.peer_model.specs.Updates.{Live}
use Rattle.headless_tree.specs.Nodes.{TreeOf, row_before, spawned_node}
use Rattle.headless_tree.specs.Numbers.{are_new}
use Rattle.peer_laws.proofs.Rows.{length-count_from}
use Rattle.peer_steps.specs.declared.rows.SpawnedRow.{SpawnedRow}
use Rattle.peer_steps.specs.declared.site.Site.{Site}
use Rattle.peer_steps.specs.Arrivals.{argument_assigned}
use Rattle.peer_steps.specs.Rights.{has_right_values, is_right_row}
use Rattle.peer_steps.specs.Sites.{MaySpawn, who_at, own_made, with_made, after_made, site_row, with_settings}
use Rattle.peer_steps.proofs.SpawnMade.{spawn_within, spawn_new, spawn_row, spawn_nodes, spawn_values, spawn_row_right}

-- the row as its parts were made of the scene that a call showed
pub row_told : (s shown : Scene) (num : ℕ) (o : SpawnOp) (x : Site) (r : SpawnedRow) → shown ≡ s → r ≡ site_row shown num o x → r ≡ site_row s num o x
row_told s shown num o x r same e = e ∙ ap (λ t. site_row t num o x) same

pub added_within : (id : ℤ) (s : Scene) (nodes : List Live) (num : ℕ) (o : SpawnOp) (x : Site) (r : SpawnedRow) → MaySpawn (who_at id s) nodes num o x → r ≡ site_row s num o x → r.place < length s.scenes
added_within id s nodes num o x r m e = subst (λ p. p < length s.scenes) (sym (ap (λ (q : SpawnedRow). q.place) e)) (spawn_within (who_at id s) nodes num o x m)

pub added_new : (id : ℤ) (s : Scene) (nodes : List Live) (num : ℕ) (o : SpawnOp) (x : Site) (r : SpawnedRow) → MaySpawn (who_at id s) nodes num o x → r ≡ site_row s num o x → are_new id num r.ids nodes ≡ true
added_new id s nodes num o x r m e = ap (λ (q : SpawnedRow). are_new id num q.ids nodes) e ∙ spawn_new (who_at id s) nodes num o x m

pub added_tree : (id : ℤ) (old put mid new : TreeOf) (num : ℕ) (o : SpawnOp) (x : Site) (r : SpawnedRow) (sets : List Prop) → MaySpawn (who_at id old.scene) old.nodes num o x → r ≡ site_row old.scene num o x
    → put ≡ record old { nodes = put_by row_before (spawned_node old.scene (joined x.under o.name) id num r.ids r.place) old.nodes }
    → mid ≡ record put { nodes = argument_assigned x.path (argument_prop (who_at id put.scene) o) o.arg put.nodes }
    → new ≡ record mid { nodes = with_settings x.path sets mid.nodes } → sets ≡ o.sets
    → new ≡ record old { nodes = with_made id old.scene num o old.nodes }
added_tree id old put mid new num o x r sets m e placed given set same =
    let after : TreeOf → List Prop → TreeOf = λ t ps. record t { nodes = with_settings x.path ps (argument_assigned x.path (argument_prop (who_at id t.scene) o) o.arg t.nodes) } in
    set
    ∙ ap (λ (t : TreeOf). record t { nodes = with_settings x.path sets t.nodes }) given
    ∙ ap₂ after placed same
    ∙ ap (λ (q : SpawnedRow). after (record old { nodes = put_by row_before (spawned_node old.scene (joined x.under o.name) id num q.ids q.place) old.nodes }) o.sets) e
    ∙ ap (λ ns. record old { nodes = ns }) (spawn_nodes (who_at id old.scene) old.nodes num o x m)

pub made_is : (id : ℤ) (s : Scene) (nodes : List Live) (num : ℕ) (o : SpawnOp) (x : Site) (r : SpawnedRow) → MaySpawn (who_at id s) nodes num o x → r ≡ site_row s num o x → r ≡ own_made id s num o
made_is id s nodes num o x r m e = e ∙ spawn_row (who_at id s) nodes num o x m

pub made_values : (id : ℤ) (old new : TreeOf) (num : ℕ) (o : SpawnOp) (x : Site) → MaySpawn (who_at id old.scene) old.nodes num o x → new ≡ record old { nodes = with_made id old.scene num o old.nodes } → list_all has_right_values new.nodes ≡ true
made_values id old new num o x m e = ap (λ (t : TreeOf). list_all has_right_values t.nodes) e ∙ spawn_values (who_at id old.scene) old.nodes num o x m

pub made_right : (id : ℤ) (old new : TreeOf) (num : ℕ) (o : SpawnOp) (x : Site) (r : SpawnedRow) → MaySpawn (who_at id old.scene) old.nodes num o x → new ≡ record old { nodes = with_made id old.scene num o old.nodes } → r ≡ own_made id old.scene num o → is_right_row new.scene r ≡ true
made_right id old new num o x r m e h = ap₂ (λ (t : TreeOf) q. is_right_row t.scene q) e h ∙ spawn_row_right (who_at id old.scene) old.nodes num o x m

-- how many numbers the synchronizers of a row took
pub made_count : (id : ℤ) (s : Scene) (num n : ℕ) (o : SpawnOp) (r : SpawnedRow) → r ≡ own_made id s num o → n ≡ length r.ids → n ≡ length (syncs_at s (spawned_scene (who_at id s) o))
made_count id s num n o r e h = h ∙ ap (λ (q : SpawnedRow). length q.ids) e ∙ length-count_from (num + 1) (syncs_at s (spawned_scene (who_at id s) o))

pub made_next : (id : ℤ) (s : Scene) (num n : ℕ) (o : SpawnOp) (r : SpawnedRow) → r ≡ own_made id s num o → n ≡ length r.ids → num + 1 + n ≡ after_made id s num o
made_next id s num n o r e h = ap (λ k. num + 1 + k) (made_count id s num n o r e h)

pub made_small : (id : ℤ) (s : Scene) (nodes : List Live) (num n : ℕ) (o : SpawnOp) (x : Site) (r : SpawnedRow) → MaySpawn (who_at id s) nodes num o x → r ≡ own_made id s num o → n ≡ length r.ids → num + n ≤ 2147483647
made_small id s nodes num n o x r m e h = let few = made_count id s num n o r e h in let room = m.welcome.room in omega (arith, few, room)
