-- What a received spawn makes is what its functional step says.
use Rattle.std.proofs.Common.{◌≡◌, ℕ, ℤ, Bool, true, false, cond, not, ◌&&◌, ◌||◌, List, [], ◌∷◌, map, filter, nat_eq, Option, Some, None, refl, sym, ap, ap₂, subst, ◌∙◌, arith}
use Rattle.std.specs.Prelude.{Result, Ok, Err}
use Rattle.std.specs.List.{list_any}
use Rattle.std.proofs.lemmas.Bool.Decides.{nat_tests}
use Rattle.gd_variant.specs.Words.{has_nat, put_by, when}
use Rattle.scene_model.specs.declared.spawn.SpawnMsg.{SpawnMsg}
use Rattle.scene_model.specs.declared.outcome.Fault.{Fault}
use Rattle.scene_model.specs.declared.outcome.Fault.TheVariants.{NoNet}
use Rattle.scene_model.specs.declared.outcome.Refusal.{Refusal}
use Rattle.peer_model.specs.Updates.{Live, shown_node}
use Rattle.headless_tree.specs.Nodes.{TreeOf, row_before, is_row_of, is_row_with, without_spawned}
use Rattle.headless_tree.proofs.Apart.{none_gone}
use Rattle.peer_laws.specs.Facts.{rows_under}
use Rattle.peer_steps.specs.declared.making.Making.{Making}
use Rattle.peer_steps.specs.Judged.{despawn_judged, hidden_judged}
use Rattle.peer_steps.specs.Sites.{who_at}
use Rattle.peer_steps.specs.Track.{Track, Despawned, shown_spawn, shown_by, hidden_row, hidden_by, number_at, shown_of, track_without, despawned_by, own_despawn}
use Rattle.peer_steps.proofs.Admitted.{judged_is}
use Rattle.spawn_track.specs.Judging.{IsJudged, IsDespawned}

-- a received spawn that is a fault
pub shown_fault : (from : ℤ) (m : SpawnMsg) (tree : TreeOf) (r : Result Making Fault) (f : Fault) → r ≡ Err f → IsJudged tree.scene tree.nodes from m r → (Some f, tree) ≡ shown_spawn from m tree
shown_fault from m tree r f is judged = ap (shown_by from m tree) (sym (subst (IsJudged tree.scene tree.nodes from m) is judged) ∙ judged_is tree.scene tree.nodes from m)

-- one that puts its node in
pub shown_made : (from : ℤ) (m : SpawnMsg) (tree after : TreeOf) (r : Result Making Fault) (x : Making) → r ≡ Ok x → IsJudged tree.scene tree.nodes from m r → after ≡ record tree { nodes = put_by row_before (shown_node tree.scene from m) tree.nodes }
    → (None, after) ≡ shown_spawn from m tree
shown_made from m tree after r x is judged put =
    ap {B = Option Fault × TreeOf} (λ (u : TreeOf). (None, u)) put
    ∙ ap (shown_by from m tree) (sym (subst (IsJudged tree.scene tree.nodes from m) is judged).0 ∙ judged_is tree.scene tree.nodes from m)

-- a received despawn

same_number : (k m : ℕ) → nat_eq k m ≡ nat_eq m k
same_number k m = grind (arith, nat_tests)

-- whether a row of a peer has a number, by its rows or by all nodes
number_known : (c : ℤ) (net : ℕ) (nodes : List Live) → has_nat net (map (λ (n : Live). n.num) (rows_under c nodes)) ≡ list_any (is_row_with c net) nodes
number_known c net [] = refl
number_known c net (n ∷ ns) = by (is_row_of c n) (number_known c net ns)
  where
    by : (b : Bool) → has_nat net (map (λ (m : Live). m.num) (rows_under c ns)) ≡ list_any (is_row_with c net) ns
        → has_nat net (map (λ (m : Live). m.num) (cond b (n ∷ rows_under c ns) (rows_under c ns))) ≡ ((b && nat_eq n.num net) || list_any (is_row_with c net) ns)
    by true more = ap₂ (λ p q. p || q) (same_number net n.num) more
    by false more = more

judged_number : (c : ℤ) (net : ℕ) (nodes : List Live) (b : Bool) → list_any (is_row_with c net) nodes ≡ b → when (not b) (NoNet net) ≡ hidden_judged nodes c net
judged_number c net nodes b e = ap (λ d. when (not d) (NoNet net)) (sym e ∙ sym (number_known c net nodes))

pub hides_row : (c : ℤ) (net : ℕ) (tree after : TreeOf) → list_any (is_row_with c net) tree.nodes ≡ true → after ≡ record tree { nodes = filter (λ n. not (is_row_with c net n)) tree.nodes } → (None, after) ≡ hidden_row c net tree
hides_row c net tree after found gone = ap {B = Option Fault × TreeOf} (λ (u : TreeOf). (None, u)) gone ∙ ap (hidden_by c net tree) (judged_number c net tree.nodes true found)

pub hides_none : (c : ℤ) (net : ℕ) (tree after : TreeOf) → list_any (is_row_with c net) tree.nodes ≡ false → after ≡ record tree { nodes = filter (λ n. not (is_row_with c net n)) tree.nodes } → (Some (NoNet net), after) ≡ hidden_row c net tree
hides_none c net tree after none gone =
    ap {B = Option Fault × TreeOf} (λ (u : TreeOf). (Some (NoNet net), u)) (gone ∙ sym (ap {B = TreeOf} (λ (ns : List Live). record tree { nodes = ns }) (none_gone (is_row_with c net) tree.nodes none)))
    ∙ ap (hidden_by c net tree) (judged_number c net tree.nodes false none)

-- a despawn

pub despawn_no : (me : ℤ) (path : List ℕ) (t : Track) (tree : TreeOf) (r : Refusal) (f : Option Refusal) → f ≡ despawn_judged (who_at me tree.scene) tree.nodes path → f ≡ Some r
    → IsDespawned (own_despawn me path t tree) (number_at tree.nodes path) t tree (Err r)
despawn_no me path t tree r f judged is = ap (despawned_by path (number_at tree.nodes path) t tree) (sym is ∙ judged)

pub despawn_is : (me : ℤ) (path : List ℕ) (t w : Track) (tree u : TreeOf) (f : Option Refusal) (num : ℕ) (shown : List ℤ) → f ≡ despawn_judged (who_at me tree.scene) tree.nodes path → f ≡ None → num ≡ number_at tree.nodes path
    → u ≡ record tree { nodes = without_spawned path tree.nodes } → shown ≡ shown_of num t.sights → w ≡ track_without num t
    → record { refused = None; num = num; shown = shown; track = w; tree = u } ≡ own_despawn me path t tree
despawn_is me path t w tree u f num shown judged is same gone seen left =
    ap₂ {C = Despawned} (λ (v : TreeOf) (bs : List ℤ). record { refused = None; num = num; shown = bs; track = w; tree = v }) gone seen
    ∙ ap {B = Despawned} (λ (x : Track). record { refused = None; num = num; shown = shown_of num t.sights; track = x; tree = record tree { nodes = without_spawned path tree.nodes } }) left
    ∙ ap (λ n. despawned_by path n t tree None) same
    ∙ ap (despawned_by path (number_at tree.nodes path) t tree) (sym is ∙ judged)
