-- Where spawned nodes stand: below the node of a spawner whose authority is theirs. So nodes of two authorities never have one path.
use Rattle.std.proofs.Common.{◌≡◌, ℕ, zero, suc, ℤ, Bool, true, false, cond, not, ◌||◌, List, [], ◌∷◌, ◌++◌, refl, sym, ap, ◌∙◌, map, nat_eq, Option, Some, None}
use Rattle.std.specs.Prelude.{find, slice_get, option_map, option_and_then, filter_map}
use Rattle.std.specs.List.{list_all, cons_option}
use Rattle.std.specs.Ordering.{int_eq}
use Rattle.std.proofs.lemmas.Bool.{and_parts, or_parts}
use Rattle.gd_variant.specs.Words.{text_eq, has_text, has_nat, some_is}
use Rattle.scene_model.specs.declared.scene.Scene.{Scene}
use Rattle.scene_model.specs.declared.scene.Node.{Node}
use Rattle.scene_model.specs.declared.scene.SpawnerDef.{SpawnerDef}
use Rattle.scene_model.specs.Paths.{slash, forbidden, is_name, joined, parent_step, parent_of}
use Rattle.scene_model.specs.Lookup.{spawner_of}
use Rattle.scene_model.specs.Valid.{IsValidScene, has_twice}
use Rattle.peer_model.specs.Updates.{Live}
use Rattle.scene_model.proofs.TextLaws.{text_eq-true, text_eq-same}
use Rattle.peer_laws.proofs.Tests.{never, or_true}
use Rattle.peer_laws.proofs.Scenes.{unders_apart}

-- names have no slash

no_slash : (name : List ℕ) → list_all (λ b. not (has_nat b forbidden)) name ≡ true → parent_of name ≡ None
no_slash [] h = refl
no_slash (b ∷ name) h =
    let parts = and_parts (not (has_nat b forbidden)) (list_all (λ c. not (has_nat c forbidden)) name) h in
    ap (parent_step b) (no_slash name parts.1) ∙ ap (λ t. cond t (Some []) None) (no_match b parts.0)
  where
    any_slash : (p q r s : Bool) (rest : Bool) → not (p || (q || (r || (s || rest)))) ≡ true → s ≡ false
    any_slash true q r s rest k = absurd (cc k)
    any_slash false true r s rest k = absurd (cc k)
    any_slash false false true s rest k = absurd (cc k)
    any_slash false false false true rest k = absurd (cc k)
    any_slash false false false false rest k = refl

    no_match : (c : ℕ) → not (has_nat c forbidden) ≡ true → nat_eq c slash ≡ false
    no_match c k = any_slash (nat_eq c 46) (nat_eq c 58) (nat_eq c 64) (nat_eq c 47) _ k

-- the parent of a node below another is that node
pub parent_joined : (under name : List ℕ) → is_name name ≡ true → parent_of (joined under name) ≡ Some under
parent_joined under name h = below under
  where
    lone : parent_of name ≡ None
    lone = no_slash name (and_parts _ (list_all (λ b. not (has_nat b forbidden)) name) h).1

    below : (us : List ℕ) → parent_of (us ++ slash ∷ name) ≡ Some us
    below [] = ap (parent_step slash) lone
    below (u ∷ us) = ap (parent_step u) (below us)

-- spawners by the node below which they spawn

-- whether a node is a spawner that spawns below a path
abbrev pub spawns_below : List ℕ → Node → Bool
spawns_below under n = some_is (λ (d : SpawnerDef). text_eq d.under under) (spawner_of n)

-- the authority of the spawner that spawns below a path
abbrev pub authority_below : Scene → List ℕ → Option ℤ
authority_below s under = option_map (λ (n : Node). n.auth) (find (spawns_below under) s.nodes)

-- the authority whose spawned nodes stand where this path is
abbrev pub home_authority : Scene → List ℕ → Option ℤ
home_authority s path = option_and_then (authority_below s) (parent_of path)

-- a node among some
has_under : (ns : List Node) (i : ℕ) (n : Node) (d : SpawnerDef) → slice_get ns i ≡ Some n → spawner_of n ≡ Some d → has_text d.under (map (λ (c : SpawnerDef). c.under) (filter_map spawner_of ns)) ≡ true
has_under [] i n d h e = absurd (cc h)
has_under (m ∷ ns) zero n d h e =
    let same : m ≡ n = cc in
    ap (λ o. has_text d.under (map (λ (c : SpawnerDef). c.under) (cons_option o (filter_map spawner_of ns)))) (ap spawner_of same ∙ e) ∙ ap (λ b. b || has_text d.under (map (λ (c : SpawnerDef). c.under) (filter_map spawner_of ns))) (text_eq-same d.under)
has_under (m ∷ ns) (suc i) n d h e = step (spawner_of m) (has_under ns i n d h e)
  where
    step : (o : Option SpawnerDef) → has_text d.under (map (λ (c : SpawnerDef). c.under) (filter_map spawner_of ns)) ≡ true → has_text d.under (map (λ (c : SpawnerDef). c.under) (cons_option o (filter_map spawner_of ns))) ≡ true
    step None k = k
    step (Some c) k = ap (λ b. text_eq d.under c.under || b) k ∙ or_true (text_eq d.under c.under)

found_below : (ns : List Node) (i : ℕ) (n : Node) (d : SpawnerDef) → has_twice (map (λ (c : SpawnerDef). c.under) (filter_map spawner_of ns)) ≡ false → slice_get ns i ≡ Some n → spawner_of n ≡ Some d → find (spawns_below d.under) ns ≡ Some n
found_below [] i n d apart h e = absurd (cc h)
found_below (m ∷ ns) zero n d apart h e =
    let same : m ≡ n = cc in
    ap (λ o. cond (some_is (λ (c : SpawnerDef). text_eq c.under d.under) o) (Some m) (find (spawns_below d.under) ns)) (ap spawner_of same ∙ e)
    ∙ ap (λ b. cond b (Some m) (find (spawns_below d.under) ns)) (text_eq-same d.under) ∙ ap Some same
found_below (m ∷ ns) (suc i) n d apart h e = step (spawner_of m) apart (has_under ns i n d h e) (λ k. found_below ns i n d k h e)
  where
    unders : List (List ℕ)
    unders = map (λ (c : SpawnerDef). c.under) (filter_map spawner_of ns)

    step : (o : Option SpawnerDef) → has_twice (map (λ (c : SpawnerDef). c.under) (cons_option o (filter_map spawner_of ns))) ≡ false → has_text d.under unders ≡ true → (has_twice unders ≡ false → find (spawns_below d.under) ns ≡ Some n)
        → cond (some_is (λ (c : SpawnerDef). text_eq c.under d.under) o) (Some m) (find (spawns_below d.under) ns) ≡ Some n
    step None k there more = more k
    step (Some c) k there more =
        let parts = or_parts (has_text c.under unders) (has_twice unders) k in
        ap (λ b. cond b (Some m) (find (spawns_below d.under) ns)) (never (text_eq c.under d.under) (λ same. sym there ∙ ap (λ t. has_text t unders) (sym (text_eq-true c.under d.under same)) ∙ parts.0)) ∙ more parts.1

-- a spawner is the only one that spawns below its node
pub only_spawner : (s : Scene) → IsValidScene s → (i : ℕ) (n : Node) (d : SpawnerDef) → slice_get s.nodes i ≡ Some n → spawner_of n ≡ Some d → authority_below s d.under ≡ Some n.auth
only_spawner s v i n d h e = ap (option_map (λ (m : Node). m.auth)) (found_below s.nodes i n d (unders_apart s v) h e)

-- what a spawner spawns stands where its authority's nodes do
pub home_of : (s : Scene) → IsValidScene s → (i : ℕ) (n : Node) (d : SpawnerDef) (name : List ℕ) → slice_get s.nodes i ≡ Some n → spawner_of n ≡ Some d → is_name name ≡ true → home_authority s (joined d.under name) ≡ Some n.auth
home_of s v i n d name h e k = ap (option_and_then (authority_below s)) (parent_joined d.under name k) ∙ only_spawner s v i n d h e

-- nodes of the tree

-- whether a node stands where this authority's nodes do
abbrev pub is_home : Scene → ℤ → Live → Bool
is_home s c n = some_is (int_eq c) (home_authority s n.path)

-- no node of another authority stands where one's nodes do
pub homes_apart : (s : Scene) (a c : ℤ) (path : List ℕ) (n : Live) → home_authority s path ≡ Some a → int_eq c a ≡ false → is_home s c n ≡ true → text_eq n.path path ≡ false
homes_apart s a c path n here other h =
    never (text_eq n.path path) (λ e. sym h ∙ ap (λ p. some_is (int_eq c) (home_authority s p)) (text_eq-true n.path path e) ∙ ap (some_is (int_eq c)) here ∙ other)
