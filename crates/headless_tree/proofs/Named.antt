-- The names of the scenes of a valid scene, in their order.
use Rattle.std.proofs.Common.{◌≡◌, ℕ, ◌+◌, ◌<◌, ◌≤◌, false, not, List, [], ◌∷◌, ◌++◌, refl, sym, ap, ◌∙◌, length, get_or, map, take, Option, Some, None, arith}
use Rattle.std.specs.Prelude.{position}
use Rattle.std.specs.List.{insert, list_any}
use Rattle.std.specs.Str.{bytes_eq}
use Rattle.std.proofs.lemmas.List.{map-append, length-map, length-take-le, take_more, take_all}
use Rattle.std.proofs.lemmas.Slice.Eq.{bytes_eq-Decides}
use Rattle.gd_variant.specs.Words.{text_eq, has_text, first_some, with_earlier}
use Rattle.scene_model.specs.declared.scene.Scene.{Scene}
use Rattle.scene_model.specs.declared.scene.SceneDef.{SceneDef}
use Rattle.scene_model.specs.declared.scene.SceneWhy.TheVariants.{NamePath, TwoNodes}
use Rattle.scene_model.specs.Paths.{is_name}
use Rattle.scene_model.specs.Valid.{first_bad, node_why, scene_why, IsValidScene}
use Rattle.scene_model.proofs.EntryLaws.{bad_from, bad_later}
use Rattle.scene_model.proofs.ListLaws.{any_ext, any-map}
use Rattle.scene_model.proofs.TextLaws.{text_answer, text_eq-sym}
use Rattle.headless_tree.proofs.Made.{right_at, second_none, put_last}
use Rattle.headless_tree.proofs.Places.{position-map}

abbrev name_of : SceneDef → List ℕ
name_of d = d.name

rest_none : {X : Type 0} (a b : Option X) → first_some a b ≡ None → b ≡ None
rest_none None b h = h
rest_none (Some x) b h = absurd (cc h)

-- the names of the first scenes are the keys
pub record AreNamed {K : Type 0} (bytes : K → List ℕ) (s : Scene) (at : ℕ) (keys : List K) : Type 0 where
  pub left : bad_from scene_why at s.scenes ≡ None
  pub names : map bytes keys ≡ map name_of (take at s.scenes)

pub named_starts : {K : Type 0} (bytes : K → List ℕ) (s : Scene) (keys : List K) → IsValidScene s → keys ≡ [] → AreNamed bytes s 0 keys
named_starts bytes s keys valid none = record {
  left = rest_none (first_bad (node_why s) (with_earlier [] s.nodes)) (first_bad scene_why (with_earlier [] s.scenes)) valid;
  names = ap (map bytes) none;
}

named_count : {K : Type 0} (bytes : K → List ℕ) (s : Scene) (at : ℕ) (keys : List K) → at ≤ length s.scenes → AreNamed bytes s at keys → length (map bytes keys) ≡ at
named_count bytes s at keys low m = ap length m.names ∙ length-map (take at s.scenes) name_of ∙ length-take-le at s.scenes low

pub named_within : {K : Type 0} (bytes : K → List ℕ) (s : Scene) (at : ℕ) (keys : List K) → at ≤ length s.scenes → AreNamed bytes s at keys → at ≤ length keys
named_within bytes s at keys low m =
    let count = named_count bytes s at keys low m in
    let same = length-map keys bytes in
    omega (arith, count, same)

name_is_new : (s : Scene) (i : ℕ) (d : SceneDef) → scene_why (take i s.scenes, d) ≡ None → list_any (λ (e : SceneDef). text_eq e.name d.name) (take i s.scenes) ≡ false
name_is_new s i d h = second_none (not (is_name d.name)) (list_any (λ (e : SceneDef). text_eq e.name d.name) (take i s.scenes)) NamePath TwoNodes _ h

pub named_fresh : {K : Type 0} (bytes : K → List ℕ) (s : Scene) (at : ℕ) (keys : List K) (d : SceneDef) → at < length s.scenes → d ≡ get_or s.scenes at d → AreNamed bytes s at keys → has_text d.name (map bytes keys) ≡ false
named_fresh bytes s at keys d low is m =
    ap (has_text d.name) m.names
    ∙ any-map (text_eq d.name) name_of (take at s.scenes)
    ∙ any_ext (λ (e : SceneDef). text_eq d.name e.name) (λ (e : SceneDef). text_eq e.name d.name) (λ e. text_eq-sym d.name e.name) (take at s.scenes)
    ∙ name_is_new s at d (right_at scene_why s.scenes at d low is m.left)

pub named_more : {K : Type 0} (bytes : K → List ℕ) (s : Scene) (at : ℕ) (keys new : List K) (d : SceneDef) → at < length s.scenes → d ≡ get_or s.scenes at d → AreNamed bytes s at keys → map bytes new ≡ insert (map bytes keys) at d.name → AreNamed bytes s (at + 1) new
named_more bytes s at keys new d low is h put = record {
  left = bad_later scene_why s.scenes at d None low is h.left (sym (right_at scene_why s.scenes at d low is h.left));
  names =
      put ∙ ap (λ k. insert (map bytes keys) k d.name) (sym (named_count bytes s at keys (omega (arith, low)) h)) ∙ put_last (map bytes keys) d.name
      ∙ ap (λ (ts : List (List ℕ)). ts ++ d.name ∷ []) h.names
      ∙ sym (ap (map name_of) (take_more s.scenes at d low ∙ ap (λ (x : SceneDef). take at s.scenes ++ x ∷ []) (sym is)) ∙ map-append name_of (take at s.scenes) (d ∷ []));
}

pub named_all : {K : Type 0} (bytes : K → List ℕ) (s : Scene) (at : ℕ) (keys : List K) → length s.scenes ≤ at → AreNamed bytes s at keys → map bytes keys ≡ map name_of s.scenes
named_all bytes s at keys past m = m.names ∙ ap (map name_of) (take_all at s.scenes past)

-- a name's place among the keys is its scene's place
pub name_place : {K : Type 0} (bytes : K → List ℕ) (keys : List K) (defs : List SceneDef) (name : List ℕ) → map bytes keys ≡ map name_of defs → position (λ k. bytes_eq name (bytes k)) keys ≡ position (λ (d : SceneDef). text_eq name d.name) defs
name_place bytes keys defs name same =
    position-map bytes (λ k. bytes_eq name (bytes k)) (text_eq name) (λ k. text_answer (bytes_eq name (bytes k)) name (bytes k) (bytes_eq-Decides name (bytes k))) keys
    ∙ ap (position (text_eq name)) same
    ∙ sym (position-map name_of (λ (d : SceneDef). text_eq name d.name) (text_eq name) (λ d. refl) defs)
