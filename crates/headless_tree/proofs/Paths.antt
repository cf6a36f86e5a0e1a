-- A path put among the paths.
use Rattle.std.proofs.Common.{◌≡◌, ℕ, suc, ◌+◌, Bool, true, false, cond, not, ◌||◌, List, [], ◌∷◌, ◌++◌, refl, sym, ap, ap₂, ◌∙◌, length, map, Some, if◌then◌else◌, arith}
use Rattle.std.specs.Prelude.{slice_get}
use Rattle.std.specs.List.{position_or_len, insert, remove, list_any}
use Rattle.std.specs.Option.{option_map_or}
use Rattle.std.specs.Str.{bytes_eq}
use Rattle.std.proofs.lemmas.Slice.Eq.{bytes_eq-Decides}
use Rattle.indexmap.specs.IndexMap.{move_index}
use Rattle.indexmap.specs.IndexSet.{insert_key}
use Rattle.gd_variant.specs.Words.{text_eq, has_text}
use Rattle.scene_model.proofs.TextLaws.{text_answer}
use Rattle.scene_model.proofs.ListLaws.{any_ext, any-map}
use Rattle.headless_tree.proofs.Changes.{map-insert}

none_passes : {X : Type 0} (p : X → Bool) (xs : List X) → list_any p xs ≡ false → position_or_len p xs ≡ length xs
none_passes p [] h = refl
none_passes p (x ∷ xs) h = step (p x) (list_any p xs) h (λ k. none_passes p xs k)
  where
    step : (b c : Bool) → (b || c) ≡ false → (c ≡ false → position_or_len p xs ≡ length xs) → cond (not b) (1 + position_or_len p xs) 0 ≡ suc (length xs)
    step true c k more = absurd (cc k)
    step false c k more = let e = more k in omega (arith, e)

last_get : {X : Type 0} (xs : List X) (x : X) → slice_get (xs ++ x ∷ []) (length xs) ≡ Some x
last_get [] x = refl
last_get (y ∷ ys) x = last_get ys x

last_gone : {X : Type 0} (xs : List X) (x : X) → remove (xs ++ x ∷ []) (length xs) ≡ xs
last_gone [] x = refl
last_gone (y ∷ ys) x = ap (λ zs. y ∷ zs) (last_gone ys x)

-- a new key goes to the place
pub put_new : {K : Type 0} (eq : K → K → Bool) (keys : List K) (k : K) (at : ℕ) → list_any (eq k) keys ≡ false → move_index (insert_key eq keys k) (position_or_len (eq k) keys) at ≡ insert keys at k
put_new {K} eq keys k at fresh =
    ap₂ (λ b n. move_index (if b then keys else keys ++ k ∷ []) n at) fresh (none_passes (eq k) keys fresh)
    ∙ ap (λ o. option_map_or (λ (x : K). insert (remove (keys ++ k ∷ []) (length keys)) at x) o (keys ++ k ∷ [])) (last_get keys k)
    ∙ ap (λ (ks : List K). insert ks at k) (last_gone keys k)

pub is_fresh : {K : Type 0} (bytes : K → List ℕ) (keys : List K) (k : K) (path : List ℕ) → bytes k ≡ path → has_text path (map bytes keys) ≡ false → list_any (λ x. bytes_eq (bytes k) (bytes x)) keys ≡ false
is_fresh bytes keys k path is fresh =
    any_ext (λ x. bytes_eq (bytes k) (bytes x)) (λ x. text_eq path (bytes x)) (λ x. text_answer (bytes_eq (bytes k) (bytes x)) (bytes k) (bytes x) (bytes_eq-Decides (bytes k) (bytes x)) ∙ ap (λ t. text_eq t (bytes x)) is) keys
    ∙ sym (any-map (text_eq path) bytes keys) ∙ fresh

pub path_put : {K : Type 0} (bytes : K → List ℕ) (keys new : List K) (k : K) (at : ℕ) (path : List ℕ) → bytes k ≡ path → has_text path (map bytes keys) ≡ false
    → new ≡ move_index (insert_key (λ x y. bytes_eq (bytes x) (bytes y)) keys k) (position_or_len (λ y. bytes_eq (bytes k) (bytes y)) keys) at → map bytes new ≡ insert (map bytes keys) at path
path_put bytes keys new k at path is fresh e =
    ap (map bytes) (e ∙ put_new (λ x y. bytes_eq (bytes x) (bytes y)) keys k at (is_fresh bytes keys k path is fresh))
    ∙ map-insert bytes keys at k ∙ ap (insert (map bytes keys) at) is
