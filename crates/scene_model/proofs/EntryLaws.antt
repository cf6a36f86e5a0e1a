-- The first wrong entry of a list, entry by entry.
use Rattle.std.proofs.Common.{◌≡◌, ℕ, ◌+◌, ◌<◌, ◌≤◌, Bool, true, false, ◌||◌, List, [], ◌∷◌, ◌++◌, refl, sym, ap, ◌∙◌, length, get_or, map, take, drop, Option, Some, None, not, nat_le, nat_lt, arith}
use Rattle.std.specs.Prelude.{option_map}
use Rattle.std.proofs.lemmas.Bool.{leb-false}
use Rattle.std.specs.List.{list_any}
use Rattle.std.proofs.lemmas.List.{at_drop_more, take_more, drop_all, length-take-le}
use Rattle.gd_variant.specs.Words.{text_eq, when, first_of, first_some, with_earlier, numbered}
use Rattle.scene_model.specs.declared.scene.Scene.{Scene}
use Rattle.scene_model.specs.declared.scene.Node.{Node}
use Rattle.scene_model.specs.declared.scene.SceneDef.{SceneDef}
use Rattle.scene_model.specs.declared.scene.SceneBad.{SceneBad}
use Rattle.scene_model.specs.declared.scene.SceneWhy.{SceneWhy}
use Rattle.scene_model.specs.declared.scene.SceneWhy.TheVariants.{NamePath, TwoNodes, TooMany}
use Rattle.scene_model.specs.Paths.{is_name}
use Rattle.scene_model.specs.Valid.{path_wrong, bad_at, first_bad, node_why, scene_why}

-- the first wrong entry from a place on
abbrev pub bad_from : {X : Type 0} → (List X × X → Option SceneWhy) → ℕ → List X → Option SceneBad
bad_from why i xs = first_of (map (bad_at why) (numbered i (with_earlier (take i xs) (drop i xs))))

first_row : {X : Type 0} (o : Option X) (rows : List (Option X)) → first_of (o ∷ rows) ≡ first_some o (first_of rows)
first_row None rows = refl
first_row (Some x) rows = refl

bad_step : {X : Type 0} (why : List X × X → Option SceneWhy) (xs : List X) (i : ℕ) (x : X) → i < length xs → x ≡ get_or xs i x → bad_from why i xs ≡ first_some (bad_at why (i, (take i xs, x))) (bad_from why (i + 1) xs)
bad_step {X} why xs i x w is =
    at_drop_more (λ (ys : List X). first_of (map (bad_at why) (numbered i (with_earlier (take i xs) ys)))) xs i x w
    ∙ ap (λ (y : X). first_of (map (bad_at why) (numbered i (with_earlier (take i xs) (y ∷ drop (i + 1) xs))))) (sym is)
    ∙ first_row (bad_at why (i, (take i xs, x))) (map (bad_at why) (numbered (i + 1) (with_earlier (take i xs ++ x ∷ []) (drop (i + 1) xs))))
    ∙ ap (λ (front : List X). first_some (bad_at why (i, (take i xs, x))) (first_of (map (bad_at why) (numbered (i + 1) (with_earlier front (drop (i + 1) xs)))))) (ap (λ (y : X). take i xs ++ y ∷ []) is ∙ sym (take_more xs i x w))

pub bad_here : {X : Type 0} (why : List X × X → Option SceneWhy) (xs : List X) (i : ℕ) (x : X) (w : SceneWhy) (whole : Option SceneBad) → i < length xs → x ≡ get_or xs i x → bad_from why i xs ≡ whole → Some w ≡ why (take i xs, x) → Some (record { index = i; why = w }) ≡ whole
bad_here why xs i x w whole low is so_far here = sym (sym so_far ∙ bad_step why xs i x low is ∙ ap (λ o. first_some (option_map (λ (v : SceneWhy). record { index = i; why = v }) o) (bad_from why (i + 1) xs)) (sym here))

pub bad_later : {X : Type 0} (why : List X × X → Option SceneWhy) (xs : List X) (i : ℕ) (x : X) (whole : Option SceneBad) → i < length xs → x ≡ get_or xs i x → bad_from why i xs ≡ whole → None ≡ why (take i xs, x) → bad_from why (i + 1) xs ≡ whole
bad_later why xs i x whole low is so_far here = sym (sym so_far ∙ bad_step why xs i x low is ∙ ap (λ o. first_some (option_map (λ (v : SceneWhy). record { index = i; why = v }) o) (bad_from why (i + 1) xs)) (sym here))

pub bad_nowhere : {X : Type 0} (why : List X × X → Option SceneWhy) (xs : List X) (i : ℕ) (whole : Option SceneBad) → length xs ≤ i → bad_from why i xs ≡ whole → None ≡ whole
bad_nowhere {X} why xs i whole past so_far = ap (λ (ys : List X). first_of (map (bad_at why) (numbered i (with_earlier (take i xs) ys)))) (sym (drop_all i xs past)) ∙ so_far

-- an entry that is right is one of the first

third_none : {X : Type 0} (a b c d : Bool) (x y z : X) (rows : List (Option X)) → None ≡ first_of (when a x ∷ when b y ∷ when (c || d) z ∷ rows) → c ≡ false
third_none true b c d x y z rows h = absurd (cc h)
third_none false true c d x y z rows h = absurd (cc h)
third_none false false true d x y z rows h = absurd (cc h)
third_none false false false d x y z rows h = refl

-- each entry before a place is right
pub record IsRightTo {X : Type 0} (why : List X × X → Option SceneWhy) (xs : List X) (i : ℕ) : Type 0 where
  pub front : i ≤ 4096
  pub left : bad_from why i xs ≡ first_bad why (with_earlier [] xs)

either_none : (a b : Bool) → (a || b) ≡ false → a ≡ false
either_none false b h = refl
either_none true b h = absurd (cc h)

few_before : {X : Type 0} (xs : List X) (i : ℕ) → i ≤ length xs → nat_le 4096 (length (take i xs)) ≡ false → i < 4096
few_before xs i low h = omega (arith, leb-false 4096 (length (take i xs)) h, length-take-le i xs low)

pub node_is_early : (s : Scene) (i : ℕ) (n : Node) → i ≤ length s.nodes → None ≡ node_why s (take i s.nodes, n) → i < 4096
node_is_early s i n low h =
    few_before s.nodes i low (either_none (nat_le 4096 (length (take i s.nodes))) (nat_lt 64 (length n.props))
    (third_none (path_wrong (take i s.nodes) n) (list_any (λ (e : Node). text_eq e.path n.path) (take i s.nodes)) (nat_le 4096 (length (take i s.nodes)) || nat_lt 64 (length n.props)) (nat_lt 4096 (length n.methods)) NamePath TwoNodes TooMany _ h))

pub scene_is_early : (ds : List SceneDef) (i : ℕ) (d : SceneDef) → i ≤ length ds → None ≡ scene_why (take i ds, d) → i < 4096
scene_is_early ds i d low h =
    few_before ds i low (either_none (nat_le 4096 (length (take i ds))) (nat_lt 64 (length d.props)) (either_none (nat_le 4096 (length (take i ds)) || nat_lt 64 (length d.props)) (nat_lt 4096 (length d.methods))
    (third_none (not (is_name d.name)) (list_any (λ (e : SceneDef). text_eq e.name d.name) (take i ds)) (nat_le 4096 (length (take i ds)) || nat_lt 64 (length d.props) || nat_lt 4096 (length d.methods)) (nat_lt 8 (length d.syncs)) NamePath TwoNodes TooMany _ h)))

pub right_more : {X : Type 0} (why : List X × X → Option SceneWhy) (xs : List X) (i : ℕ) (x : X) → i < length xs → x ≡ get_or xs i x → IsRightTo why xs i → None ≡ why (take i xs, x) → i < 4096 → IsRightTo why xs (i + 1)
right_more why xs i x low is h none early = record { front = omega (arith, early); left = bad_later why xs i x (first_bad why (with_earlier [] xs)) low is h.left none }
