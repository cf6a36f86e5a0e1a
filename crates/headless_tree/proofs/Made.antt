-- A tree that is made of a scene, and a node put among the nodes.
use Rattle.std.proofs.Common.{◌≡◌, ℕ, ◌+◌, ◌<◌, ◌≤◌, Bool, true, false, cond, List, [], ◌∷◌, ◌++◌, refl, sym, ap, ap₂, ◌∙◌, length, get_or, map, take, Option, Some, None, is_some, arith}
use Rattle.std.specs.List.{insert, list_any, prefix_len}
use Rattle.std.proofs.lemmas.List.{map-append, length-map, length-take-le, take_more, take_all}
use Rattle.gd_variant.specs.Words.{text_eq, has_text, when, first_of, first_some, with_earlier, put_by}
use Rattle.scene_model.specs.declared.scene.Scene.{Scene}
use Rattle.scene_model.specs.declared.scene.Node.{Node}
use Rattle.scene_model.specs.declared.scene.SceneWhy.{SceneWhy}
use Rattle.scene_model.specs.declared.scene.SceneWhy.TheVariants.{NamePath, TwoNodes}
use Rattle.scene_model.specs.Valid.{first_bad, node_why, scene_why, path_wrong, IsValidScene}
use Rattle.scene_model.proofs.EntryLaws.{bad_from, bad_here, bad_later}
use Rattle.scene_model.proofs.ListLaws.{any_ext, any-map, found_is_any}
use Rattle.scene_model.proofs.TextLaws.{text_eq-sym}
use Rattle.scene_model.specs.Nodes.{Live, fixed_live, live_at}
use Rattle.gd_variant.proofs.Lists.{put_is_insert}
use Rattle.headless_tree.specs.declared.node.NodeNow.{NodeNow}
use Rattle.headless_tree.specs.Nodes.{TreeOf, live, is_at, row_before, fixed_nodes}
use Rattle.headless_tree.specs.Numbers.{Paths, is_numbered, has_paths_once}
use Rattle.headless_tree.specs.Order.{are_in_order}
use Rattle.headless_tree.proofs.Changes.{map-insert}
use Rattle.headless_tree.proofs.Order.{order_fixed}
use Rattle.headless_tree.proofs.Numbered.{once_insert, fixed_numbered}

-- entries of a valid scene

first_none : {X : Type 0} (a b : Option X) → first_some a b ≡ None → a ≡ None
first_none None b h = refl
first_none (Some x) b h = absurd (cc h)

pub right_at : {X : Type 0} (why : List X × X → Option SceneWhy) (xs : List X) (i : ℕ) (x : X) → i < length xs → x ≡ get_or xs i x → bad_from why i xs ≡ None → why (take i xs, x) ≡ None
right_at why xs i x low is left = by (why (take i xs, x)) refl
  where
    by : (o : Option SceneWhy) → o ≡ why (take i xs, x) → o ≡ None
    by None e = refl
    by (Some w) e = absurd (cc (bad_here why xs i x w None low is left e))

pub second_none : {X : Type 0} (a b : Bool) (x y : X) (rows : List (Option X)) → first_of (when a x ∷ when b y ∷ rows) ≡ None → b ≡ false
second_none true b x y rows h = absurd (cc h)
second_none false true x y rows h = absurd (cc h)
second_none false false x y rows h = refl

path_is_new : (s : Scene) (i : ℕ) (n : Node) → node_why s (take i s.nodes, n) ≡ None → list_any (λ (e : Node). text_eq e.path n.path) (take i s.nodes) ≡ false
path_is_new s i n h = second_none (path_wrong (take i s.nodes) n) (list_any (λ (e : Node). text_eq e.path n.path) (take i s.nodes)) NamePath TwoNodes _ h

-- the nodes that are made of the first of a scene, with their paths
pub record IsMade {K : Type 0} (bytes : K → List ℕ) (s : Scene) (at : ℕ) (items : List NodeNow) (keys : List K) : Type 0 where
  pub left : bad_from (node_why s) at s.nodes ≡ None
  pub nodes : map live items ≡ map fixed_live (take at s.nodes)
  pub paths : map bytes keys ≡ map (λ (n : NodeNow). n.path) items
  pub once : has_paths_once (map live items) ≡ true

pub made_starts : {K : Type 0} (bytes : K → List ℕ) (s : Scene) (items : List NodeNow) (keys : List K) → IsValidScene s → items ≡ [] → keys ≡ [] → IsMade bytes s 0 items keys
made_starts bytes s items keys valid no_items no_keys = record {
  left = first_none (first_bad (node_why s) (with_earlier [] s.nodes)) (first_bad scene_why (with_earlier [] s.scenes)) valid;
  nodes = ap (map live) no_items;
  paths = ap (map bytes) no_keys ∙ sym (ap (map (λ (n : NodeNow). n.path)) no_items);
  once = ap (λ (xs : List NodeNow). has_paths_once (map live xs)) no_items;
}

made_count : {K : Type 0} (bytes : K → List ℕ) (s : Scene) (at : ℕ) (items : List NodeNow) (keys : List K) → at ≤ length s.nodes → IsMade bytes s at items keys → length (map bytes keys) ≡ at
made_count bytes s at items keys low m =
    ap length m.paths ∙ length-map items (λ (n : NodeNow). n.path) ∙ sym (length-map items live) ∙ ap length m.nodes ∙ length-map (take at s.nodes) fixed_live ∙ length-take-le at s.nodes low

pub made_within : {K : Type 0} (bytes : K → List ℕ) (s : Scene) (at : ℕ) (items : List NodeNow) (keys : List K) → at ≤ length s.nodes → IsMade bytes s at items keys → at ≤ length keys
made_within bytes s at items keys low m =
    let count = made_count bytes s at items keys low m in
    let same = length-map keys bytes in
    omega (arith, count, same)

-- a path that no node has is none of the paths
pub fresh_path : {K : Type 0} (bytes : K → List ℕ) (keys : List K) (items : List NodeNow) (path : List ℕ) → map bytes keys ≡ map (λ (n : NodeNow). n.path) items → list_any (is_at path) (map live items) ≡ false → has_text path (map bytes keys) ≡ false
fresh_path bytes keys items path same none =
    ap (has_text path) same
    ∙ any-map (text_eq path) (λ (n : NodeNow). n.path) items
    ∙ any_ext (λ (n : NodeNow). text_eq path n.path) (λ (n : NodeNow). is_at path (live n)) (λ n. text_eq-sym path n.path) items
    ∙ sym (any-map (is_at path) live items)
    ∙ none

made_new : {K : Type 0} (bytes : K → List ℕ) (s : Scene) (at : ℕ) (items : List NodeNow) (keys : List K) (n : Node) → at < length s.nodes → n ≡ get_or s.nodes at n → IsMade bytes s at items keys → list_any (is_at n.path) (map live items) ≡ false
made_new bytes s at items keys n low is m = ap (list_any (is_at n.path)) m.nodes ∙ any-map (is_at n.path) fixed_live (take at s.nodes) ∙ path_is_new s at n (right_at (node_why s) s.nodes at n low is m.left)

pub made_fresh : {K : Type 0} (bytes : K → List ℕ) (s : Scene) (at : ℕ) (items : List NodeNow) (keys : List K) (n : Node) → at < length s.nodes → n ≡ get_or s.nodes at n → IsMade bytes s at items keys → has_text n.path (map bytes keys) ≡ false
made_fresh bytes s at items keys n low is m = fresh_path bytes keys items n.path m.paths (made_new bytes s at items keys n low is m)

pub put_last : {X : Type 0} (xs : List X) (x : X) → insert xs (length xs) x ≡ xs ++ x ∷ []
put_last [] x = refl
put_last (y ∷ ys) x = ap (λ zs. y ∷ zs) (put_last ys x)

pub made_more : {K : Type 0} (bytes : K → List ℕ) (s : Scene) (at : ℕ) (items more : List NodeNow) (keys new : List K) (n : Node) (m : NodeNow) → at < length s.nodes → n ≡ get_or s.nodes at n → IsMade bytes s at items keys
    → live m ≡ fixed_live n → more ≡ items ++ m ∷ [] → map bytes new ≡ insert (map bytes keys) at n.path → IsMade bytes s (at + 1) more new
made_more bytes s at items more keys new n m low is h same e put = record {
  left = bad_later (node_why s) s.nodes at n None low is h.left (sym (right_at (node_why s) s.nodes at n low is h.left));
  nodes =
      ap (map live) e ∙ map-append live items (m ∷ []) ∙ ap₂ (λ (xs : List Live) (x : Live). xs ++ x ∷ []) h.nodes same
      ∙ sym (ap (map fixed_live) (take_more s.nodes at n low ∙ ap (λ (x : Node). take at s.nodes ++ x ∷ []) (sym is)) ∙ map-append fixed_live (take at s.nodes) (n ∷ []));
  paths =
      put ∙ ap (λ k. insert (map bytes keys) k n.path) (sym (made_count bytes s at items keys (omega (arith, low)) h)) ∙ put_last (map bytes keys) n.path
      ∙ ap₂ (λ (xs : List (List ℕ)) (x : List ℕ). xs ++ x ∷ []) h.paths (sym (ap (λ (l : Live). l.path) same))
      ∙ sym (ap (map (λ (x : NodeNow). x.path)) e ∙ map-append (λ (x : NodeNow). x.path) items (m ∷ []));
  once =
      ap has_paths_once (ap (map live) e ∙ map-append live items (m ∷ []) ∙ sym (put_last (map live items) (live m)))
      ∙ once_insert (map live items) (length (map live items)) (live m) (ap (λ (l : Live). list_any (is_at l.path) (map live items)) same ∙ made_new bytes s at items keys n low is h) h.once;
}

pub made_all : {K : Type 0} (bytes : K → List ℕ) (s : Scene) (at : ℕ) (items : List NodeNow) (keys : List K) → length s.nodes ≤ at → IsMade bytes s at items keys → map live items ≡ fixed_nodes s
made_all bytes s at items keys past m = m.nodes ∙ ap (map fixed_live) (take_all at s.nodes past)

pub made_numbered : {K : Type 0} (bytes : K → List ℕ) (s : Scene) (at : ℕ) (items : List NodeNow) (keys : List K) (ps : Paths) → IsMade bytes s at items keys → is_numbered ps (map live items) ≡ true
made_numbered bytes s at items keys ps m = ap (is_numbered ps) m.nodes ∙ fixed_numbered ps (take at s.nodes)

pub made_in_order : {K : Type 0} (bytes : K → List ℕ) (s : Scene) (at : ℕ) (items : List NodeNow) (keys : List K) → IsMade bytes s at items keys → are_in_order (map live items) ≡ true
made_in_order bytes s at items keys m = ap are_in_order m.nodes ∙ order_fixed (take at s.nodes)

-- a node more

pub free_path : {K : Type 0} (bytes : K → List ℕ) (keys : List K) (t : TreeOf) (s : Scene) (items : List NodeNow) (path : List ℕ) → map bytes keys ≡ map (λ (n : NodeNow). n.path) items → ◌≡◌ {A = TreeOf} (record { scene = s; nodes = map live items }) t → live_at t.nodes path ≡ None → has_text path (map bytes keys) ≡ false
free_path bytes keys t s items path same view none = fresh_path bytes keys items path same (ap (λ (u : TreeOf). list_any (is_at path) u.nodes) view ∙ sym (found_is_any (is_at path) t.nodes) ∙ ap is_some none)

pub paths_put_in : {K : Type 0} (bytes : K → List ℕ) (keys new : List K) (items more : List NodeNow) (at : ℕ) (n : NodeNow) → map bytes keys ≡ map (λ (m : NodeNow). m.path) items → map bytes new ≡ insert (map bytes keys) at n.path → more ≡ insert items at n → map bytes new ≡ map (λ (m : NodeNow). m.path) more
paths_put_in bytes keys new items more at n same put e =
    put ∙ ap (λ (ts : List (List ℕ)). insert ts at n.path) same ∙ sym (map-insert (λ (m : NodeNow). m.path) items at n) ∙ ap (map (λ (m : NodeNow). m.path)) (sym e)

pub prefix-map : {X Y : Type 0} (f : X → Y) (p : Y → Bool) (xs : List X) → prefix_len (λ x. p (f x)) xs ≡ prefix_len p (map f xs)
prefix-map f p [] = refl
prefix-map f p (x ∷ xs) = ap (λ n. cond (p (f x)) (1 + n) 0) (prefix-map f p xs)

-- the nodes with one more, as the definitions put it
pub put_seen : (items more : List NodeNow) (at : ℕ) (n : NodeNow) → more ≡ insert items at n → at ≡ prefix_len (λ (m : NodeNow). row_before (live m) (live n)) items → map live more ≡ put_by row_before (live n) (map live items)
put_seen items more at n e place = ap (map live) e ∙ map-insert live items at n ∙ ap (λ k. insert (map live items) k (live n)) (place ∙ prefix-map live (λ m. row_before m (live n)) items) ∙ put_is_insert row_before (live n) (map live items)

pub put_in : (t : TreeOf) (s : Scene) (items more : List NodeNow) (at : ℕ) (n : NodeNow) → ◌≡◌ {A = TreeOf} (record { scene = s; nodes = map live items }) t → more ≡ insert items at n → at ≡ prefix_len (λ (m : NodeNow). row_before (live m) (live n)) items
    → ◌≡◌ {A = TreeOf} (record { scene = s; nodes = map live more }) (record { scene = t.scene; nodes = put_by row_before (live n) t.nodes })
put_in t s items more at n view e place =
    ap {B = TreeOf} (λ (ns : List Live). record { scene = s; nodes = ns })
    (put_seen items more at n e place)
    ∙ ap {B = TreeOf} (λ (u : TreeOf). record { scene = u.scene; nodes = put_by row_before (live n) u.nodes }) view
