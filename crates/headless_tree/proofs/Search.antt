-- A binary search among nodes in order.
use Rattle.std.proofs.Common.{◌≡◌, ℕ, zero, suc, ◌<◌, ◌≤◌, Bool, true, false, not, ◌&&◌, ◌||◌, List, [], ◌∷◌, refl, sym, length, get_or, map, arith}
use Rattle.std.specs.List.{list_all, prefix_len}
use Rattle.std.specs.List.Sorted.{IsPartitionedBy, IsPartitionPoint}
use Rattle.std.proofs.lemmas.List.Sums.{prefix_len_is}
use Rattle.scene_model.specs.Nodes.{Live}
use Rattle.headless_tree.specs.declared.node.NodeNow.{NodeNow}
use Rattle.headless_tree.specs.Nodes.{live, is_spawned, row_before}
use Rattle.headless_tree.specs.Order.{is_lower, may_precede, are_in_order}
use Rattle.headless_tree.proofs.Numbered.{both}
use Rattle.headless_tree.proofs.Order.{lower_then}

each_passes : {X Y : Type 0} (f : X → Y) (p : Y → Bool) (xs : List X) (i : ℕ) (d : X) → i < length xs → list_all p (map f xs) ≡ true → p (f (get_or xs i d)) ≡ true
each_passes f p [] i d low h = absurd (omega (arith, low))
each_passes f p (x ∷ xs) zero d low h = (both (p (f x)) (list_all p (map f xs)) h).0
each_passes f p (x ∷ xs) (suc i) d low h = each_passes f p xs i d (omega (arith, low)) (both (p (f x)) (list_all p (map f xs)) h).1

-- what may precede a node that stands before another, stands before that one too
pub before_too : (a b x : Live) → may_precede a b ≡ true → row_before b x ≡ true → row_before a x ≡ true
before_too a b x h k = by (is_spawned a) (is_spawned b) h k
  where
    by : (s t : Bool) → (not s || (t && is_lower a b)) ≡ true → (not t || is_lower b x) ≡ true → (not s || is_lower a x) ≡ true
    by false t h k = refl
    by true false h k = absurd (cc h)
    by true true h k = lower_then a.auth b.auth x.auth a.num b.num x.num h k

-- among nodes in order, those that pass stand first, where what may precede one that passes does too
pub parted : (p : Live → Bool) → ((a b : Live) → may_precede a b ≡ true → p b ≡ true → p a ≡ true) → (ns : List NodeNow) → are_in_order (map live ns) ≡ true → IsPartitionedBy (λ (m : NodeNow). p (live m)) ns
parted p first [] order i j d behind low h = absurd (omega (arith, low))
parted p first (n ∷ ns) order zero zero d behind low h = h
parted p first (n ∷ ns) order zero (suc j) d behind low h = first (live n) (live (get_or ns j d)) (each_passes live (may_precede (live n)) ns j d (omega (arith, low)) (both (list_all (may_precede (live n)) (map live ns)) (are_in_order (map live ns)) order).0) h
parted p first (n ∷ ns) order (suc i) zero d behind low h = absurd (omega (arith, behind))
parted p first (n ∷ ns) order (suc i) (suc j) d behind low h = parted p first ns (both (list_all (may_precede (live n)) (map live ns)) (are_in_order (map live ns)) order).1 i j d (omega (arith, behind)) (omega (arith, low)) h

-- where a list is parted is how many of its first pass
pub point_is_prefix : {X : Type 0} (p : X → Bool) (xs : List X) (i : ℕ) → i ≤ length xs → IsPartitionPoint (λ x. p x ≡ true) (λ x. p x ≡ false) xs i → i ≡ prefix_len p xs
point_is_prefix p [] i within point = omega (arith, within)
point_is_prefix p (x ∷ xs) i within point = sym (prefix_len_is p (x ∷ xs) i x within (λ k low. point.0 k x (omega arith) low) (λ low. point.1 i x (omega arith) low))
