-- The rows of authorities, one authority after another.
use Rattle.std.proofs.Common.{◌≡◌, ℤ, Bool, true, false, not, ◌&&◌, ◌||◌, List, [], ◌∷◌, ◌++◌, refl, sym, ap, ap₂, ◌∙◌, filter, nat_lt, arith}
use Rattle.std.specs.Prelude.{flat_map, int_lt}
use Rattle.std.specs.List.{list_all}
use Rattle.std.specs.Ordering.{int_eq}
use Rattle.std.proofs.lemmas.Bool.{and_parts, or_parts, and_right}
use Rattle.std.proofs.lemmas.List.{append-nil}
use Rattle.std.proofs.lemmas.List.Elements.{filter-append}
use Rattle.std.proofs.lemmas.Int.{ints}
use Rattle.gd_variant.specs.Words.{has_int, put_by}
use Rattle.peer_model.specs.Updates.{Live}
use Rattle.headless_tree.specs.Nodes.{row_before, is_row_of, is_spawned}
use Rattle.peer_laws.proofs.Numbers.{int_same, int_is, int_comm, less_not, lt_apart}
use Rattle.peer_laws.proofs.Each.{none_weaker, all_fail, all-flat_map, all_has}
use Rattle.peer_laws.proofs.Filters.{filter_all, filter_none}
use Rattle.peer_laws.proofs.Joined.{flat_agree}
use Rattle.peer_laws.proofs.Sorted.{put_past, put_within, is_rising}
use Rattle.headless_tree.proofs.Order.{all_weaker}

-- what a row of an authority is
pub row_parts : (c : ℤ) (y : Live) → is_row_of c y ≡ true → (is_spawned y ≡ true) × (y.auth ≡ c)
row_parts c y h = let parts = and_parts (is_spawned y) (int_eq y.auth c) h in (parts.0, int_is y.auth c parts.1)

order_is : (s i l : Bool) → s ≡ true → (not s || (i || l)) ≡ (i || l)
order_is true i l h = refl
order_is false i l h = absurd (cc h)

-- a row stands before one of a later authority
pub row_earlier : (c a : ℤ) (y x : Live) → is_row_of c y ≡ true → is_row_of a x ≡ true → int_lt c a ≡ true → row_before y x ≡ true
row_earlier c a y x h k low =
    let of_y = row_parts c y h in
    let of_x = row_parts a x k in
    order_is (is_spawned y) (int_lt y.auth x.auth) (int_eq y.auth x.auth && nat_lt y.num x.num) of_y.0
    ∙ ap (λ b. b || (int_eq y.auth x.auth && nat_lt y.num x.num)) (ap₂ int_lt of_y.1 of_x.1 ∙ low)

-- and not before one of an earlier authority
pub row_later : (c a : ℤ) (y x : Live) → is_row_of c y ≡ true → is_row_of a x ≡ true → int_lt a c ≡ true → row_before y x ≡ false
row_later c a y x h k low =
    let of_y = row_parts c y h in
    let of_x = row_parts a x k in
    order_is (is_spawned y) (int_lt y.auth x.auth) (int_eq y.auth x.auth && nat_lt y.num x.num) of_y.0
    ∙ ap₂ (λ b d. b || (d && nat_lt y.num x.num)) (ap₂ int_lt of_y.1 of_x.1 ∙ less_not a c low) (ap₂ int_eq of_y.1 of_x.1 ∙ int_comm c a ∙ lt_apart a c low)

-- rows of one authority stand by number
pub row_by_number : (a : ℤ) (y x : Live) → is_row_of a y ≡ true → is_row_of a x ≡ true → row_before y x ≡ nat_lt y.num x.num
row_by_number a y x h k =
    let of_y = row_parts a y h in
    let of_x = row_parts a x k in
    order_is (is_spawned y) (int_lt y.auth x.auth) (int_eq y.auth x.auth && nat_lt y.num x.num) of_y.0
    ∙ ap₂ (λ b d. b || (d && nat_lt y.num x.num)) (ap₂ int_lt of_y.1 of_x.1 ∙ lt_self a) (ap₂ int_eq of_y.1 of_x.1 ∙ int_same a)
  where
    lt_self : (z : ℤ) → int_lt z z ≡ false
    lt_self z = grind (arith, ints)

-- a row of an authority is none of another
pub row_other : (c a : ℤ) (y : Live) → int_eq c a ≡ false → is_row_of c y ≡ true → is_row_of a y ≡ false
row_other c a y apart h =
    let of_y = row_parts c y h in
    and_right (is_spawned y) (int_eq y.auth a) (ap (λ z. int_eq z a) of_y.1 ∙ apart)

module _ (rows : ℤ → List Live) (placed : (c : ℤ) → list_all (is_row_of c) (rows c) ≡ true) (a : ℤ) where
  -- an authority that isn't there has no rows
  pub under_none : (cs : List ℤ) → has_int a cs ≡ false → filter (is_row_of a) (flat_map rows cs) ≡ []
  under_none [] h = refl
  under_none (c ∷ cs) h =
      let parts = or_parts (int_eq a c) (has_int a cs) h in
      filter-append (is_row_of a) (rows c) (flat_map rows cs)
      ∙ ap₂ (λ xs ys. xs ++ ys) (filter_none (is_row_of a) (rows c) (none_weaker (is_row_of c) (is_row_of a) (λ y k. row_other c a y (int_comm c a ∙ parts.0) k) (rows c) (placed c))) (under_none cs parts.1)

  pub later_none : (c : ℤ) (cs : List ℤ) → list_all (int_lt c) cs ≡ true → has_int c cs ≡ false
  later_none c cs h = none_weaker (int_lt c) (int_eq c) (λ d k. lt_apart c d k) cs h

  under_here : (c : ℤ) (cs : List ℤ) → int_eq a c ≡ true → list_all (int_lt c) cs ≡ true → filter (is_row_of a) (flat_map rows (c ∷ cs)) ≡ rows a
  under_here c cs e h =
      let same = int_is a c e in
      filter-append (is_row_of a) (rows c) (flat_map rows cs)
      ∙ ap₂ (λ xs ys. xs ++ ys) (ap (λ z. filter (is_row_of a) (rows z)) (sym same) ∙ filter_all (is_row_of a) (rows a) (placed a)) (under_none cs (ap (λ z. has_int z cs) same ∙ later_none c cs h))
      ∙ append-nil (rows a)

  -- the rows of one authority are found among all rows
  pub under_flat : (cs : List ℤ) → is_rising cs ≡ true → has_int a cs ≡ true → filter (is_row_of a) (flat_map rows cs) ≡ rows a
  under_flat [] h k = absurd (cc k)
  under_flat (c ∷ cs) h k = step (int_eq a c) refl (λ l. under_flat cs (and_parts (list_all (int_lt c) cs) (is_rising cs) h).1 l) k
    where
      step : (b : Bool) → int_eq a c ≡ b → (has_int a cs ≡ true → filter (is_row_of a) (flat_map rows cs) ≡ rows a) → (b || has_int a cs) ≡ true → filter (is_row_of a) (flat_map rows (c ∷ cs)) ≡ rows a
      step true e more l = under_here c cs e (and_parts (list_all (int_lt c) cs) (is_rising cs) h).0
      step false e more l =
          filter-append (is_row_of a) (rows c) (flat_map rows cs)
          ∙ ap₂ (λ xs ys. xs ++ ys) (filter_none (is_row_of a) (rows c) (none_weaker (is_row_of c) (is_row_of a) (λ y w. row_other c a y (int_comm c a ∙ e) w) (rows c) (placed c))) (more l)

  module _ (after : ℤ → List Live) (x : Live) (row : is_row_of a x ≡ true) (same : (c : ℤ) → int_eq c a ≡ false → after c ≡ rows c) (new : after a ≡ put_by row_before x (rows a)) where
    put_here : (c : ℤ) (cs : List ℤ) → int_eq a c ≡ true → list_all (int_lt c) cs ≡ true → flat_map after (c ∷ cs) ≡ put_by row_before x (flat_map rows (c ∷ cs))
    put_here c cs e h =
        let is = int_is a c e in
        ap₂ (λ xs ys. xs ++ ys) (ap after (sym is) ∙ new ∙ ap (λ z. put_by row_before x (rows z)) is)
        (flat_agree (int_lt c) after rows cs h (λ d k. same d (int_comm d a ∙ ap (λ z. int_eq z d) is ∙ lt_apart c d k)))
        ∙ sym (put_within row_before x (rows c) (flat_map rows cs) (all_fail (λ y. row_before y x) (flat_map rows cs)
        (all-flat_map (int_lt c) (λ y. not (row_before y x)) rows (λ d low. all_weaker (is_row_of d) (λ y. not (row_before y x)) (λ y w. ap not (row_later d a y x w row (ap (λ z. int_lt z d) is ∙ low))) (rows d) (placed d)) cs h)))

    -- a row that is put among its authority's rows is put among all rows
    pub put_flat : (cs : List ℤ) → is_rising cs ≡ true → has_int a cs ≡ true → flat_map after cs ≡ put_by row_before x (flat_map rows cs)
    put_flat [] h k = absurd (cc k)
    put_flat (c ∷ cs) h k = step (int_eq a c) refl (λ l. put_flat cs (and_parts (list_all (int_lt c) cs) (is_rising cs) h).1 l) k
      where
        step : (b : Bool) → int_eq a c ≡ b → (has_int a cs ≡ true → flat_map after cs ≡ put_by row_before x (flat_map rows cs)) → (b || has_int a cs) ≡ true → flat_map after (c ∷ cs) ≡ put_by row_before x (flat_map rows (c ∷ cs))
        step true e more l = put_here c cs e (and_parts (list_all (int_lt c) cs) (is_rising cs) h).0
        step false e more l =
            ap₂ (λ xs ys. xs ++ ys) (same c (int_comm c a ∙ e)) (more l)
            ∙ sym (put_past row_before x (rows c) (flat_map rows cs) (all_weaker (is_row_of c) (λ y. row_before y x) (λ y w. row_earlier c a y x w row (all_has (int_lt c) a cs (and_parts (list_all (int_lt c) cs) (is_rising cs) h).0 l)) (rows c) (placed c)))
