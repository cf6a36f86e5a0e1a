-- The order of nodes: fixed ones first, then spawned ones by authority and number.
use Rattle.std.specs.Prelude.{ℕ, ℤ, Bool, true, not, ◌&&◌, ◌||◌, List, [], ◌∷◌, int_lt, nat_lt}
use Rattle.std.specs.List.{list_all}
use Rattle.std.specs.Ordering.{int_eq}
use Rattle.scene_model.specs.Nodes.{Live}
use Rattle.headless_tree.specs.Nodes.{is_spawned}

-- whether a node's authority is lower, or the same and its number lower
abbrev pub is_lower : Live → Live → Bool
is_lower a b = int_lt a.auth b.auth || (int_eq a.auth b.auth && nat_lt a.num b.num)

-- whether a node may stand before another
abbrev pub may_precede : Live → Live → Bool
may_precede a b = not (is_spawned a) || (is_spawned b && is_lower a b)

-- whether each node may stand before those behind it
abbrev pub are_in_order : List Live → Bool
are_in_order [] = true
are_in_order (n ∷ ns) = list_all (may_precede n) ns && are_in_order ns

-- whether a node stands ahead of the spawned ones of an authority
abbrev pub is_ahead_of : ℤ → Live → Bool
is_ahead_of auth n = not (is_spawned n) || int_lt n.auth auth

-- whether a node stands ahead of the spawned ones of later authorities
abbrev pub is_ahead_of_later : ℤ → Live → Bool
is_ahead_of_later auth n = not (is_spawned n) || not (int_lt auth n.auth)

-- whether a node stands before the place of a number of an authority
abbrev pub is_before_row : ℤ → ℕ → Live → Bool
is_before_row auth num n = (not (is_spawned n) || int_lt n.auth auth) || (int_eq n.auth auth && nat_lt n.num num)
