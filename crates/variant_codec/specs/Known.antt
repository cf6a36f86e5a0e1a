-- The keys that were read so far, known by their written forms.
use Rattle.std.specs.Prelude.{◌≡◌, ℕ, Bool, true, List}
use Rattle.std.specs.List.{list_all}
use Rattle.std.specs.Ordering.{nat_cmp}
use Rattle.std.specs.Cmp.Lexicographic.{slice_cmp}
use Rattle.std.specs.BTreeSet.{BTreeSet, contains_by}
use Rattle.std.specs.Global.{Vec}
use Rattle.gd_variant.specs.Tree.{Tree, PairTree}
use Rattle.variant_codec.specs.Written.{written}

-- whether some bytes are in a set
abbrev pub holds : BTreeSet (Vec ℕ) → List ℕ → Bool
holds seen bytes = contains_by (λ k. slice_cmp nat_cmp bytes k.items) seen

-- the written form of a key is in the set
abbrev pub IsKnown : BTreeSet (Vec ℕ) → Tree → Type 0
IsKnown seen key = holds seen (written key) ≡ true

-- the written form of each pair's key is in the set
abbrev pub AreKnown : BTreeSet (Vec ℕ) → List PairTree → Type 0
AreKnown seen ps = list_all (λ p. holds seen (written p.key)) ps ≡ true
