-- What is left to judge of a value that nests few levels and has few bytes.
use Rattle.std.specs.Prelude.{Bool, true, ◌&&◌}
use Rattle.gd_variant.specs.Tree.{Tree, Trees, dict, array, none, item}
use Rattle.gd_variant.specs.Sound.{is_sound_tree, keys_distinct}

abbrev mutual
  -- the keys of each dictionary differ, and each part that is no dictionary and no array is sound
  pub fits : Tree → Bool
  fits (dict ts) = keys_distinct ts && all_fit ts
  fits (array ts) = all_fit ts
  fits t = is_sound_tree t

  pub all_fit : Trees → Bool
  all_fit none = true
  all_fit (item t ts) = fits t && all_fit ts
