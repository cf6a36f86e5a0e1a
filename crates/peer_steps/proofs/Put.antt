-- Elements put into lists in order.
use Rattle.std.proofs.Common.{◌≡◌, ℕ, Bool, List, sym, ap, ap₂, ◌∙◌}
use Rattle.std.specs.Prelude.{insert}
use Rattle.std.specs.List.{prefix_len}
use Rattle.gd_variant.specs.Words.{put_by}
use Rattle.gd_variant.proofs.Lists.{put_is_insert}

-- the same, by the place as a call found it
pub put_at : {X : Type 0} (before : X → X → Bool) (x : X) (ys zs : List X) (n : ℕ) → n ≡ prefix_len (λ y. before y x) zs → zs ≡ ys → insert ys n x ≡ put_by before x ys
put_at before x ys zs n p e = ap₂ (λ m ws. insert ws m x) p (sym e) ∙ put_is_insert before x zs ∙ ap (put_by before x) e
