use Rattle.std.proofs.Common.{length, take, sym, subst, refl, List}
use Rattle.std.proofs.lemmas.List.Sorted.{length_permutation}
use Rattle.scene_check.specs.declared.places.TheConstants.{MOST_ENTRIES}
use Rattle.scene_check.specs.Places.{Place, texts_of, ArePlaces}
use Rattle.scene_check.proofs.PlaceLaws.{sorted_places, refill_whole}
use Rattle.scene_check.proofs.places.fill.Goals as goal

pub returns : goal.returns
returns c =
    let gathered = c.gather.new.places.items in
    let is = c.as_mut_slice.ensures.value in
    let moved = rw is at c.sort.ensures.permutation in
    let whole = refill_whole (length gathered) gathered c.sort.new.places refl (length_permutation gathered c.sort.new.places moved) in
    subst (λ (ps : List Place). ArePlaces ps (take MOST_ENTRIES (texts_of c.args.list))) (sym whole)
    (sorted_places gathered c.sort.new.places (texts_of c.args.list) MOST_ENTRIES c.gather.ensures moved c.sort.ensures.sorted)
