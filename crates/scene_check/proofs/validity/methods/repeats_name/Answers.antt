use Rattle.std.proofs.Common.{List, Option, ℕ, Some, sym, subst, arith}
use Rattle.std.proofs.lemmas.List.{take_all, length-map}
use Rattle.scene_model.specs.declared.scene.Method.{Method}
use Rattle.scene_check.specs.Places.{Place, ArePlaces, method_texts}
use Rattle.scene_check.proofs.validity.methods.repeats_name.Goals as goal

pub repeats_in-requires-clause-placed : goal.repeats_in-requires-clause-placed
repeats_in-requires-clause-placed c =
    let ms = c.args.methods.now in
    let whole = take_all 4096 (method_texts ms) (omega (arith, length-map ms (λ (m : Method). Some m.name), c.requires)) in
    subst (λ (ps : List Place). ArePlaces ps (method_texts ms)) (sym c.as_slice.ensures.value)
    (subst (λ (ts : List (Option (List ℕ))). ArePlaces c.fill.new.places.items ts) whole c.fill.ensures)
