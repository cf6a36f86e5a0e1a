use Rattle.std.proofs.Common.{◌≡◌, map, drop}
use Rattle.scene_model.specs.declared.scene.Method.{Method}
use Rattle.scene_model.specs.Valid.{has_twice}
use Rattle.scene_check.proofs.validity.methods.repeats_in.Given as goal

-- no name so far stands again later
abbrev pub invariant-loop-at : goal.invariant-loop-at
invariant-loop-at l = has_twice (map (λ (m : Method). m.name) (drop l.at l.methods)) ≡ has_twice (map (λ (m : Method). m.name) l.methods)
