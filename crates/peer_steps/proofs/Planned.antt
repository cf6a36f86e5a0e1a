-- The scene that a received spawn means is there.
use Rattle.std.proofs.Common.{◌≡◌, ℕ, true, sym, ap, ◌∙◌, Some, None, is_some, List}
use Rattle.scene_model.specs.declared.scene.Scene.{Scene}
use Rattle.scene_model.specs.declared.scene.SpawnerDef.{SpawnerDef}
use Rattle.scene_model.specs.Lookup.{scene_place}
use Rattle.scene_model.specs.Valid.{IsValidScene}
use Rattle.peer_model.specs.Updates.{spawner_with, scene_name_of}
use Rattle.peer_laws.proofs.Scenes.{spawner_scenes_with, byte_is_placed}

pub place_is_there : (s : Scene) → IsValidScene s → (id byte : ℕ) (d : SpawnerDef) (name : List ℕ) → spawner_with s id ≡ Some d → scene_name_of d byte ≡ Some name → scene_place s name ≡ None → ⊥
place_is_there s v id byte d name p q none = nothing (ap is_some (sym none) ∙ byte_is_placed s d byte name (spawner_scenes_with s v id d p) q)
  where
    nothing : is_some {T = ℕ} None ≡ true → ⊥
    nothing h = absurd (cc h)
