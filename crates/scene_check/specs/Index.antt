-- A scene with the places of its texts.
use Rattle.std.specs.Prelude.{◌≡◌, true, map, take}
use Rattle.scene_check.specs.declared.validity.index.SceneIndex.{SceneIndex}
use Rattle.scene_check.specs.Judged.{HasSoundDefaults}
use Rattle.scene_check.specs.Places.{ArePlaces, path_texts, scene_texts, under_of, target_of}

-- the places are those of the texts of the first nodes and of the first scenes, and default values that were judged are sound
pub record IsIndexed (x : SceneIndex) : Type 0 where
  pub paths : ArePlaces x.paths.now (take 4096 (path_texts x.scene.now.nodes))
  pub unders : ArePlaces x.unders.now (take 4096 (map under_of x.scene.now.nodes))
  pub targets : ArePlaces x.targets.now (take 4096 (map target_of x.scene.now.nodes))
  pub sound : x.judged ≡ true → HasSoundDefaults x.scene.now
  pub scenes : ArePlaces x.scenes.now (take 4096 (scene_texts x.scene.now.scenes))
