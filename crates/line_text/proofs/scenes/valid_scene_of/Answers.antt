use Rattle.line_text.proofs.SoundScenes.{scene_sound}
use Rattle.line_text.proofs.scenes.valid_scene_of.Goals as goal

pub check_judged-requires : goal.check_judged-requires
check_judged-requires c = scene_sound _ _ c.in_ok-scene.ensures
