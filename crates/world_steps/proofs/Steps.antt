-- What any built event makes of a world is what the definitions say.
use Rattle.std.proofs.Common.{◌≡◌, true, sym}
use Rattle.std.proofs.lemmas.Bool.{true≢false}
use Rattle.scene_model.specs.declared.scene.Scene.{Scene}
use Rattle.scene_model.specs.declared.world.WorldEvent.{WorldEvent}
use Rattle.scene_model.specs.declared.world.WorldEvent.TheVariants.{Connect, Down, Op, Rel}
use Rattle.world_model.specs.World.{World}
use Rattle.world_steps.specs.Sound.{is_built_event}
use Rattle.world_steps.specs.Steps.{Parts, made}
use Rattle.world_steps.proofs.Answered.{RightAt, Before}
use Rattle.world_steps.proofs.Operating.{op_right}
use Rattle.world_steps.proofs.Joining.{connect_right}
use Rattle.world_steps.proofs.Leaving.{down_event}
use Rattle.world_steps.proofs.Delivering.{rel_right}

-- any event that is built
pub step_right : (s : Scene) (v : Parts) (w : World) (e : WorldEvent) → Before s v w → is_built_event e ≡ true → RightAt s w e (made v e)
step_right s v w Connect h built = connect_right s v w h
step_right s v w (Down p) h built = down_event s v w p h
step_right s v w (Op p op) h built = op_right s v w p op h built
step_right s v w (Rel a b) h built = rel_right s v w a b h
step_right s v w e h built = absurd (true≢false (sym built))
