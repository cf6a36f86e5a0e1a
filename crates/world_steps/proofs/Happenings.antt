-- Each event of a script that happened, by what it makes of a world.
use Rattle.std.proofs.Common.{◌≡◌, true, List, [], ◌∷◌, refl, sym}
use Rattle.std.proofs.lemmas.Bool.{true≢false}
use Rattle.scene_model.specs.declared.scene.Scene.{Scene}
use Rattle.scene_model.specs.declared.world.WorldEvent.{WorldEvent}
use Rattle.scene_model.specs.declared.world.WorldEvent.TheVariants.{Connect, Down, Op, Rel}
use Rattle.scene_model.specs.Valid.{IsValidScene}
use Rattle.peer_core.specs.Forms.{packet_form}
use Rattle.world_model.specs.World.{World}
use Rattle.world_model.specs.Happens.{happens, world}
use Rattle.world_model.specs.Answers.{world_answer, happened}
use Rattle.world_steps.specs.Sound.{is_built_event, is_sound_event}
use Rattle.world_steps.specs.Scripts.{Happened}
use Rattle.world_steps.proofs.Links.{link_start}
use Rattle.world_steps.proofs.Joins.{Run, op_run, connect_run}
use Rattle.world_steps.proofs.Arrivals.{rel_run}
use Rattle.world_steps.proofs.Goings.{down_run}

-- any event of a script that happened
pub run_after : (s : Scene) (w : World) (e : WorldEvent) → IsValidScene s → Run s w → is_built_event e ≡ true → is_sound_event e ≡ true → happened (world_answer packet_form s w e) ≡ true → Run s (happens packet_form s w e)
run_after s w Connect valid h built sound done = connect_run s w valid h done
run_after s w (Down p) valid h built sound done = down_run s w p valid h done
run_after s w (Op p op) valid h built sound done = op_run s w p op valid h built sound done
run_after s w (Rel a b) valid h built sound done = rel_run s w a b valid h done
run_after s w e valid h built sound done = absurd (true≢false (sym built))

pub run_start : (s : Scene) → Run s (world packet_form s [])
run_start s = record {
  core = record {
    accepted = λ p. tt;
    sound = λ p. refl;
    own = λ p. refl;
    loose = λ a b. refl;
    links = λ a b l. link_start s a b [] [] (record { sent = []; delivered = 0; loose = []; last = 0 }) refl refl refl;
  };
  members = record { wild = refl; numbers = refl; went = λ p h. absurd (cc h); ups = refl; knows = λ p h. absurd (cc h); fresh = λ n far. (refl, refl) };
}

pub runs : (s : Scene) → IsValidScene s → (es : List WorldEvent) → Happened s es → Run s (world packet_form s es)
runs s valid [] h = run_start s
runs s valid (e ∷ es) h = run_after s (world packet_form s es) e valid (runs s valid es h.3) h.0 h.1 h.2
