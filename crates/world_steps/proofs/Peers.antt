-- What a peer does with an event, by what it keeps and by the definitions.
use Rattle.std.proofs.Common.{◌≡◌, ℤ, true, ◌∷◌, ap, ◌∙◌}
use Rattle.std.specs.Prelude.{if◌then◌else◌}
use Rattle.scene_model.specs.declared.scene.Scene.{Scene}
use Rattle.scene_model.specs.declared.event.Event.{Event}
use Rattle.scene_model.specs.declared.outcome.Outcome.TheVariants.{Fault}
use Rattle.scene_model.specs.declared.outcome.Fault.TheVariants as fault_why
use Rattle.peer_model.specs.Bytes.{answer}
use Rattle.peer_steps.specs.Kept.{Kept}
use Rattle.peer_steps.specs.Stands.{StandsFor, is_answered, is_built_event}
use Rattle.peer_steps.specs.Steps.{taken}
use Rattle.peer_core.specs.Forms.{packet_form}
use Rattle.peer_steps.proofs.Whole.{taken_right}
use Rattle.peer_steps.proofs.Clauses.{same_who}
use Rattle.world_model.specs.World.{World, peer_of, events_at}
use Rattle.world_model.specs.Happens.{answer_at}
use Rattle.world_steps.specs.Stands.{IsPeer}

-- An event that the definitions answer: the answer, and what stands for the event too.
pub record IsAnswered (s : Scene) (w : World) (p : ℤ) (k : Kept) (e : Event) : Type 0 where
  pub answers : (taken packet_form k e).outcome ≡ answer_at packet_form s w p e
  pub who : (taken packet_form k e).kept.who ≡ peer_of s p
  pub stands : StandsFor packet_form (taken packet_form k e).kept (e ∷ events_at w p)

pub peer_answers : (s : Scene) (w : World) (p : ℤ) (k : Kept) (e : Event) → IsPeer s w p k → is_built_event e ≡ true → is_answered packet_form (peer_of s p) (events_at w p) e ≡ true → IsAnswered s w p k e
peer_answers s w p k e h built given =
    let right = taken_right packet_form k (events_at w p) e h.stands built in
    let now = ap (λ x. is_answered packet_form x (events_at w p) e) h.who ∙ given in
    record {
      answers = right.answers ∙ ap (λ c. if c then answer packet_form k.who (events_at w p) e else Fault fault_why.NotBuilt) now ∙ ap (λ x. answer packet_form x (events_at w p) e) h.who;
      who = same_who packet_form k e ∙ h.who;
      stands = right.stands now;
    }
