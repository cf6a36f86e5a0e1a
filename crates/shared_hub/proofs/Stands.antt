-- One event more.
use Rattle.std.proofs.Common.{◌≡◌, Bool, true, false, List, ◌∷◌, refl, sym, ap, subst, cond}
use Rattle.scene_model.specs.declared.event.Event.{Event}
use Rattle.scene_model.specs.declared.outcome.Outcome.{Outcome}
use Rattle.scene_model.specs.declared.outcome.Outcome.TheVariants.{Fault}
use Rattle.scene_model.specs.declared.outcome.Fault.TheVariants as fault
use Rattle.peer_model.specs.Heard.{Who}
use Rattle.peer_model.specs.Bytes.{answer as model_answer}
use Rattle.peer_steps.specs.Kept.{Kept}
use Rattle.peer_steps.specs.Steps.{is_done}
use Rattle.peer_steps.specs.Stands.{StandsFor, is_answered, built_answer}
use Rattle.peer_core.specs.Forms.{packet_form}
use Rattle.shared_hub.specs.Peer.{Stands, answered}

more_by : (old new : Kept) (e : Event) (es : List Event) (o : Outcome) (c : Bool) → is_answered packet_form old.who (answered old.who es) e ≡ c → Stands old es
    → o ≡ cond c (model_answer packet_form old.who (answered old.who es) e) (Fault fault.NotBuilt)
    → (is_answered packet_form old.who (answered old.who es) e ≡ true → StandsFor packet_form new (e ∷ answered old.who es)) → (is_done o ≡ false → new ≡ old)
    → StandsFor packet_form new (cond c (e ∷ answered old.who es) (answered old.who es))
unfolding Stands
more_by old new e es o true q h a s u = s q
more_by old new e es o false q h a s u = subst (λ (k : Kept). StandsFor packet_form k (answered old.who es)) (sym (u (ap is_done a))) h

-- the peer stands for the events with this one
pub stands_more : (old new : Kept) (e : Event) (es : List Event) (o : Outcome) → new.who ≡ old.who → Stands old es
    → o ≡ built_answer packet_form old.who (answered old.who es) e
    → (is_answered packet_form old.who (answered old.who es) e ≡ true → StandsFor packet_form new (e ∷ answered old.who es)) → (is_done o ≡ false → new ≡ old)
    → Stands new (e ∷ es)
unfolding Stands
stands_more old new e es o w h a s u =
    subst (λ (x : Who). StandsFor packet_form new (answered x (e ∷ es))) (sym w) (more_by old new e es o (is_answered packet_form old.who (answered old.who es) e) refl h a s u)
