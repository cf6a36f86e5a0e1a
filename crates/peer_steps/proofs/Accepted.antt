-- What the definitions answer to one more event, and what stands for the events with it.
use Rattle.std.proofs.Common.{◌≡◌, true, false, List, [], ◌∷◌, sym, ap, ap₂, ◌∙◌, subst, map, Some, None}
use Rattle.std.specs.Prelude.{if◌then◌else◌}
use Rattle.std.proofs.lemmas.Bool.{true≢false}
use Rattle.scene_model.specs.declared.event.Event.{Event}
use Rattle.scene_model.specs.declared.outcome.Outcome.{Outcome}
use Rattle.scene_model.specs.declared.outcome.Outcome.TheVariants.{Refused, Fault}
use Rattle.scene_model.specs.declared.outcome.Refusal.{Refusal}
use Rattle.scene_model.specs.declared.outcome.Fault.{Fault as FaultOf}
use Rattle.scene_model.specs.declared.outcome.Fault.TheVariants as fault_why
use Rattle.peer_model.specs.Heard.{Who, Heard}
use Rattle.peer_model.specs.Refusals.{refusal_of}
use Rattle.peer_model.specs.Faults.{fault_of}
use Rattle.peer_model.specs.Answer.{keep_done, done, decided, deeds, sends, runs, raws, skips, Parcel}
use Rattle.peer_model.specs.Bytes.{PacketForm, heard_of, answer, accepted_events, out_of, outcome_of}
use Rattle.peer_model.proofs.Accept.{accepted_refused, accepted_done}
use Rattle.peer_steps.specs.Kept.{Kept}
use Rattle.peer_steps.specs.Stands.{HasParts, StandsFor, is_answered, built_answer}
use Rattle.peer_steps.specs.Steps.{Taken, unchanged, done_with}

-- what is answered to an event, and, where the definitions' answer is given, what stands for the events with it
pub record Right (form : PacketForm) (k : Kept) (es : List Event) (e : Event) (t : Taken) : Type 0 where
  pub answers : t.outcome ≡ built_answer form k.who es e
  pub stands : is_answered form k.who es e ≡ true → StandsFor form t.kept (e ∷ es)

-- an event that isn't a packet of a kind that isn't built is answered as the definitions say
answer_given : (form : PacketForm) (who : Who) (es : List Event) (e : Event) → is_answered form who es e ≡ true → built_answer form who es e ≡ answer form who es e
answer_given form who es e g = ap (λ c. if c then answer form who es e else Fault fault_why.NotBuilt) g

-- an event that is refused
pub refused_right : (form : PacketForm) (k : Kept) (es : List Event) (e : Event) (r : Refusal) → StandsFor form k es → is_answered form k.who es e ≡ true
    → refusal_of k.who (accepted_events form k.who es) (heard_of form e) ≡ Some r → Right form k es e (unchanged k (Refused r))
refused_right form k es e r h given why =
    let gs = accepted_events form k.who es in
    record {
      answers = sym (answer_given form k.who es e given ∙ ap (λ o. outcome_of form (decided k.who gs (heard_of form e) o (fault_of k.who gs (heard_of form e)))) why);
      stands = λ _. subst (λ hs. HasParts k hs) (sym (accepted_refused k.who (map (heard_of form) es) (heard_of form e) r why)) h;
    }

-- an event that is a fault
pub fault_right : (form : PacketForm) (k : Kept) (es : List Event) (e : Event) (f : FaultOf) → StandsFor form k es → is_answered form k.who es e ≡ true
    → refusal_of k.who (accepted_events form k.who es) (heard_of form e) ≡ None → fault_of k.who (accepted_events form k.who es) (heard_of form e) ≡ Some f → Right form k es e (unchanged k (Fault f))
fault_right form k es e f h given no_refusal why =
    let gs = accepted_events form k.who es in
    record {
      answers = sym (answer_given form k.who es e given ∙ ap₂ (λ o p. outcome_of form (decided k.who gs (heard_of form e) o p)) no_refusal why);
      stands = λ _. subst (λ hs. HasParts k hs) (sym (ap₂ (λ o p. keep_done (heard_of form e) gs (decided k.who gs (heard_of form e) o p)) no_refusal why)) h;
    }

-- a packet of a kind that isn't built
pub unbuilt_right : (form : PacketForm) (k : Kept) (es : List Event) (e : Event) → is_answered form k.who es e ≡ false → Right form k es e (unchanged k (Fault fault_why.NotBuilt))
unbuilt_right form k es e not_given = record {
  answers = sym (ap (λ c. if c then answer form k.who es e else Fault fault_why.NotBuilt) not_given);
  stands = λ given. absurd (true≢false (sym given ∙ not_given));
}

-- what an event does that sends these packets, runs nothing, brings nothing and skips nothing
pub done_sends : (form : PacketForm) (who : Who) (e : Heard) (es : List Heard) (ps : List Parcel) → sends who e es ≡ ps → runs who e es ≡ [] → raws who e ≡ [] → skips who e es ≡ []
    → outcome_of form (done (deeds who e es)) ≡ done_with (map (out_of form) ps)
done_sends form who e es ps s r w k =
    ap₂ (λ a b. outcome_of form (done (record { packets = a; runs = b; raws = raws who e; skips = skips who e es }))) s r
    ∙ ap₂ (λ a b. outcome_of form (done (record { packets = ps; runs = []; raws = a; skips = b }))) w k

-- an event that is done
pub done_right : (form : PacketForm) (k j : Kept) (es : List Event) (e : Event) (o : Outcome) → is_answered form k.who es e ≡ true → j.who ≡ k.who
    → refusal_of k.who (accepted_events form k.who es) (heard_of form e) ≡ None → fault_of k.who (accepted_events form k.who es) (heard_of form e) ≡ None
    → o ≡ outcome_of form (done (deeds k.who (heard_of form e) (accepted_events form k.who es)))
    → HasParts j (heard_of form e ∷ accepted_events form k.who es)
    → Right form k es e (record { outcome = o; kept = j })
done_right form k j es e o given same no_refusal no_fault is h =
    let gs = accepted_events form k.who es in
    record {
      answers = is ∙ sym (answer_given form k.who es e given ∙ ap₂ (λ r f. outcome_of form (decided k.who gs (heard_of form e) r f)) no_refusal no_fault);
      stands = λ _. subst (λ w. HasParts j (accepted_events form w (e ∷ es))) (sym same)
          (subst (λ hs. HasParts j hs) (sym (accepted_done k.who (map (heard_of form) es) (heard_of form e) no_refusal no_fault)) h);
    }
