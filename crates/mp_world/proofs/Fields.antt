-- A world's fields before and after a step.
use Rattle.std.proofs.Common.{◌≡◌, ℕ, Bool, false, List, sym, ap, ◌∙◌}
use Rattle.scene_model.specs.declared.world.WorldEvent.{WorldEvent}
use Rattle.scene_model.specs.declared.world.WorldOutcome.{WorldOutcome}
use Rattle.peer_steps.specs.Kept.{Kept}
use Rattle.world_steps.specs.Steps.{Parts, Client, live_parts, made}

-- a world that isn't spent, by its fields
pub live_is : (v : Parts) (spent : Bool) (k : Kept) (come put : ℕ) (cs : List Client) → record { spent = spent; server = k; come = come; put = put; clients = cs } ≡ v → spent ≡ false → live_parts k come put cs ≡ v
live_is v spent k come put cs is live = ap (λ b. record { spent = b; server = k; come = come; put = put; clients = cs }) (sym live) ∙ is

-- what a step made, by the fields before and after
pub step_is : (v : Parts) (spent : Bool) (j k : Kept) (come later put more : ℕ) (cs ds : List Client) (e : WorldEvent) (o : WorldOutcome) → record { spent = spent; server = j; come = come; put = put; clients = cs } ≡ v → spent ≡ false
    → record { outcome = o; parts = live_parts k later more ds } ≡ made (live_parts j come put cs) e → record { outcome = o; parts = record { spent = spent; server = k; come = later; put = more; clients = ds } } ≡ made v e
step_is v spent j k come later put more cs ds e o is live now = ap (λ b. record { outcome = o; parts = record { spent = b; server = k; come = later; put = more; clients = ds } }) live ∙ now ∙ ap (λ u. made u e) (live_is v spent j come put cs is live)
