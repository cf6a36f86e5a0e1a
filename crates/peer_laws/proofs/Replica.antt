-- What a peer sees of another is what the updates that it received make, and in the end just the rows that the other shows it.
use Rattle.std.proofs.Common.{◌≡◌, ℤ, true, false, [], List, ap, ◌∙◌, reverse}
use Rattle.std.specs.Prelude.{flat_map}
use Rattle.gd_variant.specs.declared.message.Plain.{Plain}
use Rattle.peer_model.specs.Heard.{Who, Heard}
use Rattle.peer_model.specs.Peers.{is_up, was_up}
use Rattle.peer_model.specs.Updates.{applied, fixed_of}
use Rattle.peer_model.specs.View.{view, updates_from, updates_in}
use Rattle.peer_laws.specs.Built.{AllAccepted}
use Rattle.peer_laws.specs.Facts.{Facts}
use Rattle.peer_laws.proofs.Ups.{up_if_was_not}
use Rattle.peer_laws.proofs.Views.{view_is, kept_while}

-- what is seen of a peer that is up is what its updates make
pub in_view : (who : Who) (es : List Heard) → AllAccepted who es → (a : ℤ) → is_up es a ≡ true → view who es a ≡ applied who.scene a (updates_from who es a)
in_view who es all a up = view_is who es all a ∙ ap (λ t. kept_while t (applied who.scene a (updates_from who es a))) up

-- of a peer that never was up, its fixed nodes are seen with their defaults, and no rows
pub never_seen : (who : Who) (es : List Heard) → AllAccepted who es → Facts who es → (c : ℤ) → was_up es c ≡ false → view who es c ≡ record { fixed = fixed_of who.scene c; rows = [] }
never_seen who es all f c new =
    view_is who es all c
    ∙ ap (λ t. kept_while t (applied who.scene c (updates_from who es c))) (up_if_was_not es c new)
    ∙ ap (λ (ps : List Plain). kept_while false (applied who.scene c (flat_map updates_in (reverse ps)))) (f.silent c new)
