-- What a peer was told, one event later, and who stays up.
use Rattle.std.proofs.Common.{◌≡◌, ℕ, ℤ, true, false, not, ◌||◌, List, [], ◌∷◌, ◌++◌, refl, sym, ap, ◌∙◌, map, Result, Ok}
use Rattle.std.specs.Prelude.{if◌then◌else◌}
use Rattle.std.specs.Ordering.{int_eq}
use Rattle.std.proofs.lemmas.Bool.{and_parts, or_parts}
use Rattle.gd_variant.specs.declared.message.Message.{Message}
use Rattle.gd_variant.specs.declared.message.Message.TheVariants.{AddPeer, DelPeer}
use Rattle.gd_variant.specs.declared.message.Bad.{Bad}
use Rattle.scene_model.specs.declared.event.Class.{Class}
use Rattle.peer_model.specs.Heard.{Who, Heard, comes, goes, gets}
use Rattle.peer_model.specs.Peers.{is_up, was_up, brings_up}
use Rattle.peer_model.specs.Rows.{OwnRow}
use Rattle.peer_model.specs.Updates.{Update, Show, applied}
use Rattle.peer_model.specs.Changes.{changes, added, show_of}
use Rattle.peer_model.proofs.Links.{up_after_comes, up_after_goes}
use Rattle.peer_laws.specs.Built.{Accepts}
use Rattle.peer_laws.proofs.Tests.{or_true}
use Rattle.peer_laws.proofs.Ups.{up_if_was_not}

-- what an event adds for a peer, to what it was told before
abbrev pub adds : Who → Heard → List Heard → ℤ → List Update
adds who e es b = added who e es b (applied who.scene who.id (changes who es b))

-- the Shows of rows
abbrev pub shows_of : Who → List Heard → List OwnRow → List Update
shows_of who es rows = map (λ r. Show (show_of who es r)) rows

-- what a peer was told, one event later

pub changes_up : (who : Who) (e : Heard) (es : List Heard) (b : ℤ) → is_up (e ∷ es) b ≡ true → changes who (e ∷ es) b ≡ changes who es b ++ adds who e es b
changes_up who e es b up = ap (λ c. if c then changes who es b ++ adds who e es b else changes who es b) up

pub changes_down : (who : Who) (e : Heard) (es : List Heard) (b : ℤ) → is_up (e ∷ es) b ≡ false → changes who (e ∷ es) b ≡ changes who es b
changes_down who e es b down = ap (λ c. if c then changes who es b ++ adds who e es b else changes who es b) down

-- a peer that never came up was told nothing
pub changes_never : (who : Who) (es : List Heard) (b : ℤ) → was_up es b ≡ false → changes who es b ≡ []
changes_never who [] b h = refl
changes_never who (e ∷ es) b h = changes_down who e es b (up_if_was_not (e ∷ es) b h) ∙ changes_never who es b (or_parts (brings_up b e) (was_up es b) h).1

-- who is up

pub come_still_up : (es : List Heard) (b c : ℤ) → is_up es c ≡ true → is_up (comes b ∷ es) c ≡ true
come_still_up es b c up = up_after_comes es b c ∙ ap (λ u. int_eq c b || u) up ∙ or_true (int_eq c b)

pub go_was_up : (es : List Heard) (b c : ℤ) → is_up (goes b ∷ es) c ≡ true → is_up es c ≡ true
go_was_up es b c up = (and_parts (not (int_eq c b)) (is_up es c) (sym (up_after_goes es b c) ∙ up)).1

-- a built and accepted packet brings no one up and takes no one down
pub receive_same_up : (who : Who) (es : List Heard) (from : ℤ) (class : Class) (bytes : List ℕ) (read : Result Message Bad) (c : ℤ) → Accepts who es (gets from class bytes read) → is_up (gets from class bytes read ∷ es) c ≡ is_up es c
receive_same_up who es from class bytes (Ok (AddPeer b)) c a = absurd (cc a.built)
receive_same_up who es from class bytes (Ok (DelPeer b)) c a = absurd (cc a.built)
receive_same_up who es from class bytes read c a = refl
