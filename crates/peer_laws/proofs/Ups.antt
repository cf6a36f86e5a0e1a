-- Who is up, one event later, and that no peer stands twice among those that are up.
use Rattle.std.proofs.Common.{◌≡◌, ℤ, pos, Bool, true, false, cond, not, ◌&&◌, ◌||◌, List, [], ◌∷◌, refl, sym, ap, ◌∙◌, filter, Some, None, Ok, Err}
use Rattle.std.specs.Prelude.{int_lt, filter_map, if◌then◌else◌}
use Rattle.std.specs.List.{cons_option}
use Rattle.std.specs.Ordering.{int_eq}
use Rattle.std.proofs.lemmas.Bool.{true≢false, and_parts, or_parts}
use Rattle.std.proofs.lemmas.List.Elements.{filter_agree}
use Rattle.std.proofs.lemmas.Map.Views.{any-filter_same}
use Rattle.gd_variant.specs.Words.{has_int, put_by, sort_by, or_else, newest}
use Rattle.gd_variant.specs.declared.message.Message.TheVariants.{Plain as plain_packet, AddPeer, DelPeer, Auth, Relay}
use Rattle.scene_model.specs.declared.outcome.Refusal.TheVariants.{BadPeer, NoPeer}
use Rattle.peer_model.specs.Heard.{Who, Heard, does, comes, goes, gets, is_server, server}
use Rattle.peer_model.specs.Peers.{is_up, was_up, peers_come, peers_up, brings_up, takes_down, news_of}
use Rattle.peer_model.specs.Refusals.{bad_link}
use Rattle.peer_model.proofs.Links.{was_up_come, up_after_comes, up_after_goes}
use Rattle.peer_laws.specs.Built.{Accepts, AllAccepted}
use Rattle.peer_laws.specs.Facts.{Facts}
use Rattle.peer_laws.proofs.Tests.{no_row, no_answer, not_false, never}
use Rattle.peer_laws.proofs.Numbers.{int_same, int_is, int_comm}
use Rattle.peer_laws.proofs.Filters.{filter_outside, filter_both}
use Rattle.peer_laws.proofs.Sorted.{any-sort_by, filter-sort, is_rising, put_rising, filter_rising}

-- one link event later

-- a peer that comes is up
pub come_is_up : (es : List Heard) (b : ℤ) → is_up (comes b ∷ es) b ≡ true
come_is_up es b = up_after_comes es b b ∙ ap (λ c. c || is_up es b) (int_same b)

pub ups_come : (es : List Heard) (b : ℤ) → was_up es b ≡ false → peers_up (comes b ∷ es) ≡ put_by int_lt b (peers_up es)
ups_come es b never_up = ap (λ c. sort_by int_lt (cond c (b ∷ filter (is_up (comes b ∷ es)) (peers_come es)) (filter (is_up (comes b ∷ es)) (peers_come es)))) (come_is_up es b)
    ∙ ap (λ bs. put_by int_lt b (sort_by int_lt bs)) (filter_outside (int_eq b) (is_up (comes b ∷ es)) (is_up es) (peers_come es) (sym (was_up_come es b) ∙ never_up)
    (λ x other. up_after_comes es b x ∙ ap (λ c. c || is_up es x) (int_comm x b ∙ other)))

pub ups_go : (es : List Heard) (b : ℤ) → peers_up (goes b ∷ es) ≡ filter (λ c. not (int_eq c b)) (peers_up es)
ups_go es b = ap (sort_by int_lt) (filter_agree (is_up (goes b ∷ es)) (λ x. not (int_eq x b) && is_up es x) (up_after_goes es b) (peers_come es) ∙ filter_both (λ x. not (int_eq x b)) (is_up es) (peers_come es))
    ∙ sym (filter-sort (λ x. not (int_eq x b)) (filter (is_up es) (peers_come es)))

-- who is up was up

was_step : (brings takes : Bool) (news : List Bool) (was : Bool) → (or_else (newest news) false ≡ true → was ≡ true)
    → or_else (newest (cons_option (if brings then Some true else if takes then Some false else None) news)) false ≡ true → (brings || was) ≡ true
was_step true takes news was more h = refl
was_step false true news was more h = absurd (true≢false (sym h))
was_step false false news was more h = more h

pub was_up_if_up : (es : List Heard) (b : ℤ) → is_up es b ≡ true → was_up es b ≡ true
was_up_if_up [] b h = absurd (true≢false (sym h))
was_up_if_up (e ∷ es) b h = was_step (brings_up b e) (takes_down b e) (filter_map (news_of b) es) (was_up es b) (was_up_if_up es b) h

pub up_if_was_not : (es : List Heard) (b : ℤ) → was_up es b ≡ false → is_up es b ≡ false
up_if_was_not es b h = never (is_up es b) (λ up. sym (was_up_if_up es b up) ∙ h)

-- the peers that are up are those that are listed
pub has_up : (es : List Heard) (b : ℤ) → has_int b (peers_up es) ≡ is_up es b
has_up es b =
    any-sort_by (int_eq b) int_lt (filter (is_up es) (peers_come es))
    ∙ any-filter_same (int_eq b) (is_up es) (is_up es b) (λ x e. ap (is_up es) (sym (int_is b x e))) (peers_come es)
    ∙ ap (λ c. is_up es b && c) (sym (was_up_come es b)) ∙ step (is_up es b) (was_up es b) (was_up_if_up es b)
  where
    step : (up was : Bool) → (up ≡ true → was ≡ true) → (up && was) ≡ up
    step true was h = h refl
    step false was h = refl

-- what is known of an accepted link event

pub come_is_new : (who : Who) (es : List Heard) (b : ℤ) → Accepts who es (comes b) → (int_eq b who.id ≡ false) × (was_up es b ≡ false) × ((is_server who || int_eq b server) ≡ true)
come_is_new who es b h =
    let row = no_row (bad_link who es b) BadPeer _ h.no_refusal in
    let last = if is_server who then int_lt b (pos 2) else not (int_eq b server) in
    let first = or_parts (int_eq b who.id || was_up es b) last row.0 in
    let second = or_parts (int_eq b who.id) (was_up es b) first.0 in
    (second.0, second.1, direct (is_server who) (int_lt b (pos 2)) (int_eq b server) first.1)
  where
    direct : (s low same : Bool) → (if s then low else not same) ≡ false → (s || same) ≡ true
    direct true low same k = refl
    direct false low same k = not_false same k

pub go_is_up : (who : Who) (es : List Heard) (b : ℤ) → Accepts who es (goes b) → is_up es b ≡ true
go_is_up who es b h = not_false (is_up es b) (no_answer (not (is_up es b)) NoPeer h.no_refusal)

-- an event that is built and speaks of no link leaves who is up

-- the peers that are up rise
pub ups_apart : (who : Who) (es : List Heard) → AllAccepted who es → is_rising (peers_up es) ≡ true
ups_apart who [] h = refl
ups_apart who (does op ∷ es) h = ups_apart who es h.1
ups_apart who (comes b ∷ es) h =
    let new = come_is_new who es b h.0 in
    ap is_rising (ups_come es b new.1) ∙ put_rising b (peers_up es) (has_up es b ∙ up_if_was_not es b new.1) (ups_apart who es h.1)
ups_apart who (goes b ∷ es) h = ap is_rising (ups_go es b) ∙ filter_rising (λ c. not (int_eq c b)) (peers_up es) (ups_apart who es h.1)
ups_apart who (gets from class bytes (Ok (plain_packet p)) ∷ es) h = ups_apart who es h.1
ups_apart who (gets from class bytes (Ok (AddPeer b)) ∷ es) h = absurd (true≢false (sym h.0.built))
ups_apart who (gets from class bytes (Ok (DelPeer b)) ∷ es) h = absurd (true≢false (sym h.0.built))
ups_apart who (gets from class bytes (Ok (Auth b bs)) ∷ es) h = absurd (true≢false (sym h.0.built))
ups_apart who (gets from class bytes (Ok (Relay b p)) ∷ es) h = absurd (true≢false (sym h.0.built))
ups_apart who (gets from class bytes (Err bad) ∷ es) h = ups_apart who es h.1

-- a client has no link but the server's
pub up_is_direct : (who : Who) (es : List Heard) → AllAccepted who es → (b : ℤ) → is_up es b ≡ true → (is_server who || int_eq b server) ≡ true
up_is_direct who [] h b up = absurd (true≢false (sym up))
up_is_direct who (does op ∷ es) h b up = up_is_direct who es h.1 b up
up_is_direct who (comes c ∷ es) h b up = step (up_is_direct who es h.1 b) (int_eq b c) refl (sym (up_after_comes es c b) ∙ up)
  where
    step : (is_up es b ≡ true → (is_server who || int_eq b server) ≡ true) → (t : Bool) → int_eq b c ≡ t → (t || is_up es b) ≡ true → (is_server who || int_eq b server) ≡ true
    step more true e k = ap (λ x. is_server who || int_eq x server) (int_is b c e) ∙ (come_is_new who es c h.0).2
    step more false e k = more k
up_is_direct who (goes c ∷ es) h b up = up_is_direct who es h.1 b (and_parts (not (int_eq b c)) (is_up es b) (sym (up_after_goes es c b) ∙ up)).1
up_is_direct who (gets from class bytes (Ok (plain_packet p)) ∷ es) h b up = up_is_direct who es h.1 b up
up_is_direct who (gets from class bytes (Ok (AddPeer c)) ∷ es) h b up = absurd (true≢false (sym h.0.built))
up_is_direct who (gets from class bytes (Ok (DelPeer c)) ∷ es) h b up = absurd (true≢false (sym h.0.built))
up_is_direct who (gets from class bytes (Ok (Auth c bs)) ∷ es) h b up = absurd (true≢false (sym h.0.built))
up_is_direct who (gets from class bytes (Ok (Relay c p)) ∷ es) h b up = absurd (true≢false (sym h.0.built))
up_is_direct who (gets from class bytes (Err bad) ∷ es) h b up = up_is_direct who es h.1 b up

-- this peer is not among those that are up
pub not_this : (who : Who) (es : List Heard) → Facts who es → (b : ℤ) → is_up es b ≡ true → int_eq b who.id ≡ false
not_this who es f b up = never (int_eq b who.id) (λ same. sym (ap (was_up es) (sym (int_is b who.id same)) ∙ was_up_if_up es b up) ∙ was_up_come es who.id ∙ f.other)

pub this_not_up : (who : Who) (es : List Heard) → Facts who es → is_up es who.id ≡ false
this_not_up who es f = up_if_was_not es who.id (was_up_come es who.id ∙ f.other)
