-- A link that comes up or goes down: what is answered is what the definitions give, and what is kept then stands for the events with it.
use Rattle.std.proofs.Common.{◌≡◌, ℤ, Bool, true, false, not, ◌||◌, List, [], ◌∷◌, ◌++◌, refl, sym, ap, ap₂, ◌∙◌, subst, map, filter, Option, Some, None}
use Rattle.std.specs.Prelude.{if◌then◌else◌, int_lt}
use Rattle.std.specs.Ordering.{int_eq}
use Rattle.std.proofs.lemmas.Grind.{reverse_onto}
use Rattle.gd_variant.specs.Words.{has_int, when, put_by}
use Rattle.scene_model.specs.declared.event.Event.{Event}
use Rattle.scene_model.specs.declared.event.Event.TheVariants.{Up, Down}
use Rattle.scene_model.specs.declared.outcome.Refusal.{Refusal}
use Rattle.scene_model.specs.declared.outcome.Refusal.TheVariants.{BadPeer, NoPeer}
use Rattle.scene_model.specs.declared.outcome.Outcome.TheVariants.{Refused}
use Rattle.peer_model.specs.Heard.{Heard, comes, goes, is_server, server}
use Rattle.peer_model.specs.Peers.{was_up, peers_come}
use Rattle.peer_model.specs.Rows.{own_rows}
use Rattle.peer_model.specs.View.{tree_of}
use Rattle.peer_model.specs.Visible.{sees}
use Rattle.peer_model.specs.Refusals.{refusal_of}
use Rattle.peer_model.specs.Bytes.{PacketForm, accepted_events}
use Rattle.headless_tree.specs.Nodes.{without_rows}
use Rattle.peer_laws.specs.Built.{Accepts}
use Rattle.peer_laws.specs.Facts.{Facts}
use Rattle.peer_laws.proofs.Ups.{ups_come, ups_go, come_is_new}
use Rattle.peer_laws.proofs.TreeLinks.{tree_come, tree_go}
use Rattle.peer_laws.proofs.FactsOf.{facts}
use Rattle.peer_laws.proofs.Rows.{rows_come, rows_go, next_come, next_go}
use Rattle.world_laws.specs.Done.{AllDone}
use Rattle.world_laws.proofs.Law.{built_done}
use Rattle.sight_laws.specs.Sights.{Sights, with_peer_up, with_peer_down}
use Rattle.sight_laws.proofs.Stepping.{sights_come, sights_go}
use Rattle.sight_laws.proofs.Sends.{sends_come, sends_stay}
use Rattle.peer_steps.specs.Rows.{kept_row}
use Rattle.peer_steps.specs.Kept.{Kept}
use Rattle.peer_steps.specs.Peers.{comes_judged, peer_comes, peers_after, with_peer, without_peer}
use Rattle.peer_steps.specs.Track.{track_up, track_down, seen_by}
use Rattle.peer_steps.specs.Judged.{lacks_server}
use Rattle.peer_steps.specs.Stands.{StandsFor}
use Rattle.peer_steps.specs.Steps.{done_with, unchanged, up_taken, link_taken, down_taken, shows_to, row_packet, sent_to}
use Rattle.peer_steps.proofs.Judging.{up_judged_is, down_judged_is, sights_are}
use Rattle.peer_steps.proofs.Accepted.{Right, refused_right, done_sends, done_right}
use Rattle.delta_props.specs.Telling.{without_peer as forget}
use Rattle.telling_laws.specs.Telling.{IsTold}
use Rattle.peer_steps.specs.Tellings.{told_up}
use Rattle.peer_steps.proofs.ToldParts.{up_told, down_told}
use Rattle.peer_steps.proofs.Packets.{all_shown, seen_is}

-- a link that is accepted
come_done : (form : PacketForm) (k : Kept) (es : List Event) (b : ℤ) → StandsFor form k es → lacks_server k.peers.me b ≡ false → comes_judged k.peers b ≡ None → Right form k es (Up b) (up_taken form k b (None, with_peer b k.peers))
come_done form k es b h linked free = done_right form k j es (Up b) (done_with (shows_to form k b)) refl refl no_refusal refl
    (ap₂ (λ ns rs. done_with (map (λ r. sent_to form b (row_packet k.who.scene ns r)) (seen_by b rs k.track.sights.rows))) h.nodes h.rows
    ∙ ap (λ vs. done_with (map (λ r. sent_to form b (row_packet k.who.scene (tree_of k.who gs) r)) (seen_by b (map (kept_row k.who) (own_rows k.who gs)) vs))) h.seen
    ∙ ap done_with (all_shown form k.who gs b h.valid known new.2)
    ∙ sym (done_sends form k.who (comes b) gs _ (sends_come k.who gs (comes b) b h.valid done refl) refl refl refl))
    (record {
      live = h.live;
      valid = h.valid;
      accepted = (fresh, h.accepted);
      me = h.me;
      come = ap (λ cs. cs ++ b ∷ []) h.come ∙ sym (reverse_onto (peers_come gs) b []);
      up = ap (put_by int_lt b) h.up ∙ sym (ups_come gs b new.1);
      nodes = h.nodes ∙ sym (tree_come k.who gs known b fresh);
      next = h.next ∙ sym (next_come k.who gs b);
      rows = h.rows ∙ sym (ap (map (kept_row k.who)) (rows_come k.who gs b));
      seen = ap (λ (v : Sights). (with_peer_up b v).rows) (sights_are k gs h) ∙ ap (λ (v : Sights). v.rows) (sym (sights_come k.who gs (comes b) b done refl));
      fixed = h.fixed ∙ ap (λ (v : Sights). v.fixed) (sym (sights_come k.who gs (comes b) b done refl));
      told = subst (IsTold k.who (comes b ∷ gs)) (sym told_is) (up_told k.who gs (comes b) b k.told h.valid done (facts k.who (comes b ∷ gs) h.valid (fresh, h.accepted)) refl h.told);
    })
  where
    gs : List Heard
    gs = accepted_events form k.who es

    j : Kept
    j = record k { peers = with_peer b k.peers; track = track_up b k.track; told = told_up k.who k.nodes b (seen_by b k.track.rows k.track.sights.rows) k.told }

    no_refusal : refusal_of k.who gs (comes b) ≡ None
    no_refusal = sym (up_judged_is k gs h b) ∙ ap₂ (λ c o. if c then Some BadPeer else o) linked free

    known : Facts k.who gs
    known = facts k.who gs h.valid h.accepted

    fresh : Accepts k.who gs (comes b)
    fresh = record { built = refl; no_refusal = no_refusal; no_fault = refl }

    done : AllDone k.who (comes b ∷ gs)
    done = built_done k.who (comes b ∷ gs) (fresh, h.accepted)

    told_is : told_up k.who k.nodes b (seen_by b k.track.rows k.track.sights.rows) k.told ≡ told_up k.who (tree_of k.who (comes b ∷ gs)) b (map (kept_row k.who) (filter (sees k.who gs b) (own_rows k.who gs))) k.told
    told_is = ap₂ (λ ns rs. told_up k.who ns b rs k.told) (h.nodes ∙ sym (tree_come k.who gs known b fresh)) (ap₂ (seen_by b) h.rows h.seen ∙ seen_is k.who gs b (own_rows k.who gs))

    new : (int_eq b k.who.id ≡ false) × (was_up gs b ≡ false) × ((is_server k.who || int_eq b server) ≡ true)
    new = come_is_new k.who gs b fresh

come_right : (form : PacketForm) (k : Kept) (es : List Event) (b : ℤ) → StandsFor form k es → lacks_server k.peers.me b ≡ false → (o : Option Refusal) → comes_judged k.peers b ≡ o → Right form k es (Up b) (up_taken form k b (o, peers_after o b k.peers))
come_right form k es b h linked (Some r) judged = refused_right form k es (Up b) r h refl (sym (up_judged_is k (accepted_events form k.who es) h b) ∙ ap₂ (λ c o. if c then Some BadPeer else o) linked judged)
come_right form k es b h linked None judged = come_done form k es b h linked judged

pub up_right : (form : PacketForm) (k : Kept) (es : List Event) (b : ℤ) → StandsFor form k es → Right form k es (Up b) (link_taken form k b)
up_right form k es b h = by (lacks_server k.peers.me b) refl
  where
    by : (c : Bool) → lacks_server k.peers.me b ≡ c → Right form k es (Up b) (if c then unchanged k (Refused BadPeer) else up_taken form k b (peer_comes b k.peers))
    by true e = refused_right form k es (Up b) BadPeer h refl (sym (up_judged_is k (accepted_events form k.who es) h b) ∙ ap (λ c. if c then Some BadPeer else comes_judged k.peers b) e)
    by false e = come_right form k es b h e (comes_judged k.peers b) refl

-- a link that goes down

go_done : (form : PacketForm) (k : Kept) (es : List Event) (b : ℤ) → StandsFor form k es → has_int b k.peers.up ≡ true → Right form k es (Down b) (down_taken k b (true, without_peer b k.peers))
go_done form k es b h was_up = done_right form k j es (Down b) (done_with []) refl refl no_refusal refl
    (sym (done_sends form k.who (goes b) gs [] (sends_stay k.who gs (goes b) h.valid done refl refl refl) refl refl refl))
    (record {
      live = h.live;
      valid = h.valid;
      accepted = (fresh, h.accepted);
      me = h.me;
      come = h.come;
      up = ap (filter (λ c. not (int_eq c b))) h.up ∙ sym (ups_go gs b);
      nodes = ap (without_rows b) h.nodes ∙ sym (tree_go k.who gs h.valid h.accepted known b fresh);
      next = h.next ∙ sym (next_go k.who gs b);
      rows = h.rows ∙ sym (ap (map (kept_row k.who)) (rows_go k.who gs b));
      seen = ap (λ (v : Sights). (with_peer_down b v).rows) (sights_are k gs h) ∙ ap (λ (v : Sights). v.rows) (sym (sights_go k.who gs (goes b) b refl));
      fixed = h.fixed ∙ ap (λ (v : Sights). v.fixed) (sym (sights_go k.who gs (goes b) b refl));
      told = down_told k.who gs (goes b) b k.told h.valid done refl h.told;
    })
  where
    gs : List Heard
    gs = accepted_events form k.who es

    j : Kept
    j = record k { peers = without_peer b k.peers; nodes = without_rows b k.nodes; track = track_down b k.track; told = forget b k.told }

    no_refusal : refusal_of k.who gs (goes b) ≡ None
    no_refusal = sym (down_judged_is k gs h b) ∙ ap (λ c. when (not c) NoPeer) was_up

    known : Facts k.who gs
    known = facts k.who gs h.valid h.accepted

    fresh : Accepts k.who gs (goes b)
    fresh = record { built = refl; no_refusal = no_refusal; no_fault = refl }

    done : AllDone k.who (goes b ∷ gs)
    done = built_done k.who (goes b ∷ gs) (fresh, h.accepted)

pub down_right : (form : PacketForm) (k : Kept) (es : List Event) (b : ℤ) → StandsFor form k es → (c : Bool) → has_int b k.peers.up ≡ c → Right form k es (Down b) (down_taken k b (c, if c then without_peer b k.peers else k.peers))
down_right form k es b h true is = go_done form k es b h is
down_right form k es b h false is = refused_right form k es (Down b) NoPeer h refl (sym (down_judged_is k (accepted_events form k.who es) h b) ∙ ap (λ c. when (not c) NoPeer) is)
