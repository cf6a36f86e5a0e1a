-- A received packet: what is answered is what the definitions give, and what is kept then stands for the events with it.
use Rattle.std.proofs.Common.{◌≡◌, ℕ, ℤ, Bool, true, false, not, ◌&&◌, List, [], ◌∷◌, refl, sym, ap, ap₂, ◌∙◌, subst, map, reverse, Option, Some, None, Ok}
use Rattle.std.specs.Prelude.{if◌then◌else◌, is_none, Result, Err}
use Rattle.gd_variant.specs.Words.{put_by, first_some}
use Rattle.gd_variant.specs.declared.message.DeltaEntry.{DeltaEntry}
use Rattle.gd_variant.specs.declared.message.Plain.{Plain}
use Rattle.gd_variant.specs.declared.message.Plain.TheVariants as packet
use Rattle.gd_variant.specs.declared.message.Message.{Message}
use Rattle.gd_variant.specs.declared.message.Message.TheVariants.{Plain as plain_packet}
use Rattle.gd_variant.specs.declared.message.Bad.{Bad}
use Rattle.scene_model.specs.declared.spawn.SpawnMsg.{SpawnMsg}
use Rattle.scene_model.specs.declared.event.Class.{Class}
use Rattle.scene_model.specs.declared.event.Event.{Event}
use Rattle.scene_model.specs.declared.event.Event.TheVariants.{Received}
use Rattle.scene_model.specs.declared.outcome.Outcome.TheVariants.{Fault}
use Rattle.scene_model.specs.declared.outcome.Fault.{Fault as FaultOf}
use Rattle.scene_model.specs.declared.outcome.Fault.TheVariants as fault_why
use Rattle.peer_model.specs.Heard.{Who, Heard, gets}
use Rattle.peer_model.specs.Peers.{peers_come, peers_up}
use Rattle.peer_model.specs.Updates.{Live, shown_node}
use Rattle.peer_model.specs.View.{tree_of, view}
use Rattle.peer_model.specs.Faults.{fault_of, link_fault, packet_fault, spawn_fault, despawn_fault, message_fault}
use Rattle.peer_model.specs.Answer.{own_sends, sends, runs, raws, skips}
use Rattle.peer_model.specs.Bytes.{PacketForm, heard_of, accepted_events}
use Rattle.headless_tree.specs.Nodes.{row_before}
use Rattle.peer_laws.specs.Built.{Accepts, is_row_packet, is_built_message, is_unbuilt}
use Rattle.peer_laws.specs.Facts.{without_number, rows_under}
use Rattle.peer_laws.proofs.FactsOf.{facts}
use Rattle.peer_laws.proofs.Rows.{rows_receive, next_receive}
use Rattle.peer_laws.proofs.TreeReceives.{tree_receive, tree_hide}
use Rattle.peer_laws.proofs.TreeTells.{tree_tell}
use Rattle.peer_steps.proofs.Entries.{entries_judged_is, entries_put_are}
use Rattle.peer_laws.proofs.Ups.{not_this}
use Rattle.peer_laws.proofs.Views.{got, show_plain, linked_up, view_rows_under}
use Rattle.world_laws.proofs.Law.{built_done}
use Rattle.sight_laws.specs.Sights.{Sights}
use Rattle.sight_laws.specs.Seen.{all_sights}
use Rattle.sight_laws.proofs.Stepping.{sights_stay}
use Rattle.sight_laws.proofs.Sends.{sends_stay}
use Rattle.peer_steps.specs.Rows.{kept_row}
use Rattle.peer_steps.specs.Kept.{Kept, kept_tree}
use Rattle.peer_steps.specs.Spawns.{shown_judged}
use Rattle.peer_steps.specs.Track.{shown_by, hidden_by}
use Rattle.peer_steps.specs.Judged.{link_judged, hidden_judged}
use Rattle.peer_steps.specs.Stands.{HasParts, StandsFor, is_answered}
use Rattle.peer_steps.specs.Steps.{RowNews, appears, disappears, changes, done_with, shown_taken, message_taken, linked_taken, read_taken, row_read, entries_by, entries_judged, entries_put}
use Rattle.telling_laws.specs.Telling.{IsTold}
use Rattle.peer_steps.proofs.ToldParts.{still_told}
use Rattle.peer_steps.proofs.Judging.{link_judged_is, shown_judged_is, hidden_judged_is}
use Rattle.peer_steps.proofs.Accepted.{Right, fault_right, unbuilt_right, done_sends, done_right}

-- the news of a row that a message is

-- a message that shows a row, or hides one
abbrev plain_of : RowNews → Plain
plain_of (appears m) = show_plain m
plain_of (disappears net) = packet.Despawn net
plain_of (changes ts) = packet.Delta ts

some_news : (a b : RowNews) → Some a ≡ Some b → a ≡ b
some_news a b h = cc

-- a message that is read as the news of a row is its packet
read_is : (m : Message) (x : RowNews) → row_read m ≡ Some x → m ≡ plain_packet (plain_of x)
read_is (plain_packet (packet.Spawn scene spawner net syncs name arg values)) x h = ap (λ n. plain_packet (plain_of n)) (some_news (appears (record { scene = scene; spawner = spawner; net = net; syncs = syncs; name = name; arg = arg; values = values })) x h)
read_is (plain_packet (packet.Despawn net)) x h = ap (λ n. plain_packet (plain_of n)) (some_news (disappears net) x h)
read_is (plain_packet (packet.Delta ts)) x h = ap (λ n. plain_packet (plain_of n)) (some_news (changes ts) x h)
read_is m x h = absurd (cc h)

unread_is : (m : Message) → row_read m ≡ None → is_built_message m ≡ false
unread_is (plain_packet (packet.Spawn scene spawner net syncs name arg values)) h = absurd (cc h)
unread_is (plain_packet (packet.Despawn net)) h = absurd (cc h)
unread_is (plain_packet (packet.Delta ts)) h = absurd (cc h)
unread_is m h = refl

-- packets that are taken

-- the rows of the sender that is up
sender_rows : (k : Kept) (es : List Heard) → HasParts k es → (from : ℤ) → link_fault k.who es from ≡ None → rows_under from (tree_of k.who es) ≡ (view k.who es from).rows
sender_rows k es h from linked =
    let known = facts k.who es h.valid h.accepted in
    let up = linked_up k.who es from linked in
    view_rows_under k.who es h.valid h.accepted known from up (not_this k.who es known from up)

-- a packet that is read is answered unless it is of a kind that isn't built
given_by : (form : PacketForm) (who : Who) (es : List Event) (from : ℤ) (class : Class) (bytes : List ℕ) (m : Message) (f : Option FaultOf) (b : Bool) → form.read_packet bytes ≡ Ok m → link_fault who (accepted_events form who es) from ≡ f → is_built_message m ≡ b
    → is_answered form who es (Received from class bytes) ≡ (if is_none f && not b then false else true)
given_by form who es from class bytes m f b read linked built =
    ap (λ r. if is_unbuilt who (accepted_events form who es) (gets from class bytes r) then false else true) read
    ∙ ap₂ (λ g c. if is_none g && not c then false else true) linked built

module _ (form : PacketForm) (k : Kept) (es : List Event) (from : ℤ) (class : Class) (bytes : List ℕ) (p : Plain) (h : StandsFor form k es) (read : form.read_packet bytes ≡ Ok (plain_packet p)) where
  abbrev gs : List Heard
  gs = accepted_events form k.who es

  event : gets from class bytes (form.read_packet bytes) ≡ got from class bytes p
  event = ap (gets from class bytes) read

  module _ (built : is_row_packet p ≡ true) (linked : link_fault k.who gs from ≡ None) where
    given : is_answered form k.who es (Received from class bytes) ≡ true
    given = given_by form k.who es from class bytes (plain_packet p) None true read linked built

    -- a packet that is a fault
    plain_fault : (f : FaultOf) → packet_fault k.who gs from p ≡ Some f → Right form k es (Received from class bytes) (record { outcome = Fault f; kept = k })
    plain_fault f why = fault_right form k es (Received from class bytes) f h given refl (ap (λ r. fault_of k.who gs (gets from class bytes r)) read ∙ ap₂ first_some linked why)

    -- a packet that is none, sends nothing and runs nothing: it makes these nodes
    plain_done : (nodes : List Live) → packet_fault k.who gs from p ≡ None → own_sends k.who (got from class bytes p) gs ≡ [] → runs k.who (got from class bytes p) gs ≡ [] → raws k.who (got from class bytes p) ≡ [] → skips k.who (got from class bytes p) gs ≡ []
        → (Accepts k.who gs (got from class bytes p) → nodes ≡ tree_of k.who (got from class bytes p ∷ gs)) → Right form k es (Received from class bytes) (record { outcome = done_with []; kept = record k { nodes = nodes } })
    plain_done nodes free own quiet raw skip tree = done_right form k (record k { nodes = nodes }) es (Received from class bytes) (done_with []) given refl refl (ap (fault_of k.who gs) event ∙ no_fault)
        (sym (done_sends form k.who (heard_of form (Received from class bytes)) gs []
        (ap (λ e. sends k.who e gs) event ∙ sends_stay k.who gs (got from class bytes p) h.valid (built_done k.who (got from class bytes p ∷ gs) (fresh, h.accepted)) refl refl refl ∙ own)
        (ap (λ e. runs k.who e gs) event ∙ quiet) (ap (raws k.who) event ∙ raw) (ap (λ e. skips k.who e gs) event ∙ skip)))
        (record {
          live = h.live;
          valid = h.valid;
          accepted = (subst (Accepts k.who gs) (sym event) fresh, h.accepted);
          me = h.me;
          come = h.come ∙ ap (λ e. reverse (peers_come (e ∷ gs))) (sym event);
          up = h.up ∙ ap (λ e. peers_up (e ∷ gs)) (sym event);
          nodes = tree fresh ∙ ap (λ e. tree_of k.who (e ∷ gs)) (sym event);
          next = h.next ∙ sym (next_receive k.who gs from class bytes (form.read_packet bytes));
          rows = h.rows ∙ sym (ap (map (kept_row k.who)) (rows_receive k.who gs from class bytes (form.read_packet bytes)));
          seen = h.seen ∙ ap (λ (v : Sights). v.rows) same_sights;
          fixed = h.fixed ∙ ap (λ (v : Sights). v.fixed) same_sights;
          told = subst (λ e. IsTold k.who (e ∷ gs) k.told) (sym event) (still_told k.who gs (got from class bytes p) k.told h.valid (built_done k.who (got from class bytes p ∷ gs) (fresh, h.accepted)) refl refl refl refl h.told);
        })
      where
        no_fault : fault_of k.who gs (got from class bytes p) ≡ None
        no_fault = ap₂ first_some linked free

        fresh : Accepts k.who gs (got from class bytes p)
        fresh = record { built = built; no_refusal = refl; no_fault = no_fault }

        same_sights : all_sights k.who gs ≡ all_sights k.who (heard_of form (Received from class bytes) ∷ gs)
        same_sights = sym (sights_stay k.who gs (got from class bytes p) refl refl refl) ∙ ap (λ e. all_sights k.who (e ∷ gs)) (sym event)

-- a row that appears
shown_right : (form : PacketForm) (k : Kept) (es : List Event) (from : ℤ) (class : Class) (bytes : List ℕ) (s : SpawnMsg) → StandsFor form k es → form.read_packet bytes ≡ Ok (plain_packet (show_plain s))
    → link_fault k.who (accepted_events form k.who es) from ≡ None → (o : Option FaultOf) → shown_judged k.who.scene k.nodes from s ≡ o → Right form k es (Received from class bytes) (shown_taken k (shown_by from s (kept_tree k) o))
shown_right form k es from class bytes s h read linked o judged = by o (sym (shown_judged_is k gs h from s (sender_rows k gs h from linked)) ∙ judged)
  where
    gs : List Heard
    gs = accepted_events form k.who es

    by : (r : Option FaultOf) → spawn_fault k.who gs from s (view k.who gs from).rows ≡ r → Right form k es (Received from class bytes) (shown_taken k (shown_by from s (kept_tree k) r))
    by (Some f) why = plain_fault form k es from class bytes (show_plain s) h read refl linked f why
    by None why = plain_done form k es from class bytes (show_plain s) h read refl linked (put_by row_before (shown_node k.who.scene from s) k.nodes) why refl refl refl refl
        (λ fresh. ap (put_by row_before (shown_node k.who.scene from s)) h.nodes ∙ sym (tree_receive k.who gs h.valid h.accepted (facts k.who gs h.valid h.accepted) from class bytes s fresh))

-- a row that goes
hidden_right : (form : PacketForm) (k : Kept) (es : List Event) (from : ℤ) (class : Class) (bytes : List ℕ) (net : ℕ) → StandsFor form k es → form.read_packet bytes ≡ Ok (plain_packet (packet.Despawn net))
    → link_fault k.who (accepted_events form k.who es) from ≡ None → (o : Option FaultOf) → hidden_judged k.nodes from net ≡ o → Right form k es (Received from class bytes) (shown_taken k (hidden_by from net (kept_tree k) o))
hidden_right form k es from class bytes net h read linked o judged = by o (sym (hidden_judged_is k gs h from net (sender_rows k gs h from linked)) ∙ judged)
  where
    gs : List Heard
    gs = accepted_events form k.who es

    by : (r : Option FaultOf) → despawn_fault net (view k.who gs from).rows ≡ r → Right form k es (Received from class bytes) (shown_taken k (hidden_by from net (kept_tree k) r))
    by (Some f) why = plain_fault form k es from class bytes (packet.Despawn net) h read refl linked f why
    by None why = plain_done form k es from class bytes (packet.Despawn net) h read refl linked (without_number from net k.nodes) why refl refl refl refl
        (λ fresh. ap (without_number from net) h.nodes ∙ sym (tree_hide k.who gs h.valid h.accepted (facts k.who gs h.valid h.accepted) from class bytes net fresh))

-- values of some synchronizers
changes_right : (form : PacketForm) (k : Kept) (es : List Event) (from : ℤ) (class : Class) (bytes : List ℕ) (ts : List DeltaEntry) → StandsFor form k es → form.read_packet bytes ≡ Ok (plain_packet (packet.Delta ts))
    → link_fault k.who (accepted_events form k.who es) from ≡ None → (o : Option FaultOf) → entries_judged (kept_tree k) from ts ≡ o → Right form k es (Received from class bytes) (shown_taken k (entries_by from ts (kept_tree k) o))
changes_right form k es from class bytes ts h read linked o judged = by o (sym (entries_judged_is k gs h from ts linked) ∙ judged)
  where
    gs : List Heard
    gs = accepted_events form k.who es

    by : (r : Option FaultOf) → packet_fault k.who gs from (packet.Delta ts) ≡ r → Right form k es (Received from class bytes) (shown_taken k (entries_by from ts (kept_tree k) r))
    by (Some f) why = plain_fault form k es from class bytes (packet.Delta ts) h read refl linked f why
    by None why = plain_done form k es from class bytes (packet.Delta ts) h read refl linked (entries_put from ts (kept_tree k)).nodes why refl refl refl refl
        (λ fresh. entries_put_are k gs h from ts linked why ∙ sym (tree_tell k.who gs h.valid h.accepted (facts k.who gs h.valid h.accepted) from class bytes ts fresh))

-- a packet from a link that is up, by the news that it is read as
message_right : (form : PacketForm) (k : Kept) (es : List Event) (from : ℤ) (class : Class) (bytes : List ℕ) (m : Message) → StandsFor form k es → form.read_packet bytes ≡ Ok m
    → link_fault k.who (accepted_events form k.who es) from ≡ None → (x : Option RowNews) → row_read m ≡ x → Right form k es (Received from class bytes) (message_taken k from x)
message_right form k es from class bytes m h read linked None is = unbuilt_right form k es (Received from class bytes) (given_by form k.who es from class bytes m None false read linked (unread_is m is))
message_right form k es from class bytes m h read linked (Some (appears s)) is = shown_right form k es from class bytes s h (read ∙ ap Ok (read_is m (appears s) is)) linked (shown_judged k.who.scene k.nodes from s) refl
message_right form k es from class bytes m h read linked (Some (disappears net)) is = hidden_right form k es from class bytes net h (read ∙ ap Ok (read_is m (disappears net) is)) linked (hidden_judged k.nodes from net) refl
message_right form k es from class bytes m h read linked (Some (changes ts)) is = changes_right form k es from class bytes ts h (read ∙ ap Ok (read_is m (changes ts) is)) linked (entries_judged (kept_tree k) from ts) refl

-- a packet that is read, by whether its link is up
linked_right : (form : PacketForm) (k : Kept) (es : List Event) (from : ℤ) (class : Class) (bytes : List ℕ) (m : Message) → StandsFor form k es → form.read_packet bytes ≡ Ok m
    → (o : Option FaultOf) → link_judged k.peers from ≡ o → Right form k es (Received from class bytes) (linked_taken k from m o)
linked_right form k es from class bytes m h read (Some f) judged =
    let gs = accepted_events form k.who es in
    let linked : link_fault k.who gs from ≡ Some f = sym (link_judged_is k gs h from) ∙ judged in
    fault_right form k es (Received from class bytes) f h (given_by form k.who es from class bytes m (Some f) (is_built_message m) read linked refl) refl
    (ap (λ r. fault_of k.who gs (gets from class bytes r)) read ∙ ap (λ g. first_some g (message_fault k.who gs from m)) linked)
linked_right form k es from class bytes m h read None judged =
    message_right form k es from class bytes m h read (sym (link_judged_is k (accepted_events form k.who es) h from) ∙ judged) (row_read m) refl

-- a received packet, by what it reads as
pub read_right : (form : PacketForm) (k : Kept) (es : List Event) (from : ℤ) (class : Class) (bytes : List ℕ) → StandsFor form k es → (r : Result Message Bad) → form.read_packet bytes ≡ r → Right form k es (Received from class bytes) (read_taken k from r)
read_right form k es from class bytes h (Err bad) read =
    let gs = accepted_events form k.who es in
    fault_right form k es (Received from class bytes) (fault_why.Malformed bad.at bad.why) h (ap (λ r. if is_unbuilt k.who gs (gets from class bytes r) then false else true) read) refl (ap (λ r. fault_of k.who gs (gets from class bytes r)) read)
read_right form k es from class bytes h (Ok m) read = linked_right form k es from class bytes m h read (link_judged k.peers from) refl
