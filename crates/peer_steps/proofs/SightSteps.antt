-- A setting of visibility: what is answered is what the definitions give, and what is kept then stands for the events with it.
use Rattle.std.proofs.Common.{◌≡◌, ℕ, ℤ, Bool, true, false, not, List, [], ◌∷◌, refl, sym, ap, ap₂, ◌∙◌, subst, map, nat_lt, is_some, Option, Some, None}
use Rattle.std.specs.Prelude.{is_none, slice_get, option_map, if◌then◌else◌}
use Rattle.std.specs.List.{Contains}
use Rattle.std.specs.Ordering.{int_eq}
use Rattle.std.proofs.lemmas.Bool.{and_from}
use Rattle.gd_variant.specs.Words.{some_is, or_else, has_text}
use Rattle.gd_variant.specs.declared.message.Plain.{Plain}
use Rattle.scene_model.specs.declared.event.Event.{Event}
use Rattle.scene_model.specs.declared.event.Event.TheVariants.{Op}
use Rattle.scene_model.specs.declared.event.Op.{Op as Operation}
use Rattle.scene_model.specs.declared.event.Op.TheVariants.{Public, For, Filter}
use Rattle.scene_model.specs.declared.outcome.Refusal.{Refusal}
use Rattle.scene_model.specs.declared.outcome.Refusal.TheVariants.{NoNode, NoSync, NotAuthority}
use Rattle.scene_model.specs.Lookup.{fixed_paths}
use Rattle.peer_model.specs.Heard.{Who, Heard, does}
use Rattle.peer_model.specs.Peers.{peers_up}
use Rattle.peer_model.specs.Rows.{own_rows, next_number}
use Rattle.peer_model.specs.Updates.{Live, live_at}
use Rattle.peer_model.specs.View.{tree_of, node_at}
use Rattle.peer_model.specs.Refusals.{op_refusal, sight_refusal, has_syncer, owns, named_syncs, peers_full, filters_full}
use Rattle.peer_model.specs.Answer.{sends, runs}
use Rattle.peer_model.specs.Bytes.{PacketForm, accepted_events, out_of}
use Rattle.peer_laws.specs.Built.{Accepts, is_built_op}
use Rattle.peer_laws.proofs.Tests.{no_row, not_false, some_passes}
use Rattle.peer_laws.proofs.FactsOf.{facts}
use Rattle.peer_laws.proofs.Rows.{next_kept}
use Rattle.peer_laws.proofs.TreeRows.{rows_public, rows_for, rows_filter, tree_public, tree_for, tree_filter}
use Rattle.world_laws.specs.Done.{AllDone}
use Rattle.world_laws.proofs.Law.{built_done}
use Rattle.sight_laws.specs.Sights.{Sight, Sights, row_sight, with_row_set, with_fixed_set}
use Rattle.sight_laws.specs.Seen.{SightSet, set_in, all_sights, shown_packet}
use Rattle.sight_laws.proofs.Naming.{set_fixed_is_first}
use Rattle.sight_laws.proofs.Kept.{row_peers_full, row_filters_full, fixed_peers_full, fixed_filters_full}
use Rattle.sight_laws.proofs.Stepping.{sights_set_row, sights_set_fixed}
use Rattle.sight_laws.proofs.Sends.{sends_set_row, sends_set_fixed}
use Rattle.peer_steps.specs.declared.rows.SpawnedRow.{SpawnedRow}
use Rattle.peer_steps.specs.Rows.{kept_row}
use Rattle.peer_steps.specs.Kept.{Kept, kept_tree}
use Rattle.peer_steps.specs.Track.{SightChange, fixed_sight_at, own_sighted, sighted_by, sights_set, sight_at, is_row, row_with, shown_of}
use Rattle.peer_steps.specs.Judged.{sight_judged}
use Rattle.peer_steps.specs.Stands.{StandsFor}
use Rattle.peer_steps.specs.Steps.{done_with, sight_taken, sight_told, sight_shifts, row_shifts, row_told as row_told_of, row_packet, shifts, public_change, for_change, filter_change}
use Rattle.telling_laws.specs.Telling.{IsTold}
use Rattle.peer_steps.specs.Tellings.{told_shifts}
use Rattle.peer_steps.proofs.ToldParts.{set_told_is, fixed_told_is}
use Rattle.peer_steps.proofs.Judging.{IsFull, sight_judged_is, sights_are}
use Rattle.peer_steps.proofs.Accepted.{Right, refused_right, done_sends, done_right}
use Rattle.peer_steps.proofs.OwnRows.{IsOwnAt, own_at, kept_found, shown_is, fixed_at, fixed_has}
use Rattle.peer_steps.proofs.Packets.{all_direct, shifts_are, row_packet_is}

-- an operation is a setting: why it is refused, what it sets, and what it leaves
record IsSetting (who : Who) (gs : List Heard) (op : Operation) (path : List ℕ) (n : ℕ) (c : SightChange) (full : Bool) : Type 0 where
  pub built : is_built_op op ≡ true
  pub why : op_refusal who gs op ≡ sight_refusal who gs path n full
  pub is : set_in (does op) ≡ Some (record { path = path; place = n; change = c.change })
  pub full_is : IsFull who gs path n c.is_full full
  pub tree : tree_of who (does op ∷ gs) ≡ tree_of who gs
  pub rows : own_rows who (does op ∷ gs) ≡ own_rows who gs
  pub next : next_number who (does op ∷ gs) ≡ next_number who gs
  pub quiet : runs who (does op) gs ≡ []

-- what an accepted setting names: a node of this peer, which has such a synchronizer
record NamesOwn (who : Who) (gs : List Heard) (path : List ℕ) (n : ℕ) : Type 0 where
  pub node : Live
  pub there : node_at who gs path ≡ Some node
  pub low : nat_lt n (named_syncs who node) ≡ true
  pub own : int_eq node.auth who.id ≡ true

names_own : (who : Who) (gs : List Heard) (path : List ℕ) (n : ℕ) (full : Bool) → sight_refusal who gs path n full ≡ None → NamesOwn who gs path n
names_own who gs path n full h =
    let first = no_row (is_none (node_at who gs path)) NoNode _ h in
    let second = no_row (not (has_syncer who gs path n)) NoSync _ first.1 in
    let third = no_row (not (owns who (node_at who gs path))) NotAuthority _ second.1 in
    let found = some_passes (λ m. nat_lt n (named_syncs who m)) (node_at who gs path) (not_false (has_syncer who gs path n) second.0) in
    record { node = found.0; there = found.1; low = found.2; own = sym (ap (owns who) found.1) ∙ not_false (owns who (node_at who gs path)) third.0 }

-- a peer with these nodes, peers, rows and who sees them
abbrev standing : Kept → List Live → List ℤ → List SpawnedRow → Sights → Kept
standing k ns us rs v = record k { nodes = ns; peers = record k.peers { up = us }; track = record k.track { rows = rs; sights = v } }

module _ (form : PacketForm) (k : Kept) (es : List Event) (op : Operation) (path : List ℕ) (n : ℕ) (c : SightChange) (full : Bool) (h : StandsFor form k es) (s : IsSetting k.who (accepted_events form k.who es) op path n c full) where
  abbrev gs : List Heard
  gs = accepted_events form k.who es

  abbrev now : List Heard
  now = does op ∷ gs

  -- the setting
  abbrev set : SightSet
  set = record { path = path; place = n; change = c.change }

  -- what is kept, in the words of the definitions
  abbrev given : Kept
  given = standing k (tree_of k.who gs) (peers_up gs) (map (kept_row k.who) (own_rows k.who gs)) (all_sights k.who gs)

  module _ (free : sight_refusal k.who gs path n full ≡ None) where
    fresh : Accepts k.who gs (does op)
    fresh = record { built = s.built; no_refusal = s.why ∙ free; no_fault = refl }

    done : AllDone k.who now
    done = built_done k.who now (fresh, h.accepted)

    -- what is told and who sees what then
    record Told : Type 0 where
      pub sights : sights_set (peers_up gs) (node_at k.who gs path) path n c.change (all_sights k.who gs) ≡ all_sights k.who now
      pub told : sight_shifts form given path (all_sights k.who now) ≡ map (out_of form) (sends k.who (does op) gs)
      pub kept : IsTold k.who now (sight_told given path (all_sights k.who now) None)

    row_told : IsOwnAt k.who gs path → Told
    row_told own =
        let r = own.row in
        let rows = map (kept_row k.who) (own_rows k.who gs) in
        let later = all_sights k.who now in
        let has_now : Contains (own_rows k.who now) r = subst (λ rs. Contains rs r) (sym s.rows) own.has in
        let known_now = facts k.who now h.valid (fresh, h.accepted) in
        record {
          sights = ap (λ o. sights_set (peers_up gs) o path n c.change (all_sights k.who gs)) own.there ∙ sym (sights_set_row k.who gs (does op) set r done.1 s.is own.has own.path_is);
          told = ap (λ o. if is_row o then row_shifts form given later (row_with (or_else (option_map (λ (m : Live). m.num) o) 0) rows) else []) own.there
              ∙ ap (row_shifts form given later) (kept_found k.who gs r own.has)
              ∙ ap (λ (p : Plain). shifts form p r.num (shown_of r.num (all_sights k.who gs)) (shown_of r.num later) (peers_up gs))
              (ap (λ ns. row_packet k.who.scene ns (kept_row k.who r)) (sym s.tree) ∙ row_packet_is k.who now h.valid known_now r has_now)
              ∙ ap₂ (λ before after. shifts form (shown_packet k.who now r) r.num before after (peers_up gs)) (shown_is k.who gs r own.has) (shown_is k.who now r has_now)
              ∙ shifts_are form k.who (shown_packet k.who now r) r.num (row_sight k.who gs r).shown (row_sight k.who now r).shown (peers_up gs) (all_direct k.who gs h.accepted)
              ∙ ap (map (out_of form)) (sym (sends_set_row k.who gs (does op) set r h.valid done s.is own.has own.path_is));
          kept = subst (IsTold k.who now) (sym (
              ap (λ o. if is_row o then row_told_of given later (row_with (or_else (option_map (λ (m : Live). m.num) o) 0) rows) else k.told) own.there
              ∙ ap (row_told_of given later) (kept_found k.who gs r own.has)
              ∙ ap (λ ns. told_shifts k.who.scene ns (kept_row k.who r) (shown_of r.num (all_sights k.who gs)) (shown_of r.num later) (peers_up gs) k.told) (sym s.tree)
              ∙ ap₂ (λ before after. told_shifts k.who.scene (tree_of k.who now) (kept_row k.who r) before after (peers_up gs) k.told) (shown_is k.who gs r own.has) (shown_is k.who now r has_now)
              )) (set_told_is k.who gs (does op) set r k.told h.valid done known_now s.is own.has own.path_is h.told);
        }

    fixed_told : (m : Live) → node_at k.who gs path ≡ Some m → m.place ≡ None → has_text path (fixed_paths k.who.scene) ≡ true → Told
    fixed_told m there unplaced fixed =
        let later = all_sights k.who now in
        let rows = map (kept_row k.who) (own_rows k.who gs) in
        let first = set_fixed_is_first k.who gs (does op) set done.0 s.is fixed in
        record {
          sights = ap (λ o. sights_set (peers_up gs) o path n c.change (all_sights k.who gs)) there
              ∙ ap (λ q. if some_is (λ (p : ℕ). true) q then with_row_set (peers_up gs) m.num n c.change (all_sights k.who gs) else with_fixed_set path c.change (all_sights k.who gs)) unplaced
              ∙ sym (sights_set_fixed k.who gs (does op) set done.1 s.is fixed first);
          told = ap (λ o. if is_row o then row_shifts form given later (row_with (or_else (option_map (λ (x : Live). x.num) o) 0) rows) else []) there
              ∙ ap (λ q. if some_is (λ (p : ℕ). true) q then row_shifts form given later (row_with m.num rows) else []) unplaced
              ∙ ap (map (out_of form)) (sym (sends_set_fixed k.who gs (does op) set h.valid done s.is fixed));
          kept = subst (IsTold k.who now) (sym (
              ap (λ o. if is_row o then row_told_of given later (row_with (or_else (option_map (λ (x : Live). x.num) o) 0) rows) else k.told) there
              ∙ ap (λ q. if some_is (λ (p : ℕ). true) q then row_told_of given later (row_with m.num rows) else k.told) unplaced
              )) (fixed_told_is k.who gs (does op) set k.told h.valid done s.is fixed h.told);
        }

    -- whichever it names
    is_told : Told
    is_told = by node.place refl
      where
        named : NamesOwn k.who gs path n
        named = names_own k.who gs path n full free

        node : Live
        node = named.node

        by : (p : Option ℕ) → node.place ≡ p → Told
        by None e = fixed_told node named.there e (fixed_has k.who path n (fixed_at k.who gs path n node e named.there named.low))
        by (Some p) e = row_told (own_at k.who gs h.valid h.accepted (facts k.who gs h.valid h.accepted) path node named.there (and_from (is_some node.place) (int_eq node.auth k.who.id) (ap is_some e) named.own))

    -- who sees what is kept then
    abbrev kept_sights : Sights
    kept_sights = sights_set k.peers.up (live_at k.nodes path) path n c.change k.track.sights

    sights_now : kept_sights ≡ all_sights k.who now
    sights_now =
        ap₂ (λ us ns. sights_set us (live_at ns path) path n c.change k.track.sights) h.up h.nodes
        ∙ ap (sights_set (peers_up gs) (node_at k.who gs path) path n c.change) (sights_are k gs h)
        ∙ is_told.sights

    told_now : sight_shifts form k path kept_sights ≡ map (out_of form) (sends k.who (does op) gs)
    told_now =
        ap (sight_shifts form k path) sights_now
        ∙ ap₂ (λ ns us. sight_shifts form (standing k ns us k.track.rows k.track.sights) path (all_sights k.who now)) h.nodes h.up
        ∙ ap₂ (λ rs v. sight_shifts form (standing k (tree_of k.who gs) (peers_up gs) rs v) path (all_sights k.who now)) h.rows (sights_are k gs h)
        ∙ is_told.told

    kept_told : IsTold k.who now (sight_told k path kept_sights None)
    kept_told = subst (IsTold k.who now) (sym (
        ap (λ v. sight_told k path v None) sights_now
        ∙ ap₂ (λ ns us. sight_told (standing k ns us k.track.rows k.track.sights) path (all_sights k.who now) None) h.nodes h.up
        ∙ ap₂ (λ rs v. sight_told (standing k (tree_of k.who gs) (peers_up gs) rs v) path (all_sights k.who now) None) h.rows (sights_are k gs h)
        )) is_told.kept

    sight_done : Right form k es (Op op) (sight_taken form k path (sighted_by k.peers.up path n c k.track (kept_tree k) None))
    sight_done = done_right form k (record k { track = record k.track { sights = kept_sights }; told = sight_told k path kept_sights None }) es (Op op) (done_with (sight_shifts form k path kept_sights)) refl refl (s.why ∙ free) refl
        (ap done_with told_now ∙ sym (done_sends form k.who (does op) gs _ refl s.quiet refl refl))
        (record {
          live = h.live;
          valid = h.valid;
          accepted = (fresh, h.accepted);
          me = h.me;
          come = h.come;
          up = h.up;
          nodes = h.nodes ∙ sym s.tree;
          next = h.next ∙ sym s.next;
          rows = h.rows ∙ sym (ap (map (kept_row k.who)) s.rows);
          seen = ap (λ (v : Sights). v.rows) sights_now;
          fixed = ap (λ (v : Sights). v.fixed) sights_now;
          told = kept_told;
        })

  judged_is : sight_judged k.who k.nodes path n (some_is c.is_full (sight_at k.track.sights (live_at k.nodes path) path n)) ≡ sight_refusal k.who gs path n full
  judged_is = sight_judged_is k gs h path n c full s.full_is

  sight_by : (r : Option Refusal) → sight_judged k.who k.nodes path n (some_is c.is_full (sight_at k.track.sights (live_at k.nodes path) path n)) ≡ r
      → Right form k es (Op op) (sight_taken form k path (sighted_by k.peers.up path n c k.track (kept_tree k) r))
  sight_by (Some r) judged = refused_right form k es (Op op) r h refl (s.why ∙ sym judged_is ∙ judged)
  sight_by None judged = sight_done (sym judged_is ∙ judged)

  sight_right : Right form k es (Op op) (sight_taken form k path (own_sighted k.who.id k.peers.up path n c k.track (kept_tree k)))
  sight_right = sight_by (sight_judged k.who k.nodes path n (some_is c.is_full (sight_at k.track.sights (live_at k.nodes path) path n))) refl

-- there is always room for being public or not
never_full : (o : Option Sight) → some_is (λ (y : Sight). false) o ≡ false
never_full None = refl
never_full (Some y) = refl

pub public_right : (form : PacketForm) (k : Kept) (es : List Event) (path : List ℕ) (n : ℕ) (on : Bool) → StandsFor form k es
    → Right form k es (Op (Public path n on)) (sight_taken form k path (own_sighted k.who.id k.peers.up path n (public_change on) k.track (kept_tree k)))
public_right form k es path n on h =
    let gs = accepted_events form k.who es in
    sight_right form k es (Public path n on) path n (public_change on) false h (record {
      built = refl;
      why = refl;
      is = refl;
      full_is = record { row = λ r has p low. never_full (slice_get (row_sight k.who gs r).syncs n); fixed = λ at own. never_full (fixed_sight_at path (all_sights k.who gs).fixed) };
      tree = tree_public k.who gs path n on;
      rows = rows_public k.who gs path n on;
      next = next_kept k.who gs (does (Public path n on)) refl;
      quiet = refl;
    })

pub for_right : (form : PacketForm) (k : Kept) (es : List Event) (path : List ℕ) (n : ℕ) (b : ℤ) (on : Bool) → StandsFor form k es
    → Right form k es (Op (For path n b on)) (sight_taken form k path (own_sighted k.who.id k.peers.up path n (for_change b on) k.track (kept_tree k)))
for_right form k es path n b on h =
    let gs = accepted_events form k.who es in
    sight_right form k es (For path n b on) path n (for_change b on) (peers_full k.who gs path n b) h (record {
      built = refl;
      why = refl;
      is = refl;
      full_is = record {
        row = λ r has p low. row_peers_full k.who gs r n b h.valid (built_done k.who gs h.accepted) has low ∙ ap (λ t. peers_full k.who gs t n b) p;
        fixed = λ at own. fixed_peers_full k.who gs path at.node b at.there own at.syncs ∙ ap (λ i. peers_full k.who gs path i b) (sym at.first);
      };
      tree = tree_for k.who gs path n b on;
      rows = rows_for k.who gs path n b on;
      next = next_kept k.who gs (does (For path n b on)) refl;
      quiet = refl;
    })

pub filter_right : (form : PacketForm) (k : Kept) (es : List Event) (path : List ℕ) (n : ℕ) (bs : List ℤ) → StandsFor form k es
    → Right form k es (Op (Filter path n bs)) (sight_taken form k path (own_sighted k.who.id k.peers.up path n (filter_change bs) k.track (kept_tree k)))
filter_right form k es path n bs h =
    let gs = accepted_events form k.who es in
    sight_right form k es (Filter path n bs) path n (filter_change bs) (filters_full k.who gs path n) h (record {
      built = refl;
      why = refl;
      is = refl;
      full_is = record {
        row = λ r has p low. row_filters_full k.who gs r n h.valid (built_done k.who gs h.accepted) has low ∙ ap (λ t. filters_full k.who gs t n) p;
        fixed = λ at own. fixed_filters_full k.who gs path at.node at.there own at.syncs ∙ ap (λ i. filters_full k.who gs path i) (sym at.first);
      };
      tree = tree_filter k.who gs path n bs;
      rows = rows_filter k.who gs path n bs;
      next = next_kept k.who gs (does (Filter path n bs)) refl;
      quiet = refl;
    })
