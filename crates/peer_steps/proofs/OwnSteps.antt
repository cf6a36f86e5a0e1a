-- An operation on own nodes, an assignment, a spawn or a despawn: what is answered is what the definitions give, and what is kept then stands for the events with it.
use Rattle.std.proofs.Common.{◌≡◌, ℕ, ◌+◌, true, not, List, [], ◌∷◌, ◌++◌, refl, sym, ap, ap₂, ◌∙◌, subst, map, filter, length, nat_eq, Option, Some, None}
use Rattle.std.specs.List.{Contains}
use Rattle.std.proofs.lemmas.List.{map-append}
use Rattle.std.proofs.lemmas.List.Elements.{Contains-push}
use Rattle.gd_variant.specs.Words.{or_else, text_eq, put_by}
use Rattle.std.specs.Prelude.{option_map}
use Rattle.gd_variant.specs.declared.value.Variant.{Variant}
use Rattle.gd_variant.specs.declared.message.Plain.TheVariants as packet
use Rattle.scene_model.specs.declared.event.SpawnOp.{SpawnOp}
use Rattle.scene_model.specs.declared.event.Event.{Event}
use Rattle.scene_model.specs.declared.event.Event.TheVariants.{Op}
use Rattle.scene_model.specs.declared.event.Op.{Op as Operation}
use Rattle.scene_model.specs.declared.event.Op.TheVariants.{Spawn, Custom, Despawn, Set}
use Rattle.scene_model.specs.declared.outcome.Refusal.{Refusal}
use Rattle.scene_model.specs.declared.outcome.Out.{Out}
use Rattle.scene_model.specs.declared.scene.SyncDef.{SyncDef}
use Rattle.peer_model.specs.Heard.{Who, Heard, does}
use Rattle.peer_model.specs.Peers.{peers_up}
use Rattle.peer_model.specs.Rows.{OwnRow, own_rows, next_number, spawn_in, spawned_scene, syncs_at}
use Rattle.peer_model.specs.Rows.{row_made as own_made}
use Rattle.peer_model.specs.Updates.{Live}
use Rattle.peer_model.specs.View.{tree_of, node_at}
use Rattle.peer_model.specs.Visible.{sees}
use Rattle.peer_model.specs.Refusals.{refusal_of, op_refusal, spawn_refusal}
use Rattle.peer_model.specs.Answer.{runs}
use Rattle.peer_model.specs.Bytes.{PacketForm, accepted_events}
use Rattle.headless_tree.specs.Nodes.{row_before, assigned, is_row_of, without_spawned}
use Rattle.peer_laws.specs.Built.{Accepts, is_built_op}
use Rattle.peer_laws.specs.Facts.{Facts, leaves}
use Rattle.peer_laws.specs.Shown.{spawned_live}
use Rattle.peer_laws.proofs.Tests.{some_passes}
use Rattle.peer_laws.proofs.Each.{all-filter}
use Rattle.peer_laws.proofs.FactsOf.{facts}
use Rattle.peer_laws.proofs.Rows.{rows_set, rows_despawn, next_set, next_spawn, next_custom, next_kept}
use Rattle.peer_laws.proofs.TreeSets.{tree_set}
use Rattle.peer_laws.proofs.TreeSpawns.{Spawns, by_scene, by_custom, tree_made}
use Rattle.peer_laws.proofs.TreeRows.{tree_despawn, despawn_is_own}
use Rattle.world_laws.specs.Done.{AllDone}
use Rattle.world_laws.proofs.Law.{built_done}
use Rattle.sight_laws.specs.Sights.{Sights, row_sight, with_row, without_row}
use Rattle.sight_laws.specs.Seen.{all_sights, shown_packet}
use Rattle.sight_laws.proofs.Lists.{filter-map, filter_same, every_map, SameBy}
use Rattle.sight_laws.proofs.Stepping.{own_same_by, sights_stay, sights_spawn, sights_despawn}
use Rattle.sight_laws.proofs.Sends.{sends_stay, sends_spawn, sends_despawn}
use Rattle.peer_steps.specs.declared.rows.SpawnedRow.{SpawnedRow}
use Rattle.peer_steps.specs.Rows.{kept_row, row_of_spawn}
use Rattle.peer_steps.specs.Kept.{Kept, kept_tree}
use Rattle.peer_steps.specs.Spawns.{spawn_judged}
use Rattle.peer_steps.specs.Track.{spawned_by, despawned_by, number_at, shown_of}
use Rattle.peer_steps.specs.Judged.{set_judged, despawn_judged}
use Rattle.peer_steps.specs.Stands.{StandsFor}
use Rattle.peer_steps.specs.Steps.{done_with, set_taken, row_made, with_spawned, spawn_taken, spawn_told, despawn_taken, shows_of, row_packet, sent_to}
use Rattle.peer_steps.proofs.Judging.{spawn_judged_is, set_judged_is, despawn_judged_is, sights_are}
use Rattle.peer_steps.proofs.Accepted.{Right, refused_right, done_sends, done_right}
use Rattle.delta_props.specs.Telling.{ToldValues}
use Rattle.telling_laws.specs.Telling.{IsTold}
use Rattle.peer_steps.specs.Tellings.{hidden_from_all, ids_with, shown_to_all}
use Rattle.peer_steps.proofs.ToldParts.{still_told, spawn_told_is, despawn_told_is}
use Rattle.peer_steps.proofs.OwnRows.{IsOwnAt, own_at, kept_found, number_is, shown_is}
use Rattle.peer_steps.proofs.Packets.{all_direct, is_direct, sent_to_each, row_packet_is}

-- an assignment

set_done : (form : PacketForm) (k : Kept) (es : List Event) (path prop : List ℕ) (value : Variant) → StandsFor form k es → set_judged k.who k.nodes path prop value ≡ None → Right form k es (Op (Set path prop value)) (set_taken k path prop value None)
set_done form k es path prop value h free = done_right form k j es (Op (Set path prop value)) (done_with []) refl refl no_refusal refl
    (sym (done_sends form k.who e gs [] (sends_stay k.who gs e h.valid (built_done k.who (e ∷ gs) (fresh, h.accepted)) refl refl refl) refl refl refl))
    (record {
      live = h.live;
      valid = h.valid;
      accepted = (fresh, h.accepted);
      me = h.me;
      come = h.come;
      up = h.up;
      nodes = ap (assigned path prop value) h.nodes ∙ sym (tree_set k.who gs h.valid h.accepted known path prop value fresh);
      next = h.next ∙ sym (next_set k.who gs path prop value);
      rows = h.rows ∙ sym (ap (map (kept_row k.who)) (rows_set k.who gs path prop value));
      seen = h.seen ∙ ap (λ (v : Sights). v.rows) (sym (sights_stay k.who gs e refl refl refl));
      fixed = h.fixed ∙ ap (λ (v : Sights). v.fixed) (sym (sights_stay k.who gs e refl refl refl));
      told = still_told k.who gs e k.told h.valid (built_done k.who (e ∷ gs) (fresh, h.accepted)) refl refl refl refl h.told;
    })
  where
    e : Heard
    e = does (Set path prop value)

    gs : List Heard
    gs = accepted_events form k.who es

    j : Kept
    j = record k { nodes = assigned path prop value k.nodes }

    no_refusal : refusal_of k.who gs (does (Set path prop value)) ≡ None
    no_refusal = sym (set_judged_is k gs h path prop value) ∙ free

    known : Facts k.who gs
    known = facts k.who gs h.valid h.accepted

    fresh : Accepts k.who gs (does (Set path prop value))
    fresh = record { built = refl; no_refusal = no_refusal; no_fault = refl }

set_by : (form : PacketForm) (k : Kept) (es : List Event) (path prop : List ℕ) (value : Variant) → StandsFor form k es → (o : Option Refusal) → set_judged k.who k.nodes path prop value ≡ o → Right form k es (Op (Set path prop value)) (set_taken k path prop value o)
set_by form k es path prop value h (Some r) judged = refused_right form k es (Op (Set path prop value)) r h refl (sym (set_judged_is k (accepted_events form k.who es) h path prop value) ∙ judged)
set_by form k es path prop value h None judged = set_done form k es path prop value h judged

pub set_right : (form : PacketForm) (k : Kept) (es : List Event) (path prop : List ℕ) (value : Variant) → StandsFor form k es → Right form k es (Op (Set path prop value)) (set_taken k path prop value (set_judged k.who k.nodes path prop value))
set_right form k es path prop value h = set_by form k es path prop value h (set_judged k.who k.nodes path prop value) refl

-- a spawn, by scene or custom

-- an operation spawns: why it is refused, what it makes, and how many numbers it takes
record IsSpawn (who : Who) (gs : List Heard) (op : Operation) (o : SpawnOp) : Type 0 where
  pub built : is_built_op op ≡ true
  pub why : op_refusal who gs op ≡ spawn_refusal who gs o
  pub is : spawn_in (does op) ≡ Some o
  pub makes : Accepts who gs (does op) → Spawns who gs (does op) o
  pub next : next_number who (does op ∷ gs) ≡ next_number who gs + 1 + length (syncs_at who.scene (spawned_scene who o))
  pub quiet : runs who (does op) gs ≡ []

module _ (form : PacketForm) (k : Kept) (es : List Event) (op : Operation) (o : SpawnOp) (h : StandsFor form k es) (s : IsSpawn k.who (accepted_events form k.who es) op o) where
  abbrev gs : List Heard
  gs = accepted_events form k.who es

  abbrev now : List Heard
  now = does op ∷ gs

  abbrev row : OwnRow
  row = own_made k.who gs o

  -- its packets, by the nodes, its number and who sees what then
  abbrev shows_among : List Live → ℕ → Sights → List Out
  shows_among ns n v = map (λ b. sent_to form b (row_packet k.who.scene ns (kept_row k.who (row_of_spawn k.who n o)))) (shown_of n v)

  abbrev spawned : Kept
  spawned = with_spawned k (spawned_by k.who.id k.peers.up o k.track (kept_tree k) None)

  spawn_done : spawn_judged k.who k.nodes k.track.rows k.track.next o ≡ None → Right form k es (Op op) (spawn_taken form k o (spawned_by k.who.id k.peers.up o k.track (kept_tree k) None))
  spawn_done free = done_right form k (record spawned { told = spawn_told spawned (row_made k o) None }) es (Op op) (done_with (shows_of form spawned (row_made k o))) refl refl no_refusal refl
      (ap₂ (λ ns n. done_with (shows_among ns n spawned.track.sights)) nodes_now h.next
      ∙ ap (λ v. done_with (shows_among (tree_of k.who now) (next_number k.who gs) v)) sights_now
      ∙ ap done_with
      (ap₂ (λ p bs. map (λ b. sent_to form b p) bs) (row_packet_is k.who now h.valid (facts k.who now h.valid (fresh, h.accepted)) row has) (shown_is k.who now row has)
      ∙ sent_to_each form k.who (shown_packet k.who now row) (row_sight k.who now row).shown (all-filter (is_direct k.who) (λ b. sees k.who now b row) (peers_up gs) (all_direct k.who gs h.accepted)))
      ∙ sym (done_sends form k.who (does op) gs _ (sends_spawn k.who gs (does op) o h.valid done s.is) s.quiet refl refl))
      (record {
        live = h.live;
        valid = h.valid;
        accepted = (fresh, h.accepted);
        me = h.me;
        come = h.come;
        up = h.up;
        nodes = nodes_now;
        next = ap (λ n. n + 1 + length defs) h.next ∙ sym s.next;
        rows = ap₂ (λ rs n. rs ++ kept_row k.who (row_of_spawn k.who n o) ∷ []) h.rows h.next
            ∙ sym (ap (map (kept_row k.who)) made.rows ∙ map-append (kept_row k.who) (own_rows k.who gs) (row ∷ []));
        seen = ap (λ (v : Sights). v.rows) sights_now;
        fixed = ap (λ (v : Sights). v.fixed) sights_now;
        told = subst (IsTold k.who now) (sym told_now) (spawn_told_is k.who gs (does op) o k.told h.valid done (facts k.who now h.valid (fresh, h.accepted)) s.is h.told);
      })
    where
      defs : List SyncDef
      defs = syncs_at k.who.scene (spawned_scene k.who o)

      no_refusal : op_refusal k.who gs op ≡ None
      no_refusal = s.why ∙ sym (spawn_judged_is k gs h o) ∙ free

      fresh : Accepts k.who gs (does op)
      fresh = record { built = s.built; no_refusal = no_refusal; no_fault = refl }

      done : AllDone k.who now
      done = built_done k.who now (fresh, h.accepted)

      made : Spawns k.who gs (does op) o
      made = s.makes fresh

      has : Contains (own_rows k.who now) row
      has = subst (λ rs. Contains rs row) (sym made.rows) (Contains-push (own_rows k.who gs) row)

      nodes_now : put_by row_before (spawned_live k.who (row_of_spawn k.who k.track.next o)) k.nodes ≡ tree_of k.who now
      nodes_now = ap₂ (λ n ns. put_by row_before (spawned_live k.who (row_of_spawn k.who n o)) ns) h.next h.nodes ∙ sym (tree_made k.who gs (does op) o made h.valid h.accepted (facts k.who gs h.valid h.accepted))

      sights_now : with_row k.peers.up k.track.next defs k.track.sights ≡ all_sights k.who now
      sights_now =
          ap₂ (λ us n. with_row us n defs k.track.sights) h.up h.next
          ∙ ap (with_row (peers_up gs) (next_number k.who gs) defs) (sights_are k gs h)
          ∙ sym (sights_spawn k.who gs (does op) o done s.is)

      told_among : List Live → ℕ → Sights → ToldValues
      told_among ns n v = shown_to_all k.who.scene ns (kept_row k.who (row_of_spawn k.who n o)) (shown_of n v) k.told

      told_now : spawn_told spawned (row_made k o) None ≡ shown_to_all k.who.scene (tree_of k.who now) (kept_row k.who row) (row_sight k.who now row).shown k.told
      told_now =
          ap₂ (λ ns n. told_among ns n spawned.track.sights) nodes_now h.next
          ∙ ap (told_among (tree_of k.who now) (next_number k.who gs)) sights_now
          ∙ ap (λ bs. shown_to_all k.who.scene (tree_of k.who now) (kept_row k.who row) bs k.told) (shown_is k.who now row has)

  spawn_by : (r : Option Refusal) → spawn_judged k.who k.nodes k.track.rows k.track.next o ≡ r → Right form k es (Op op) (spawn_taken form k o (spawned_by k.who.id k.peers.up o k.track (kept_tree k) r))
  spawn_by (Some r) judged = refused_right form k es (Op op) r h refl (s.why ∙ sym (spawn_judged_is k gs h o) ∙ judged)
  spawn_by None judged = spawn_done judged

  made_right : Right form k es (Op op) (spawn_taken form k o (spawned_by k.who.id k.peers.up o k.track (kept_tree k) (spawn_judged k.who k.nodes k.track.rows k.track.next o)))
  made_right = spawn_by (spawn_judged k.who k.nodes k.track.rows k.track.next o) refl

pub spawn_right : (form : PacketForm) (k : Kept) (es : List Event) (o : SpawnOp) → StandsFor form k es → is_built_op (Spawn o) ≡ true
    → Right form k es (Op (Spawn o)) (spawn_taken form k o (spawned_by k.who.id k.peers.up o k.track (kept_tree k) (spawn_judged k.who k.nodes k.track.rows k.track.next o)))
spawn_right form k es o h built =
    let gs = accepted_events form k.who es in
    made_right form k es (Spawn o) o h (record { built = built; why = refl; is = refl; makes = by_scene k.who gs o; next = next_spawn k.who gs o; quiet = refl })

pub custom_right : (form : PacketForm) (k : Kept) (es : List Event) (o : SpawnOp) → StandsFor form k es → is_built_op (Custom o) ≡ true
    → Right form k es (Op (Custom o)) (spawn_taken form k o (spawned_by k.who.id k.peers.up o k.track (kept_tree k) (spawn_judged k.who k.nodes k.track.rows k.track.next o)))
custom_right form k es o h built =
    let gs = accepted_events form k.who es in
    made_right form k es (Custom o) o h (record { built = built; why = refl; is = refl; makes = by_custom k.who gs o; next = next_custom k.who gs o; quiet = refl })

-- a despawn

module _ (form : PacketForm) (k : Kept) (es : List Event) (path : List ℕ) (h : StandsFor form k es) where
  despawn_done : despawn_judged k.who k.nodes path ≡ None → Right form k es (Op (Despawn path)) (despawn_taken form k (despawned_by path (number_at k.nodes path) k.track (kept_tree k) None))
  despawn_done free = done_right form k j es (Op (Despawn path)) (done_with (map (λ b. sent_to form b (packet.Despawn (number_at k.nodes path))) (shown_of (number_at k.nodes path) k.track.sights))) refl refl no_refusal refl
      (ap₂ (λ n v. done_with (map (λ b. sent_to form b (packet.Despawn n)) (shown_of n v))) num_is (sights_are k gs h)
      ∙ ap done_with
      (ap (map (λ b. sent_to form b (packet.Despawn own.row.num))) (shown_is k.who gs own.row own.has)
      ∙ sent_to_each form k.who (packet.Despawn own.row.num) (row_sight k.who gs own.row).shown (all-filter (is_direct k.who) (λ b. sees k.who gs b own.row) (peers_up gs) (all_direct k.who gs h.accepted)))
      ∙ sym (done_sends form k.who e gs _ (sends_despawn k.who gs path own.row h.valid done own.has own.path_is) refl refl refl))
      (record {
        live = h.live;
        valid = h.valid;
        accepted = (fresh, h.accepted);
        me = h.me;
        come = h.come;
        up = h.up;
        nodes = ap (without_spawned path) h.nodes ∙ sym (tree_despawn k.who gs h.valid h.accepted known path fresh);
        next = h.next ∙ sym (next_kept k.who gs e refl);
        rows = ap₂ (λ n rs. filter (λ (x : SpawnedRow). not (nat_eq x.num n)) rs) num_is h.rows
            ∙ filter-map (kept_row k.who) (λ (x : SpawnedRow). not (nat_eq x.num own.row.num)) (own_rows k.who gs)
            ∙ ap (map (kept_row k.who)) (filter_same (λ (x : OwnRow). not (nat_eq x.num own.row.num)) (leaves e) (own_rows k.who gs)
            (every_map (SameBy (λ (x : OwnRow). x.path) (λ (x : OwnRow). x.num) own.row) (λ (x : OwnRow). not (nat_eq x.num own.row.num) ≡ leaves e x) (λ x same. ap not (sym same ∙ ap (λ p. text_eq p x.path) own.path_is)) (own_rows k.who gs) (own_same_by k.who gs done.1 own.row own.has))
            ∙ sym (rows_despawn k.who gs path));
        seen = ap (λ (v : Sights). v.rows) sights_now;
        fixed = ap (λ (v : Sights). v.fixed) sights_now;
        told = subst (λ ids. IsTold k.who (does (Despawn path) ∷ gs) (hidden_from_all ids (shown_of (number_at k.nodes path) k.track.sights) k.told)) (sym ids_are) (despawn_told_is k.who gs path own.row (shown_of (number_at k.nodes path) k.track.sights) k.told h.valid done own.has own.path_is h.told);
      })
    where
      gs : List Heard
      gs = accepted_events form k.who es

      e : Heard
      e = does (Despawn path)

      j : Kept
      j = (despawn_taken form k (despawned_by path (number_at k.nodes path) k.track (kept_tree k) None)).kept

      no_refusal : refusal_of k.who gs (does (Despawn path)) ≡ None
      no_refusal = sym (despawn_judged_is k gs h path) ∙ free

      known : Facts k.who gs
      known = facts k.who gs h.valid h.accepted

      fresh : Accepts k.who gs (does (Despawn path))
      fresh = record { built = refl; no_refusal = no_refusal; no_fault = refl }

      done : AllDone k.who (does (Despawn path) ∷ gs)
      done = built_done k.who (does (Despawn path) ∷ gs) (fresh, h.accepted)

      there : (n : Live) × (node_at k.who gs path ≡ Some n) × (is_row_of k.who.id n ≡ true)
      there = some_passes (is_row_of k.who.id) (node_at k.who gs path) (despawn_is_own k.who gs path fresh).1

      own : IsOwnAt k.who gs path
      own = own_at k.who gs h.valid h.accepted known path there.0 there.1 there.2

      num_is : number_at k.nodes path ≡ own.row.num
      num_is = ap (λ ns. number_at ns path) h.nodes ∙ number_is k.who gs path own

      ids_are : ids_with (number_at k.nodes path) k.track.rows ≡ own.row.ids
      ids_are = ap₂ ids_with num_is h.rows ∙ ap (λ o. or_else (option_map (λ (r : SpawnedRow). r.ids) o) []) (kept_found k.who gs own.row own.has)

      sights_now : without_row (number_at k.nodes path) k.track.sights ≡ all_sights k.who (does (Despawn path) ∷ gs)
      sights_now = ap₂ without_row num_is (sights_are k gs h) ∙ sym (sights_despawn k.who gs path own.row done.1 own.has own.path_is)

  despawn_by : (r : Option Refusal) → despawn_judged k.who k.nodes path ≡ r → Right form k es (Op (Despawn path)) (despawn_taken form k (despawned_by path (number_at k.nodes path) k.track (kept_tree k) r))
  despawn_by (Some r) judged = refused_right form k es (Op (Despawn path)) r h refl (sym (despawn_judged_is k (accepted_events form k.who es) h path) ∙ judged)
  despawn_by None judged = despawn_done judged

  pub despawn_right : Right form k es (Op (Despawn path)) (despawn_taken form k (despawned_by path (number_at k.nodes path) k.track (kept_tree k) (despawn_judged k.who k.nodes path)))
  despawn_right = despawn_by (despawn_judged k.who k.nodes path) refl
