-- What a peer reports is what the definitions report.
use Rattle.std.proofs.Common.{◌≡◌, ℤ, Bool, true, false, List, ◌++◌, map, refl, sym, ap, ap₂, ◌∙◌, subst}
use Rattle.std.specs.Prelude.{option_map, if◌then◌else◌}
use Rattle.std.specs.Ordering.{int_eq}
use Rattle.gd_variant.specs.Words.{or_else}
use Rattle.scene_model.specs.declared.scene.Scene.{Scene}
use Rattle.scene_model.specs.declared.scene.Node.{Node}
use Rattle.scene_model.specs.declared.world.WorldEvent.{WorldEvent}
use Rattle.scene_model.specs.Valid.{IsValidScene}
use Rattle.peer_model.specs.Heard.{Heard}
use Rattle.peer_model.specs.Peers.{peers_up}
use Rattle.peer_model.specs.Rows.{own_rows}
use Rattle.peer_model.specs.Updates.{Live, Replica, fixed_live, live_at}
use Rattle.peer_model.specs.View.{view, own_live, own_values, values_seen, fixed_now, rows_of, authorities, report_of, row_of}
use Rattle.peer_laws.proofs.Joined.{flat_each, map_each}
use Rattle.peer_steps.specs.Kept.{Kept}
use Rattle.peer_core.specs.Forms.{packet_form}
use Rattle.peer_steps.proofs.Clauses as clauses
use Rattle.peer_model.specs.Bytes.{accepted_events}
use Rattle.world_model.specs.World.{World, peer_of, accepted_at, events_at}
use Rattle.world_model.specs.Happens.{world}
use Rattle.world_model.specs.Replicas.{is_joined, replica, rows_at, fixed_at, reported}
use Rattle.world_steps.specs.Framed.{ReportsValues}
use Rattle.world_steps.specs.Scripts.{Happened, ReplicasSettle, TellsValues}
use Rattle.world_steps.specs.Steps.{kept_report}
use Rattle.world_steps.specs.Stands.{IsPeer}
use Rattle.world_steps.proofs.Runs.{events_are, heard_is}
use Rattle.world_steps.proofs.Joins.{Run}
use Rattle.world_steps.proofs.Happenings.{runs}
use Rattle.world_steps.proofs.Pairs.{joined_parts, pair_of, whole_seen, values_known, prefix_seen, replica_seen}

-- what is seen of each joined peer is its replica
abbrev SeesReplicas : Scene → World → ℤ → Type 0
SeesReplicas s w b = (a : ℤ) → is_joined w a b ≡ true → view (peer_of s b) (accepted_at packet_form s w b) a ≡ replica packet_form s w a b

rows_same : (s : Scene) (w : World) (b a : ℤ) → SeesReplicas s w b → rows_of (peer_of s b) (accepted_at packet_form s w b) a ≡ rows_at packet_form s w b a
rows_same s w b a sees = step (is_joined w a b) refl
  where
    own : List Live
    own = map (own_live (peer_of s b) (accepted_at packet_form s w b)) (own_rows (peer_of s b) (accepted_at packet_form s w b))

    seen : List Live
    seen = (view (peer_of s b) (accepted_at packet_form s w b) a).rows

    step : (c : Bool) → is_joined w a b ≡ c → (if int_eq a b then own else seen) ≡ (if int_eq a b then own else if c then (replica packet_form s w a b).rows else seen)
    step true e = ap (λ (q : Replica). if int_eq a b then own else q.rows) (sees a e)
    step false e = refl

fixed_same : (s : Scene) (w : World) (b : ℤ) (n : Node) → SeesReplicas s w b → fixed_now (peer_of s b) (accepted_at packet_form s w b) n ≡ fixed_at packet_form s w b n
fixed_same s w b n sees = step (is_joined w n.auth b) refl
  where
    gs : List Heard
    gs = accepted_at packet_form s w b

    step : (c : Bool) → is_joined w n.auth b ≡ c
        → record (fixed_live n) { values = if int_eq n.auth b then own_values (peer_of s b) gs n.path n.props else values_seen (peer_of s b) gs n }
        ≡ record (fixed_live n) {
          values = if int_eq n.auth b then own_values (peer_of s b) gs n.path n.props
              else if c then or_else (option_map (λ (m : Live). m.values) (live_at (replica packet_form s w n.auth b).fixed n.path)) n.props else values_seen (peer_of s b) gs n;
        }
    step true e = ap (λ (q : Replica). record (fixed_live n) {
      values = if int_eq n.auth b then own_values (peer_of s b) gs n.path n.props
          else or_else (option_map (λ (m : Live). m.values) (live_at q.fixed n.path)) n.props;
    }) (sees n.auth e)
    step false e = refl

-- a peer's own report is the one of the world
report_same : (s : Scene) (w : World) (b : ℤ) → SeesReplicas s w b → report_of (peer_of s b) (accepted_at packet_form s w b) ≡ reported packet_form s w b
report_same s w b sees =
    let gs = accepted_at packet_form s w b in
    ap₂ (λ xs ys. record { peers = peers_up gs; rows = map row_of (xs ++ ys) })
    (map_each (fixed_now (peer_of s b) gs) (fixed_at packet_form s w b) s.nodes (λ n. fixed_same s w b n sees))
    (flat_each (rows_of (peer_of s b) gs) (rows_at packet_form s w b) (λ a. rows_same s w b a sees) (authorities (peer_of s b) gs))

sees_replicas : (s : Scene) (es : List WorldEvent) (b : ℤ) → IsValidScene s → Happened s es → Run s (world packet_form s es) → SeesReplicas s (world packet_form s es) b
sees_replicas s es b valid h r a joined = replica_seen s (world packet_form s es) a b valid r (pair_of s es a b valid h r joined)

pub world_report : (s : Scene) (es : List WorldEvent) (b : ℤ) → IsValidScene s → Happened s es → report_of (peer_of s b) (accepted_at packet_form s (world packet_form s es) b) ≡ reported packet_form s (world packet_form s es) b
world_report s es b valid h = report_same s (world packet_form s es) b (sees_replicas s es b valid h (runs s valid es h))

-- after a frame since which nothing changed, with nothing in flight, the report has each on-change value that the peer may see
pub values_reported : (s : Scene) (es : List WorldEvent) (a b : ℤ) → IsValidScene s → Happened s es → is_joined (world packet_form s es) a b ≡ true → TellsValues s (world packet_form s es) a b (reported packet_form s (world packet_form s es) b)
values_reported s es a b valid h joined quiet framed =
    let w = world packet_form s es in
    subst (ReportsValues (peer_of s a) (accepted_at packet_form s w a) b) (world_report s es b valid h) (values_known s w a b valid (runs s valid es h) (joined_parts w a b joined) quiet framed).reported

-- what is kept of a peer reports so
pub kept_same : (s : Scene) (es : List WorldEvent) (b : ℤ) (k : Kept) → IsValidScene s → Happened s es → IsPeer s (world packet_form s es) b k → kept_report k ≡ reported packet_form s (world packet_form s es) b
kept_same s es b k valid h p =
    let w = world packet_form s es in
    let r = runs s valid es h in
    clauses.reported k (accepted_events packet_form k.who (events_at w b)) p.stands
    ∙ ap (λ x. report_of x (accepted_events packet_form x (events_at w b))) p.who
    ∙ ap (report_of (peer_of s b)) (events_are s w r.core b ∙ sym (heard_is s w r.core b))
    ∙ world_report s es b valid h

pub replicas_settle : ReplicasSettle
replicas_settle s valid es h a b joined =
    let w = world packet_form s es in
    let r = runs s valid es h in
    record {
      prefix = prefix_seen s w a b valid r (pair_of s es a b valid h r joined);
      all_visible = whole_seen s w a b valid r (joined_parts w a b joined);
      values = λ quiet framed. (values_known s w a b valid r (joined_parts w a b joined) quiet framed).seen;
      told = world_report s es b valid h;
      reports = values_reported s es a b valid h joined;
    }
