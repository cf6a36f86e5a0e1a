-- Why an event is refused or a fault, by what is kept.
use Rattle.std.specs.Prelude.{ℕ, ℤ, Bool, not, ◌&&◌, ◌||◌, List, [], ◌∷◌, nat_lt, Option, Some, None, is_none}
use Rattle.std.specs.Ordering.{int_eq}
use Rattle.gd_variant.specs.Words.{has_int, some_is, when, first_of}
use Rattle.gd_variant.specs.declared.value.Variant.{Variant}
use Rattle.scene_model.specs.declared.outcome.Refusal.{Refusal}
use Rattle.scene_model.specs.declared.outcome.Refusal.TheVariants.{NoNode, NotSpawned, NotAuthority, NoSync, VisFull, NoProp, ValueTooLong}
use Rattle.scene_model.specs.declared.outcome.Fault.{Fault}
use Rattle.scene_model.specs.declared.outcome.Fault.TheVariants as fault
use Rattle.peer_model.specs.Heard.{Who, server}
use Rattle.peer_model.specs.Updates.{Live, live_at}
use Rattle.peer_model.specs.View.{fits}
use Rattle.peer_model.specs.Refusals.{owns, has_live_prop, is_spawned, named_syncs}
use Rattle.peer_model.specs.Faults.{despawn_fault}
use Rattle.peer_laws.specs.Facts.{rows_under}
use Rattle.headless_tree.specs.Nodes.{assigned}
use Rattle.peer_steps.specs.Peers.{Peers}

-- whether neither of two peers is the server; each link has the server at one end
abbrev pub lacks_server : ℤ → ℤ → Bool
lacks_server a b = not (int_eq a server) && not (int_eq b server)

-- why an assignment is refused
abbrev pub set_judged : Who → List Live → List ℕ → List ℕ → Variant → Option Refusal
set_judged who nodes path prop value = first_of (
    when (is_none (live_at nodes path)) NoNode
    ∷ when (not (owns who (live_at nodes path))) NotAuthority
    ∷ when (not (has_live_prop prop (live_at nodes path))) NoProp
    ∷ when (not (fits value)) ValueTooLong
    ∷ [])

-- the nodes after an assignment, unless it is refused
abbrev pub set_nodes : Option Refusal → List ℕ → List ℕ → Variant → List Live → List Live
set_nodes (Some r) path prop value nodes = nodes
set_nodes None path prop value nodes = assigned path prop value nodes

-- why a despawn is refused
abbrev pub despawn_judged : Who → List Live → List ℕ → Option Refusal
despawn_judged who nodes path = first_of (
    when (is_none (live_at nodes path)) NoNode
    ∷ when (not (is_spawned (live_at nodes path))) NotSpawned
    ∷ when (not (owns who (live_at nodes path))) NotAuthority
    ∷ [])

-- why a setting of visibility is refused, by whether there is no room for it
abbrev pub sight_judged : Who → List Live → List ℕ → ℕ → Bool → Option Refusal
sight_judged who nodes path k full = first_of (
    when (is_none (live_at nodes path)) NoNode
    ∷ when (not (some_is (λ n. nat_lt k (named_syncs who n)) (live_at nodes path))) NoSync
    ∷ when (not (owns who (live_at nodes path))) NotAuthority
    ∷ when full VisFull
    ∷ [])

-- why a received despawn is a fault
abbrev pub hidden_judged : List Live → ℤ → ℕ → Option Fault
hidden_judged nodes c net = despawn_fault net (rows_under c nodes)

-- why no packet is taken from a link
abbrev pub link_judged : Peers → ℤ → Option Fault
link_judged p from = when (not (has_int from p.up) || lacks_server p.me from) (fault.UnknownPeer from)
