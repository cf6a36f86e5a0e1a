-- What the clauses of a peer's calls come to: a new peer, a step by what it took, and a report.
use Rattle.std.proofs.Common.{◌≡◌, ℤ, Bool, true, false, List, [], ◌∷◌, refl, sym, ap, ap₂, ◌∙◌, subst, map, Option, Some, None, Result, Ok, Err}
use Rattle.std.specs.Prelude.{if◌then◌else◌}
use Rattle.gd_variant.specs.declared.message.Message.{Message}
use Rattle.gd_variant.specs.declared.message.Bad.{Bad}
use Rattle.scene_model.specs.declared.event.Event.{Event}
use Rattle.scene_model.specs.declared.event.Event.TheVariants.{Op, Up, Down, Received}
use Rattle.scene_model.specs.declared.event.Op.{Op as Operation}
use Rattle.scene_model.specs.declared.event.Op.TheVariants.{Spawn, Custom, Despawn, Set, Public, For, Filter, Frame}
use Rattle.scene_model.specs.declared.outcome.Outcome.TheVariants.{Refused}
use Rattle.scene_model.specs.declared.outcome.Refusal.TheVariants.{BadPeer}
use Rattle.scene_model.specs.declared.outcome.Fault.{Fault as FaultOf}
use Rattle.scene_model.specs.declared.outcome.Outcome.{Outcome}
use Rattle.scene_model.specs.declared.scene.Scene.{Scene}
use Rattle.scene_model.specs.Valid.{IsValidScene}
use Rattle.peer_model.specs.Heard.{Who, Heard}
use Rattle.peer_model.specs.View.{report_of, row_of}
use Rattle.peer_model.specs.Bytes.{PacketForm}
use Rattle.peer_laws.proofs.TreeStart.{tree_start}
use Rattle.sight_laws.specs.Sights.{Sights}
use Rattle.sight_laws.proofs.Stepping.{sights_at_first}
use Rattle.telling_laws.proofs.Nexts.{none_told}
use Rattle.peer_steps.specs.Kept.{Kept, new_peer}
use Rattle.peer_steps.specs.Stands.{HasParts, StandsFor, is_answered, built_answer, is_built_event}
use Rattle.peer_steps.specs.Peers.{peer_comes}
use Rattle.peer_steps.specs.Judged.{lacks_server, link_judged}
use Rattle.peer_steps.specs.Steps.{Taken, taken, unchanged, up_taken, op_taken, message_taken, linked_taken, read_taken, RowNews, appears, disappears, changes, row_read, is_done}
use Rattle.peer_steps.proofs.Whole.{taken_right, kept_still}

-- a new peer stands for no events
pub start_stands : (form : PacketForm) (s : Scene) (id : ℤ) → IsValidScene s → StandsFor form (new_peer s id) []
start_stands form s id valid = record {
  live = refl;
  valid = valid;
  accepted = tt;
  me = refl;
  come = refl;
  up = refl;
  nodes = sym (tree_start (record { id = id; scene = s }) valid);
  next = refl;
  rows = refl;
  seen = refl;
  fixed = ap (λ (v : Sights). v.fixed) (sym (sights_at_first (record { id = id; scene = s })));
  told = none_told (record { id = id; scene = s });
}

-- a step that made this outcome and keeps this

pub step_answers : (form : PacketForm) (k j : Kept) (es : List Event) (e : Event) (o : Outcome) → record { outcome = o; kept = j } ≡ taken form k e → StandsFor form k es → is_built_event e ≡ true → o ≡ built_answer form k.who es e
step_answers form k j es e o made stands built = ap (λ (t : Taken). t.outcome) made ∙ (taken_right form k es e stands built).answers

pub step_stands : (form : PacketForm) (k j : Kept) (es : List Event) (e : Event) (o : Outcome) → record { outcome = o; kept = j } ≡ taken form k e → StandsFor form k es → is_built_event e ≡ true → is_answered form k.who es e ≡ true → StandsFor form j (e ∷ es)
step_stands form k j es e o made stands built given = subst (λ (t : Taken). StandsFor form t.kept (e ∷ es)) (sym made) ((taken_right form k es e stands built).stands given)

pub step_unchanged : (form : PacketForm) (k j : Kept) (e : Event) (o : Outcome) → record { outcome = o; kept = j } ≡ taken form k e → is_done o ≡ false → j ≡ k
step_unchanged form k j e o made h = ap (λ (t : Taken). t.kept) made ∙ kept_still form k e (sym (ap (λ (t : Taken). is_done t.outcome) made) ∙ h)

-- a report tells who is up and how every node stands
pub reported : (k : Kept) (es : List Heard) → HasParts k es → record { peers = k.peers.up; rows = map row_of k.nodes } ≡ report_of k.who es
reported k es h = ap₂ (λ us ns. record { peers = us; rows = map row_of ns }) h.up h.nodes

-- a peer keeps its number and its scene, and isn't spent by what it takes

-- what no event changes
abbrev rest : Kept → Who × Bool
rest k = (k.who, k.spent)

message_rest : (k : Kept) (from : ℤ) (x : Option RowNews) → rest (message_taken k from x).kept ≡ rest k
message_rest k from None = refl
message_rest k from (Some (appears m)) = refl
message_rest k from (Some (disappears net)) = refl
message_rest k from (Some (changes ts)) = refl

linked_rest : (k : Kept) (from : ℤ) (m : Message) (o : Option FaultOf) → rest (linked_taken k from m o).kept ≡ rest k
linked_rest k from m (Some f) = refl
linked_rest k from m None = message_rest k from (row_read m)

read_rest : (k : Kept) (from : ℤ) (r : Result Message Bad) → rest (read_taken k from r).kept ≡ rest k
read_rest k from (Err bad) = refl
read_rest k from (Ok m) = linked_rest k from m (link_judged k.peers from)

link_rest : (form : PacketForm) (k : Kept) (b : ℤ) (c : Bool) → rest (if c then unchanged k (Refused BadPeer) else up_taken form k b (peer_comes b k.peers)).kept ≡ rest k
link_rest form k b true = refl
link_rest form k b false = refl

op_rest : (form : PacketForm) (k : Kept) (op : Operation) → rest (op_taken form k op).kept ≡ rest k
op_rest form k (Spawn o) = refl
op_rest form k (Custom o) = refl
op_rest form k (Despawn path) = refl
op_rest form k (Public path n on) = refl
op_rest form k (For path n b on) = refl
op_rest form k (Filter path n bs) = refl
op_rest form k (Set path prop value) = refl
op_rest form k Frame = refl
op_rest form k op = refl

same_rest : (form : PacketForm) (k : Kept) (e : Event) → rest (taken form k e).kept ≡ rest k
same_rest form k (Up b) = link_rest form k b (lacks_server k.peers.me b)
same_rest form k (Down b) = refl
same_rest form k (Op op) = op_rest form k op
same_rest form k (Received from class bytes) = read_rest k from (form.read_packet bytes)

pub same_who : (form : PacketForm) (k : Kept) (e : Event) → (taken form k e).kept.who ≡ k.who
same_who form k e = ap (λ (r : Who × Bool). r.0) (same_rest form k e)

pub step_who : (form : PacketForm) (k j : Kept) (e : Event) (o : Outcome) → record { outcome = o; kept = j } ≡ taken form k e → j.who ≡ k.who
step_who form k j e o made = ap (λ (t : Taken). t.kept.who) made ∙ same_who form k e

pub step_spent : (form : PacketForm) (k j : Kept) (e : Event) (o : Outcome) → record { outcome = o; kept = j } ≡ taken form k e → j.spent ≡ k.spent
step_spent form k j e o made = ap (λ (t : Taken). t.kept.spent) made ∙ ap (λ (r : Who × Bool). r.1) (same_rest form k e)
