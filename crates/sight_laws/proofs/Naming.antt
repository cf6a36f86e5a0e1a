-- By which place an accepted setting names a fixed synchronizer.
use Rattle.std.proofs.Common.{◌≡◌, ℕ, Bool, true, false, not, List, sym, ap, ◌∙◌, nat_lt, arith, is_some, Some, None}
use Rattle.std.specs.Prelude.{is_none, option_and_then, if◌then◌else◌}
use Rattle.std.proofs.lemmas.Bool.{ltb-true}
use Rattle.gd_variant.specs.Words.{some_is}
use Rattle.scene_model.specs.declared.scene.Node.{Node}
use Rattle.scene_model.specs.declared.event.Op.TheVariants.{Public, For, Filter}
use Rattle.scene_model.specs.declared.outcome.Refusal.TheVariants.{NoNode, NoSync}
use Rattle.scene_model.specs.Lookup.{fixed_node, sync_of}
use Rattle.peer_model.specs.Heard.{Who, Heard, does}
use Rattle.peer_model.specs.Refusals.{has_syncer, named_syncs, sight_refusal, peers_full, filters_full}
use Rattle.peer_model.specs.View.{node_at}
use Rattle.peer_model.proofs.Nodes.{fixed_is_there}
use Rattle.peer_laws.proofs.Tests.{no_row, not_false, some_of}
use Rattle.peer_laws.proofs.Once.{found_is_has}
use Rattle.world_laws.specs.Done.{IsDone}
use Rattle.sight_laws.specs.Seen.{SightSet, set_in}
use Rattle.sight_laws.specs.Laws.{SetFixedIsFirst}

allowed : (who : Who) (es : List Heard) (path : List ℕ) (k : ℕ) (full : Bool) → sight_refusal who es path k full ≡ None → has_syncer who es path k ≡ true
allowed who es path k full h = not_false (has_syncer who es path k) (no_row (not (has_syncer who es path k)) NoSync _ (no_row (is_none (node_at who es path)) NoNode _ h).1).0

some_same : (a b : SightSet) → Some a ≡ Some b → a ≡ b
some_same a b q = cc

-- an accepted setting names a synchronizer that is there
named : (who : Who) (es : List Heard) (e : Heard) (s : SightSet) → IsDone who es e → set_in e ≡ Some s → has_syncer who es s.path s.place ≡ true
named who es (does (Public p k on)) s h e = let same : s ≡ _ = sym (some_same _ s e) in ap (λ (x : SightSet). has_syncer who es x.path x.place) same ∙ allowed who es p k false h.no_refusal
named who es (does (For p k b on)) s h e = let same : s ≡ _ = sym (some_same _ s e) in ap (λ (x : SightSet). has_syncer who es x.path x.place) same ∙ allowed who es p k (peers_full who es p k b) h.no_refusal
named who es (does (Filter p k peers)) s h e = let same : s ≡ _ = sym (some_same _ s e) in ap (λ (x : SightSet). has_syncer who es x.path x.place) same ∙ allowed who es p k (filters_full who es p k) h.no_refusal
named who es e s h k = absurd (cc k)

first_of_one : (k : ℕ) (t : Bool) → nat_lt k (if t then 1 else 0) ≡ true → k ≡ 0
first_of_one k true h = omega (arith, ltb-true k 1 h)
first_of_one k false h = absurd (omega (arith, ltb-true k 0 h))

-- at a fixed node that place is the first
pub set_fixed_is_first : SetFixedIsFirst
set_fixed_is_first who es e s done h fixed =
    let found = some_of (fixed_node who.scene s.path) (found_is_has (λ (n : Node). n.path) s.path who.scene.nodes ∙ fixed) in
    first_of_one s.place (is_some (option_and_then sync_of (fixed_node who.scene found.0.path)))
    (sym (ap (some_is (λ n. nat_lt s.place (named_syncs who n))) (fixed_is_there who es s.path found.0 found.1)) ∙ named who es e s done h)
