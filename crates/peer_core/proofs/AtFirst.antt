-- A new peer stands for no events.
use Rattle.std.proofs.Common.{◌≡◌, ℤ, false, [], sym, ap₂, ◌∙◌, subst}
use Rattle.scene_model.specs.declared.scene.Scene.{Scene}
use Rattle.scene_model.specs.Valid.{IsValidScene}
use Rattle.headless_tree.specs.Nodes.{TreeOf}
use Rattle.delta_props.specs.Telling.{ToldValues}
use Rattle.peer_steps.specs.Kept.{kept_tree, new_peer}
use Rattle.peer_steps.specs.Peers.{Peers, no_peers}
use Rattle.peer_steps.specs.Stands.{StandsFor}
use Rattle.peer_steps.specs.Track.{Track, first_track}
use Rattle.peer_steps.proofs.Clauses.{start_stands}
use Rattle.peer_core.specs.Forms.{packet_form}
use Rattle.peer_core.specs.Parts.{parts_kept}

pub new_stands : (p : Peers) (t : TreeOf) (r : Track) (old : ToldValues) (id : ℤ) (s : Scene) → IsValidScene s → p ≡ no_peers id → t ≡ kept_tree (new_peer s id) → r ≡ first_track s id → old ≡ [] → StandsFor packet_form (parts_kept false p t r old) []
new_stands p t r old id s valid peers tree track told =
    subst (λ k. StandsFor packet_form k []) (sym (ap₂ (λ (q : Peers) (u : TreeOf). parts_kept false q u r old) peers tree ∙ ap₂ (λ (w : Track) (d : ToldValues). parts_kept false (no_peers id) (kept_tree (new_peer s id)) w d) track told)) (start_stands packet_form s id valid)
