-- Fixed nodes by their places.
use Rattle.std.proofs.Common.{◌≡◌, ℕ, Bool, List, sym, ap, ◌∙◌, Some, None}
use Rattle.std.specs.Prelude.{position, find, slice_get}
use Rattle.gd_variant.specs.Words.{text_eq}
use Rattle.scene_model.specs.declared.scene.Scene.{Scene}
use Rattle.scene_model.specs.declared.scene.Node.{Node}
use Rattle.scene_model.specs.Lookup.{fixed_node}
use Rattle.scene_model.proofs.TextLaws.{text_eq-sym}
use Rattle.headless_tree.proofs.Places.{found_at, not_found}

at_path : (s : Scene) (path : List ℕ) → find (λ (n : Node). text_eq path n.path) s.nodes ≡ fixed_node s path
at_path s path = let same : (λ (n : Node). text_eq path n.path) ≡ (λ (n : Node). text_eq n.path path) = λ i n. text_eq-sym path n.path i in ap (λ (p : Node → Bool). find p s.nodes) same

-- the fixed node at the place that a call found
pub node_found : (s : Scene) (path told : List ℕ) (i : ℕ) → told ≡ path → position (λ (n : Node). text_eq told n.path) s.nodes ≡ Some i → slice_get s.nodes i ≡ fixed_node s path
node_found s path told i same h = found_at (λ (n : Node). text_eq told n.path) s.nodes i h ∙ at_path s told ∙ ap (fixed_node s) same

-- there is none where it found no place
pub node_missing : (s : Scene) (path told : List ℕ) → told ≡ path → position (λ (n : Node). text_eq told n.path) s.nodes ≡ None → None ≡ fixed_node s path
node_missing s path told same h = sym (not_found (λ (n : Node). text_eq told n.path) s.nodes h) ∙ at_path s told ∙ ap (fixed_node s) same
