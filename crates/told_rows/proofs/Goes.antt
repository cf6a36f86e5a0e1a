-- Which properties go out with a spawn.
use Rattle.std.proofs.Common.{◌≡◌, ℕ, Bool, true, false, cond, ◌&&◌, ◌||◌, List, [], ◌∷◌, refl, ap, ◌∙◌, map, filter}
use Rattle.std.specs.List.{list_any}
use Rattle.gd_variant.specs.Words.{has_text, text_eq}
use Rattle.scene_model.specs.declared.scene.SyncDef.{SyncDef}
use Rattle.scene_model.specs.declared.scene.SyncProp.{SyncProp}
use Rattle.scene_model.specs.Syncs.{spawn_props}
use Rattle.scene_model.proofs.ListLaws.{any_ext, any-flat_map}
use Rattle.peer_model.specs.Updates.{all_spawn_props}
use Rattle.told_rows.specs.Values.{goes_out}

goes : (name : List ℕ) (ps : List SyncProp) → list_any (text_eq name) (map (λ (p : SyncProp). p.prop) (filter (λ (p : SyncProp). p.spawn) ps)) ≡ goes_out name ps
goes name [] = refl
goes name (p ∷ ps) = step p.spawn (goes name ps)
  where
    step : (b : Bool) → list_any (text_eq name) (map (λ (q : SyncProp). q.prop) (filter (λ (q : SyncProp). q.spawn) ps)) ≡ goes_out name ps
        → list_any (text_eq name) (map (λ (q : SyncProp). q.prop) (cond b (p ∷ filter (λ (q : SyncProp). q.spawn) ps) (filter (λ (q : SyncProp). q.spawn) ps))) ≡ ((b && text_eq name p.prop) || goes_out name ps)
    step true h = ap (λ c. text_eq name p.prop || c) h
    step false h = h

-- a name is among the spawn properties of some synchronizers where one of them has it
pub spawn_any : (name : List ℕ) (defs : List SyncDef) → has_text name (all_spawn_props defs) ≡ list_any (λ (d : SyncDef). goes_out name d.props) defs
spawn_any name defs = any-flat_map (text_eq name) spawn_props defs ∙ any_ext (λ (d : SyncDef). list_any (text_eq name) (spawn_props d)) (λ (d : SyncDef). goes_out name d.props) (λ d. goes name d.props) defs
