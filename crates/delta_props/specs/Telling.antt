-- The values that each peer was told of each synchronizer's on-change properties, and what it is told where a value differs.
use Rattle.std.specs.Prelude.{ℕ, ◌+◌, ℤ, Bool, not, ◌&&◌, List, [], ◌∷◌, map, filter, slice_get, nat_eq, Option, Some, None, option_map, option_and_then, if◌then◌else◌}
use Rattle.std.specs.List.{cons_option}
use Rattle.std.specs.Map.{lookup}
use Rattle.std.specs.Ordering.{int_eq}
use Rattle.indexmap.specs.IndexMap.{insert_entry, swap_remove_entry}
use Rattle.gd_variant.specs.Words.{some_is, or_else}
use Rattle.gd_variant.specs.Tree.{same_value}
use Rattle.gd_variant.specs.declared.value.Variant.{Variant}
use Rattle.gd_variant.specs.declared.value.Variant.TheVariants.{Nil}
use Rattle.gd_variant.specs.declared.message.DeltaEntry.{DeltaEntry}
use Rattle.scene_model.specs.declared.scene.Scene.{Scene}
use Rattle.scene_model.specs.declared.scene.SyncDef.{SyncDef}
use Rattle.scene_model.specs.declared.scene.SyncProp.{SyncProp}
use Rattle.scene_model.specs.declared.spawn.SyncRef.{SyncRef}
use Rattle.scene_model.specs.Lookup.{fixed_node, sync_of, value_in}
use Rattle.scene_model.specs.Nodes.{Live, live_at}
use Rattle.scene_model.specs.Syncs.{is_on_change, change_props}
use Rattle.peer_model.specs.Rows.{syncs_at}
use Rattle.peer_model.specs.Updates.{masked}
use Rattle.peer_model.specs.Changes.{mask_of}

-- the values that were told, by peer and synchronizer
abbrev pub ToldValues : Type 0
ToldValues = List ((ℤ × ℕ) × List Variant)

-- whether a key is that of a peer and a synchronizer
abbrev pub is_key : ℤ → ℕ → ℤ × ℕ → Bool
is_key b id key = int_eq b key.0 && nat_eq id key.1

-- the values that a peer was told of a synchronizer, where it was told any
abbrev pub told_of : ℤ → ℕ → ToldValues → Option (List Variant)
told_of b id t = lookup (is_key b id) t

-- a peer counts as told these values of a synchronizer
abbrev pub with_told : ℤ → ℕ → List Variant → ToldValues → ToldValues
with_told b id vs t = insert_entry (λ (x y : ℤ × ℕ). is_key x.0 x.1 y) t (b, id) vs

-- nothing counts as told of a synchronizer to a peer; the last entry takes the place of the one that goes
abbrev pub without_sync : ℤ → ℕ → ToldValues → ToldValues
without_sync b id t = swap_remove_entry (is_key b id) t

-- nothing counts as told to a peer
abbrev pub without_peer : ℤ → ToldValues → ToldValues
without_peer b t = filter (λ (e : (ℤ × ℕ) × List Variant). not (int_eq e.0.0 b)) t

-- the names of the on-change properties among those of a synchronizer
abbrev pub changes_in : List SyncProp → List (List ℕ)
changes_in props = map (λ (p : SyncProp). p.prop) (filter (λ (p : SyncProp). is_on_change p.mode) props)

-- the value that a node has of a property
abbrev pub value_of : Live → List ℕ → Variant
value_of n prop = or_else (value_in n.values prop) Nil

-- whether the value that was told at a place isn't this one, or none was told
abbrev pub is_untold : Option (List Variant) → ℕ → Variant → Bool
is_untold told i v = not (some_is (same_value v) (option_and_then (λ vs. slice_get vs i) told))

-- 1 where a test holds, else 0
abbrev pub bit_of : Bool → ℕ
bit_of b = if b then 1 else 0

-- whether the present value of each property isn't the one that was told, the places counted on from a number
abbrev pub untold : (List ℕ → Variant) → Option (List Variant) → ℕ → List (List ℕ) → List Bool
untold now told i [] = []
untold now told i (p ∷ ps) = is_untold told i (now p) ∷ untold now told (i + 1) ps

-- what a peer is told of properties in a mask, and what counts as told then: all present values; an empty mask tells nothing
abbrev pub told_by : ℤ → ℕ → (List ℕ → Variant) → List (List ℕ) → ℕ → ToldValues → Option DeltaEntry × ToldValues
told_by b id now props mask t =
    if nat_eq mask 0 then (None, t)
    else (Some (record { id = id; mask = mask; values = map now (masked mask props) }), with_told b id (map now props) t)

-- the same for those of a synchronizer whose values differ from those that were told
abbrev pub told_one : ℤ → ℕ → Live → SyncDef → ToldValues → Option DeltaEntry × ToldValues
told_one b id n d t = told_by b id (value_of n) (change_props d) (mask_of (untold (value_of n) (told_of b id t) 0 (change_props d))) t

-- a fixed synchronizer: the node that it serves, and what it replicates
abbrev pub fixed_sync : Scene → List Live → List ℕ → Option (Live × SyncDef)
fixed_sync s nodes path = option_and_then (λ (d : SyncDef). option_map (λ (m : Live). (m, d)) (live_at nodes d.of)) (option_and_then sync_of (fixed_node s path))

-- a synchronizer of a node with this place among the scenes; a fixed node is one itself
abbrev pub sync_by : Scene → List Live → ℕ → Live → Option ℕ → Option (Live × SyncDef)
sync_by s nodes k n None = fixed_sync s nodes n.path
sync_by s nodes k n (Some place) = option_map (λ (d : SyncDef). (n, d)) (slice_get (syncs_at s (Some place)) k)

-- a synchronizer of a node
abbrev pub sync_at : Scene → List Live → ℕ → Live → Option (Live × SyncDef)
sync_at s nodes k n = sync_by s nodes k n n.place

-- the synchronizer that is named by a path and a place
abbrev pub sync_named : Scene → List Live → List ℕ → ℕ → Option (Live × SyncDef)
sync_named s nodes path k = option_and_then (sync_at s nodes k) (live_at nodes path)

-- what a peer is told of a synchronizer with this id, where there is one
abbrev pub told_sync : ℤ → ℕ → Option (Live × SyncDef) → ToldValues → Option DeltaEntry × ToldValues
told_sync b id None t = (None, t)
told_sync b id (Some y) t = told_one b id y.0 y.1 t

-- the first entry, where there is one, before others
abbrev pub with_first : Option DeltaEntry → List DeltaEntry × ToldValues → List DeltaEntry × ToldValues
with_first e r = (cons_option e r.0, r.1)

-- what a peer is told of synchronizers in order, and what counts as told then
abbrev pub collected : ℤ → Scene → List Live → List SyncRef → ToldValues → List DeltaEntry × ToldValues
collected b s nodes [] t = ([], t)
collected b s nodes (x ∷ xs) t =
    with_first (told_sync b x.id (sync_named s nodes x.path x.k) t).0
    (collected b s nodes xs (told_sync b x.id (sync_named s nodes x.path x.k) t).1)
