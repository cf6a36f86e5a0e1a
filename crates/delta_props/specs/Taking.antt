-- A received Delta entry: which synchronizer it means, why it is a fault, and what it makes of the nodes.
use Rattle.std.specs.Prelude.{ℕ, ◌-◌, ◌/◌, ℤ, List, [], ◌∷◌, zip, position, slice_get, nat_eq, Option, Some, None, option_and_then, Result, Ok, Err, if◌then◌else◌}
use Rattle.std.specs.Ordering.{int_eq}
use Rattle.gd_variant.specs.Words.{text_eq, when, first_of}
use Rattle.gd_variant.specs.declared.value.Variant.{Variant}
use Rattle.gd_variant.specs.declared.message.DeltaEntry.{DeltaEntry}
use Rattle.scene_model.specs.declared.scene.Scene.{Scene}
use Rattle.scene_model.specs.declared.scene.Node.{Node}
use Rattle.scene_model.specs.declared.scene.Prop.{Prop}
use Rattle.scene_model.specs.declared.scene.SyncDef.{SyncDef}
use Rattle.scene_model.specs.declared.scene.SyncProp.{SyncProp}
use Rattle.scene_model.specs.declared.outcome.Fault.{Fault}
use Rattle.scene_model.specs.declared.outcome.Fault.TheVariants as fault
use Rattle.scene_model.specs.Lookup.{fixed_node_at, sync_of}
use Rattle.scene_model.specs.Nodes.{Live}
use Rattle.scene_model.specs.Syncs.{fixed_bit, change_props}
use Rattle.peer_model.specs.Rows.{syncs_at}
use Rattle.peer_model.specs.Updates.{masked}
use Rattle.peer_model.specs.Faults.{is_fixed_id, bad_mask, wrong_delta}
use Rattle.headless_tree.specs.Lists.{change_at, change_first}
use Rattle.headless_tree.specs.Nodes.{TreeOf, with_value}
use Rattle.headless_tree.specs.Numbers.{has_number}
use Rattle.delta_props.specs.declared.meaning.Meant.{Meant}
use Rattle.delta_props.specs.declared.meaning.SyncAt.{SyncAt}
use Rattle.delta_props.specs.declared.meaning.SyncAt.TheVariants.{Fixed, Row}

-- what a synchronizer at a place of the scene replicates
abbrev pub def_at : Scene → SyncAt → Option SyncDef
def_at s (Fixed i) = option_and_then sync_of (slice_get s.nodes i)
def_at s (Row place k) = slice_get (syncs_at s (Some place)) k

-- where the node stands that a fixed synchronizer serves
abbrev pub target_of : Scene → SyncDef → Option ℕ
target_of s d = position (λ (n : Node). text_eq d.of n.path) s.nodes

-- the fixed synchronizer of an authority that an id means
abbrev pub fixed_meant : Scene → ℤ → ℕ → Result Meant Fault
fixed_meant s c id = by_node (fixed_node_at s (id - fixed_bit))
  where
    by_sync : Node → Option SyncDef → Result Meant Fault
    by_sync n None = Err (fault.NoName id)
    by_sync n (Some d) = if int_eq n.auth c then Ok (record { at = Fixed (id - fixed_bit - 1); place = target_of s d }) else Err fault.NotAuthority

    by_node : Option Node → Result Meant Fault
    by_node None = Err (fault.NoName id)
    by_node (Some n) = by_sync n (sync_of n)

-- the synchronizer with an id of the spawned node at a place
abbrev pub row_sync : Scene → ℕ → ℕ → Option Live → Result Meant Fault
row_sync s id i None = Err (fault.NoSync id)
row_sync s id i (Some n) = by_place n.place
  where
    by_number : ℕ → Option ℕ → Result Meant Fault
    by_number place None = Err (fault.NoSync id)
    by_number place (Some k) = by_def (slice_get (syncs_at s (Some place)) k)
      where
        by_def : Option SyncDef → Result Meant Fault
        by_def None = Err (fault.NoSync id)
        by_def (Some d) = Ok (record { at = Row place k; place = Some i })

    by_place : Option ℕ → Result Meant Fault
    by_place None = Err (fault.NoSync id)
    by_place (Some place) = by_number place (position (nat_eq id) n.ids)

-- the same, by the place of the node that has the number
abbrev pub row_placed : Scene → List Live → ℕ → Option ℕ → Result Meant Fault
row_placed s nodes id None = Err (fault.NoSync id)
row_placed s nodes id (Some i) = row_sync s id i (slice_get nodes i)

-- the synchronizer of a row of an authority that an id means
abbrev pub row_meant : Scene → List Live → ℤ → ℕ → Result Meant Fault
row_meant s nodes c id = row_placed s nodes id (position (has_number c id) nodes)

-- the synchronizer of an authority that an id means, or why there is none
abbrev pub meant : Scene → List Live → ℤ → ℕ → Result Meant Fault
meant s nodes c id = if is_fixed_id id then fixed_meant s c id else row_meant s nodes c id

-- why an entry of a synchronizer is a fault
abbrev pub entry_judged : DeltaEntry → SyncDef → Option Fault
entry_judged t d = first_of (when (bad_mask t.mask d) (fault.BadMask t.mask) ∷ when (wrong_delta t d) fault.WrongValues ∷ [])

-- the same, where the synchronizer is known
abbrev pub def_judged : DeltaEntry → Option SyncDef → Option Fault
def_judged t None = Some (fault.NoSync t.id)
def_judged t (Some d) = entry_judged t d

-- why a received entry is a fault, by what it means
abbrev pub meant_judged : Scene → DeltaEntry → Result Meant Fault → Option Fault
meant_judged s t (Err f) = Some f
meant_judged s t (Ok x) = def_judged t (def_at s x.at)

-- why an entry that was received from a peer is a fault
abbrev pub delta_judged : Scene → List Live → ℤ → DeltaEntry → Option Fault
delta_judged s nodes c t = meant_judged s t (meant s nodes c t.id)

-- the properties of a synchronizer at a place of the scene, and one of them
abbrev pub props_at : Scene → SyncAt → List SyncProp
props_at s at = props_in (def_at s at)
  where
    props_in : Option SyncDef → List SyncProp
    props_in None = []
    props_in (Some d) = d.props

abbrev pub prop_at : Scene → SyncAt → ℕ → Option SyncProp
prop_at s at j = slice_get (props_at s at) j

-- the place of a property among the values of the node at a place
abbrev pub value_place : List Live → ℕ → Option SyncProp → Option ℕ
value_place nodes place p = option_and_then (λ (q : SyncProp). option_and_then (λ (n : Live). position (λ (x : Prop). text_eq x.name q.prop) n.values) (slice_get nodes place)) p

-- nodes after an assignment to a property of the one at a place
abbrev pub put_prop : ℕ → List ℕ → Variant → List Live → List Live
put_prop place name value nodes = change_at place (λ (n : Live). record n { values = change_first (λ (p : Prop). text_eq p.name name) (with_value value) n.values }) nodes

-- the same, where there is such a property
abbrev pub put_where : ℕ → Option SyncProp → Variant → List Live → List Live
put_where place None value nodes = nodes
put_where place (Some p) value nodes = put_prop place p.prop value nodes

-- nodes after assignments in order
abbrev pub put_props : ℕ → List (List ℕ × Variant) → List Live → List Live
put_props place [] nodes = nodes
put_props place (a ∷ more) nodes = put_props place more (put_prop place a.0 a.1 nodes)

-- nodes after the values of an entry were assigned to the properties in its mask
abbrev pub entry_put : DeltaEntry → Option SyncDef → Option ℕ → List Live → List Live
entry_put t (Some d) (Some place) nodes = put_props place (zip (masked t.mask (change_props d)) t.values) nodes
entry_put t d place nodes = nodes

-- nodes after a received entry, by why it is a fault and by what it means
abbrev pub nodes_taken : Scene → DeltaEntry → Option Fault → Result Meant Fault → List Live → List Live
nodes_taken s t None (Ok x) nodes = entry_put t (def_at s x.at) x.place nodes
nodes_taken s t f m nodes = nodes

-- an entry that was received from a peer: why it is a fault, and the tree then
abbrev pub delta_taken : ℤ → DeltaEntry → TreeOf → Option Fault × TreeOf
delta_taken c t tree = (delta_judged tree.scene tree.nodes c t, record tree { nodes = nodes_taken tree.scene t (delta_judged tree.scene tree.nodes c t) (meant tree.scene tree.nodes c t.id) tree.nodes })

-- a number halved as often as there are elements
abbrev pub halved : {X : Type 0} → List X → ℕ → ℕ
halved [] n = n
halved (x ∷ xs) n = halved xs (n / 2)
