-- What a peer was told of this one's nodes, and what a frame tells of a synchronizer by the values that were told last.
use Rattle.std.specs.Prelude.{ℕ, ℤ, Bool, not, List, map, filter, zip, Option, option_and_then, ◌&&◌, if◌then◌else◌, Some}
use Rattle.gd_variant.specs.Words.{some_is, has_text}
use Rattle.gd_variant.specs.Tree.{same_value}
use Rattle.gd_variant.specs.declared.value.Variant.{Variant}
use Rattle.scene_model.specs.Syncs.{Syncer, change_props}
use Rattle.peer_model.specs.Heard.{Who, Heard}
use Rattle.peer_model.specs.Values.{own_value, argument_prop, props_in}
use Rattle.peer_model.specs.Updates.{Update, Replica, applied, all_spawn_props, assign_argument}
use Rattle.peer_model.specs.Changes.{changes, value_told, mask_of, tell_for}
use Rattle.scene_model.specs.declared.scene.Node.{Node}
use Rattle.scene_model.specs.Lookup.{value_in, has_prop, fixed_node, scene_at}
use Rattle.peer_model.specs.Rows.{OwnRow, syncs_at}

-- what all that a peer was told makes
abbrev pub told_to : Who → List Heard → ℤ → Replica
told_to who es b = applied who.scene who.id (changes who es b)

-- the values that a peer was told of a synchronizer's on-change properties
abbrev pub told_values : Who → List Heard → ℤ → Syncer → List (Option Variant)
told_values who es b y = map (value_told (told_to who es b) y.node) (change_props y.def)

-- whether a property's present value isn't the one that was told
abbrev pub is_untold : Who → List Heard → Syncer → List ℕ × Option Variant → Bool
is_untold who es y z = not (some_is (same_value (own_value who es y.node z.0)) z.1)

-- the Tell of a synchronizer by the values that were told last, where one differs
abbrev pub tell_by : Who → List Heard → Syncer → List (Option Variant) → List Update
tell_by who es y vs = tell_for who es y (mask_of (map (is_untold who es y) (zip (change_props y.def) vs))) (map (λ z. z.0) (filter (is_untold who es y) (zip (change_props y.def) vs)))

-- the values that a peer has of a fixed synchronizer's on-change properties before it is told any: the defaults of the node that it serves
abbrev pub fixed_first_told : Who → Syncer → List (Option Variant)
fixed_first_told who y = map (λ p. option_and_then (λ (n : Node). value_in n.props p) (fixed_node who.scene y.node)) (change_props y.def)

-- the value of a property that a peer has of an own row when the row is shown to it: the present value of one that goes out with a spawn, else what the custom spawn's argument and the scene give
abbrev pub row_first_value : Who → List Heard → OwnRow → List ℕ → Option Variant
row_first_value who es r p =
    if has_text p (all_spawn_props (syncs_at who.scene (Some r.place))) && has_prop p (props_in (scene_at who.scene r.place)) then Some (own_value who es r.path p)
    else value_in (assign_argument (argument_prop who r.made_by) r.made_by.arg (props_in (scene_at who.scene r.place))) p

-- the values that a peer has of a synchronizer of an own row when the row is shown to it
abbrev pub row_first_told : Who → List Heard → OwnRow → Syncer → List (Option Variant)
row_first_told who es r y = map (row_first_value who es r) (change_props y.def)
