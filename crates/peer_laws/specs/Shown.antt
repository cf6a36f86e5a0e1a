-- What is shown of rows, and what a spawn makes.
use Rattle.std.specs.Prelude.{ℕ, List, map, Some}
use Rattle.gd_variant.specs.Words.{or_else}
use Rattle.gd_variant.specs.declared.value.Variant.{Variant}
use Rattle.gd_variant.specs.declared.value.Variant.TheVariants.{Nil}
use Rattle.gd_variant.specs.declared.message.Plain.{Plain}
use Rattle.gd_variant.specs.declared.message.Plain.TheVariants as packet
use Rattle.scene_model.specs.declared.scene.Prop.{Prop}
use Rattle.scene_model.specs.Lookup.{fixed_path_id}
use Rattle.peer_model.specs.Heard.{Who}
use Rattle.peer_model.specs.Rows.{OwnRow, syncs_at}
use Rattle.peer_model.specs.Values.{scene_made, props_in, argument_prop}
use Rattle.peer_model.specs.Updates.{Live, all_spawn_props, assign_all, assign_argument}
use Rattle.peer_model.specs.Changes.{scene_byte}
use Rattle.headless_tree.specs.Nodes.{value_at}

-- the values that the node at a path has of some properties
abbrev pub values_in : List Live → List ℕ → List (List ℕ) → List Variant
values_in nodes path props = map (λ p. or_else (value_at nodes path p) Nil) props

-- the packet that shows an own row, with the values that stand in these nodes
abbrev pub show_packet : Who → List Live → OwnRow → Plain
show_packet who nodes r = packet.Spawn (scene_byte who r) (or_else (fixed_path_id who.scene r.made_by.spawner) 0) r.num r.ids r.made_by.name r.made_by.arg
    (values_in nodes r.path (all_spawn_props (syncs_at who.scene (Some r.place))))

-- settings as assignments, in order
abbrev pub settings : List Prop → List (List ℕ × Variant)
settings sets = map (λ (p : Prop). (p.name, p.value)) sets

-- the node that a spawn makes: its scene's defaults, then the argument, and then the settings in order
abbrev pub spawned_live : Who → OwnRow → Live
spawned_live who r = record {
  auth = who.id;
  num = r.num;
  ids = r.ids;
  path = r.path;
  place = Some r.place;
  values = assign_all (settings r.made_by.sets) (assign_argument (argument_prop who r.made_by) r.made_by.arg (props_in (scene_made who r.made_by)));
}
