-- What an event does to who sees what, and what the definitions give of all own rows and fixed synchronizers.
use Rattle.std.specs.Prelude.{ℕ, ℤ, Bool, true, false, not, ◌&&◌, List, [], ◌∷◌, ◌++◌, map, filter, Option, Some, None}
use Rattle.gd_variant.specs.declared.message.Plain.{Plain}
use Rattle.scene_model.specs.declared.event.Op.TheVariants.{Spawn, Custom, Despawn, Public, For, Filter}
use Rattle.scene_model.specs.Syncs.{fixed_syncers}
use Rattle.peer_model.specs.Heard.{Who, Heard, does}
use Rattle.peer_model.specs.Rows.{OwnRow, own_rows, despawns, spawn_in}
use Rattle.peer_model.specs.Visible.{sees}
use Rattle.peer_model.specs.Updates.{Hide, Show}
use Rattle.peer_model.specs.Changes.{show_of}
use Rattle.peer_model.specs.Answer.{Parcel, reliable, update_packet}
use Rattle.world_laws.specs.Marks.{new_rows}
use Rattle.sight_laws.specs.Sights.{Sight, Sights, with_public, with_setting, with_filter, row_sight, fixed_sight}

-- a setting of one synchronizer: the path and the place by which it is named, and what it makes of who sees it
pub record SightSet : Type 0 where
  pub path : List ℕ
  pub place : ℕ
  pub change : Sight → Sight

-- the setting that an event is
abbrev pub set_in : Heard → Option SightSet
set_in (does (Public p k on)) = Some (record { path = p; place = k; change = with_public on })
set_in (does (For p k b on)) = Some (record { path = p; place = k; change = with_setting b on })
set_in (does (Filter p k peers)) = Some (record { path = p; place = k; change = with_filter peers })
set_in e = None

-- whether an event spawns nothing, despawns nothing and sets nothing
abbrev pub is_still : Heard → Bool
is_still (does (Spawn o)) = false
is_still (does (Custom o)) = false
is_still (does (Despawn p)) = false
is_still (does (Public p k on)) = false
is_still (does (For p k b on)) = false
is_still (does (Filter p k peers)) = false
is_still e = true

-- who sees each own row and each fixed synchronizer of this peer after some events
abbrev pub all_sights : Who → List Heard → Sights
all_sights who es = record { rows = map (row_sight who es) (own_rows who es); fixed = map (fixed_sight who es) (fixed_syncers who.scene who.id) }

-- rows that go and come

-- whether an event leaves an own row, and a peer sees it then
abbrev pub still_seen : Who → Heard → List Heard → ℤ → OwnRow → Bool
still_seen who e es b r = sees who (e ∷ es) b r && not (despawns r.path e)

-- the own rows that a peer saw before an event and doesn't see after it
abbrev pub rows_lost : Who → Heard → List Heard → ℤ → List OwnRow
rows_lost who e es b = filter (λ r. not (still_seen who e es b r) && sees who es b r) (own_rows who es)

-- those that it sees after an event and didn't see before it
abbrev pub rows_gained : Who → Heard → List Heard → ℤ → List OwnRow
rows_gained who e es b = filter (λ r. not (sees who es b r) && still_seen who e es b r) (own_rows who es) ++ filter (sees who (e ∷ es) b) (new_rows who es (spawn_in e))

-- packets

-- the packet that shows an own row, with the values after some events
abbrev pub shown_packet : Who → List Heard → OwnRow → Plain
shown_packet who es r = update_packet (Show (show_of who es r))

-- what a peer is sent of a row, by whether it saw the row before and sees it then: the packet that shows it, or that it goes
abbrev pub shift_sends : Who → Plain → ℕ → ℤ → Bool → Bool → List Parcel
shift_sends who shows num b true false = reliable who b (update_packet (Hide num)) ∷ []
shift_sends who shows num b false true = reliable who b shows ∷ []
shift_sends who shows num b true true = []
shift_sends who shows num b false false = []
