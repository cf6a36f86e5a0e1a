-- Who sees what: the settings of each own synchronizer, and to which peers each own row is shown (Godot: MultiplayerSynchronizer, public_visibility, set_visibility_for and add_visibility_filter).
use Rattle.std.specs.Prelude.{ℕ, zero, suc, ℤ, int_lt, Bool, true, false, not, ◌&&◌, ◌||◌, List, [], ◌∷◌, ◌++◌, map, filter, length, nat_eq, nat_le, if◌then◌else◌}
use Rattle.std.specs.Ordering.{int_eq}
use Rattle.std.specs.List.{list_all, list_any}
use Rattle.gd_variant.specs.Words.{put_by, text_eq, has_int}
use Rattle.scene_model.specs.declared.scene.Scene.{Scene}
use Rattle.scene_model.specs.declared.scene.SyncDef.{SyncDef}
use Rattle.scene_model.specs.declared.event.Op.TheVariants.{Public, For, Filter}
use Rattle.scene_model.specs.Syncs.{Syncer, fixed_syncers}
use Rattle.peer_model.specs.Heard.{Who, Heard, does}
use Rattle.peer_model.specs.Peers.{peers_up}
use Rattle.peer_model.specs.Rows.{OwnRow, since_spawn}
use Rattle.peer_model.specs.Visible.{row_syncers_of, sees}
use Rattle.peer_model.specs.Refusals.{most_peers_set, most_filters}

-- one synchronizer

-- what was set last for a peer
pub record Setting : Type 0 where
  pub peer : ℤ
  pub on : Bool

-- who sees a synchronizer: whether it is public, what was set for single peers, in the order of their first settings, and its filters, oldest first
pub record Sight : Type 0 where
  pub public : Bool
  pub set : List Setting
  pub filters : List (List ℤ)

-- as the scene has it
abbrev pub first_sight : SyncDef → Sight
first_sight d = record { public = d.public; set = []; filters = [] }

-- whether something was set for a peer
abbrev pub has_setting : ℤ → List Setting → Bool
has_setting b ss = list_any (λ (s : Setting). int_eq s.peer b) ss

-- what was set for a peer, else no
abbrev pub is_set : ℤ → List Setting → Bool
is_set b [] = false
is_set b (s ∷ ss) = if int_eq s.peer b then s.on else is_set b ss

-- a setting in the place of the peer's earlier one, or behind the others
abbrev pub put_setting : ℤ → Bool → List Setting → List Setting
put_setting b on [] = record { peer = b; on = on } ∷ []
put_setting b on (s ∷ ss) = if int_eq s.peer b then record s { on = on } ∷ ss else s ∷ put_setting b on ss

-- every filter lists the peer, and it is public or set for the peer
abbrev pub is_visible : Sight → ℤ → Bool
is_visible y b = list_all (has_int b) y.filters && (y.public || is_set b y.set)

-- public or not from now on
abbrev pub with_public : Bool → Sight → Sight
with_public on y = record y { public = on }

-- set for a peer
abbrev pub with_setting : ℤ → Bool → Sight → Sight
with_setting b on y = record y { set = put_setting b on y.set }

-- with one filter more
abbrev pub with_filter : List ℤ → Sight → Sight
with_filter peers y = record y { filters = y.filters ++ peers ∷ [] }

-- whether it is set for as many peers as it may be, and this is another
abbrev pub is_set_full : ℤ → Sight → Bool
is_set_full b y = not (has_setting b y.set) && nat_le most_peers_set (length y.set)

-- whether it has as many filters as it may have
abbrev pub is_filter_full : Sight → Bool
is_filter_full y = nat_le most_filters (length y.filters)

-- all own rows and synchronizers

-- of an own row: its number, who sees each of its synchronizers, and the peers to which it is shown, in rising order
pub record RowSight : Type 0 where
  pub num : ℕ
  pub syncs : List Sight
  pub shown : List ℤ

-- of a fixed synchronizer of this peer
pub record FixedSight : Type 0 where
  pub path : List ℕ
  pub sight : Sight

-- the own rows by number, and the fixed synchronizers of this peer in file order
pub record Sights : Type 0 where
  pub rows : List RowSight
  pub fixed : List FixedSight

-- a row is visible where one of its synchronizers is, or where it has none
abbrev pub any_sees : List Sight → ℤ → Bool
any_sees [] b = true
any_sees (y ∷ ys) b = list_any (λ (z : Sight). is_visible z b) (y ∷ ys)

-- whether a peer may see a row
abbrev pub row_sees : RowSight → ℤ → Bool
row_sees r b = any_sees r.syncs b

-- a row that is shown to those of these peers that may see it
abbrev pub shown_again : List ℤ → RowSight → RowSight
shown_again up r = record r { shown = filter (row_sees r) up }

-- the sight of a fixed synchronizer as the scene has it
abbrev pub fixed_first : Syncer → FixedSight
fixed_first y = record { path = y.path; sight = first_sight y.def }

-- before the first event of a peer
abbrev pub first_sights : Scene → ℤ → Sights
first_sights s me = record { rows = []; fixed = map fixed_first (fixed_syncers s me) }

-- a new row, shown to those of these peers that may see it
abbrev pub new_sight : List ℤ → ℕ → List SyncDef → RowSight
new_sight up num defs = shown_again up (record { num = num; syncs = map first_sight defs; shown = [] })

-- with a new row
abbrev pub with_row : List ℤ → ℕ → List SyncDef → Sights → Sights
with_row up num defs v = record v { rows = v.rows ++ new_sight up num defs ∷ [] }

-- without the row of a number
abbrev pub without_row : ℕ → Sights → Sights
without_row num v = record v { rows = filter (λ (r : RowSight). not (nat_eq r.num num)) v.rows }

-- a list with the element at a place changed, where there is one
abbrev pub change_at : {X : Type 0} → ℕ → (X → X) → List X → List X
change_at k f [] = []
change_at zero f (x ∷ xs) = f x ∷ xs
change_at (suc k) f (x ∷ xs) = x ∷ change_at k f xs

-- a row whose synchronizer at a place is set otherwise, shown to those of these peers that may see it then
abbrev pub row_set : List ℤ → ℕ → (Sight → Sight) → RowSight → RowSight
row_set up k f r = shown_again up (record r { syncs = change_at k f r.syncs })

-- the synchronizer at a place of the row of a number is set otherwise
abbrev pub with_row_set : List ℤ → ℕ → ℕ → (Sight → Sight) → Sights → Sights
with_row_set up num k f v = record v { rows = map (λ (r : RowSight). if nat_eq r.num num then row_set up k f r else r) v.rows }

-- the fixed synchronizer at a path is set otherwise
abbrev pub with_fixed_set : List ℕ → (Sight → Sight) → Sights → Sights
with_fixed_set path f v = record v { fixed = map (λ (x : FixedSight). if text_eq x.path path then record x { sight = f x.sight } else x) v.fixed }

-- a row that is shown to a new peer too, where the peer may see it
abbrev pub shown_to_new : ℤ → RowSight → RowSight
shown_to_new b r = if row_sees r b then record r { shown = put_by int_lt b r.shown } else r

-- a peer came up: what it may see is shown to it
abbrev pub with_peer_up : ℤ → Sights → Sights
with_peer_up b v = record v { rows = map (shown_to_new b) v.rows }

-- a row that isn't shown to a peer that went down
abbrev pub hidden_from : ℤ → RowSight → RowSight
hidden_from b r = record r { shown = filter (λ c. not (int_eq c b)) r.shown }

-- a peer went down
abbrev pub with_peer_down : ℤ → Sights → Sights
with_peer_down b v = record v { rows = map (hidden_from b) v.rows }

-- what the definitions give

-- a synchronizer's sight after one event since its node was spawned
abbrev pub sight_next : Syncer → Heard → Sight → Sight
sight_next y (does (Public p k on)) v = if text_eq p y.path && nat_eq k y.place then with_public on v else v
sight_next y (does (For p k b on)) v = if text_eq p y.path && nat_eq k y.place then with_setting b on v else v
sight_next y (does (Filter p k peers)) v = if text_eq p y.path && nat_eq k y.place then with_filter peers v else v
sight_next y e v = v

-- a synchronizer's sight after some events since its node was spawned, newest first
abbrev pub sight_after : Syncer → List Heard → Sight
sight_after y [] = first_sight y.def
sight_after y (e ∷ es) = sight_next y e (sight_after y es)

-- who sees a synchronizer after some events: only what came after the spawn of its node counts
abbrev pub sight_of : Who → List Heard → Syncer → Sight
sight_of who es y = sight_after y (since_spawn who y.path es)

-- of an own row
abbrev pub row_sight : Who → List Heard → OwnRow → RowSight
row_sight who es r = record { num = r.num; syncs = map (sight_of who es) (row_syncers_of who r); shown = filter (λ b. sees who es b r) (peers_up es) }

-- of a fixed synchronizer
abbrev pub fixed_sight : Who → List Heard → Syncer → FixedSight
fixed_sight who es y = record { path = y.path; sight = sight_of who es y }
