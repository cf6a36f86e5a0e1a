-- When a peer has all on-change values that it may see: a frame came while it was up, and since then nothing changed that it may be told.
use Rattle.std.specs.Prelude.{◌≡◌, ℕ, ℤ, true, List, [], ◌∷◌, ◌++◌, find, Option, None, Some, option_and_then}
use Rattle.std.specs.List.{Contains}
use Rattle.gd_variant.specs.Words.{text_eq}
use Rattle.gd_variant.specs.declared.value.Variant.{Variant}
use Rattle.scene_model.specs.declared.event.Op.TheVariants.{Frame}
use Rattle.scene_model.specs.declared.report.Report.{Report}
use Rattle.scene_model.specs.declared.report.Row.{Row}
use Rattle.scene_model.specs.Lookup.{value_in}
use Rattle.scene_model.specs.Syncs.{Syncer, change_props}
use Rattle.peer_model.specs.Heard.{Who, Heard, does}
use Rattle.peer_model.specs.Peers.{is_up}
use Rattle.peer_model.specs.Rows.{own_rows}
use Rattle.peer_model.specs.Values.{assigns, own_value}
use Rattle.peer_model.specs.Visible.{own_syncers, visible_to}
use Rattle.peer_model.specs.Updates.{Replica}
use Rattle.peer_model.specs.Changes.{value_told}
use Rattle.sight_laws.specs.Seen.{is_still}

-- An event leaves what a peer may be told: the peer is up after it, and own rows, whether own synchronizers are visible to the peer, and their on-change values are as before.
pub record LeavesTold (who : Who) (e : Heard) (es : List Heard) (b : ℤ) : Type 0 where
  pub up : is_up (e ∷ es) b ≡ true
  pub rows : own_rows who (e ∷ es) ≡ own_rows who es
  pub seen : (y : Syncer) → Contains (own_syncers who es) y → visible_to who (e ∷ es) b y ≡ visible_to who es b y
  pub values : (y : Syncer) (p : List ℕ) → Contains (own_syncers who es) y → Contains (change_props y.def) p → own_value who (e ∷ es) y.node p ≡ own_value who es y.node p

-- each of some events, newest first, leaves it after those before
abbrev pub AllLeave : Who → List Heard → List Heard → ℤ → Type 0
AllLeave who [] es b = Unit {0}
AllLeave who (e ∷ later) es b = LeavesTold who e (later ++ es) b × AllLeave who later es b

-- A frame came while a peer was up, and each event since then left what the peer may be told.
pub record IsFramed (who : Who) (es : List Heard) (b : ℤ) : Type 0 where
  pub later : List Heard
  pub before : List Heard
  pub are : es ≡ later ++ does Frame ∷ before
  pub up : is_up before b ≡ true
  pub leave : AllLeave who later (does Frame ∷ before) b

-- these values, by the paths of nodes and the names of properties, are the own values of each on-change property of each own synchronizer that is visible to a peer
abbrev pub AreOwn : Who → List Heard → ℤ → (List ℕ → List ℕ → Option Variant) → Type 0
AreOwn who es b value = (y : Syncer) (p : List ℕ) → Contains (own_syncers who es) y → visible_to who es b y ≡ true → Contains (change_props y.def) p → value y.node p ≡ Some (own_value who es y.node p)

-- a replica has them
abbrev pub HasValues : Who → List Heard → ℤ → Replica → Type 0
HasValues who es b r = AreOwn who es b (value_told r)

-- the value of a property of the node at a path, as it is reported
abbrev pub value_reported : Report → List ℕ → List ℕ → Option Variant
value_reported r path prop = option_and_then (λ (n : Row). value_in n.values prop) (find (λ (n : Row). text_eq n.path path) r.rows)

-- a report has them
abbrev pub ReportsValues : Who → List Heard → ℤ → Report → Type 0
ReportsValues who es b r = AreOwn who es b (value_reported r)

-- while a peer stays up, an event that spawns, despawns and sets nothing and assigns nothing leaves what the peer may be told
abbrev pub StillLeaves : Type 0
StillLeaves = (who : Who) (es : List Heard) (e : Heard) (b : ℤ) → is_still e ≡ true → ((path prop : List ℕ) → assigns who es e path prop ≡ None) → is_up (e ∷ es) b ≡ true → LeavesTold who e es b
