-- What is kept of the values that each peer was told says what all events say.
use Rattle.std.specs.Prelude.{◌≡◌, ℕ, ℤ, Bool, true, false, List, [], ◌∷◌, map, Some, option_map}
use Rattle.std.specs.List.{Contains, IsDistinct}
use Rattle.std.specs.Map.{keys_of}
use Rattle.gd_variant.specs.declared.value.Variant.{Variant}
use Rattle.scene_model.specs.Syncs.{Syncer, fixed_syncers}
use Rattle.peer_model.specs.Heard.{Who, Heard}
use Rattle.peer_model.specs.Peers.{is_up}
use Rattle.peer_model.specs.Rows.{OwnRow}
use Rattle.peer_model.specs.Visible.{row_syncers_of, visible_rows}
use Rattle.delta_props.specs.Telling.{ToldValues, is_key, told_of, with_told, without_sync}
use Rattle.sight_laws.specs.Told.{told_values}

-- a peer has these values of some synchronizers
abbrev pub told_all : ℤ → (Syncer → List Variant) → List Syncer → ToldValues → ToldValues
told_all b f [] t = t
told_all b f (y ∷ ys) t = told_all b f ys (with_told b y.id (f y) t)

-- nothing counts as told to a peer of the synchronizers with these ids
abbrev pub told_none : ℤ → List ℕ → ToldValues → ToldValues
told_none b [] t = t
told_none b (id ∷ ids) t = told_none b ids (without_sync b id t)

-- a peer saw the node of some synchronizers with these ids before or not, and sees it then or not
abbrev pub told_shift : ℤ → (Syncer → List Variant) → List Syncer → List ℕ → Bool → Bool → ToldValues → ToldValues
told_shift b f ys ids true false t = told_none b ids t
told_shift b f ys ids false true t = told_all b f ys t
told_shift b f ys ids true true t = t
told_shift b f ys ids false false t = t

-- what is made for peers in order
abbrev pub over_peers : (ℤ → ToldValues → ToldValues) → List ℤ → ToldValues → ToldValues
over_peers op [] t = t
over_peers op (b ∷ bs) t = over_peers op bs (op b t)

-- whether two keys are the same
abbrev pub same_key : ℤ × ℕ → ℤ × ℕ → Bool
same_key x y = is_key x.0 x.1 y

-- each peer and synchronizer has one entry at most
abbrev pub HasOnce : ToldValues → Type 0
HasOnce t = IsDistinct same_key (keys_of t)

-- what is kept for a peer and a synchronizer are the values that the peer was told of it
abbrev pub Tells : Who → List Heard → ToldValues → ℤ → Syncer → Type 0
Tells who es t b y = option_map (map Some) (told_of b y.id t) ≡ Some (told_values who es b y)

-- so for each peer that is up, and each fixed synchronizer and each one of a row that the peer sees
pub record IsTold (who : Who) (es : List Heard) (t : ToldValues) : Type 0 where
  pub once : HasOnce t
  pub fixed : (b : ℤ) (y : Syncer) → is_up es b ≡ true → Contains (fixed_syncers who.scene who.id) y → Tells who es t b y
  pub rows : (b : ℤ) (r : OwnRow) (y : Syncer) → is_up es b ≡ true → Contains (visible_rows who es b) r → Contains (row_syncers_of who r) y → Tells who es t b y
