-- What a line of a session holds.
use Rattle.std.specs.Prelude.{ℕ, ℤ, pos, negsuc, Bool, true, false, ◌&&◌, ◌≡◌, List, [], ◌∷◌, ◌++◌, map, Option, Some, None, IsSome, nat_le}
use Rattle.std.specs.List.{list_all}
use Rattle.gd_variant.specs.declared.value.Variant.{Variant}
use Rattle.gd_variant.specs.Sound.{is_text, is_sound}
use Rattle.scene_model.specs.declared.scene.Prop.{Prop}
use Rattle.scene_model.specs.declared.event.Op.{Op}
use Rattle.scene_model.specs.declared.event.Op.TheVariants as op
use Rattle.scene_model.specs.declared.world.WorldEvent.TheVariants as event
use Rattle.line_text.specs.declared.sessions.SessionLine.{SessionLine}
use Rattle.line_text.specs.declared.sessions.SessionLine.TheVariants as line

-- what an option holds, as a list
abbrev pub held : {X : Type 0} → Option X → List X
held None = []
held (Some x) = x ∷ []

abbrev pub prop_names : List Prop → List (List ℕ)
prop_names ps = map (λ (p : Prop). p.name) ps

abbrev pub prop_values : List Prop → List Variant
prop_values ps = map (λ (p : Prop). p.value) ps

-- the texts of an operation
abbrev pub op_texts : Op → List (List ℕ)
op_texts (op.Spawn s) = s.spawner ∷ held s.scene ++ s.name ∷ prop_names s.sets
op_texts (op.Custom s) = s.spawner ∷ held s.scene ++ s.name ∷ prop_names s.sets
op_texts (op.Despawn path) = path ∷ []
op_texts (op.Set path prop v) = path ∷ prop ∷ []
op_texts (op.Public path k on) = path ∷ []
op_texts (op.For path k peer on) = path ∷ []
op_texts (op.Filter path k peers) = path ∷ []
op_texts (op.Call c) = c.path ∷ c.method ∷ []
op_texts (op.Raw to class bytes) = []
op_texts op.Frame = []

-- the values of an operation
abbrev pub op_values : Op → List Variant
op_values (op.Spawn s) = held s.arg ++ prop_values s.sets
op_values (op.Custom s) = held s.arg ++ prop_values s.sets
op_values (op.Set path prop v) = v ∷ []
op_values (op.Call c) = c.args
op_values o = []

-- the peers that an operation names
abbrev pub op_peers : Op → List ℤ
op_peers (op.For path k peer on) = peer ∷ []
op_peers (op.Filter path k peers) = peers
op_peers o = []

-- the places of the synchronizers that an operation names
abbrev pub op_places : Op → List ℕ
op_places (op.Public path k on) = k ∷ []
op_places (op.For path k peer on) = k ∷ []
op_places (op.Filter path k peers) = k ∷ []
op_places o = []

-- whether a number is that of a peer
abbrev pub is_peer : ℤ → Bool
is_peer (pos n) = nat_le 1 n && nat_le n 2147483647
is_peer (negsuc n) = false

-- whether a number is a place
abbrev pub is_place : ℕ → Bool
is_place k = nat_le k 4294967295

-- whether an operation is one of those that are built: all but calls and raw packets
abbrev pub is_built_op : Op → Bool
is_built_op (op.Call c) = false
is_built_op (op.Raw to class bytes) = false
is_built_op o = true

-- a spawn has a scene and no argument, a custom one no scene, no settings and an argument
abbrev pub IsPlainSpawn : Op → Type 0
IsPlainSpawn (op.Spawn s) = IsSome s.scene × (s.arg ≡ None)
IsPlainSpawn (op.Custom s) = (s.scene ≡ None) × (s.sets ≡ []) × IsSome s.arg
IsPlainSpawn o = Unit {0}

-- an operation that is built; its texts are texts, its values are sound, and its peers and places have numbers of such
pub record IsGiven (o : Op) : Type 0 where
  pub built : is_built_op o ≡ true
  pub texts : list_all is_text (op_texts o) ≡ true
  pub values : list_all is_sound (op_values o) ≡ true
  pub spawn : IsPlainSpawn o
  pub peers : list_all is_peer (op_peers o) ≡ true
  pub places : list_all is_place (op_places o) ≡ true

-- whether a line is of a kind that is built
abbrev pub is_built : SessionLine → Bool
is_built (line.Event event.Connect) = true
is_built (line.Event (event.Down peer)) = true
is_built (line.Event (event.Op peer o)) = is_built_op o
is_built (line.Event (event.Rel from to)) = true
is_built (line.Report peer) = true
is_built l = false

-- the texts of a line
abbrev pub line_texts : SessionLine → List (List ℕ)
line_texts (line.Event (event.Op peer o)) = op_texts o
line_texts l = []

-- the values of a line
abbrev pub line_values : SessionLine → List Variant
line_values (line.Event (event.Op peer o)) = op_values o
line_values l = []

-- the peers that the operation of a line names
abbrev pub line_named : SessionLine → List ℤ
line_named (line.Event (event.Op peer o)) = op_peers o
line_named l = []

-- the places of the synchronizers that it names
abbrev pub line_places : SessionLine → List ℕ
line_places (line.Event (event.Op peer o)) = op_places o
line_places l = []

-- a spawn in a line has the parts of one
abbrev pub HasPlainSpawn : SessionLine → Type 0
HasPlainSpawn (line.Event (event.Op peer o)) = IsPlainSpawn o
HasPlainSpawn l = Unit {0}

-- the peers at which a line happens
abbrev pub line_peers : SessionLine → List ℤ
line_peers (line.Event event.Connect) = []
line_peers (line.Event (event.Down peer)) = peer ∷ []
line_peers (line.Event (event.Op peer o)) = peer ∷ []
line_peers (line.Event (event.Rel from to)) = from ∷ to ∷ []
line_peers (line.Event (event.Loose from to index)) = from ∷ to ∷ []
line_peers (line.Event (event.Forge peer class bytes)) = peer ∷ []
line_peers (line.Report peer) = peer ∷ []

-- a line that is built; its texts are texts, its values are sound, and its peers and places have numbers of such
pub record IsGivenLine (l : SessionLine) : Type 0 where
  pub built : is_built l ≡ true
  pub texts : list_all is_text (line_texts l) ≡ true
  pub values : list_all is_sound (line_values l) ≡ true
  pub spawn : HasPlainSpawn l
  pub peers : list_all is_peer (line_peers l) ≡ true
  pub named : list_all is_peer (line_named l) ≡ true
  pub places : list_all is_place (line_places l) ≡ true
