-- A scene with a limit, a custom spawn and nodes of two synchronizers, and short words for it.
use Rattle.std.specs.Prelude.{ℕ, pos, true, false, List, [], ◌∷◌, ◌++◌, Some, None, codes}
use Rattle.gd_variant.specs.declared.value.Variant.{Variant}
use Rattle.gd_variant.specs.declared.value.Variant.TheVariants.{Int}
use Rattle.gd_variant.specs.declared.message.Plain.{Plain}
use Rattle.gd_variant.specs.declared.message.Plain.TheVariants as packet
use Rattle.gd_variant.specs.declared.message.DeltaEntry.{DeltaEntry}
use Rattle.scene_model.specs.declared.scene.Scene.{Scene}
use Rattle.scene_model.specs.declared.scene.Method.{Method}
use Rattle.scene_model.specs.declared.scene.RpcMode.TheVariants.{AnyPeer, Authority}
use Rattle.scene_model.specs.declared.scene.ReplMode.TheVariants.{Always, OnChange}
use Rattle.scene_model.specs.declared.scene.Role.TheVariants.{Plain as plain_role, Spawner, Sync}
use Rattle.scene_model.specs.declared.event.Class.TheVariants.{Unreliable, Reliable}
use Rattle.scene_model.specs.declared.event.Op.TheVariants as op
use Rattle.scene_model.specs.declared.outcome.Run.{Run}
use Rattle.peer_model.specs.Heard.{Who, Heard, does}
use Rattle.peer_model.specs.Answer.{Parcel}
use Rattle.peer_rows.specs.Scenes.{peer, prop, sync_prop, plain_node, hit}
use Rattle.peer_rows.specs.Session.{spawn, sends}

-- a method that everyone may call and that runs at its caller too
abbrev pub say : Method
say = record { name = codes "say"; mode = AnyPeer; local = true; class = Reliable; args = 1; sets = Some (record { prop = codes "hp"; arg = 0 }) }

-- a method of the authority with an argument
abbrev pub own : Method
own = record { name = codes "own"; mode = Authority; local = false; class = Reliable; args = 1; sets = None }

-- a method of the authority without one
abbrev pub end : Method
end = record { name = codes "end"; mode = Authority; local = false; class = Unreliable; args = 0; sets = None }

-- a spawner of two scenes with a limit of two and a custom spawn, a fixed synchronizer, and a spawner of peer 2; a node `p` has two synchronizers, of which the second isn't public
abbrev pub scene_f : Scene
scene_f = record {
  nodes = record { path = codes "a"; auth = pos 1; props = prop (codes "hp") (Int (pos 10)) ∷ []; methods = hit ∷ say ∷ []; role = plain_role }
      ∷ record { path = codes "a/sp"; auth = pos 1; props = []; methods = []; role = Spawner (record { under = codes "a"; scenes = codes "p" ∷ codes "q" ∷ []; limit = 2; custom = Some (record { scene = codes "q"; prop = codes "v" }) }) }
      ∷ record { path = codes "a/sy"; auth = pos 1; props = []; methods = []; role = Sync (record { of = codes "a"; public = true; props = sync_prop (codes "hp") OnChange true ∷ [] }) }
      ∷ record { path = codes "b"; auth = pos 2; props = prop (codes "hp") (Int (pos 10)) ∷ []; methods = end ∷ own ∷ []; role = plain_role }
      ∷ record { path = codes "b/sp"; auth = pos 2; props = []; methods = []; role = Spawner (record { under = codes "b"; scenes = codes "q" ∷ []; limit = 0; custom = None }) }
      ∷ record { path = codes "c"; auth = pos 1; props = []; methods = []; role = Spawner (record { under = codes "c"; scenes = codes "q" ∷ []; limit = 0; custom = None }) }
      ∷ [];
  scenes = record {
    name = codes "p";
    props = prop (codes "pos") (Int (pos 0)) ∷ prop (codes "hp") (Int (pos 100)) ∷ prop (codes "x") (Int (pos 1)) ∷ [];
    methods = end ∷ say ∷ [];
    syncs = record { of = []; public = true; props = sync_prop (codes "pos") Always true ∷ sync_prop (codes "hp") OnChange true ∷ [] }
        ∷ record { of = []; public = false; props = sync_prop (codes "x") OnChange true ∷ [] } ∷ [];
  }
      ∷ record {
        name = codes "q";
        props = prop (codes "v") (Int (pos 0)) ∷ [];
        methods = record { name = codes "n"; mode = AnyPeer; local = true; class = Reliable; args = 1; sets = Some (record { prop = codes "v"; arg = 0 }) } ∷ [];
        syncs = record { of = []; public = true; props = sync_prop (codes "v") OnChange true ∷ [] } ∷ [];
      } ∷ [];
}

-- the same with a node whose path a wrong name would make
abbrev pub scene_g : Scene
scene_g = record { nodes = scene_f.nodes ++ plain_node (codes "a/sp/y") ∷ plain_node (codes "b/sp/y") ∷ []; scenes = scene_f.scenes }

abbrev pub server : Who
server = peer 1 scene_f

abbrev pub two : Who
two = peer 2 scene_f

abbrev pub three : Who
three = peer 3 scene_f

abbrev pub int : ℕ → Variant
int n = Int (pos n)

abbrev pub spawn_x : Heard
spawn_x = spawn (codes "a/sp") (codes "p") (codes "x") []

abbrev pub spawn_q : List ℕ → Heard
spawn_q name = spawn (codes "a/sp") (codes "q") name []

abbrev pub public_at : List ℕ → ℕ → Heard
public_at path k = does (op.Public path k true)

abbrev pub private_at : List ℕ → ℕ → Heard
private_at path k = does (op.Public path k false)

abbrev pub only_for : List ℕ → ℕ → ℕ → Heard
only_for path k b = does (op.Filter path k (pos b ∷ []))

abbrev pub x_packet : ℕ → Plain
x_packet hp = packet.Spawn 0 2 1 (2 ∷ 3 ∷ []) (codes "x") None (int 0 ∷ int hp ∷ int 1 ∷ [])

abbrev pub q_packet : ℕ → ℕ → List ℕ → ℕ → Plain
q_packet net sync name v = packet.Spawn 1 2 net (sync ∷ []) name None (int v ∷ [])

abbrev pub told : ℕ → ℕ → DeltaEntry
told id v = record { id = id; mask = 1; values = int v ∷ [] }

abbrev pub tells : ℕ → DeltaEntry → Parcel
tells b t = sends b (packet.Delta (t ∷ []))

abbrev pub ran : ℕ → List ℕ → List ℕ → ℕ → List Run
ran sender path method v = record { sender = pos sender; path = path; method = method; args = int v ∷ [] } ∷ []
