-- What a peer keeps.
use Rattle.std.specs.Prelude.{ℤ, Bool, false, List, []}
use Rattle.scene_model.specs.declared.scene.Scene.{Scene}
use Rattle.peer_model.specs.Heard.{Who}
use Rattle.peer_model.specs.Updates.{Live}
use Rattle.headless_tree.specs.Nodes.{TreeOf, fixed_nodes}
use Rattle.delta_props.specs.Telling.{ToldValues}
use Rattle.peer_steps.specs.Peers.{Peers, no_peers}
use Rattle.peer_steps.specs.Track.{Track, first_track}

-- what contracts see of a peer: its number and scene, whether it is spent, the other peers, its nodes, its own rows with who sees them, and the values that each peer was told
pub record Kept : Type 0 where
  pub who : Who
  pub spent : Bool
  pub peers : Peers
  pub nodes : List Live
  pub track : Track
  pub told : ToldValues

-- the tree of its nodes
abbrev pub kept_tree : Kept → TreeOf
kept_tree k = record { scene = k.who.scene; nodes = k.nodes }

-- a new peer
abbrev pub new_peer : Scene → ℤ → Kept
new_peer s id = record { who = record { id = id; scene = s }; spent = false; peers = no_peers id; nodes = fixed_nodes s; track = first_track s id; told = [] }
