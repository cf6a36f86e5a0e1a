-- The lines that tell the answer to an event.
use Rattle.std.specs.Prelude.{ℕ, ℤ, List, [], ◌∷◌, ◌++◌, flat_map, Option, Some, None, codes}
use Rattle.scene_model.specs.declared.outcome.Run.{Run}
use Rattle.scene_model.specs.declared.outcome.RawGot.{RawGot}
use Rattle.scene_model.specs.declared.outcome.Skip.{Skip}
use Rattle.scene_model.specs.declared.outcome.Out.{Out}
use Rattle.scene_model.specs.declared.outcome.Refusal.{Refusal}
use Rattle.scene_model.specs.declared.outcome.Fault.{Fault as PacketFault}
use Rattle.scene_model.specs.declared.world.PeerStep.{PeerStep}
use Rattle.scene_model.specs.declared.world.WorldNo.{WorldNo}
use Rattle.scene_model.specs.declared.world.WorldOutcome.{WorldOutcome}
use Rattle.scene_model.specs.declared.world.WorldOutcome.TheVariants.{Done, Refused, OpRefused, Fault}
use Rattle.serde_json.specs.Data.{string}
use Rattle.session_text.specs.Json.{hex_of, int_of, line_of, nat_of}
use Rattle.session_text.specs.Reasons.{class_name, fault_fields, fault_name, refusal_name, skip_name, world_fields, world_name}
use Rattle.session_text.specs.Values.{values_of}

-- a call that ran at a peer
abbrev pub run_line : ℤ → Run → List ℕ
run_line p r = line_of (string (codes "ran") ∷ int_of p ∷ int_of r.sender ∷ string r.path ∷ string r.method ∷ values_of r.args ∷ [])

-- raw bytes that came to a peer
abbrev pub raw_line : ℤ → RawGot → List ℕ
raw_line p r = line_of (string (codes "raw") ∷ int_of p ∷ int_of r.sender ∷ hex_of r.bytes ∷ [])

-- an entry that changed nothing at a peer
abbrev pub skip_line : ℤ → Skip → List ℕ
skip_line p s = line_of (string (codes "skip") ∷ int_of p ∷ int_of s.sender ∷ nat_of s.id ∷ string (skip_name s.why) ∷ [])

-- a packet that a peer put on a link
abbrev pub packet_line : ℤ → Out → List ℕ
packet_line p x = line_of (string (codes "sent") ∷ int_of p ∷ int_of x.link ∷ string (class_name x.class) ∷ hex_of x.bytes ∷ [])

-- what one peer did: calls that ran, raw bytes, entries that changed nothing, packets
abbrev pub step_lines : PeerStep → List ℕ
step_lines s = flat_map (run_line s.peer) s.effects.runs ++ flat_map (raw_line s.peer) s.effects.raws ++ flat_map (skip_line s.peer) s.effects.skips ++ flat_map (packet_line s.peer) s.effects.packets

-- the number of a client that has connected
abbrev pub made_lines : Option ℤ → List ℕ
made_lines (Some p) = line_of (string (codes "new") ∷ int_of p ∷ [])
made_lines None = []

-- an event that was done
abbrev pub number_line : ℕ → List ℕ
number_line n = line_of (nat_of n ∷ string (codes "done") ∷ [])

-- the same, a client that it made, and what each peer did
abbrev pub done_lines : ℕ → Option ℤ → List PeerStep → List ℕ
done_lines n made steps = number_line n ++ made_lines made ++ flat_map step_lines steps

-- a refusal of the session
abbrev pub world_no_line : ℕ → WorldNo → List ℕ
world_no_line n reason = line_of ((nat_of n ∷ string (codes "refused") ∷ string (world_name reason) ∷ []) ++ world_fields reason)

-- a refusal of a peer
abbrev pub refused_line : ℕ → Refusal → List ℕ
refused_line n r = line_of (nat_of n ∷ string (codes "refused") ∷ string (refusal_name r) ∷ [])

-- a fault at a peer
abbrev pub fault_line : ℕ → ℤ → PacketFault → List ℕ
fault_line n p f = line_of ((nat_of n ∷ string (codes "fault") ∷ int_of p ∷ string (fault_name f) ∷ []) ++ fault_fields f)

-- the answer to the event of line n
abbrev pub outcome_lines : ℕ → WorldOutcome → List ℕ
outcome_lines n (Done made steps) = done_lines n made steps
outcome_lines n (Refused reason) = world_no_line n reason
outcome_lines n (OpRefused r) = refused_line n r
outcome_lines n (Fault p f) = fault_line n p f
