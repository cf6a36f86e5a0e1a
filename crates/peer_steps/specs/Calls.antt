-- What the calls of the code make, in the words of what they take.
use Rattle.std.specs.Prelude.{ℕ, ℤ, not, List, [], ◌∷◌, map, Option}
use Rattle.std.specs.Ordering.{int_eq}
use Rattle.gd_variant.specs.Words.{when, first_of}
use Rattle.gd_variant.specs.declared.value.Variant.{Variant}
use Rattle.scene_model.specs.declared.outcome.Refusal.{Refusal}
use Rattle.scene_model.specs.declared.outcome.Refusal.TheVariants.{NotAuthority, NoProp, ValueTooLong}
use Rattle.scene_model.specs.declared.scene.Scene.{Scene}
use Rattle.scene_model.specs.declared.outcome.Out.{Out}
use Rattle.scene_model.specs.Lookup.{has_prop}
use Rattle.peer_model.specs.Updates.{Live}
use Rattle.peer_model.specs.View.{fits}
use Rattle.peer_model.specs.Bytes.{PacketForm}
use Rattle.peer_steps.specs.declared.rows.SpawnedRow.{SpawnedRow}
use Rattle.peer_steps.specs.Steps.{row_packet, sent_to}

-- a row's packet for each of these peers
abbrev pub shown_to_each : PacketForm → Scene → List Live → List ℤ → SpawnedRow → List Out
shown_to_each form s nodes shown r = map (λ b. sent_to form b (row_packet s nodes r)) shown

-- why an assignment to a node isn't made
abbrev pub set_at_judged : ℤ → Live → List ℕ → Variant → Option Refusal
set_at_judged id n prop value = first_of (when (not (int_eq n.auth id)) NotAuthority ∷ when (not (has_prop prop n.values)) NoProp ∷ when (not (fits value)) ValueTooLong ∷ [])
