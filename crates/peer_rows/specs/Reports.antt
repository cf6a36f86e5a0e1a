-- What a report says of rows and values.
use Rattle.std.specs.Prelude.{◌≡◌, ℕ, pos, List, [], ◌∷◌, Some, None, codes}
use Rattle.gd_variant.specs.declared.message.Plain.TheVariants as packet
use Rattle.scene_model.specs.declared.report.Row.{Row}
use Rattle.peer_rows.specs.Scenes.{prop}
use Rattle.peer_rows.specs.Session.{up, down, got_packet, shown, report_after}
use Rattle.peer_rows.specs.SceneF.{server, three, int, spawn_q, q_packet, told}

abbrev pub a_row : ℕ → Row
a_row hp = shown 1 0 (codes "a") (prop (codes "hp") (int hp) ∷ [])

abbrev pub fixed_rows : ℕ → List Row → List Row
fixed_rows hp rows = a_row hp ∷ shown 1 0 (codes "a/sp") [] ∷ shown 1 0 (codes "a/sy") [] ∷ shown 2 0 (codes "b") (prop (codes "hp") (int 10) ∷ []) ∷ shown 2 0 (codes "b/sp") [] ∷ shown 1 0 (codes "c") [] ∷ rows

abbrev pub q_row : ℕ → ℕ → List ℕ → ℕ → Row
q_row auth num path v = shown auth num path (prop (codes "v") (int v) ∷ [])

-- rows stand by number, and of two entries of one packet the later one counts
abbrev pub RowsByNumber : Type 0
RowsByNumber = report_after three (up 1 ∷ got_packet 1 (q_packet 5 6 (codes "y") 1) ∷ got_packet 1 (q_packet 3 4 (codes "z") 2) ∷ got_packet 1 (packet.Delta (told 6 8 ∷ told 6 9 ∷ [])) ∷ [])
    ≡ record { peers = pos 1 ∷ []; rows = fixed_rows 10 (q_row 1 3 (codes "a/z") 2 ∷ q_row 1 5 (codes "a/y") 9 ∷ []) }

-- the values of a Spawn come after its argument
abbrev pub ValueIsReported : Type 0
ValueIsReported = report_after three (up 1 ∷ got_packet 1 (packet.Spawn 255 2 1 (2 ∷ []) (codes "y") (Some (int 7)) (int 9 ∷ [])) ∷ [])
    ≡ record { peers = pos 1 ∷ []; rows = fixed_rows 10 (q_row 1 1 (codes "a/y") 9 ∷ []) }

-- own rows stand in their place among those of others
abbrev pub OwnRowsInTheirPlace : Type 0
OwnRowsInTheirPlace = report_after server (up 2 ∷ spawn_q (codes "y") ∷ got_packet 2 (packet.Spawn 0 5 1 (2 ∷ []) (codes "z") None (int 4 ∷ [])) ∷ [])
    ≡ record { peers = pos 2 ∷ []; rows = fixed_rows 10 (q_row 1 1 (codes "a/y") 0 ∷ q_row 2 1 (codes "b/z") 4 ∷ []) }

-- fixed nodes keep their values where their authority goes down
abbrev pub FixedValuesStay : Type 0
FixedValuesStay = report_after three (up 1 ∷ got_packet 1 (packet.Delta (told 2147483651 6 ∷ [])) ∷ down 1 ∷ []) ≡ record { peers = []; rows = fixed_rows 6 [] }
