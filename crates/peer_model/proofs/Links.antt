-- Links: who is up and who ever came, one event later.
use Rattle.std.proofs.Common.{◌≡◌, ℤ, true, false, not, ◌&&◌, ◌||◌, List, ◌∷◌, refl, Some, None}
use Rattle.std.specs.Prelude.{filter_map, if◌then◌else◌}
use Rattle.std.specs.List.{cons_option}
use Rattle.std.specs.Ordering.{int_eq}
use Rattle.gd_variant.specs.Words.{has_int, or_else, newest}
use Rattle.peer_model.specs.Heard.{Heard, comes, goes}
use Rattle.peer_model.specs.Peers.{is_up, was_up, peers_come, brought_up, news_of}
use Rattle.scene_model.proofs.ListLaws.{any-filter_map}

-- a peer was up where it is among those that came
pub was_up_come : (es : List Heard) (b : ℤ) → was_up es b ≡ has_int b (peers_come es)
was_up_come es b = any-filter_map (int_eq b) brought_up es

pub up_after_comes : (es : List Heard) (b x : ℤ) → is_up (comes b ∷ es) x ≡ (int_eq x b || is_up es x)
up_after_comes es b x = elim (int_eq x b) as (λ c. or_else (newest (cons_option (if c then Some true else None) (filter_map (news_of x) es))) false ≡ (c || is_up es x)) [ true ↦ refl | false ↦ refl ]

pub up_after_goes : (es : List Heard) (b x : ℤ) → is_up (goes b ∷ es) x ≡ (not (int_eq x b) && is_up es x)
up_after_goes es b x = elim (int_eq x b) as (λ c. or_else (newest (cons_option (if c then Some false else None) (filter_map (news_of x) es))) false ≡ (not c && is_up es x)) [ true ↦ refl | false ↦ refl ]
