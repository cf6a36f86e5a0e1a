-- Outboxes by their links.
use Rattle.std.specs.Prelude.{◌≡◌, ℤ, Bool, false, List, [], ◌∷◌, if◌then◌else◌}
use Rattle.std.specs.List.{list_any}
use Rattle.std.specs.Ordering.{int_eq}
use Rattle.turn_hub.specs.declared.outboxes.Outbox.{Outbox}

-- whether a link has an outbox
abbrev pub has_box : {P : Type 0} → ℤ → List (Outbox P) → Bool
has_box q bs = list_any (λ b. int_eq b.link q) bs

-- the packets that wait on a link
abbrev pub waiting : {P : Type 0} → List (Outbox P) → ℤ → List P
waiting [] q = []
waiting (b ∷ bs) q = if int_eq b.link q then b.packets else waiting bs q

-- no two have one link
abbrev pub Apart : {P : Type 0} → List (Outbox P) → Type 0
Apart [] = Unit {0}
Apart (b ∷ bs) = (has_box b.link bs ≡ false) × Apart bs
