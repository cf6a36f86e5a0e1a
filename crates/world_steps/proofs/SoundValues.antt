-- The values of own nodes are sound, where those of the operations are.
use Rattle.std.proofs.Common.{◌≡◌, ℕ, Bool, true, not, List, [], ◌∷◌, refl, nat_lt, Option, Some, None}
use Rattle.std.specs.List.{list_all}
use Rattle.std.proofs.lemmas.Bool.{and_parts, or_parts}
use Rattle.gd_variant.specs.Size.{value_size}
use Rattle.gd_variant.specs.Sound.{is_sound, is_text}
use Rattle.gd_variant.specs.declared.value.Variant.{Variant}
use Rattle.scene_model.specs.declared.event.Op.TheVariants.{Spawn, Custom, Set}
use Rattle.scene_model.specs.Valid.{IsValidScene}
use Rattle.peer_model.specs.Heard.{Who, Heard, does, comes, goes, gets}
use Rattle.peer_model.specs.Values.{own_value}
use Rattle.peer_laws.specs.Built.{AllAccepted}
use Rattle.peer_laws.proofs.Tests.{not_false}
use Rattle.peer_laws.proofs.Passing.{IsPassed, AssignsPassed, AllAssignPassed, ok_if, own_passes}
use Rattle.peer_steps.specs.Arguments.{is_sound_argument}
use Rattle.world_steps.specs.Sound.{has_sound, is_sound_op}

-- what is asked of an event at a peer
abbrev pub is_sound_heard : Heard → Bool
is_sound_heard (does op) = is_sound_op op
is_sound_heard e = true

argument_sound : (o : Option Variant) → is_sound_argument o ≡ true → ok_if is_sound o ≡ true
argument_sound None h = refl
argument_sound (Some v) h = h

-- what such an event assigns is sound
assigned_sound : (e : Heard) → is_sound_heard e ≡ true → AssignsPassed is_sound e
assigned_sound (does (Spawn o)) s = (and_parts (is_text o.name) (list_all has_sound o.sets) s).1
assigned_sound (does (Custom o)) s = argument_sound o.arg (and_parts (is_text o.name) (is_sound_argument o.arg) s).1
assigned_sound (does (Set p q value)) s = s
assigned_sound (does op) s = tt
assigned_sound (comes b) s = tt
assigned_sound (goes b) s = tt
assigned_sound (gets from class bytes r) s = tt

all_sound : (es : List Heard) → list_all is_sound_heard es ≡ true → AllAssignPassed is_sound es
all_sound [] s = tt
all_sound (e ∷ es) s = let parts = and_parts (is_sound_heard e) (list_all is_sound_heard es) s in (assigned_sound e parts.0, all_sound es parts.1)

-- each default is sound
sound_passed : IsPassed is_sound
sound_passed = record { nil = refl; default = λ p h. not_false (is_sound p.value) (or_parts (not (is_sound p.value)) (nat_lt 65536 (value_size p.value)) h).0 }

pub own_sound : (who : Who) (es : List Heard) → IsValidScene who.scene → AllAccepted who es → list_all is_sound_heard es ≡ true → (path prop : List ℕ) → is_sound (own_value who es path prop) ≡ true
own_sound who es v all s path prop = own_passes is_sound sound_passed who es v all (all_sound es s) path prop
