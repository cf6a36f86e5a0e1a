-- A line that was read holds sound values, as the world asks for them.
use Rattle.std.proofs.Common.{◌≡◌, ℕ, true, List, [], ◌∷◌, ◌++◌, Option, Some, None, refl, sym, ◌∙◌, subst}
use Rattle.std.specs.Prelude.{◌&&◌, IsSome, is_some, is_none}
use Rattle.std.proofs.lemmas.Bool.{false≢true}
use Rattle.std.specs.List.{list_all}
use Rattle.std.proofs.lemmas.Bool.{and_from, and_parts}
use Rattle.std.proofs.lemmas.List.Folds.{list_all-append}
use Rattle.gd_variant.specs.Sound.{is_sound}
use Rattle.gd_variant.specs.declared.value.Variant.{Variant}
use Rattle.scene_model.specs.declared.scene.Prop.{Prop}
use Rattle.scene_model.specs.declared.event.SpawnOp.{SpawnOp}
use Rattle.scene_model.specs.declared.event.Op.TheVariants.{Spawn, Custom, Despawn, Set, Public, For, Filter, Call, Raw, Frame}
use Rattle.scene_model.specs.declared.world.WorldEvent.{WorldEvent}
use Rattle.scene_model.specs.declared.world.WorldEvent.TheVariants.{Connect, Down, Op, Rel, Loose, Forge}
use Rattle.line_text.specs.declared.sessions.SessionLine.{SessionLine}
use Rattle.line_text.specs.declared.sessions.SessionLine.TheVariants as line
use Rattle.line_text.specs.Held.{held, prop_names, prop_values, IsGivenLine}
use Rattle.peer_laws.specs.Built.{is_empty}
use Rattle.peer_steps.specs.Arguments.{is_sound_argument}
use Rattle.world_steps.specs.Sound.{has_sound, has_sound_values, is_built_event}

-- settings have sound values where these are
settings_are_sound : (ps : List Prop) → list_all is_sound (prop_values ps) ≡ true → list_all has_sound ps ≡ true
settings_are_sound [] h = refl
settings_are_sound (p ∷ ps) h =
    let parts = and_parts (is_sound p.value) (list_all is_sound (prop_values ps)) h in
    and_from (has_sound p) (list_all has_sound ps) parts.0 (settings_are_sound ps parts.1)

spawn_is_sound : (o : SpawnOp) → list_all is_sound (held o.arg ++ prop_values o.sets) ≡ true → list_all has_sound o.sets ≡ true
spawn_is_sound o values = settings_are_sound o.sets (and_parts (list_all is_sound (held o.arg)) (list_all is_sound (prop_values o.sets)) (sym (list_all-append is_sound (held o.arg) (prop_values o.sets)) ∙ values)).1

argument_is_sound : (arg : Option Variant) → list_all is_sound (held arg) ≡ true → is_sound_argument arg ≡ true
argument_is_sound None h = refl
argument_is_sound (Some v) h = (and_parts (is_sound v) true h).0

event_is_sound : (e : WorldEvent) → IsGivenLine (line.Event e) → has_sound_values e ≡ true
event_is_sound Connect g = refl
event_is_sound (Down p) g = refl
event_is_sound (Op p (Spawn o)) g = spawn_is_sound o g.values
event_is_sound (Op p (Custom o)) g = argument_is_sound o.arg (and_parts (list_all is_sound (held o.arg)) (list_all is_sound (prop_values o.sets)) (sym (list_all-append is_sound (held o.arg) (prop_values o.sets)) ∙ g.values)).0
event_is_sound (Op p (Despawn path)) g = refl
event_is_sound (Op p (Set path prop value)) g = (and_parts (is_sound value) true g.values).0
event_is_sound (Op p (Public path k on)) g = refl
event_is_sound (Op p (For path k peer on)) g = refl
event_is_sound (Op p (Filter path k peers)) g = refl
event_is_sound (Op p (Call c)) g = refl
event_is_sound (Op p (Raw to class bytes)) g = refl
event_is_sound (Op p Frame) g = refl
event_is_sound (Rel a b) g = refl
event_is_sound (Loose a b i) g = refl
event_is_sound (Forge p class bytes) g = refl

pub given_is_sound : (l : SessionLine) (e : WorldEvent) → l ≡ line.Event e → IsGivenLine l → has_sound_values e ≡ true
given_is_sound l e is g = event_is_sound e (subst IsGivenLine is g)

-- such a line is one that the world knows

plain_is_built : (scene : Option (List ℕ)) (arg : Option Variant) → IsSome scene → arg ≡ None → (is_some scene && is_none arg) ≡ true
plain_is_built None arg some none = absurd (false≢true some)
plain_is_built (Some s) None some none = refl
plain_is_built (Some s) (Some v) some none = absurd cc

custom_is_built : (scene : Option (List ℕ)) (sets : List Prop) (arg : Option Variant) → scene ≡ None → sets ≡ [] → IsSome arg → (is_none scene && (is_empty sets && is_some arg)) ≡ true
custom_is_built (Some s) sets arg none empty some = absurd cc
custom_is_built None (p ∷ ps) arg none empty some = absurd cc
custom_is_built None [] None none empty some = absurd (false≢true some)
custom_is_built None [] (Some v) none empty some = refl

event_is_built : (e : WorldEvent) → IsGivenLine (line.Event e) → is_built_event e ≡ true
event_is_built Connect g = refl
event_is_built (Down p) g = refl
event_is_built (Op p (Spawn o)) g = plain_is_built o.scene o.arg g.spawn.0 g.spawn.1
event_is_built (Op p (Custom o)) g = custom_is_built o.scene o.sets o.arg g.spawn.0 g.spawn.1 g.spawn.2
event_is_built (Op p (Despawn path)) g = refl
event_is_built (Op p (Set path prop value)) g = refl
event_is_built (Op p (Public path k on)) g = refl
event_is_built (Op p (For path k peer on)) g = refl
event_is_built (Op p (Filter path k peers)) g = refl
event_is_built (Op p (Call c)) g = absurd (false≢true g.built)
event_is_built (Op p (Raw to class bytes)) g = absurd (false≢true g.built)
event_is_built (Op p Frame) g = refl
event_is_built (Rel a b) g = refl
event_is_built (Loose a b i) g = absurd (false≢true g.built)
event_is_built (Forge p class bytes) g = absurd (false≢true g.built)

pub given_is_built : (l : SessionLine) (e : WorldEvent) → l ≡ line.Event e → IsGivenLine l → is_built_event e ≡ true
given_is_built l e is g = event_is_built e (subst IsGivenLine is g)
