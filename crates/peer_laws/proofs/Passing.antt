-- A test on values that the scene's defaults and all that is assigned pass, own values pass.
use Rattle.std.proofs.Common.{◌≡◌, ℕ, Bool, true, false, not, ◌&&◌, List, [], ◌∷◌, refl, sym, ap, ◌∙◌, reverse, is_some, Option, Some, None, Ok, Err}
use Rattle.std.specs.Prelude.{find, is_none, option_map, option_and_then, cond, if◌then◌else◌}
use Rattle.std.specs.List.{list_any, list_all}
use Rattle.std.proofs.lemmas.Bool.{true≢false, and_parts, and_from, or_parts}
use Rattle.std.proofs.lemmas.Grind.{reverse_onto}
use Rattle.gd_variant.specs.Words.{text_eq, some_is, or_else, first_some}
use Rattle.gd_variant.specs.declared.value.Variant.{Variant}
use Rattle.gd_variant.specs.declared.value.Variant.TheVariants.{Nil}
use Rattle.gd_variant.specs.declared.message.Plain.TheVariants as packet
use Rattle.gd_variant.specs.declared.message.Message.TheVariants.{Plain as plain_packet}
use Rattle.scene_model.specs.declared.scene.Node.{Node}
use Rattle.scene_model.specs.declared.scene.SceneDef.{SceneDef}
use Rattle.scene_model.specs.declared.scene.Prop.{Prop}
use Rattle.scene_model.specs.declared.event.SpawnOp.{SpawnOp}
use Rattle.scene_model.specs.declared.event.Op.TheVariants.{Spawn, Custom, Despawn, Set, Public, For, Filter, Frame}
use Rattle.scene_model.specs.Lookup.{fixed_node, scene_at, value_in}
use Rattle.scene_model.specs.Valid.{IsValidScene, node_why, scene_why, value_long}
use Rattle.peer_model.specs.Heard.{Who, Heard, does, comes, goes, gets}
use Rattle.peer_model.specs.Rows.{spawned_path, spawned_scene}
use Rattle.peer_model.specs.Values.{own_value, default_value, start_value, argument_for, argument_prop, scene_made, props_in, assigns}
use Rattle.headless_tree.proofs.Numbered.{unnot, all_at}
use Rattle.peer_laws.specs.Built.{Accepts, AllAccepted, is_empty}
use Rattle.peer_laws.proofs.Places.{all_found}
use Rattle.peer_laws.proofs.Each.{all_joined}
use Rattle.peer_laws.proofs.Scenes.{nodes_right, scenes_right, right_node, right_def, all_right}

-- a test that Nil passes, and each default of a valid scene
pub record IsPassed (ok : Variant → Bool) : Type 0 where
  pub nil : ok Nil ≡ true
  pub default : (p : Prop) → value_long p ≡ false → ok p.value ≡ true

-- whether the value of a property passes
abbrev pub passes : (Variant → Bool) → Prop → Bool
passes ok p = ok p.value

-- whether a value passes, where there is one
abbrev pub ok_if : (Variant → Bool) → Option Variant → Bool
ok_if ok None = true
ok_if ok (Some v) = ok v

-- what an event assigns passes
abbrev pub AssignsPassed : (Variant → Bool) → Heard → Type 0
AssignsPassed ok (does (Spawn o)) = list_all (passes ok) o.sets ≡ true
AssignsPassed ok (does (Custom o)) = ok_if ok o.arg ≡ true
AssignsPassed ok (does (Set path prop value)) = ok value ≡ true
AssignsPassed ok e = Unit {0}

-- so with each of them
abbrev pub AllAssignPassed : (Variant → Bool) → List Heard → Type 0
AllAssignPassed ok [] = Unit {0}
AllAssignPassed ok (e ∷ es) = AssignsPassed ok e × AllAssignPassed ok es

else_passes : (ok : Variant → Bool) (o : Option Variant) (d : Variant) → ok_if ok o ≡ true → ok d ≡ true → ok (or_else o d) ≡ true
else_passes ok None d h k = k
else_passes ok (Some v) d h k = h

first_passes : (ok : Variant → Bool) (o p : Option Variant) → ok_if ok o ≡ true → ok_if ok p ≡ true → ok_if ok (first_some o p) ≡ true
first_passes ok None p h k = k
first_passes ok (Some v) p h k = h

if_passes : (ok : Variant → Bool) (b : Bool) (v : Variant) → ok v ≡ true → ok_if ok (if b then Some v else None) ≡ true
if_passes ok true v h = h
if_passes ok false v h = refl

-- values of properties

value_in_passes : (ok : Variant → Bool) (props : List Prop) (name : List ℕ) → list_all (passes ok) props ≡ true → ok_if ok (value_in props name) ≡ true
value_in_passes ok [] name h = refl
value_in_passes ok (p ∷ ps) name h =
    let parts = and_parts (passes ok p) (list_all (passes ok) ps) h in
    step (text_eq p.name name) parts.0 (value_in_passes ok ps name parts.1)
  where
    step : (b : Bool) → ok p.value ≡ true → ok_if ok (value_in ps name) ≡ true → ok_if ok (option_map (λ (x : Prop). x.value) (cond b (Some p) (find (λ (x : Prop). text_eq x.name name) ps))) ≡ true
    step true here later = here
    step false here later = later

defaults_pass : (ok : Variant → Bool) → IsPassed ok → (props : List Prop) → list_any value_long props ≡ false → list_all (passes ok) props ≡ true
defaults_pass ok k [] h = refl
defaults_pass ok k (p ∷ ps) h =
    let parts = or_parts (value_long p) (list_any value_long ps) h in
    and_from (passes ok p) (list_all (passes ok) ps) (k.default p parts.0) (defaults_pass ok k ps parts.1)

reverse_passes : (ok : Variant → Bool) (props : List Prop) → list_all (passes ok) props ≡ true → list_all (passes ok) (reverse props) ≡ true
reverse_passes ok [] h = refl
reverse_passes ok (p ∷ ps) h =
    let parts = and_parts (passes ok p) (list_all (passes ok) ps) h in
    ap (list_all (passes ok)) (reverse_onto ps p []) ∙ all_joined (passes ok) (reverse ps) (p ∷ []) (reverse_passes ok ps parts.1) (and_from (passes ok p) true parts.0 refl)

-- scenes

abbrev node_passes : Node → Bool
node_passes n = not (list_any value_long n.props)

abbrev def_passes : SceneDef → Bool
def_passes d = not (list_any value_long d.props)

default_passes : (ok : Variant → Bool) → IsPassed ok → (who : Who) → IsValidScene who.scene → (path prop : List ℕ) → ok (default_value who path prop) ≡ true
default_passes ok k who v path prop = else_passes ok (option_and_then (λ (n : Node). value_in n.props prop) (fixed_node who.scene path)) Nil (step (fixed_node who.scene path) refl) k.nil
  where
    step : (o : Option Node) → fixed_node who.scene path ≡ o → ok_if ok (option_and_then (λ (n : Node). value_in n.props prop) o) ≡ true
    step None e = refl
    step (Some n) e = value_in_passes ok n.props prop (defaults_pass ok k n.props (unnot (list_any value_long n.props)
        (all_found node_passes (λ (m : Node). text_eq m.path path) who.scene.nodes n (all_right (node_why who.scene) node_passes (λ earlier m h. ap not (right_node who.scene earlier m h).short) [] who.scene.nodes (nodes_right who.scene v)) e)))

made_passes : (ok : Variant → Bool) → IsPassed ok → (who : Who) → IsValidScene who.scene → (o : SpawnOp) → list_all (passes ok) (props_in (scene_made who o)) ≡ true
made_passes ok k who v o = step (spawned_scene who o)
  where
    by_def : (place : ℕ) (d : Option SceneDef) → scene_at who.scene place ≡ d → list_all (passes ok) (props_in d) ≡ true
    by_def place None e = refl
    by_def place (Some d) e = defaults_pass ok k d.props (unnot (list_any value_long d.props)
        (all_at def_passes who.scene.scenes place d e (all_right scene_why def_passes (λ earlier m h. ap not (right_def earlier m h).short) [] who.scene.scenes (scenes_right who.scene v))))

    step : (place : Option ℕ) → list_all (passes ok) (props_in (option_and_then (scene_at who.scene) place)) ≡ true
    step None = refl
    step (Some place) = by_def place (scene_at who.scene place) refl

-- events

start_passes : (ok : Variant → Bool) → IsPassed ok → (who : Who) (o : SpawnOp) → IsValidScene who.scene → list_all (passes ok) o.sets ≡ true → ok_if ok o.arg ≡ true → (prop : List ℕ) → ok (start_value who o prop) ≡ true
start_passes ok k who o v s a prop =
    let set = value_in (reverse o.sets) prop in
    let argument = argument_for who o prop in
    let default = value_in (props_in (scene_made who o)) prop in
    else_passes ok (first_some set (first_some argument default)) Nil
    (first_passes ok set (first_some argument default)
    (value_in_passes ok (reverse o.sets) prop (reverse_passes ok o.sets s))
    (first_passes ok argument default (given (some_is (text_eq prop) (argument_prop who o)) o.arg a) (value_in_passes ok (props_in (scene_made who o)) prop (made_passes ok k who v o)))) k.nil
  where
    given : (b : Bool) (arg : Option Variant) → ok_if ok arg ≡ true → ok_if ok (if b then arg else None) ≡ true
    given true arg h = h
    given false arg h = refl

-- a spawn by scene has no argument, and a custom one no settings

no_argument : (ok : Variant → Bool) (o : Option Variant) → is_none o ≡ true → ok_if ok o ≡ true
no_argument ok None h = refl
no_argument ok (Some v) h = absurd (cc h)

no_sets : (ok : Variant → Bool) (sets : List Prop) → is_empty sets ≡ true → list_all (passes ok) sets ≡ true
no_sets ok [] h = refl
no_sets ok (p ∷ ps) h = absurd (cc h)

assigned_passes : (ok : Variant → Bool) → IsPassed ok → (who : Who) (es : List Heard) (e : Heard) → IsValidScene who.scene → Accepts who es e → AssignsPassed ok e → (path prop : List ℕ) → ok_if ok (assigns who es e path prop) ≡ true
assigned_passes ok k who es (does (Spawn o)) v h s path prop = if_passes ok (text_eq (spawned_path who o) path) (start_value who o prop) (start_passes ok k who o v s (no_argument ok o.arg (and_parts (is_some o.scene) (is_none o.arg) h.built).1) prop)
assigned_passes ok k who es (does (Custom o)) v h s path prop =
    if_passes ok (text_eq (spawned_path who o) path) (start_value who o prop) (start_passes ok k who o v (no_sets ok o.sets (and_parts (is_empty o.sets) (is_some o.arg) (and_parts (is_none o.scene) (is_empty o.sets && is_some o.arg) h.built).1).0) s prop)
assigned_passes ok k who es (does (Set p q value)) v h s path prop = if_passes ok (text_eq p path && text_eq q prop) value s
assigned_passes ok k who es (does (Despawn p)) v h s path prop = refl
assigned_passes ok k who es (does (Public p n on)) v h s path prop = refl
assigned_passes ok k who es (does (For p n b on)) v h s path prop = refl
assigned_passes ok k who es (does (Filter p n bs)) v h s path prop = refl
assigned_passes ok k who es (does Frame) v h s path prop = refl
assigned_passes ok k who es (does op) v h s path prop = absurd (true≢false (sym h.built))
assigned_passes ok k who es (comes b) v h s path prop = refl
assigned_passes ok k who es (goes b) v h s path prop = refl
assigned_passes ok k who es (gets from class bytes (Ok (plain_packet (packet.Spawn scene spawner net syncs name arg values)))) v h s path prop = refl
assigned_passes ok k who es (gets from class bytes (Ok (plain_packet (packet.Despawn net)))) v h s path prop = refl
assigned_passes ok k who es (gets from class bytes (Ok (plain_packet (packet.Delta entries)))) v h s path prop = refl
assigned_passes ok k who es (gets from class bytes (Ok m)) v h s path prop = absurd (true≢false (sym h.built))
assigned_passes ok k who es (gets from class bytes (Err bad)) v h s path prop = refl

-- each own value passes
pub own_passes : (ok : Variant → Bool) → IsPassed ok → (who : Who) (es : List Heard) → IsValidScene who.scene → AllAccepted who es → AllAssignPassed ok es → (path prop : List ℕ) → ok (own_value who es path prop) ≡ true
own_passes ok k who [] v all s path prop = default_passes ok k who v path prop
own_passes ok k who (e ∷ es) v all s path prop = else_passes ok (assigns who es e path prop) (own_value who es path prop) (assigned_passes ok k who es e v all.0 s.0 path prop) (own_passes ok k who es v all.1 s.1 path prop)
