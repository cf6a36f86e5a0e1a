-- The default values of a scene that was read are sound.
use Rattle.std.proofs.Common.{◌≡◌, ℕ, Bool, true, false, cond, List, [], ◌∷◌, Option, Some, None, Result, Ok, Err, refl, subst}
use Rattle.std.specs.List.{list_all}
use Rattle.std.specs.Prelude.{ℤ, pos, codes}
use Rattle.std.proofs.lemmas.Bool.{and_from}
use Rattle.serde_json.specs.Data.{Data, Items, no_items, item, Members}
use Rattle.serde_json.specs.Find.{get_member}
use Rattle.gd_variant.specs.declared.value.Variant.{Variant}
use Rattle.gd_variant.specs.Sound.{is_sound}
use Rattle.scene_model.specs.declared.scene.Method.{Method}
use Rattle.scene_model.specs.declared.scene.Node.{Node}
use Rattle.scene_model.specs.declared.scene.Prop.{Prop}
use Rattle.scene_model.specs.declared.scene.Role.{Role}
use Rattle.scene_model.specs.declared.scene.Scene.{Scene}
use Rattle.scene_model.specs.declared.scene.SceneDef.{SceneDef}
use Rattle.scene_model.specs.declared.scene.SyncDef.{SyncDef}
use Rattle.scene_check.specs.Judged.{HasSoundDefaults, def_is_sound, has_sound_value, node_is_sound}
use Rattle.program_edge.specs.declared.status.LineWhy.{LineWhy}
use Rattle.program_edge.specs.declared.status.LineWhy.TheVariants.{Range}
use Rattle.line_text.specs.Reading.{Reading, ◌>>=◌, each_read}
use Rattle.line_text.specs.Parts.{array_read, i32_read, key_read, list_read, needed, object_read, optional, or_default, text_read, two_read}
use Rattle.line_text.specs.Scenes.{def_keys, def_read, method_read, node_keys, node_read, prop_read, role_read, scene_keys, scene_read, scene_sync_read}
use Rattle.line_text.specs.Values.{form_read, value_read}

-- what is read, if anything is, has a property
record Gives {X : Type 0} (P : X → Type 0) (r : Result X LineWhy) : Type 0 where
  holds : (x : X) → r ≡ Ok x → P x

-- the same of a test
abbrev Passes : {X : Type 0} → (X → Bool) → Result X LineWhy → Type 0
Passes p r = Gives (λ x. p x ≡ true) r

abbrev ok : {X : Type 0} → X → Result X LineWhy
ok x = Ok x

same : {X : Type 0} (x y : X) → ok x ≡ ok y → x ≡ y
same x y e = cc

-- something is read
read_is : {X : Type 0} (P : X → Type 0) (x : X) → P x → Gives P (Ok x)
read_is P x h = record { holds = λ y e. subst P (same x y e) h }

read_none : {X : Type 0} (P : X → Type 0) (w : LineWhy) → Gives P (Err w)
read_none P w = record { holds = λ y e. absurd (cc) }

-- a step, and what comes of what it gives
then_any : {A B : Type 0} (P : B → Type 0) (r : Result A LineWhy) (f : A → Result B LineWhy) → ((x : A) → Gives P (f x)) → Gives P (r >>= f)
then_any P (Ok x) f k = k x
then_any P (Err w) f k = read_none P w

-- ---- properties

judged : (v : Variant) (b : Bool) → is_sound v ≡ b → Passes is_sound (cond b (Ok v) (Err Range))
judged v true is = read_is _ v is
judged v false is = read_none _ Range

value_sound : (d : Data) → Passes is_sound (value_read d)
unfolding value_read
value_sound d = then_any _ (form_read d) _ (λ v. judged v (is_sound v) refl)

prop_steps : (name : Result (List ℕ) LineWhy) (v : Result Variant LineWhy) → Passes is_sound v → Passes has_sound_value (name >>= λ n. (v >>= λ x. ok (record { name = n; value = x })))
prop_steps (Err w) v h = read_none _ w
prop_steps (Ok n) (Err w) h = read_none _ w
prop_steps (Ok n) (Ok x) h = read_is _ (record { name = n; value = x }) (h.holds x refl)

prop_sound : (d : Data) → Passes has_sound_value (prop_read d)
unfolding prop_read
prop_sound d = then_any _ (two_read d) _ (λ ds. prop_steps (text_read ds.0) (value_read ds.1) (value_sound ds.1))

-- ---- lists

item_steps : {X : Type 0} (right : X → Bool) (r : Result X LineWhy) (rs : Result (List X) LineWhy) → Passes right r → Passes (list_all right) rs → Passes (list_all right) (r >>= λ x. (rs >>= λ xs. ok (x ∷ xs)))
item_steps right (Err w) rs h k = read_none _ w
item_steps right (Ok x) (Err w) h k = read_none _ w
item_steps right (Ok x) (Ok xs) h k = read_is _ (x ∷ xs) (and_from (right x) (list_all right xs) (h.holds x refl) (k.holds xs refl))

-- what each item of an array gives passes a test
each_passes : {X : Type 0} (read : Reading X) (right : X → Bool) → ((d : Data) → Passes right (read d)) → (ds : Items) → Passes (list_all right) (each_read read ds)
unfolding each_read
each_passes read right one no_items = read_is _ [] refl
each_passes read right one (item d ds) = item_steps right (read d) (each_read read ds) (one d) (each_passes read right one ds)

list_passes : {X : Type 0} (read : Reading X) (right : X → Bool) → ((d : Data) → Passes right (read d)) → (d : Data) → Passes (list_all right) (list_read read d)
unfolding list_read
list_passes read right one d = then_any _ (array_read d) _ (λ ds. each_passes read right one ds)

-- the properties of a key that may be missing, and the entries of one that may not
some_props : (o : Option Data) → Passes (list_all has_sound_value) (optional [] (list_read prop_read) o)
unfolding optional
some_props None = read_is _ [] refl
some_props (Some d) = list_passes prop_read has_sound_value prop_sound d

needed_passes : {X : Type 0} (read : Reading X) (right : X → Bool) → ((d : Data) → Passes right (read d)) → (k : List ℕ) (ms : Members) → Passes (list_all right) (needed (list_read read) k ms)
needed_passes read right one k ms = then_any _ (key_read k ms) _ (λ d. list_passes read right one d)

-- ---- nodes, scenes and the whole

node_steps : (path : Result (List ℕ) LineWhy) (auth : Result ℤ LineWhy) (props : Result (List Prop) LineWhy) (methods : Result (List Method) LineWhy) (r : Result Role LineWhy) → Passes (list_all has_sound_value) props
    → Passes node_is_sound (path >>= λ p. (auth >>= λ a. (props >>= λ ps. (methods >>= λ ms. (r >>= λ x. ok (record { path = p; auth = a; props = ps; methods = ms; role = x }))))))
node_steps (Err w) auth props methods r h = read_none _ w
node_steps (Ok p) (Err w) props methods r h = read_none _ w
node_steps (Ok p) (Ok a) (Err w) methods r h = read_none _ w
node_steps (Ok p) (Ok a) (Ok ps) (Err w) r h = read_none _ w
node_steps (Ok p) (Ok a) (Ok ps) (Ok ms) (Err w) h = read_none _ w
node_steps (Ok p) (Ok a) (Ok ps) (Ok ms) (Ok x) h = read_is _ (record { path = p; auth = a; props = ps; methods = ms; role = x }) (h.holds ps refl)

node_sound : (d : Data) → Passes node_is_sound (node_read d)
unfolding node_read
node_sound d =
    then_any _ (object_read node_keys d) _ (λ ms.
    node_steps (needed text_read (codes "path") ms) (or_default (pos 1) i32_read (codes "auth") ms) (or_default [] (list_read prop_read) (codes "props") ms) (or_default [] (list_read method_read) (codes "methods") ms) (role_read ms)
    (some_props (get_member (codes "props") ms)))

def_steps : (name : Result (List ℕ) LineWhy) (props : Result (List Prop) LineWhy) (methods : Result (List Method) LineWhy) (syncs : Result (List SyncDef) LineWhy) → Passes (list_all has_sound_value) props
    → Passes def_is_sound (name >>= λ n. (props >>= λ ps. (methods >>= λ ms. (syncs >>= λ ss. ok (record { name = n; props = ps; methods = ms; syncs = ss })))))
def_steps (Err w) props methods syncs h = read_none _ w
def_steps (Ok n) (Err w) methods syncs h = read_none _ w
def_steps (Ok n) (Ok ps) (Err w) syncs h = read_none _ w
def_steps (Ok n) (Ok ps) (Ok ms) (Err w) h = read_none _ w
def_steps (Ok n) (Ok ps) (Ok ms) (Ok ss) h = read_is _ (record { name = n; props = ps; methods = ms; syncs = ss }) (h.holds ps refl)

def_sound : (d : Data) → Passes def_is_sound (def_read d)
unfolding def_read
def_sound d =
    then_any _ (object_read def_keys d) _ (λ ms.
    def_steps (needed text_read (codes "name") ms) (needed (list_read prop_read) (codes "props") ms) (needed (list_read method_read) (codes "methods") ms) (needed (list_read scene_sync_read) (codes "syncs") ms)
    (needed_passes prop_read has_sound_value prop_sound (codes "props") ms))

scene_steps : (nodes : Result (List Node) LineWhy) (scenes : Result (List SceneDef) LineWhy) → Passes (list_all node_is_sound) nodes → Passes (list_all def_is_sound) scenes → Gives HasSoundDefaults (nodes >>= λ ns. (scenes >>= λ ds. ok (record { nodes = ns; scenes = ds })))
scene_steps (Err w) scenes h k = read_none _ w
scene_steps (Ok ns) (Err w) h k = read_none _ w
scene_steps (Ok ns) (Ok ds) h k = read_is _ (record { nodes = ns; scenes = ds }) (record { nodes = h.holds ns refl; scenes = k.holds ds refl })

made : (d : Data) → Gives HasSoundDefaults (scene_read d)
unfolding scene_read
made d =
    then_any _ (object_read scene_keys d) _ (λ ms.
    scene_steps (needed (list_read node_read) (codes "nodes") ms) (needed (list_read def_read) (codes "scenes") ms)
    (needed_passes node_read node_is_sound node_sound (codes "nodes") ms) (needed_passes def_read def_is_sound def_sound (codes "scenes") ms))

pub scene_sound : (d : Data) (s : Scene) → scene_read d ≡ Ok s → HasSoundDefaults s
scene_sound d s e = (made d).holds s e
