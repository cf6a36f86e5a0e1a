-- The parts of entries are read as they were written.
use Rattle.std.proofs.Common.{◌≡◌, ℕ, ◌^◌, Option, Some, None, Bool, true, false, not, nat_lt, List, [], ◌∷◌, Ok, leb, refl, arith}
use Rattle.std.specs.Prelude.{ℤ, pos, negsuc, ◌&&◌, ◌||◌, nat_le}
use Rattle.std.specs.List.{list_any, list_all}
use Rattle.std.proofs.lemmas.Bool.{and_parts, and_from, or_parts, lt-ltb, ltb-true, le-leb}
use Rattle.serde_json.specs.Data.{string}
use Rattle.gd_variant.specs.Sound.{is_text, is_short, is_sound}
use Rattle.gd_variant.specs.Words.{text_eq}
use Rattle.scene_model.specs.declared.event.Class.{Class}
use Rattle.scene_model.specs.declared.event.Class.TheVariants as class
use Rattle.scene_model.specs.declared.scene.ReplMode.{ReplMode}
use Rattle.scene_model.specs.declared.scene.ReplMode.TheVariants as repl
use Rattle.scene_model.specs.declared.scene.RpcMode.{RpcMode}
use Rattle.scene_model.specs.declared.scene.RpcMode.TheVariants as rpc
use Rattle.scene_model.specs.declared.scene.Prop.{Prop}
use Rattle.scene_model.specs.declared.scene.Method.{Method}
use Rattle.scene_model.specs.declared.scene.Sets.{Sets}
use Rattle.scene_model.specs.declared.scene.SyncProp.{SyncProp}
use Rattle.scene_model.specs.declared.scene.SyncDef.{SyncDef}
use Rattle.scene_model.specs.declared.scene.CustomDef.{CustomDef}
use Rattle.scene_model.specs.declared.scene.SpawnerDef.{SpawnerDef}
use Rattle.scene_model.specs.Limits.{is_long}
use Rattle.scene_model.specs.Valid.{value_long}
use Rattle.session_text.specs.Json.{int_of, nat_of}
use Rattle.session_text.specs.Reasons.{class_name}
use Rattle.line_text.specs.Held.{held}
use Rattle.line_text.specs.WrittenLines.{cells, setting_data, has_bytes}
use Rattle.line_text.specs.Parts.{word_read, text_read, bool_read, nat_read, i64_read, i32_read, array_read, two_of, three_of, two_read, three_read, object_read, key_read, optional}
use Rattle.line_text.specs.Words.{class_read, repl_read, rpc_read}
use Rattle.line_text.specs.Scenes.{prop_read, sets_read, method_read, sync_prop_read, sync_of, node_sync_read, scene_sync_read, custom_read, spawner_read}
use Rattle.line_text.proofs.ReadBack.{text_back, list_back, reads_written}
use Rattle.scene_lines.specs.Typed.{is_typed_prop, is_typed_sets, is_typed_method, is_typed_sync_prop, is_typed_sync, is_typed_custom, is_typed_spawner, is_own}
use Rattle.scene_lines.specs.Written.{repl_name, rpc_name, method_data, sync_prop_data, node_sync_data, scene_sync_data, spawner_data}

-- ---- tests

pub both : {X : Type 0} (p q : X → Bool) (xs : List X) → list_all p xs ≡ true → list_all q xs ≡ true → list_all (λ x. p x && q x) xs ≡ true
both p q [] h k = refl
both p q (x ∷ xs) h k =
    let a = and_parts (p x) (list_all p xs) h in
    let b = and_parts (q x) (list_all q xs) k in
    and_from (p x && q x) _ (and_from (p x) (q x) a.0 b.0) (both p q xs a.1 b.1)

not_true : (a b : Bool) → (not a || b) ≡ false → a ≡ true
not_true true b h = refl
not_true false b h = absurd (cc h)

-- ---- numbers and words

nat_back : (high n : ℕ) → nat_le n high ≡ true → nat_read 0 high (nat_of n) ≡ Ok n
unfolding nat_read
nat_back high n h = let f : leb 0 n ≡ true = le-leb 0 n (omega arith) in rw (f, h) refl

pub short_back : (z : ℤ) → is_short z ≡ true → i32_read (int_of z) ≡ Ok z
unfolding i32_read i64_read
short_back (pos n) h = let e : nat_lt n (2 ^ 63) ≡ true = lt-ltb _ _ (omega (arith, ltb-true n (2 ^ 31) h)) in rw (e, h) refl
short_back (negsuc n) h = rw h refl

class_back : (c : Class) → class_read (string (class_name c)) ≡ Ok c
unfolding class_read word_read
class_back class.Unreliable = refl
class_back class.Ordered = refl
class_back class.Reliable = refl

repl_back : (m : ReplMode) → repl_read (string (repl_name m)) ≡ Ok m
unfolding repl_read word_read
repl_back repl.Never = refl
repl_back repl.Always = refl
repl_back repl.OnChange = refl

rpc_back : (m : RpcMode) → rpc_read (string (rpc_name m)) ≡ Ok m
unfolding rpc_read word_read
rpc_back rpc.Disabled = refl
rpc_back rpc.AnyPeer = refl
rpc_back rpc.Authority = refl

-- ---- properties

-- whether a property is as its types say, and its value sound
abbrev pub is_right_prop : Prop → Bool
is_right_prop p = is_typed_prop p && is_sound p.value

pub prop_back : (p : Prop) → is_right_prop p ≡ true → prop_read (setting_data p) ≡ Ok p
unfolding prop_read two_read two_of array_read
prop_back p h =
    let a = and_parts (is_typed_prop p) (is_sound p.value) h in
    let b = and_parts (is_text p.name) (has_bytes p.value) a.0 in
    rw (text_back p.name b.0, reads_written p.value a.1 b.1) refl

pub right_props : (ps : List Prop) → list_all is_typed_prop ps ≡ true → list_any value_long ps ≡ false → list_all is_right_prop ps ≡ true
right_props [] typed short = refl
right_props (p ∷ ps) typed short =
    let a = and_parts (is_typed_prop p) (list_all is_typed_prop ps) typed in
    let b = or_parts (value_long p) (list_any value_long ps) short in
    and_from (is_right_prop p) _ (and_from (is_typed_prop p) _ a.0 (not_true (is_sound p.value) (is_long p.value) b.0)) (right_props ps a.1 b.1)

-- ---- methods

sets_back : (s : Sets) → is_typed_sets s ≡ true → sets_read (cells (string s.prop ∷ nat_of s.arg ∷ [])) ≡ Ok (Some s)
unfolding sets_read two_read two_of array_read
sets_back s h =
    let a = and_parts (is_text s.prop) (nat_le s.arg 255) h in
    rw (text_back s.prop a.0, nat_back 255 s.arg a.1) refl

bare_method_back : (name : List ℕ) (mode : RpcMode) (local : Bool) (c : Class) (args : ℕ) → is_text name ≡ true → nat_le args 255 ≡ true
    → method_read (method_data (record { name = name; mode = mode; local = local; class = c; args = args; sets = None })) ≡ Ok (record { name = name; mode = mode; local = local; class = c; args = args; sets = None })
unfolding method_read object_read key_read optional bool_read
bare_method_back name mode local c args h k = rw (text_back name h, rpc_back mode, class_back c, nat_back 255 args k) refl

setting_method_back : (name : List ℕ) (mode : RpcMode) (local : Bool) (c : Class) (args : ℕ) (s : Sets) → is_text name ≡ true → nat_le args 255 ≡ true → is_typed_sets s ≡ true
    → method_read (method_data (record { name = name; mode = mode; local = local; class = c; args = args; sets = Some s })) ≡ Ok (record { name = name; mode = mode; local = local; class = c; args = args; sets = Some s })
unfolding method_read object_read key_read optional bool_read
setting_method_back name mode local c args s h k l = rw (text_back name h, rpc_back mode, class_back c, nat_back 255 args k, sets_back s l) refl

method_by : (name : List ℕ) (mode : RpcMode) (local : Bool) (c : Class) (args : ℕ) (sets : Option Sets) → is_text name ≡ true → nat_le args 255 ≡ true → list_all is_typed_sets (held sets) ≡ true
    → method_read (method_data (record { name = name; mode = mode; local = local; class = c; args = args; sets = sets })) ≡ Ok (record { name = name; mode = mode; local = local; class = c; args = args; sets = sets })
method_by name mode local c args None h k l = bare_method_back name mode local c args h k
method_by name mode local c args (Some s) h k l = setting_method_back name mode local c args s h k (and_parts (is_typed_sets s) true l).0

pub method_back : (m : Method) → is_typed_method m ≡ true → method_read (method_data m) ≡ Ok m
method_back m h =
    let a = and_parts (is_text m.name) (nat_le m.args 255 && list_all is_typed_sets (held m.sets)) h in
    let b = and_parts (nat_le m.args 255) (list_all is_typed_sets (held m.sets)) a.1 in
    method_by m.name m.mode m.local m.class m.args m.sets a.0 b.0 b.1

-- ---- synchronizers

sync_prop_back : (p : SyncProp) → is_typed_sync_prop p ≡ true → sync_prop_read (sync_prop_data p) ≡ Ok p
unfolding sync_prop_read three_read three_of array_read bool_read
sync_prop_back p h = rw (text_back p.prop h, repl_back p.mode) refl

pub node_sync_back : (s : SyncDef) → is_typed_sync s ≡ true → node_sync_read (node_sync_data s) ≡ Ok s
unfolding node_sync_read sync_of object_read key_read optional bool_read
node_sync_back s h =
    let a = and_parts (is_text s.of) (list_all is_typed_sync_prop s.props) h in
    rw (text_back s.of a.0, list_back sync_prop_read sync_prop_data is_typed_sync_prop sync_prop_back s.props a.1) refl

no_text : (t : List ℕ) → text_eq t [] ≡ true → t ≡ []
no_text [] h = refl
no_text (x ∷ t) h = absurd (cc h)

own_sync_back : (target : List ℕ) (public : Bool) (props : List SyncProp) → target ≡ [] → list_all is_typed_sync_prop props ≡ true
    → scene_sync_read (scene_sync_data (record { of = target; public = public; props = props })) ≡ Ok (record { of = target; public = public; props = props })
unfolding scene_sync_read sync_of object_read key_read optional bool_read
own_sync_back target public props e h = rw (e, list_back sync_prop_read sync_prop_data is_typed_sync_prop sync_prop_back props h) refl

-- whether a synchronizer is as its types say, and of the spawned node
abbrev pub is_right_sync : SyncDef → Bool
is_right_sync s = is_typed_sync s && is_own s

pub scene_sync_back : (s : SyncDef) → is_right_sync s ≡ true → scene_sync_read (scene_sync_data s) ≡ Ok s
scene_sync_back s h =
    let a = and_parts (is_typed_sync s) (is_own s) h in
    let b = and_parts (is_text s.of) (list_all is_typed_sync_prop s.props) a.0 in
    own_sync_back s.of s.public s.props (no_text s.of a.1) b.1

-- ---- spawners

custom_back : (c : CustomDef) → is_typed_custom c ≡ true → custom_read (cells (string c.scene ∷ string c.prop ∷ [])) ≡ Ok (Some c)
unfolding custom_read two_read two_of array_read
custom_back c h =
    let a = and_parts (is_text c.scene) (is_text c.prop) h in
    rw (text_back c.scene a.0, text_back c.prop a.1) refl

listing_spawner_back : (under : List ℕ) (scenes : List (List ℕ)) (limit : ℕ) → is_text under ≡ true → list_all is_text scenes ≡ true → nat_le limit 4294967295 ≡ true
    → spawner_read (spawner_data (record { under = under; scenes = scenes; limit = limit; custom = None })) ≡ Ok (record { under = under; scenes = scenes; limit = limit; custom = None })
unfolding spawner_read object_read key_read optional
listing_spawner_back under scenes limit h k l = rw (text_back under h, list_back text_read string is_text text_back scenes k, nat_back 4294967295 limit l) refl

custom_spawner_back : (under : List ℕ) (scenes : List (List ℕ)) (limit : ℕ) (c : CustomDef) → is_text under ≡ true → list_all is_text scenes ≡ true → nat_le limit 4294967295 ≡ true → is_typed_custom c ≡ true
    → spawner_read (spawner_data (record { under = under; scenes = scenes; limit = limit; custom = Some c })) ≡ Ok (record { under = under; scenes = scenes; limit = limit; custom = Some c })
unfolding spawner_read object_read key_read optional
custom_spawner_back under scenes limit c h k l m = rw (text_back under h, list_back text_read string is_text text_back scenes k, nat_back 4294967295 limit l, custom_back c m) refl

spawner_by : (under : List ℕ) (scenes : List (List ℕ)) (limit : ℕ) (custom : Option CustomDef) → is_text under ≡ true → list_all is_text scenes ≡ true → nat_le limit 4294967295 ≡ true → list_all is_typed_custom (held custom) ≡ true
    → spawner_read (spawner_data (record { under = under; scenes = scenes; limit = limit; custom = custom })) ≡ Ok (record { under = under; scenes = scenes; limit = limit; custom = custom })
spawner_by under scenes limit None h k l m = listing_spawner_back under scenes limit h k l
spawner_by under scenes limit (Some c) h k l m = custom_spawner_back under scenes limit c h k l (and_parts (is_typed_custom c) true m).0

pub spawner_back : (s : SpawnerDef) → is_typed_spawner s ≡ true → spawner_read (spawner_data s) ≡ Ok s
spawner_back s h =
    let a = and_parts (is_text s.under) (list_all is_text s.scenes && (nat_le s.limit 4294967295 && list_all is_typed_custom (held s.custom))) h in
    let b = and_parts (list_all is_text s.scenes) (nat_le s.limit 4294967295 && list_all is_typed_custom (held s.custom)) a.1 in
    let c = and_parts (nat_le s.limit 4294967295) (list_all is_typed_custom (held s.custom)) b.1 in
    spawner_by s.under s.scenes s.limit s.custom a.0 b.0 c.0 c.1
