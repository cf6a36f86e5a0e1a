-- What is written of a line of a session is read as the line.
use Rattle.std.proofs.Common.{◌≡◌, ℕ, Bool, true, List, [], ◌∷◌, ◌++◌, Ok, Option, Some, None, refl, arith}
use Rattle.std.specs.Prelude.{ℤ, pos, negsuc, ◌&&◌, IsSome, nat_le}
use Rattle.std.specs.List.{list_all}
use Rattle.std.proofs.lemmas.Bool.{and_parts, and_from, le-leb, false≢true}
use Rattle.gd_variant.specs.declared.value.Variant.{Variant}
use Rattle.gd_variant.specs.Sound.{is_text, is_sound}
use Rattle.scene_model.specs.declared.scene.Prop.{Prop}
use Rattle.scene_model.specs.declared.event.Op.{Op}
use Rattle.scene_model.specs.declared.event.Op.TheVariants as op
use Rattle.scene_model.specs.declared.world.WorldEvent.TheVariants as event
use Rattle.session_text.specs.Json.{int_of}
use Rattle.line_text.specs.declared.sessions.SessionLine.TheVariants as line
use Rattle.line_text.specs.Parts.{word_read, nat_read, bool_read, array_read, none_of, one_of, two_of, three_of, two_read}
use Rattle.line_text.specs.Peers.{peer_read}
use Rattle.line_text.specs.Operations.{first_of, worded_read, four_of, setting_read, spawn_read, custom_spawn_read, despawn_read, sync_read, public_read, for_read, filter_read, frame_read, set_read, op_by, op_read}
use Rattle.line_text.specs.Sessions.{connect_read, down_read, at_peer_read, rel_read, report_read, line_by, line_read}
use Rattle.line_text.specs.Held.{held, prop_names, prop_values, op_values, is_peer, is_place, IsGiven}
use Rattle.line_text.specs.WrittenLines.{setting_data, sync_data, op_data, session_data, has_bytes, ReadsSessions}
use Rattle.line_text.proofs.ReadBack.{text_back, list_back, reads_written}

pub peer_back : (p : ℤ) → is_peer p ≡ true → peer_read (int_of p) ≡ Ok p
unfolding peer_read nat_read
peer_back (pos n) h = rw h refl
peer_back (negsuc n) h = absurd (false≢true h)

-- whether a setting is read back
abbrev is_right : Prop → Bool
is_right p = is_text p.name && (is_sound p.value && has_bytes p.value)

setting_back : (p : Prop) → is_right p ≡ true → setting_read (setting_data p) ≡ Ok p
unfolding setting_read two_read two_of array_read
setting_back p h =
    let q = and_parts (is_text p.name) (is_sound p.value && has_bytes p.value) h in
    let r = and_parts (is_sound p.value) (has_bytes p.value) q.1 in
    rw (text_back p.name q.0, reads_written p.value r.0 r.1) refl

are_right : (ps : List Prop) → list_all is_text (prop_names ps) ≡ true → list_all is_sound (prop_values ps) ≡ true → list_all has_bytes (prop_values ps) ≡ true → list_all is_right ps ≡ true
are_right [] names sound bytes = refl
are_right (p ∷ ps) names sound bytes =
    let a = and_parts (is_text p.name) (list_all is_text (prop_names ps)) names in
    let b = and_parts (is_sound p.value) (list_all is_sound (prop_values ps)) sound in
    let c = and_parts (has_bytes p.value) (list_all has_bytes (prop_values ps)) bytes in
    and_from (is_right p) _ (and_from (is_text p.name) _ a.0 (and_from (is_sound p.value) _ b.0 c.0)) (are_right ps a.1 b.1 c.1)

set_back : (path prop : List ℕ) (v : Variant) → is_text path ≡ true → is_text prop ≡ true → is_sound v ≡ true → has_bytes v ≡ true → op_read (op_data (op.Set path prop v)) ≡ Ok (op.Set path prop v)
unfolding op_read op_by worded_read first_of set_read three_of array_read word_read
set_back path prop v a b sound bytes = rw (text_back path a, text_back prop b, reads_written v sound bytes) refl

spawn_back : (spawner scene name : List ℕ) (sets : List Prop) → is_text spawner ≡ true → is_text scene ≡ true → is_text name ≡ true → list_all is_right sets ≡ true
    → op_read (op_data (op.Spawn (record { spawner = spawner; scene = Some scene; name = name; sets = sets; arg = None }))) ≡ Ok (op.Spawn (record { spawner = spawner; scene = Some scene; name = name; sets = sets; arg = None }))
unfolding op_read op_by worded_read first_of spawn_read four_of array_read word_read
spawn_back spawner scene name sets a b c right = rw (text_back spawner a, text_back scene b, text_back name c, list_back setting_read setting_data is_right setting_back sets right) refl

plain_spawn_back : (spawner : List ℕ) (scene : Option (List ℕ)) (name : List ℕ) (sets : List Prop) (arg : Option Variant) → IsSome scene → arg ≡ None → list_all is_text (spawner ∷ held scene ++ name ∷ prop_names sets) ≡ true → list_all is_sound (held arg ++ prop_values sets) ≡ true → list_all has_bytes (held arg ++ prop_values sets) ≡ true
    → op_read (op_data (op.Spawn (record { spawner = spawner; scene = scene; name = name; sets = sets; arg = arg }))) ≡ Ok (op.Spawn (record { spawner = spawner; scene = scene; name = name; sets = sets; arg = arg }))
plain_spawn_back spawner None name sets arg some none texts sound bytes = absurd (false≢true some)
plain_spawn_back spawner (Some scene) name sets (Some v) some none texts sound bytes = absurd cc
plain_spawn_back spawner (Some scene) name sets None some none texts sound bytes =
    let a = and_parts (is_text spawner) (list_all is_text (scene ∷ name ∷ prop_names sets)) texts in
    let b = and_parts (is_text scene) (list_all is_text (name ∷ prop_names sets)) a.1 in
    let c = and_parts (is_text name) (list_all is_text (prop_names sets)) b.1 in
    spawn_back spawner scene name sets a.0 b.0 c.0 (are_right sets c.1 sound bytes)

custom_back : (spawner name : List ℕ) (v : Variant) → is_text spawner ≡ true → is_text name ≡ true → is_sound v ≡ true → has_bytes v ≡ true
    → op_read (op_data (op.Custom (record { spawner = spawner; scene = None; name = name; sets = []; arg = Some v }))) ≡ Ok (op.Custom (record { spawner = spawner; scene = None; name = name; sets = []; arg = Some v }))
unfolding op_read op_by worded_read first_of custom_spawn_read three_of array_read word_read
custom_back spawner name v a b sound bytes = rw (text_back spawner a, text_back name b, reads_written v sound bytes) refl

plain_custom_back : (spawner : List ℕ) (scene : Option (List ℕ)) (name : List ℕ) (sets : List Prop) (arg : Option Variant) → scene ≡ None → sets ≡ [] → IsSome arg → list_all is_text (spawner ∷ held scene ++ name ∷ prop_names sets) ≡ true → list_all is_sound (held arg ++ prop_values sets) ≡ true → list_all has_bytes (held arg ++ prop_values sets) ≡ true
    → op_read (op_data (op.Custom (record { spawner = spawner; scene = scene; name = name; sets = sets; arg = arg }))) ≡ Ok (op.Custom (record { spawner = spawner; scene = scene; name = name; sets = sets; arg = arg }))
plain_custom_back spawner (Some scene) name sets arg none empty some texts sound bytes = absurd cc
plain_custom_back spawner None name (p ∷ ps) arg none empty some texts sound bytes = absurd cc
plain_custom_back spawner None name [] None none empty some texts sound bytes = absurd (false≢true some)
plain_custom_back spawner None name [] (Some v) none empty some texts sound bytes =
    let a = and_parts (is_text spawner) (list_all is_text (name ∷ [])) texts in
    let b = and_parts (is_text name) (list_all is_text []) a.1 in
    custom_back spawner name v a.0 b.0 (and_parts (is_sound v) (list_all is_sound []) sound).0 (and_parts (has_bytes v) (list_all has_bytes []) bytes).0

despawn_back : (path : List ℕ) → is_text path ≡ true → op_read (op_data (op.Despawn path)) ≡ Ok (op.Despawn path)
unfolding op_read op_by worded_read first_of despawn_read one_of array_read word_read
despawn_back path a = rw (text_back path a) refl

sync_back : (path : List ℕ) (k : ℕ) → is_text path ≡ true → is_place k ≡ true → sync_read (sync_data path k) ≡ Ok (path, k)
unfolding sync_read two_read two_of array_read nat_read
sync_back path k a b = rw (text_back path a, and_from (nat_le 0 k) (nat_le k 4294967295) (le-leb 0 k (omega arith)) b) refl

public_back : (path : List ℕ) (k : ℕ) (on : Bool) → is_text path ≡ true → is_place k ≡ true → op_read (op_data (op.Public path k on)) ≡ Ok (op.Public path k on)
unfolding op_read op_by worded_read first_of public_read two_of array_read word_read bool_read
public_back path k on a b = rw (sync_back path k a b) refl

for_back : (path : List ℕ) (k : ℕ) (peer : ℤ) (on : Bool) → is_text path ≡ true → is_place k ≡ true → is_peer peer ≡ true → op_read (op_data (op.For path k peer on)) ≡ Ok (op.For path k peer on)
unfolding op_read op_by worded_read first_of for_read three_of array_read word_read bool_read
for_back path k peer on a b c = rw (sync_back path k a b, peer_back peer c) refl

filter_back : (path : List ℕ) (k : ℕ) (peers : List ℤ) → is_text path ≡ true → is_place k ≡ true → list_all is_peer peers ≡ true → op_read (op_data (op.Filter path k peers)) ≡ Ok (op.Filter path k peers)
unfolding op_read op_by worded_read first_of filter_read two_of array_read word_read
filter_back path k peers a b c = rw (sync_back path k a b, list_back peer_read int_of is_peer peer_back peers c) refl

frame_back : op_read (op_data op.Frame) ≡ Ok op.Frame
unfolding op_read op_by worded_read first_of frame_read none_of array_read word_read
frame_back = refl

pub op_back : (o : Op) → IsGiven o → list_all has_bytes (op_values o) ≡ true → op_read (op_data o) ≡ Ok o
op_back (op.Spawn s) given bytes = plain_spawn_back s.spawner s.scene s.name s.sets s.arg given.spawn.0 given.spawn.1 given.texts given.values bytes
op_back (op.Set path prop v) given bytes =
    let a = and_parts (is_text path) (list_all is_text (prop ∷ [])) given.texts in
    let b = and_parts (is_text prop) (list_all is_text []) a.1 in
    let c = and_parts (is_sound v) (list_all is_sound []) given.values in
    let d = and_parts (has_bytes v) (list_all has_bytes []) bytes in
    set_back path prop v a.0 b.0 c.0 d.0
op_back (op.Custom s) given bytes = plain_custom_back s.spawner s.scene s.name s.sets s.arg given.spawn.0 given.spawn.1 given.spawn.2 given.texts given.values bytes
op_back (op.Despawn path) given bytes = despawn_back path (and_parts (is_text path) (list_all is_text []) given.texts).0
op_back (op.Public path k on) given bytes = public_back path k on (and_parts (is_text path) (list_all is_text []) given.texts).0 (and_parts (is_place k) (list_all is_place []) given.places).0
op_back (op.For path k peer on) given bytes = for_back path k peer on (and_parts (is_text path) (list_all is_text []) given.texts).0 (and_parts (is_place k) (list_all is_place []) given.places).0 (and_parts (is_peer peer) (list_all is_peer []) given.peers).0
op_back (op.Filter path k peers) given bytes = filter_back path k peers (and_parts (is_text path) (list_all is_text []) given.texts).0 (and_parts (is_place k) (list_all is_place []) given.places).0 given.peers
op_back (op.Call c) given bytes = absurd (false≢true given.built)
op_back (op.Raw to class b) given bytes = absurd (false≢true given.built)
op_back op.Frame given bytes = frame_back

down_back : (p : ℤ) → is_peer p ≡ true → line_read (session_data (line.Event (event.Down p))) ≡ Ok (line.Event (event.Down p))
unfolding line_read line_by worded_read first_of array_read word_read down_read one_of
down_back p peer = rw (peer_back p peer) refl

connect_back : line_read (session_data (line.Event event.Connect)) ≡ Ok (line.Event event.Connect)
unfolding line_read line_by worded_read first_of array_read word_read connect_read none_of
connect_back = refl

at_peer_back : (p : ℤ) (o : Op) → is_peer p ≡ true → op_read (op_data o) ≡ Ok o → line_read (session_data (line.Event (event.Op p o))) ≡ Ok (line.Event (event.Op p o))
unfolding line_read line_by worded_read first_of array_read word_read at_peer_read two_of
at_peer_back p o peer read = rw (peer_back p peer, read) refl

rel_back : (a b : ℤ) → is_peer a ≡ true → is_peer b ≡ true → line_read (session_data (line.Event (event.Rel a b))) ≡ Ok (line.Event (event.Rel a b))
unfolding line_read line_by worded_read first_of array_read word_read rel_read two_of
rel_back a b p q = rw (peer_back a p, peer_back b q) refl

report_back : (p : ℤ) → is_peer p ≡ true → line_read (session_data (line.Report p)) ≡ Ok (line.Report p)
unfolding line_read line_by worded_read first_of array_read word_read report_read one_of
report_back p peer = rw (peer_back p peer) refl

pub reads_sessions : ReadsSessions
reads_sessions (line.Event event.Connect) given bytes = connect_back
reads_sessions (line.Event (event.Op p o)) given bytes =
    let peers = and_parts (is_peer p) (list_all is_peer []) given.peers in
    at_peer_back p o peers.0 (op_back o (record { built = given.built; texts = given.texts; values = given.values; spawn = given.spawn; peers = given.named; places = given.places }) bytes)
reads_sessions (line.Event (event.Rel a b)) given bytes =
    let p = and_parts (is_peer a) (list_all is_peer (b ∷ [])) given.peers in
    let q = and_parts (is_peer b) (list_all is_peer []) p.1 in
    rel_back a b p.0 q.0
reads_sessions (line.Report p) given bytes =
    let peers = and_parts (is_peer p) (list_all is_peer []) given.peers in
    report_back p peers.0
reads_sessions (line.Event (event.Down p)) given bytes = down_back p (and_parts (is_peer p) (list_all is_peer []) given.peers).0
reads_sessions (line.Event (event.Loose a b i)) given bytes = absurd (false≢true given.built)
reads_sessions (line.Event (event.Forge p class b)) given bytes = absurd (false≢true given.built)
