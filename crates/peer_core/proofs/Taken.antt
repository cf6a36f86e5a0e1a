-- What the parts of a peer make is one step on what it keeps, and the parts fit afterwards.
use Rattle.std.proofs.Common.{◌≡◌, ◌-◌, ◌+◌, ℕ, zero, suc, ℤ, Bool, true, false, ◌&&◌, ◌||◌, List, [], ◌∷◌, ◌++◌, refl, sym, ap, ap₂, ◌∙◌, subst, length, take, nat_eq, Option, Some, None, arith, length-append}
use Rattle.std.specs.Prelude.{slice_get, is_some, is_none, int_lt, map, option_map, option_and_then, IfOk, Result, Ok, Err, if◌then◌else◌}
use Rattle.std.specs.Ordering.{int_eq}
use Rattle.std.specs.List.{list_all}
use Rattle.std.proofs.lemmas.Bool.{and_parts}
use Rattle.gd_variant.specs.Sound.{is_sound}
use Rattle.gd_variant.specs.Words.{has_int, or_else, put_by, some_is}
use Rattle.gd_variant.specs.declared.value.Variant.{Variant}
use Rattle.gd_variant.specs.declared.text.OutOfMemory.{OutOfMemory}
use Rattle.gd_variant.specs.declared.message.Message.{Message}
use Rattle.gd_variant.specs.declared.message.Bad.{Bad}
use Rattle.scene_model.specs.declared.scene.Prop.{Prop}
use Rattle.scene_model.specs.declared.scene.Scene.{Scene}
use Rattle.scene_model.specs.declared.spawn.SpawnMsg.{SpawnMsg}
use Rattle.scene_model.specs.declared.event.SpawnOp.{SpawnOp}
use Rattle.scene_model.specs.declared.outcome.Outcome.{Outcome}
use Rattle.scene_model.specs.declared.outcome.Outcome.TheVariants.{Refused}
use Rattle.scene_model.specs.declared.outcome.Out.{Out}
use Rattle.scene_model.specs.declared.outcome.Fault.{Fault}
use Rattle.scene_model.specs.declared.outcome.Refusal.{Refusal}
use Rattle.scene_model.specs.declared.outcome.Refusal.TheVariants.{BadPeer}
use Rattle.scene_model.specs.Valid.{IsValidScene}
use Rattle.peer_model.specs.Updates.{Live, live_at}
use Rattle.std.proofs.lemmas.List.{map-append}
use Rattle.headless_tree.specs.Nodes.{TreeOf}
use Rattle.headless_tree.proofs.Numbered.{all_at}
use Rattle.peer_laws.proofs.Places.{all_found}
use Rattle.peer_laws.specs.Built.{is_empty}
use Rattle.sight_laws.specs.Sights.{RowSight, Sights, row_sees, shown_to_new}
use Rattle.peer_steps.specs.declared.rows.SpawnedRow.{SpawnedRow}
use Rattle.peer_steps.specs.Arguments.{is_right_spawn, is_sound_argument}
use Rattle.peer_steps.specs.Calls.{shown_to_each}
use Rattle.peer_steps.specs.Fits.{Fits}
use Rattle.peer_steps.specs.Judged.{lacks_server, link_judged, set_judged, set_nodes, despawn_judged, sight_judged}
use Rattle.peer_steps.specs.Kept.{Kept, kept_tree, new_peer}
use Rattle.peer_steps.specs.Peers.{Peers, no_peers, comes_judged, peers_after, peer_comes, peer_goes, without_peer}
use Rattle.peer_steps.specs.Sites.{who_at, own_made}
use Rattle.peer_steps.specs.Sound.{is_sound_spawn, is_sound_read, is_sound_message}
use Rattle.peer_steps.specs.Steps.{Taken, unchanged, done_with, row_packet, sent_to, up_answer, up_taken, link_taken, track_came, told_came, spawn_answer, spawn_told, spawn_taken, shows_of, sight_told, row_told as told_row, frame_told, frame_by, frame_taken, entries_to, with_packets, despawn_answer, despawn_taken, answer_by, shifts, row_shifts, sight_shifts, sight_taken, row_read, message_taken, linked_taken, read_taken}
use Rattle.peer_steps.specs.Track.{Track, Spawned, Despawned, Sighted, SightChange, first_track, track_after, own_spawn, shown_spawn, hidden_row, tree_without, track_down, seen_by, shown_of, number_at, row_with, is_row, despawned_by, own_despawn, sighted_by, sight_at, own_sighted}
use Rattle.peer_steps.proofs.Fitting.{fits_start, fits_without, fits_hidden, fits_despawn, fits_up, fits_down, fits_set, fits_spawn, fits_shown}
use Rattle.delta_props.specs.Telling.{ToldValues}
use Rattle.spawn_track.specs.Judging.{IsDespawned}
use Rattle.spawn_track.specs.Numbers.{row_at, row_number_of}
use Rattle.spawn_track.specs.declared.track.Gone.{Gone}
use Rattle.spawn_track.proofs.Tracked.{tracked_start, tracked_up, tracked_down, tracked_set, tracked_despawn, tracked_spawn}
use Rattle.peer_steps.specs.Tellings.{hidden_from_all, ids_with, frame_to}
use Rattle.peer_core.specs.declared.messages.RowNews.{RowNews}
use Rattle.peer_core.specs.declared.messages.RowNews.TheVariants.{Appears}
use Rattle.peer_core.specs.Forms.{packet_form}
use Rattle.peer_core.specs.Parts.{AreRight, parts_kept, news_of, own_row, shown_before, row_told, seen_at, as_list, gone_answer, gone_told, newest_told, shift_told, frame_parts}

-- a step of the parts of a peer that isn't spent is one of that peer
pub by_parts : (f : Kept → Taken) (x : Taken) (k : Kept) (s : Bool) (p : Peers) (t : TreeOf) (r : Track) (old : ToldValues) → parts_kept s p t r old ≡ k → k.spent ≡ false → x ≡ f (parts_kept false p t r old) → x ≡ f k
by_parts f x k s p t r old is live made = made ∙ ap f (ap (λ b. parts_kept b p t r old) (sym (ap (λ (j : Kept). j.spent) is ∙ live)) ∙ is)

-- what is kept with other peers, and with other nodes and own rows

with_peers : (p ps : Peers) (t : TreeOf) (r w v : Track) (old new later : ToldValues) → ps.me ≡ p.me → w ≡ v → new ≡ later → parts_kept false ps t w new ≡ record (parts_kept false p t r old) { peers = ps; track = v; told = later }
with_peers p ps t r w v old new later same track tells = ap₂ {C = Kept} (λ (me : ℤ) (x : Track × ToldValues). record (parts_kept false p t r old) { who = record { id = me; scene = t.scene }; peers = ps; track = x.0; told = x.1 }) same (ap₂ (λ (a : Track) (b : ToldValues). (a, b)) track tells)

with_nodes : (p : Peers) (t u : TreeOf) (r w : Track) (old new : ToldValues) → u.scene ≡ t.scene → parts_kept false p u w new ≡ record (parts_kept false p t r old) { nodes = u.nodes; track = w; told = new }
with_nodes p t u r w old new same = ap (λ (s : Scene). record (parts_kept false p t r old) { who = record { id = p.me; scene = s }; nodes = u.nodes; track = w; told = new }) same

-- a link that comes up

-- the peer that knows the others keeps its number
comes_me : (b : ℤ) (p : Peers) → (peer_comes b p).1.me ≡ p.me
comes_me b p = by (comes_judged p b)
  where
    by : (r : Option Refusal) → (peers_after r b p).me ≡ p.me
    by (Some r) = refl
    by None = refl

-- to whom rows are shown changes not who sees them
sees_same : (b : ℤ) (v : RowSight) → row_sees (shown_to_new b v) b ≡ row_sees v b
sees_same b v = by (row_sees v b)
  where
    by : (c : Bool) → row_sees (if c then record v { shown = put_by int_lt b v.shown } else v) b ≡ row_sees v b
    by true = refl
    by false = refl

seen_same : (b : ℤ) (rs : List SpawnedRow) (vs : List RowSight) → seen_by b rs (map (shown_to_new b) vs) ≡ seen_by b rs vs
seen_same b [] vs = refl
seen_same b (r ∷ rs) [] = refl
seen_same b (r ∷ rs) (v ∷ vs) = ap₂ (λ c qs. if c then r ∷ qs else qs) (sees_same b v) (seen_same b rs vs)

up_same : (k : Kept) (ps : Peers) (b : ℤ) (f : Option Refusal) → up_answer packet_form (record k { peers = ps; track = track_came f b k.track; told = told_came f b k }) b f ≡ up_answer packet_form k b f
up_same k ps b (Some r) = refl
up_same k ps b None = ap (λ rs. done_with (map (λ q. sent_to packet_form b (row_packet k.who.scene k.nodes q)) rs)) (seen_same b k.track.rows k.track.sights.rows)

pub link_is : (p ps : Peers) (t : TreeOf) (r w : Track) (old new : ToldValues) (b : ℤ) (f : Option Refusal) (o : Outcome) → lacks_server p.me b ≡ false → (f, ps) ≡ peer_comes b p → w ≡ track_came f b r → new ≡ told_came f b (parts_kept false p t r old) → o ≡ up_answer packet_form (parts_kept false ps t w new) b f
    → record { outcome = o; kept = parts_kept false ps t w new } ≡ link_taken packet_form (parts_kept false p t r old) b
link_is p ps t r w old new b f o linked made shown tells answer =
    let k = parts_kept false p t r old in
    let same = with_peers p ps t r w (track_came f b r) old new (told_came f b k) (ap (λ (x : Option Refusal × Peers). x.1.me) made ∙ comes_me b p) shown tells in
    ap₂ {C = Taken} (λ (x : Outcome) (j : Kept). record { outcome = x; kept = j }) (answer ∙ ap (λ j. up_answer packet_form j b f) same ∙ up_same k ps b f) same
    ∙ ap (up_taken packet_form k b) made
    ∙ sym (ap (λ c. if c then unchanged k (Refused BadPeer) else up_taken packet_form k b (peer_comes b p)) linked)

-- the packets that show all rows to a peer that came up
pub up_shown : (k : Kept) (s : Bool) (p : Peers) (t : TreeOf) (r : Track) (old : ToldValues) (b : ℤ) (f : Option Refusal) (packets : List Out) (o : Outcome) → parts_kept s p t r old ≡ k → f ≡ None
    → packets ≡ map (λ q. sent_to packet_form b (row_packet t.scene t.nodes q)) (seen_by b r.rows r.sights.rows) → o ≡ done_with packets → o ≡ up_answer packet_form k b f
up_shown k s p t r old b f packets o is none packed done = done ∙ ap done_with packed ∙ ap₂ (λ j g. up_answer packet_form j b g) is (sym none)

pub if_linked : (x : Result Outcome OutOfMemory) (k : Kept) (s : Bool) (p ps : Peers) (t : TreeOf) (r w : Track) (old new : ToldValues) (b : ℤ) (f : Option Refusal) → parts_kept s p t r old ≡ k → k.spent ≡ false → lacks_server p.me b ≡ false → (f, ps) ≡ peer_comes b p → w ≡ track_came f b r → new ≡ told_came f b (parts_kept false p t r old)
    → IfOk x (λ o. o ≡ up_answer packet_form (parts_kept false ps t w new) b f) → IfOk x (λ o. ◌≡◌ {A = Taken} (record { outcome = o; kept = parts_kept false ps t w new }) (link_taken packet_form k b))
if_linked (Ok o) k s p ps t r w old new b f is live linked made shown tells answer = by_parts (λ j. link_taken packet_form j b) (record { outcome = o; kept = parts_kept false ps t w new }) k s p t r old is live (link_is p ps t r w old new b f o linked made shown tells answer)
if_linked (Err e) k s p ps t r w old new b f is live linked made shown tells answer = tt

up_track : (me b : ℤ) (t : TreeOf) (r : Track) (f : Option Refusal) → AreRight me t r → AreRight me t (track_came f b r)
up_track me b t r (Some e) h = h
up_track me b t r None h = record { fits = fits_up me b t r h.fits; tracked = tracked_up b r h.tracked }

pub up_right : (p ps : Peers) (t : TreeOf) (r w : Track) (b : ℤ) (f : Option Refusal) → ps.me ≡ p.me → w ≡ track_came f b r → AreRight p.me t r → AreRight ps.me t w
up_right p ps t r w b f same shown h = subst (λ me. AreRight me t w) (sym same) (subst (λ (x : Track). AreRight p.me t x) (sym shown) (up_track p.me b t r f h))

-- a link that goes down

goes_me : (b : ℤ) (p : Peers) → (peer_goes b p).1.me ≡ p.me
goes_me b p = by (has_int b p.up)
  where
    by : (c : Bool) → (if c then without_peer b p else p).me ≡ p.me
    by true = refl
    by false = refl

pub down_me : (p ps : Peers) (b : ℤ) (c : Bool) → (c, ps) ≡ peer_goes b p → ps.me ≡ p.me
down_me p ps b c made = ap (λ (x : Bool × Peers). x.1.me) made ∙ goes_me b p

pub down_right : (p ps : Peers) (t u : TreeOf) (r w : Track) (b : ℤ) (c : Bool) → (c, ps) ≡ peer_goes b p → u ≡ tree_without b t → w ≡ track_down b r → AreRight p.me t r → AreRight ps.me u w
down_right p ps t u r w b c made gone left h =
    subst (λ me. AreRight me u w) (sym (down_me p ps b c made)) (subst (λ (v : TreeOf). AreRight p.me v w) (sym gone) (subst (λ (x : Track). AreRight p.me (tree_without b t) x) (sym left)
    (record { fits = fits_down p.me b (tree_without b t) r (fits_without p.me b t r h.fits); tracked = tracked_down b r h.tracked })))

pub apart_right : (p ps : Peers) (t : TreeOf) (r : Track) (b : ℤ) (c : Bool) → (c, ps) ≡ peer_goes b p → AreRight p.me t r → AreRight ps.me t r
apart_right p ps t r b c made h = subst (λ me. AreRight me t r) (sym (down_me p ps b c made)) h

-- an assignment

pub assign_right : (p : Peers) (t u : TreeOf) (r : Track) (me : ℤ) (path prop : List ℕ) (value : Variant) (f : Option Refusal) → me ≡ p.me → is_sound value ≡ true
    → f ≡ set_judged (record { id = me; scene = t.scene }) t.nodes path prop value → u ≡ record t { nodes = set_nodes f path prop value t.nodes } → AreRight p.me t r → AreRight p.me u r
assign_right p t u r me path prop value f same sound judged made h = record {
  fits = subst (λ (v : TreeOf). Fits p.me v r) (sym made)
      (fits_set (record { id = p.me; scene = t.scene }) path prop value t r sound h.fits f (sym (judged ∙ ap (λ (m : ℤ). set_judged (record { id = m; scene = t.scene }) t.nodes path prop value) same)));
  tracked = h.tracked;
}

-- what an operation that is built has

built_scene : (o : SpawnOp) → (is_some o.scene && is_none o.arg) ≡ true → is_right_spawn o ≡ true
built_scene o h = ap (λ c. c || (is_none o.scene && (is_empty o.sets && is_some o.arg))) h

built_custom : (a b : Bool) → b ≡ true → (a || b) ≡ true
built_custom true b h = refl
built_custom false b h = h

pub scene_right : (o : SpawnOp) → (is_some o.scene && is_none o.arg) ≡ true → (is_right_spawn o ≡ true) × (is_sound_argument o.arg ≡ true)
scene_right o h = (built_scene o h, none_sound o.arg (and_parts (is_some o.scene) (is_none o.arg) h).1)
  where
    none_sound : (arg : Option Variant) → is_none arg ≡ true → is_sound_argument arg ≡ true
    none_sound None k = refl
    none_sound (Some v) k = absurd (cc k)

pub custom_right : (o : SpawnOp) → (is_none o.scene && (is_empty o.sets && is_some o.arg)) ≡ true → (is_right_spawn o ≡ true) × (list_all (λ (q : Prop). is_sound q.value) o.sets ≡ true)
custom_right o h = (built_custom (is_some o.scene && is_none o.arg) (is_none o.scene && (is_empty o.sets && is_some o.arg)) h, no_sets o.sets (and_parts (is_empty o.sets) (is_some o.arg) (and_parts (is_none o.scene) (is_empty o.sets && is_some o.arg) h).1).0)
  where
    no_sets : (sets : List Prop) → is_empty sets ≡ true → list_all (λ (q : Prop). is_sound q.value) sets ≡ true
    no_sets [] k = refl
    no_sets (q ∷ qs) k = absurd (cc k)

-- an own spawn

-- the newest of some rows
newest : {X : Type 0} (xs : List X) (x : X) → slice_get (xs ++ x ∷ []) (length (xs ++ x ∷ []) - 1) ≡ Some x
newest {X} xs x = subst (λ n. slice_get (xs ++ x ∷ []) n ≡ Some x) (sym (count xs)) (at_end xs)
  where
    at_end : (ys : List X) → slice_get (ys ++ x ∷ []) (length ys) ≡ Some x
    at_end [] = refl
    at_end (y ∷ ys) = at_end ys

    count : (ys : List X) → length (ys ++ x ∷ []) - 1 ≡ length ys
    count ys = omega (arith, length-append ys (x ∷ []))

pub shows_newest : (k : Kept) (s : Bool) (p : Peers) (t : TreeOf) (r : Track) (old : ToldValues) (row last : SpawnedRow) (shown : List ℤ) (packets : List Out) (o : Outcome) → parts_kept s p t r old ≡ k → Some last ≡ Some row → shown ≡ shown_of last.num r.sights
    → packets ≡ shown_to_each packet_form t.scene t.nodes shown last → o ≡ done_with packets → o ≡ done_with (shows_of packet_form k row)
shows_newest k s p t r old row last shown packets o is same to packed done =
    done ∙ ap done_with (packed ∙ ap (λ bs. shown_to_each packet_form t.scene t.nodes bs last) to)
    ∙ ap₂ (λ (j : Kept) (x : SpawnedRow). done_with (shows_of packet_form j x)) is (ap (λ x. or_else x last) same)

spawned : (p : Peers) (t u : TreeOf) (r w : Track) (old new : ToldValues) (op : SpawnOp) (f : Option Refusal) (o : Outcome) → record { refused = f; track = w; tree = u } ≡ own_spawn p.me p.up op r t
    → new ≡ spawn_told (parts_kept false p u w old) (own_made p.me t.scene r.next op) f
    → o ≡ spawn_answer packet_form (parts_kept false p u w old) (own_made p.me t.scene r.next op) f
    → record { outcome = o; kept = parts_kept false p u w new } ≡ spawn_taken packet_form (parts_kept false p t r old) op (own_spawn p.me p.up op r t)
spawned p t u r w old new op f o made tells answer =
    let k = parts_kept false p t r old in
    let row = own_made p.me t.scene r.next op in
    let scene = ap (λ (s : Spawned). s.tree.scene) made in
    let same = with_nodes p t u r w old old scene in
    ap₂ {C = Taken} (λ (x : Outcome) (j : Kept). record { outcome = x; kept = j }) (answer ∙ ap (λ j. spawn_answer packet_form j row f) same)
    (with_nodes p t u r w old new scene ∙ ap (λ (d : ToldValues). record k { nodes = u.nodes; track = w; told = d }) (tells ∙ ap (λ j. spawn_told j row f) same))
    ∙ ap (spawn_taken packet_form k op) made

-- the row that a spawn makes is the newest
pub newest_made : (p : Peers) (t u : TreeOf) (r w : Track) (op : SpawnOp) (f : Option Refusal) → record { refused = f; track = w; tree = u } ≡ own_spawn p.me p.up op r t → f ≡ None
    → slice_get w.rows (length w.rows - 1) ≡ Some (own_made p.me t.scene r.next op)
newest_made p t u r w op f made is =
    subst (λ (rows : List SpawnedRow). slice_get rows (length rows - 1) ≡ Some (own_made p.me t.scene r.next op))
    (sym (ap (λ (s : Spawned). s.track.rows) made ∙ ap (λ g. (track_after p.me p.up t.scene op g r).rows) (sym (ap (λ (s : Spawned). s.refused) made) ∙ is)))
    (newest r.rows (own_made p.me t.scene r.next op))

pub spawn_is : (p : Peers) (t u : TreeOf) (r w : Track) (old new : ToldValues) (op : SpawnOp) (f : Option Refusal) (o : Outcome) → record { refused = f; track = w; tree = u } ≡ own_spawn p.me p.up op r t → f ≡ None
    → new ≡ spawn_told (parts_kept false p u w old) (own_made p.me t.scene r.next op) f
    → o ≡ done_with (shows_of packet_form (parts_kept false p u w new) (own_made p.me t.scene r.next op))
    → record { outcome = o; kept = parts_kept false p u w new } ≡ spawn_taken packet_form (parts_kept false p t r old) op (own_spawn p.me p.up op r t)
spawn_is p t u r w old new op f o made is tells answer = spawned p t u r w old new op f o made tells (answer ∙ sym (ap (spawn_answer packet_form (parts_kept false p u w old) (own_made p.me t.scene r.next op)) is))

-- a spawn, by the number and the peers that were given
own_same : (p : Peers) (me : ℤ) (up : List ℤ) (op : SpawnOp) (r : Track) (t : TreeOf) → me ≡ p.me → up ≡ p.up → own_spawn me up op r t ≡ own_spawn p.me p.up op r t
own_same p me up op r t same ups = ap₂ (λ (m : ℤ) (bs : List ℤ). own_spawn m bs op r t) same ups

-- the parts are right after an own spawn, and after a received one

pub spawn_right : (p : Peers) (t u : TreeOf) (r w : Track) (me : ℤ) (up : List ℤ) (op : SpawnOp) (f : Option Refusal) → me ≡ p.me → up ≡ p.up → is_right_spawn op ≡ true → list_all (λ (q : Prop). is_sound q.value) op.sets ≡ true → is_sound_argument op.arg ≡ true
    → record { refused = f; track = w; tree = u } ≡ own_spawn me up op r t → AreRight p.me t r → AreRight p.me u w
spawn_right p t u r w me up op f same ups right sound argument made h =
    subst (λ (s : Spawned). AreRight p.me s.tree s.track) (sym (made ∙ own_same p me up op r t same ups))
    (record { fits = fits_spawn p.me p.up t r op right sound argument h.fits; tracked = tracked_spawn p.me p.up op r t h.tracked })

pub shown_right : (p : Peers) (t u : TreeOf) (r : Track) (from : ℤ) (m : SpawnMsg) (f : Option Fault) → int_eq from p.me ≡ false → is_sound_spawn m ≡ true → (f, u) ≡ shown_spawn from m t → AreRight p.me t r → AreRight p.me u r
shown_right p t u r from m f other sound made h = record { fits = subst (λ (x : Option Fault × TreeOf). Fits p.me x.1 r) (sym made) (fits_shown p.me from t r m other sound h.fits); tracked = h.tracked }

pub hidden_right : (p : Peers) (t u : TreeOf) (r : Track) (from : ℤ) (net : ℕ) (f : Option Fault) → (f, u) ≡ hidden_row from net t → AreRight p.me t r → AreRight p.me u r
hidden_right p t u r from net f made h = record { fits = subst (λ (x : Option Fault × TreeOf). Fits p.me x.1 r) (sym made) (fits_hidden p.me from net t r h.fits); tracked = h.tracked }

-- the same of a peer that isn't spent

pub if_spawned : (x : Result Outcome OutOfMemory) (k : Kept) (s : Bool) (p : Peers) (t u : TreeOf) (r w : Track) (old new : ToldValues) (me : ℤ) (up : List ℤ) (op : SpawnOp) (f : Option Refusal) → parts_kept s p t r old ≡ k → k.spent ≡ false → me ≡ p.me → up ≡ p.up
    → record { refused = f; track = w; tree = u } ≡ own_spawn me up op r t → f ≡ None
    → new ≡ newest_told u w (slice_get w.rows (length w.rows - 1)) old
    → ((row : SpawnedRow) → slice_get w.rows (length w.rows - 1) ≡ Some row → IfOk x (λ o. o ≡ done_with (shows_of packet_form (parts_kept false p u w new) row)))
    → IfOk x (λ o. ◌≡◌ {A = Taken} (record { outcome = o; kept = parts_kept false p u w new }) (spawn_taken packet_form k op (own_spawn k.who.id k.peers.up op k.track (kept_tree k))))
if_spawned (Ok o) k s p t u r w old new me up op f is live same ups made none tells answer =
    let own = made ∙ own_same p me up op r t same ups in
    by_parts (λ j. spawn_taken packet_form j op (own_spawn j.who.id j.peers.up op j.track (kept_tree j))) (record { outcome = o; kept = parts_kept false p u w new }) k s p t r old is live
    (spawn_is p t u r w old new op f o own none (tells ∙ ap (λ q. newest_told u w q old) (newest_made p t u r w op f own none) ∙ sym (ap (spawn_told (parts_kept false p u w old) (own_made p.me t.scene r.next op)) none)) (answer (own_made p.me t.scene r.next op) (newest_made p t u r w op f own none)))
if_spawned (Err e) k s p t u r w old new me up op f is live same ups made none tells answer = tt

pub spawn_no : (k : Kept) (s : Bool) (p : Peers) (t u : TreeOf) (r w : Track) (old new : ToldValues) (me : ℤ) (up : List ℤ) (op : SpawnOp) (f : Option Refusal) (e : Refusal) → parts_kept s p t r old ≡ k → k.spent ≡ false → me ≡ p.me → up ≡ p.up
    → record { refused = f; track = w; tree = u } ≡ own_spawn me up op r t → f ≡ Some e → new ≡ old
    → ◌≡◌ {A = Taken} (record { outcome = Refused e; kept = parts_kept false p u w new }) (spawn_taken packet_form k op (own_spawn k.who.id k.peers.up op k.track (kept_tree k)))
spawn_no k s p t u r w old new me up op f e is live same ups made why tells =
    by_parts (λ j. spawn_taken packet_form j op (own_spawn j.who.id j.peers.up op j.track (kept_tree j))) (record { outcome = Refused e; kept = parts_kept false p u w new }) k s p t r old is live
    (spawned p t u r w old new op f (Refused e) (made ∙ own_same p me up op r t same ups) (tells ∙ sym (ap (spawn_told (parts_kept false p u w old) (own_made p.me t.scene r.next op)) why)) (sym (ap (spawn_answer packet_form (parts_kept false p u w old) (own_made p.me t.scene r.next op)) why)))

-- an own despawn

despawned_scene : (path : List ℕ) (num : ℕ) (r : Track) (t : TreeOf) (f : Option Refusal) → (despawned_by path num r t f).tree.scene ≡ t.scene
despawned_scene path num r t (Some e) = refl
despawned_scene path num r t None = refl

despawned_num : (path : List ℕ) (num : ℕ) (r : Track) (t : TreeOf) (f : Option Refusal) → (despawned_by path num r t f).num ≡ num
despawned_num path num r t (Some e) = refl
despawned_num path num r t None = refl

despawned : (p : Peers) (t : TreeOf) (r : Track) (old new : ToldValues) (me : ℤ) (path : List ℕ) (d : Despawned) → me ≡ p.me → d ≡ own_despawn me path r t → new ≡ hidden_from_all (ids_with d.num r.rows) d.shown old
    → record { outcome = despawn_answer packet_form d; kept = parts_kept false p d.tree d.track new } ≡ despawn_taken packet_form (parts_kept false p t r old) (own_despawn p.me path r t)
despawned p t r old new me path d own made tells =
    let same = made ∙ ap (λ (m : ℤ). own_despawn m path r t) own in
    let scene = ap (λ (x : Despawned). x.tree.scene) same ∙ despawned_scene path (number_at t.nodes path) r t (despawn_judged (who_at p.me t.scene) t.nodes path) in
    ap {B = Taken} (λ (j : Kept). record { outcome = despawn_answer packet_form d; kept = j }) (with_nodes p t d.tree r d.track old new scene ∙ ap (λ (x : ToldValues). record (parts_kept false p t r old) { nodes = d.tree.nodes; track = d.track; told = x }) tells)
    ∙ ap (despawn_taken packet_form (parts_kept false p t r old)) same

pub despawn_right : (p : Peers) (t : TreeOf) (r : Track) (me : ℤ) (path : List ℕ) (d : Despawned) → me ≡ p.me → d ≡ own_despawn me path r t → AreRight p.me t r → AreRight p.me d.tree d.track
despawn_right p t r me path d own made h =
    subst (λ (x : Despawned). AreRight p.me x.tree x.track) (sym (made ∙ ap (λ (m : ℤ). own_despawn m path r t) own))
    (record { fits = fits_despawn p.me path t r h.fits; tracked = tracked_despawn p.me path r t h.tracked })

pub despawn_is : (k : Kept) (s : Bool) (p : Peers) (t : TreeOf) (r : Track) (old new : ToldValues) (me : ℤ) (path : List ℕ) (d : Despawned) (o : Outcome) → parts_kept s p t r old ≡ k → k.spent ≡ false → me ≡ p.me → d ≡ own_despawn me path r t → new ≡ hidden_from_all (ids_with d.num r.rows) d.shown old → o ≡ despawn_answer packet_form d
    → ◌≡◌ {A = Taken} (record { outcome = o; kept = parts_kept false p d.tree d.track new }) (despawn_taken packet_form k (own_despawn k.who.id path k.track (kept_tree k)))
despawn_is k s p t r old new me path d o is live own made tells answer =
    by_parts (λ j. despawn_taken packet_form j (own_despawn j.who.id path j.track (kept_tree j))) (record { outcome = o; kept = parts_kept false p d.tree d.track new }) k s p t r old is live
    (ap {B = Taken} (λ (x : Outcome). record { outcome = x; kept = parts_kept false p d.tree d.track new }) answer ∙ despawned p t r old new me path d own made tells)

-- the same, by what the call answers

pub despawn_kept : (x : Result Gone Refusal) (p : Peers) (t u : TreeOf) (r w : Track) (me : ℤ) (path : List ℕ) → me ≡ p.me → IsDespawned (own_despawn me path r t) (number_at t.nodes path) w u x → AreRight p.me t r → AreRight p.me u w
despawn_kept (Ok g) p t u r w me path own made h = despawn_right p t r me path (record { refused = None; num = g.num; shown = g.shown.items; track = w; tree = u }) own made h
despawn_kept (Err e) p t u r w me path own made h = despawn_right p t r me path (record { refused = Some e; num = number_at t.nodes path; shown = []; track = w; tree = u }) own made h

pub if_despawned : (y : Result Outcome OutOfMemory) (x : Result Gone Refusal) (k : Kept) (s : Bool) (p : Peers) (t u : TreeOf) (r w : Track) (old new : ToldValues) (me : ℤ) (path : List ℕ) → parts_kept s p t r old ≡ k → k.spent ≡ false → me ≡ p.me → IsDespawned (own_despawn me path r t) (number_at t.nodes path) w u x → new ≡ gone_told (ids_with (number_at t.nodes path) r.rows) x old
    → IfOk y (λ o. o ≡ gone_answer x) → IfOk y (λ o. ◌≡◌ {A = Taken} (record { outcome = o; kept = parts_kept s p u w new }) (despawn_taken packet_form k (own_despawn k.who.id path k.track (kept_tree k))))
if_despawned (Err e) x k s p t u r w old new me path is live own made tells answer = tt
if_despawned (Ok o) x k s p t u r w old new me path is live own made tells answer =
    ap {B = Taken} (λ (b : Bool). record { outcome = o; kept = parts_kept b p u w new }) (ap (λ (j : Kept). j.spent) is ∙ live) ∙ by x made tells answer
  where
    by : (z : Result Gone Refusal) → IsDespawned (own_despawn me path r t) (number_at t.nodes path) w u z → new ≡ gone_told (ids_with (number_at t.nodes path) r.rows) z old → o ≡ gone_answer z → ◌≡◌ {A = Taken} (record { outcome = o; kept = parts_kept false p u w new }) (despawn_taken packet_form k (own_despawn k.who.id path k.track (kept_tree k)))
    by (Ok g) m q a =
        let num = ap (λ (d : Despawned). d.num) m ∙ despawned_num path (number_at t.nodes path) r t (despawn_judged (who_at me t.scene) t.nodes path) in
        despawn_is k s p t r old new me path (record { refused = None; num = g.num; shown = g.shown.items; track = w; tree = u }) o is live own m (q ∙ ap (λ n. hidden_from_all (ids_with n r.rows) g.shown.items old) (sym num)) a
    by (Err e) m q a = despawn_is k s p t r old new me path (record { refused = Some e; num = number_at t.nodes path; shown = []; track = w; tree = u }) o is live own m q a

-- a setting of visibility

sighted_rows : (up : List ℤ) (path : List ℕ) (n : ℕ) (c : SightChange) (r : Track) (t : TreeOf) (f : Option Refusal) → (sighted_by up path n c r t f).track.rows ≡ r.rows
sighted_rows up path n c r t (Some e) = refl
sighted_rows up path n c r t None = refl

-- what is told of a row, by those to which it was shown before
told_is : (k : Kept) (w : Track) (before : List ℤ) (q : Option SpawnedRow) → before ≡ shown_before k q → row_told packet_form (record k { track = w }) before q ≡ row_shifts packet_form k w.sights q
told_is k w before None same = refl
told_is k w before (Some q) same = ap (λ bs. shifts packet_form (row_packet k.who.scene k.nodes q) q.num bs (shown_of q.num w.sights) k.peers.up) same

own_shifts : (k : Kept) (path : List ℕ) (v : Sights) → row_shifts packet_form k v (own_row k path) ≡ sight_shifts packet_form k path v
own_shifts k path v = by (is_row (live_at k.nodes path))
  where
    by : (b : Bool) → row_shifts packet_form k v (option_and_then (λ num. row_with num k.track.rows) (if b then Some (number_at k.nodes path) else None))
        ≡ (if b then row_shifts packet_form k v (row_with (number_at k.nodes path) k.track.rows) else [])
    by true = refl
    by false = refl

-- what was told of a row, by those to which it was shown before
shifted_is : (k : Kept) (w : Track) (q : Option SpawnedRow) → shift_told (kept_tree k) k.peers.up w (shown_before k q) q k.told ≡ told_row k w.sights q
shifted_is k w None = refl
shifted_is k w (Some q) = refl

own_told : (k : Kept) (path : List ℕ) (v : Sights) → told_row k v (own_row k path) ≡ sight_told k path v None
own_told k path v = by (is_row (live_at k.nodes path))
  where
    by : (b : Bool) → told_row k v (option_and_then (λ num. row_with num k.track.rows) (if b then Some (number_at k.nodes path) else None))
        ≡ (if b then told_row k v (row_with (number_at k.nodes path) k.track.rows) else k.told)
    by true = refl
    by false = refl

sighted : (p : Peers) (t : TreeOf) (r w : Track) (old new : ToldValues) (me : ℤ) (up : List ℤ) (path : List ℕ) (n : ℕ) (c : SightChange) (f : Option Refusal) (o : Outcome) → me ≡ p.me → up ≡ p.up
    → record { refused = f; track = w } ≡ own_sighted me up path n c r t → new ≡ sight_told (parts_kept false p t r old) path w.sights f → o ≡ answer_by f (sight_shifts packet_form (parts_kept false p t r old) path w.sights)
    → record { outcome = o; kept = parts_kept false p t w new } ≡ sight_taken packet_form (parts_kept false p t r old) path (own_sighted p.me p.up path n c r t)
sighted p t r w old new me up path n c f o own ups made tells answer =
    ap₂ {C = Taken} (λ (x : Outcome) (d : ToldValues). record { outcome = x; kept = parts_kept false p t w d }) answer tells
    ∙ ap (sight_taken packet_form (parts_kept false p t r old) path) (made ∙ ap₂ (λ (m : ℤ) (bs : List ℤ). own_sighted m bs path n c r t) own ups)

pub sight_right : (p : Peers) (t : TreeOf) (r w : Track) (me : ℤ) (up : List ℤ) (path : List ℕ) (n : ℕ) (c : SightChange) (f : Option Refusal) → record { refused = f; track = w } ≡ own_sighted me up path n c r t → AreRight p.me t r → AreRight p.me t w
sight_right p t r w me up path n c f made h =
    subst (λ (x : Sighted). AreRight p.me t x.track) (sym made) (right_by (sight_judged (who_at me t.scene) t.nodes path n (some_is c.is_full (sight_at r.sights (live_at t.nodes path) path n))))
  where
    right_by : (g : Option Refusal) → AreRight p.me t (sighted_by up path n c r t g).track
    right_by (Some e) = h
    right_by None = record {
      fits = record { valid = h.fits.valid; values = h.fits.values; rows = h.fits.rows; before = h.fits.before };
      tracked = tracked_set up path n c r t h.tracked;
    }

pub sight_no : (k : Kept) (s : Bool) (p : Peers) (t : TreeOf) (r w : Track) (old new : ToldValues) (me : ℤ) (up : List ℤ) (path : List ℕ) (n : ℕ) (c : SightChange) (f : Option Refusal) (e : Refusal) → parts_kept s p t r old ≡ k → k.spent ≡ false → me ≡ p.me → up ≡ p.up
    → record { refused = f; track = w } ≡ own_sighted me up path n c r t → f ≡ Some e → new ≡ old
    → ◌≡◌ {A = Taken} (record { outcome = Refused e; kept = parts_kept false p t w new }) (sight_taken packet_form k path (own_sighted k.who.id k.peers.up path n c k.track (kept_tree k)))
sight_no k s p t r w old new me up path n c f e is live own ups made why tells =
    by_parts (λ j. sight_taken packet_form j path (own_sighted j.who.id j.peers.up path n c j.track (kept_tree j))) (record { outcome = Refused e; kept = parts_kept false p t w new }) k s p t r old is live
    (sighted p t r w old new me up path n c f (Refused e) own ups made (tells ∙ sym (ap (sight_told (parts_kept false p t r old) path w.sights) why)) (sym (ap (λ g. answer_by g (sight_shifts packet_form (parts_kept false p t r old) path w.sights)) why)))

pub if_sighted : (x : Result Outcome OutOfMemory) (k : Kept) (s : Bool) (p : Peers) (t : TreeOf) (r w : Track) (old new : ToldValues) (me : ℤ) (up : List ℤ) (path : List ℕ) (n : ℕ) (c : SightChange) (f : Option Refusal) (before given : List ℤ) → parts_kept s p t r old ≡ k → k.spent ≡ false → me ≡ p.me → up ≡ p.up
    → record { refused = f; track = w } ≡ own_sighted me up path n c r t → f ≡ None → given ≡ before → before ≡ shown_before k (own_row k path)
    → new ≡ shift_told t p.up w given (row_at t.nodes path w.rows) old
    → IfOk x (λ o. o ≡ done_with (row_told packet_form (parts_kept false p t w new) given (own_row (parts_kept false p t w new) path)))
    → IfOk x (λ o. ◌≡◌ {A = Taken} (record { outcome = o; kept = parts_kept false p t w new }) (sight_taken packet_form k path (own_sighted k.who.id k.peers.up path n c k.track (kept_tree k))))
if_sighted (Err e) k s p t r w old new me up path n c f before given is live own ups made none same shown tells answer = tt
if_sighted (Ok o) k s p t r w old new me up path n c f before given is live own ups made none same shown tells answer =
    let first = same ∙ shown ∙ sym (ap (λ (j : Kept). shown_before j (own_row j path)) is) in
    let rows = ap (λ (x : Sighted). x.track.rows) made ∙ sighted_rows up path n c r t (sight_judged (who_at me t.scene) t.nodes path n (some_is c.is_full (sight_at r.sights (live_at t.nodes path) path n))) in
    by_parts (λ j. sight_taken packet_form j path (own_sighted j.who.id j.peers.up path n c j.track (kept_tree j))) (record { outcome = o; kept = parts_kept false p t w new }) k s p t r old is live
    (sighted p t r w old new me up path n c f o own ups made
    (tells
    ∙ ap₂ (λ bs rows. shift_told t p.up w bs (row_at t.nodes path rows) old) first rows
    ∙ shifted_is (parts_kept false p t r old) w (own_row (parts_kept false p t r old) path) ∙ own_told (parts_kept false p t r old) path w.sights
    ∙ sym (ap (sight_told (parts_kept false p t r old) path w.sights) none))
    (answer
    ∙ ap₂ (λ bs qs. done_with (row_told packet_form (parts_kept false p t w new) bs (row_at t.nodes path qs))) first rows
    ∙ ap done_with (told_is (parts_kept false p t r old) w (shown_before (parts_kept false p t r old) (own_row (parts_kept false p t r old) path)) (own_row (parts_kept false p t r old) path) refl ∙ own_shifts (parts_kept false p t r old) path w.sights)
    ∙ sym (ap (λ g. answer_by g (sight_shifts packet_form (parts_kept false p t r old) path w.sights)) none)))

-- a frame

frame_same : (k : Kept) (bs : List ℤ) (told : ToldValues) → frame_parts packet_form (kept_tree k) k.track bs told ≡ frame_told packet_form k bs told
frame_same k [] told = refl
frame_same k (b ∷ bs) told = ap (with_packets (entries_to packet_form b (frame_to k.who.scene k.nodes k.track b told).0)) (frame_same k bs (frame_to k.who.scene k.nodes k.track b told).1)

pub frame_is : (k : Kept) (s : Bool) (p : Peers) (t : TreeOf) (r : Track) (old new : ToldValues) (up : List ℤ) (packets : List Out) (o : Outcome) → parts_kept s p t r old ≡ k → k.spent ≡ false → up ≡ p.up
    → ◌≡◌ {A = List Out × ToldValues} (packets, new) (frame_parts packet_form t r up old) → o ≡ done_with packets → ◌≡◌ {A = Taken} (record { outcome = o; kept = parts_kept false p t r new }) (frame_taken packet_form k)
frame_is k s p t r old new up packets o is live ups made done =
    let here = parts_kept false p t r old in
    by_parts (frame_taken packet_form) (record { outcome = o; kept = parts_kept false p t r new }) k s p t r old is live
    (ap {B = Taken} (λ (x : Outcome). record { outcome = x; kept = parts_kept false p t r new }) done
    ∙ ap (frame_by here) (made ∙ ap (λ us. frame_parts packet_form t r us old) ups ∙ frame_same here p.up old))

-- a received packet

-- what is said of an answer that there is
if_same : (x : Result Outcome OutOfMemory) (after : Kept) (t u : Taken) → t ≡ u → IfOk x (λ o. ◌≡◌ {A = Taken} (record { outcome = o; kept = after }) t) → IfOk x (λ o. ◌≡◌ {A = Taken} (record { outcome = o; kept = after }) u)
if_same (Ok o) after t u e h = h ∙ e
if_same (Err y) after t u e h = tt

pub if_read : (x : Result Outcome OutOfMemory) (after k : Kept) (from : ℤ) (m : Message) (r : Result Message Bad) → r ≡ Ok m
    → IfOk x (λ o. ◌≡◌ {A = Taken} (record { outcome = o; kept = after }) (linked_taken k from m (link_judged k.peers from))) → IfOk x (λ o. ◌≡◌ {A = Taken} (record { outcome = o; kept = after }) (read_taken k from r))
if_read x after k from m r is h = if_same x after _ _ (ap (read_taken k from) (sym is)) h

-- what is told of the own row at a path
pub told_here : (k : Kept) (s : Bool) (p : Peers) (t : TreeOf) (r : Track) (old : ToldValues) (path : List ℕ) (row : SpawnedRow) (before after up : List ℤ) (packets : List Out) (o : Outcome) → parts_kept s p t r old ≡ k → Some row ≡ row_at t.nodes path r.rows → after ≡ shown_of row.num r.sights → up ≡ p.up
    → packets ≡ shifts packet_form (row_packet t.scene t.nodes row) row.num before after up → o ≡ done_with packets → o ≡ done_with (row_told packet_form k before (own_row k path))
told_here k s p t r old path row before after up packets o is there seen ups packed done =
    done
    ∙ ap done_with (packed ∙ ap₂ (λ bs us. shifts packet_form (row_packet t.scene t.nodes row) row.num before bs us) seen ups ∙ ap (row_told packet_form (parts_kept s p t r old) before) there)
    ∙ ap (λ j. done_with (row_told packet_form j before (own_row j path))) is

-- what holds of all rows holds of one

pub one_right : (test : SpawnedRow → Bool) (rs qs : List SpawnedRow) (i : ℕ) (x : SpawnedRow) → Some x ≡ slice_get rs i → rs ≡ qs → list_all test qs ≡ true → test x ≡ true
one_right test rs qs i x at same all = all_at test rs i x (sym at) (ap (list_all test) same ∙ all)

pub at_right : (test : SpawnedRow → Bool) (nodes : List Live) (path : List ℕ) (rows : List SpawnedRow) (x : SpawnedRow) → Some x ≡ row_at nodes path rows → list_all test rows ≡ true → test x ≡ true
at_right test nodes path rows x at all = by (row_number_of (live_at nodes path)) at
  where
    by : (n : Option ℕ) → Some x ≡ option_and_then (λ num. row_with num rows) n → test x ≡ true
    by None h = absurd (cc h)
    by (Some num) h = all_found test (λ (r : SpawnedRow). nat_eq r.num num) rows x all (sym h)

pub seen_right : (test : SpawnedRow → Bool) (b : ℤ) (place : ℕ) (t : Track) (x : SpawnedRow) → Some x ≡ seen_at b place t → list_all test t.rows ≡ true → test x ≡ true
seen_right test b place t x at all = by (some_is (λ (v : RowSight). row_sees v b) (slice_get t.sights.rows place)) at
  where
    by : (c : Bool) → Some x ≡ (if c then slice_get t.rows place else None) → test x ≡ true
    by true h = all_at test t.rows place x (sym h) all
    by false h = absurd (cc h)

one_later : (k : ℕ) → suc k + 1 ≡ suc (k + 1)
one_later k = omega arith

-- the rows that a peer may see, one place further
pub seen_more : (b : ℤ) (rs : List SpawnedRow) (vs : List RowSight) (n : ℕ) → seen_by b (take n rs) vs ++ as_list (if some_is (λ (v : RowSight). row_sees v b) (slice_get vs n) then slice_get rs n else None) ≡ seen_by b (take (n + 1) rs) vs
seen_more b [] vs zero = by (some_is (λ (v : RowSight). row_sees v b) (slice_get vs zero))
  where
    by : (c : Bool) → as_list {X = SpawnedRow} (if c then None else None) ≡ []
    by true = refl
    by false = refl
seen_more b [] vs (suc n) = by (some_is (λ (v : RowSight). row_sees v b) (slice_get vs (suc n))) ∙ sym (ap (λ k. seen_by b (take k []) vs) (one_later n))
  where
    by : (c : Bool) → as_list {X = SpawnedRow} (if c then None else None) ≡ []
    by true = refl
    by false = refl
seen_more b (r ∷ rs) [] zero = refl
seen_more b (r ∷ rs) (v ∷ vs) zero = by (row_sees v b)
  where
    by : (c : Bool) → as_list (if c then Some r else None) ≡ (if c then r ∷ [] else [])
    by true = refl
    by false = refl
seen_more b (r ∷ rs) [] (suc n) = sym (ap (λ k. seen_by b (take k (r ∷ rs)) []) (one_later n))
seen_more b (r ∷ rs) (v ∷ vs) (suc n) = by (row_sees v b) (seen_more b rs vs n) ∙ sym (ap (λ k. seen_by b (take k (r ∷ rs)) (v ∷ vs)) (one_later n))
  where
    more : List SpawnedRow
    more = as_list (if some_is (λ (x : RowSight). row_sees x b) (slice_get vs n) then slice_get rs n else None)

    by : (c : Bool) → seen_by b (take n rs) vs ++ more ≡ seen_by b (take (n + 1) rs) vs → (if c then r ∷ seen_by b (take n rs) vs else seen_by b (take n rs) vs) ++ more ≡ (if c then r ∷ seen_by b (take (n + 1) rs) vs else seen_by b (take (n + 1) rs) vs)
    by true h = ap (λ qs. r ∷ qs) h
    by false h = h

pub shown_more : (f : SpawnedRow → Out) (b : ℤ) (t : Track) (n : ℕ) (out more : List Out) → out ≡ map f (seen_by b (take n t.rows) t.sights.rows) → more ≡ out ++ map f (as_list (seen_at b n t)) → more ≡ map f (seen_by b (take (n + 1) t.rows) t.sights.rows)
shown_more f b t n out more is added =
    added ∙ ap (λ xs. xs ++ map f (as_list (seen_at b n t))) is
    ∙ sym (map-append f (seen_by b (take n t.rows) t.sights.rows) (as_list (seen_at b n t)))
    ∙ ap (map f) (seen_more b t.rows t.sights.rows n)

-- what a message says of a row

pub news_sound : (m : Message) (r : Option RowNews) (x : SpawnMsg) → option_map news_of r ≡ row_read m → is_sound_message m ≡ true → r ≡ Some (Appears x) → is_sound_spawn x ≡ true
news_sound m r x told sound is = ap is_sound_read (sym (ap (option_map news_of) is) ∙ told) ∙ sound

pub message_is : (k : Kept) (from : ℤ) (m : Message) (f : Option Fault) (r : Option RowNews) → f ≡ None → option_map news_of r ≡ row_read m → message_taken k from (option_map news_of r) ≡ linked_taken k from m f
message_is k from m f r none told = ap (message_taken k from) told ∙ sym (ap (linked_taken k from m) none)

pub if_news : (x : Result Outcome OutOfMemory) (after k : Kept) (from : ℤ) (m : Message) (f : Option Fault) (r : Option RowNews) (t : Taken) → f ≡ None → option_map news_of r ≡ row_read m → message_taken k from (option_map news_of r) ≡ t
    → IfOk x (λ o. ◌≡◌ {A = Taken} (record { outcome = o; kept = after }) t) → IfOk x (λ o. ◌≡◌ {A = Taken} (record { outcome = o; kept = after }) (linked_taken k from m f))
if_news x after k from m f r t none told is h = if_same x after _ _ (sym is ∙ message_is k from m f r none told) h

-- a new peer

pub new_right : (p : Peers) (t : TreeOf) (r : Track) (id : ℤ) (s : Scene) → IsValidScene s → p ≡ no_peers id → t ≡ kept_tree (new_peer s id) → r ≡ first_track s id → AreRight p.me t r
new_right p t r id s valid peers tree track =
    subst (λ (q : Peers). AreRight q.me t r) (sym peers) (subst (λ (u : TreeOf). AreRight id u r) (sym tree) (subst (λ (w : Track). AreRight id (kept_tree (new_peer s id)) w) (sym track)
    (record { fits = fits_start id s valid; tracked = tracked_start s id })))
