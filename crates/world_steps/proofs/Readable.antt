-- What a peer's events tell is read back, where the operations are sound.
use Rattle.std.proofs.Common.{◌≡◌, ℕ, suc, ◌+◌, ◌<◌, ℤ, Bool, true, false, cond, not, ◌||◌, List, [], ◌∷◌, length, map, filter, refl, sym, ap, ◌∙◌, subst, arith, is_some, nat_eq, Option, Some, None}
use Rattle.std.specs.Prelude.{option_map, option_and_then, is_none, if◌then◌else◌}
use Rattle.std.specs.List.{list_all, AllByRecursion}
use Rattle.std.proofs.lemmas.Bool.{and_parts, and_from, ltb-false, ne_eqb}
use Rattle.std.proofs.lemmas.List.Folds.{list_all-map}
use Rattle.gd_variant.specs.Words.{text_eq, has_nat, has_text, or_else, some_is, place_of}
use Rattle.gd_variant.specs.Sound.{is_sound, is_text}
use Rattle.gd_variant.specs.declared.value.Variant.{Variant}
use Rattle.packet_form.specs.Written.{IsArgSound}
use Rattle.scene_model.specs.declared.scene.Scene.{Scene}
use Rattle.scene_model.specs.declared.scene.SpawnerDef.{SpawnerDef}
use Rattle.scene_model.specs.declared.event.SpawnOp.{SpawnOp}
use Rattle.scene_model.specs.declared.event.Op.TheVariants.{Spawn, Custom, Frame}
use Rattle.scene_model.specs.Lookup.{spawner_at}
use Rattle.scene_model.specs.Valid.{IsValidScene}
use Rattle.peer_model.specs.Heard.{Who, Heard, does}
use Rattle.peer_model.specs.Peers.{is_up}
use Rattle.peer_model.specs.Rows.{OwnRow, own_rows, row_made, spawn_in, syncs_at}
use Rattle.peer_model.specs.Visible.{own_syncers, sees, visible_rows, visible_to}
use Rattle.peer_model.specs.Values.{own_value}
use Rattle.peer_model.specs.Updates.{Update, Hide, Show, Tell, Replica, applied, apply_updates, all_spawn_props, custom_byte}
use Rattle.peer_model.specs.Changes.{changes, scene_byte, show_of, hides, shows, hides_and_shows, tells, numbers_of, live_numbers}
use Rattle.peer_model.specs.Refusals.{may_make}
use Rattle.peer_laws.specs.Built.{Accepts, AllAccepted}
use Rattle.peer_laws.proofs.Each.{all_each, all-filter, all-put_by, every_joined, every_kept}
use Rattle.peer_laws.proofs.Tests.{not_false, some_of, some_from}
use Rattle.peer_laws.proofs.Told.{adds}
use Rattle.peer_laws.proofs.ScenesByNumber.{spawner_few}
use Rattle.peer_steps.specs.Arguments.{is_sound_argument}
use Rattle.world_laws.specs.Marks.{Mark, nums_of, mark_before, own_marks, shown_mark, marks_after, marks_then, new_rows}
use Rattle.world_laws.specs.Said.{Says}
use Rattle.world_laws.proofs.Frames.{part}
use Rattle.world_laws.proofs.Law.{built_done, found}
use Rattle.world_laws.proofs.Moving.{marks_move_on, numbers_marked}
use Rattle.world_laws.proofs.Own.{allowed, leaves, own_later}
use Rattle.world_laws.proofs.Saying.{IsSaid, own_said, changes_say}
use Rattle.world_steps.specs.Sound.{has_sound, is_sound_op}
use Rattle.world_steps.proofs.SoundValues.{is_sound_heard, own_sound}
use Rattle.world_steps.proofs.Links.{IsReadable, AllReadable, adds_up}
use Rattle.world_steps.proofs.Tellable.{IsFew, own_few, tells_read}
use Rattle.world_steps.proofs.Writable.{is_small, good_small, none_bad, show_readable, hide_readable}

-- own rows

-- What a Show of an own row can be written by: its name is a text, and it has an argument just where its scene is a custom one.
record IsSoundRow (who : Who) (r : OwnRow) : Type 0 where
  pub text : is_text r.made_by.name ≡ true
  pub byte : scene_byte who r < 256
  pub argument : IsArgSound (scene_byte who r) r.made_by.arg

-- the place of a listed text
place_below : (t : List ℕ) (ts : List (List ℕ)) (other : ℕ) → has_text t ts ≡ true → or_else (place_of t ts) other < length ts
place_below t [] other h = absurd (cc h)
place_below t (u ∷ us) other h = step (text_eq t u) (λ k. below (place_of t us) (place_below t us other k)) h
  where
    below : (p : Option ℕ) → or_else p other < length us → or_else (option_map (λ k. k + 1) p) other < suc (length us)
    below None k = omega (arith, k)
    below (Some i) k = omega (arith, k)

    step : (b : Bool) → (has_text t us ≡ true → or_else (option_map (λ k. k + 1) (place_of t us)) other < suc (length us)) → (b || has_text t us) ≡ true → or_else (cond b (Some 0) (option_map (λ k. k + 1) (place_of t us))) other < suc (length us)
    step true more k = omega arith
    step false more k = more k

-- the scene byte of a spawn by scene
byte_of : (who : Who) (es : List Heard) (o : SpawnOp) (name : List ℕ) → IsValidScene who.scene → Accepts who es (does (Spawn o)) → o.scene ≡ Some name → scene_byte who (row_made who es o) < 255
byte_of who es o name v now named =
    let may = allowed who es o now.no_refusal in
    let def = some_of (spawner_at who.scene o.spawner) (some_from (spawner_at who.scene o.spawner) may.spawner) in
    let listed : has_text name def.0.scenes ≡ true = sym (ap (λ n. may_make (record o { scene = n }) def.0) named) ∙ sym (ap (some_is (may_make o)) def.1) ∙ not_false (some_is (may_make o) (spawner_at who.scene o.spawner)) may.scene in
    let low = place_below name def.0.scenes custom_byte listed in
    let high = ltb-false 255 (length def.0.scenes) (spawner_few who.scene v o.spawner def.0 def.1) in
    let is : scene_byte who (row_made who es o) ≡ or_else (place_of name def.0.scenes) custom_byte =
    ap (λ n. scene_byte who (record (row_made who es o) { made_by = record o { scene = n } })) named
    ∙ ap (λ d. or_else (option_and_then (λ (c : SpawnerDef). place_of name c.scenes) d) custom_byte) def.1 in
    subst (λ n. n < 255) (sym is) (omega (arith, low, high))

no_argument : (byte : ℕ) (a : Option Variant) → is_none a ≡ true → byte < 255 → IsArgSound byte a
no_argument byte None h low = ne_eqb byte 255 (λ e. omega (arith, e, low))
no_argument byte (Some v) h low = absurd (cc h)

spawn_sound : (who : Who) (es : List Heard) (o : SpawnOp) → IsValidScene who.scene → Accepts who es (does (Spawn o)) → is_sound_op (Spawn o) ≡ true → IsSoundRow who (row_made who es o)
spawn_sound who es o v now sound =
    let built = and_parts (is_some o.scene) (is_none o.arg) now.built in
    let name = some_of o.scene built.0 in
    let low = byte_of who es o name.0 v now name.1 in
    record {
      text = (and_parts (is_text o.name) (list_all has_sound o.sets) sound).0;
      byte = omega (arith, low);
      argument = no_argument (scene_byte who (row_made who es o)) o.arg built.1 low;
    }

an_argument : (byte : ℕ) (a : Option Variant) → is_some a ≡ true → is_sound_argument a ≡ true → byte ≡ 255 → IsArgSound byte a
an_argument byte None h sound is = absurd (cc h)
an_argument byte (Some v) h sound is = (ap (λ n. nat_eq n 255) is, sound)

none_is : (o : Option (List ℕ)) → is_none o ≡ true → o ≡ None
none_is None h = refl
none_is (Some x) h = absurd (cc h)

custom_sound : (who : Who) (es : List Heard) (o : SpawnOp) → Accepts who es (does (Custom o)) → is_sound_op (Custom o) ≡ true → IsSoundRow who (row_made who es o)
custom_sound who es o now sound =
    let built = and_parts (is_none o.scene) _ now.built in
    let given = (and_parts _ (is_some o.arg) built.1).1 in
    let says = and_parts (is_text o.name) (is_sound_argument o.arg) sound in
    let is : scene_byte who (row_made who es o) ≡ 255 = ap (λ n. scene_byte who (record (row_made who es o) { made_by = record o { scene = n } })) (none_is o.scene built.0) in
    record {
      text = says.0;
      byte = omega (arith, is);
      argument = an_argument (scene_byte who (row_made who es o)) o.arg given says.1 is;
    }

new_sound : (who : Who) (es : List Heard) (e : Heard) → IsValidScene who.scene → Accepts who es e → is_sound_heard e ≡ true → AllByRecursion (IsSoundRow who) (new_rows who es (spawn_in e))
new_sound who es (does (Spawn o)) v now sound = (spawn_sound who es o v now sound, tt)
new_sound who es (does (Custom o)) v now sound = (custom_sound who es o now sound, tt)
new_sound who es e v now sound = tt

rows_sound : (who : Who) (es : List Heard) → IsValidScene who.scene → AllAccepted who es → list_all is_sound_heard es ≡ true → AllByRecursion (IsSoundRow who) (own_rows who es)
rows_sound who [] v all sound = tt
rows_sound who (e ∷ es) v all sound =
    let parts = and_parts (is_sound_heard e) (list_all is_sound_heard es) sound in
    subst (AllByRecursion (IsSoundRow who)) (sym (own_later who es e))
    (every_joined (IsSoundRow who) (filter (leaves e) (own_rows who es)) (new_rows who es (spawn_in e))
    (every_kept (IsSoundRow who) (leaves e) (own_rows who es) (rows_sound who es v all.1 parts.1)) (new_sound who es e v all.0 parts.0))

-- Shows

-- the Show of a row is read back
abbrev Reads : Who → List Heard → OwnRow → Type 0
Reads who es r = IsReadable (Show (show_of who es r))

row_reads : (who : Who) (es : List Heard) (r : OwnRow) → IsValidScene who.scene → AllAccepted who es → list_all is_sound_heard es ≡ true → IsSaid who r → IsSoundRow who r → Reads who es r
row_reads who es r v all sound said right =
    let props = all_spawn_props (syncs_at who.scene (Some r.place)) in
    show_readable who.scene v who.id (show_of who es r) (said es (built_done who es all)) (record {
      text = right.text;
      byte = right.byte;
      argument = right.argument;
      values = list_all-map is_sound (own_value who es r.path) props ∙ all_each (λ p. is_sound (own_value who es r.path p)) (own_sound who es v all sound r.path) props;
    })

both_read : (who : Who) (es : List Heard) → IsValidScene who.scene → AllAccepted who es → list_all is_sound_heard es ≡ true → (rows : List OwnRow) → AllByRecursion (IsSaid who) rows → AllByRecursion (IsSoundRow who) rows → AllByRecursion (Reads who es) rows
both_read who es v all sound [] said right = tt
both_read who es v all sound (r ∷ rows) said right = (row_reads who es r v all sound said.0 right.0, both_read who es v all sound rows said.1 right.1)

-- so with all own rows
own_read : (who : Who) (es : List Heard) → IsValidScene who.scene → AllAccepted who es → list_all is_sound_heard es ≡ true → AllByRecursion (Reads who es) (own_rows who es)
own_read who es v all sound = both_read who es v all sound (own_rows who es) (own_said who v es (built_done who es all)) (rows_sound who es v all sound)

-- and those that a peer sees
seen_read : (who : Who) (es : List Heard) (b : ℤ) → AllByRecursion (Reads who es) (own_rows who es) → AllByRecursion (Reads who es) (visible_rows who es b)
seen_read who es b h = step (is_up es b)
  where
    step : (t : Bool) → AllByRecursion (Reads who es) (if t then filter (sees who es b) (own_rows who es) else [])
    step true = every_kept (Reads who es) (sees who es b) (own_rows who es) h
    step false = tt

shows_read : (who : Who) (es : List Heard) (rows : List OwnRow) → AllByRecursion (Reads who es) rows → AllReadable (map (λ r. Show (show_of who es r)) rows)
shows_read who es [] h = tt
shows_read who es (r ∷ rows) h = (h.0, shows_read who es rows h.1)

-- Hides

-- the numbers of rows that changes make are small
abbrev small_mark : Mark → Bool
small_mark m = is_small m.num

marks_small : (s : Scene) (auth : ℤ) (us : List Update) (ms : List Mark) → AllByRecursion (Says s auth) us → list_all small_mark ms ≡ true → list_all small_mark (marks_then s ms us) ≡ true
marks_small s auth [] ms says h = h
marks_small s auth (Hide num ∷ us) ms says h = marks_small s auth us (marks_after s ms (Hide num)) says.1 (all-filter small_mark (λ (m : Mark). not (nat_eq m.num num)) ms h)
marks_small s auth (Show m ∷ us) ms says h = marks_small s auth us (marks_after s ms (Show m)) says.1 (all-put_by small_mark mark_before (shown_mark s m) ms (good_small m.net (none_bad m.net m.syncs says.0.range).0) h)
marks_small s auth (Tell t ∷ us) ms says h = marks_small s auth us ms says.1 h

hides_read : (ns : List ℕ) → list_all is_small ns ≡ true → AllReadable (map Hide ns)
hides_read [] h = tt
hides_read (n ∷ ns) h = let parts = and_parts (is_small n) (list_all is_small ns) h in (hide_readable n parts.0, hides_read ns parts.1)

-- what any event adds

module _ (who : Who) (es : List Heard) (e : Heard) (b : ℤ) (v : IsValidScene who.scene) (all : AllAccepted who (e ∷ es)) (sound : list_all is_sound_heard (e ∷ es) ≡ true) where
  -- what the peer was told before makes this replica
  abbrev before : Replica
  before = applied who.scene who.id (changes who es b)

  small : list_all is_small (live_numbers before.rows) ≡ true
  small =
      let ms = marks_then who.scene [] (changes who es b) in
      ap (list_all is_small) (numbers_marked before.rows ∙ ap nums_of (marks_move_on who.scene who.id (applied who.scene who.id []) (changes who es b)))
      ∙ list_all-map is_small (λ (m : Mark). m.num) ms ∙ marks_small who.scene who.id (changes who es b) [] (changes_say who v es (built_done who es all.1) b) refl

  both_readable : AllReadable (hides_and_shows who (e ∷ es) b before)
  both_readable =
      let seen = visible_rows who (e ∷ es) b in
      every_joined IsReadable (hides before.rows seen) (shows who (e ∷ es) before.rows seen)
      (hides_read (filter (λ n. not (has_nat n (numbers_of seen))) (live_numbers before.rows)) (all-filter is_small (λ n. not (has_nat n (numbers_of seen))) (live_numbers before.rows) small))
      (shows_read who (e ∷ es) (filter (λ (x : OwnRow). not (has_nat x.num (live_numbers before.rows))) seen)
      (every_kept (Reads who (e ∷ es)) (λ (x : OwnRow). not (has_nat x.num (live_numbers before.rows))) seen (seen_read who (e ∷ es) b (own_read who (e ∷ es) v all sound))))

-- a frame tells what differs too
frame_readable : (who : Who) (es : List Heard) (b : ℤ) → IsValidScene who.scene → AllAccepted who (does Frame ∷ es) → list_all is_sound_heard (does Frame ∷ es) ≡ true → is_up (does Frame ∷ es) b ≡ true → AllReadable (adds who (does Frame) es b)
frame_readable who es b v all sound up =
    let now = does Frame ∷ es in
    let done = built_done who now all in
    let made = applied who.scene who.id (changes who es b) in
    let us = hides_and_shows who now b made in
    let ys = filter (visible_to who now b) (own_syncers who now) in
    every_joined IsReadable us (tells who now b (apply_updates who.scene who.id made us)) (both_readable who es (does Frame) b v all sound)
    (tells_read who now v all sound (own_marks (filter (sees who now b) (own_rows who now))) (apply_updates who.scene who.id made us) ys
    (found who v (does Frame) es done b up made (part who es b v done up))
    (every_kept IsFew (visible_to who now b) (own_syncers who now) (own_few who now v all)))

adds_readable : (who : Who) (es : List Heard) (e : Heard) (b : ℤ) → IsValidScene who.scene → AllAccepted who (e ∷ es) → list_all is_sound_heard (e ∷ es) ≡ true → is_up (e ∷ es) b ≡ true → AllReadable (adds who e es b)
adds_readable who es (does Frame) b v all sound up = frame_readable who es b v all sound up
adds_readable who es e b v all sound up = both_readable who es e b v all sound

-- for a peer that isn't up too
pub up_readable : (who : Who) (es : List Heard) (e : Heard) (b : ℤ) → IsValidScene who.scene → AllAccepted who es → list_all is_sound_heard es ≡ true → Accepts who es e → is_sound_heard e ≡ true → AllReadable (adds_up who e es b)
up_readable who es e b v all sound a now = step (is_up (e ∷ es) b) refl
  where
    step : (t : Bool) → is_up (e ∷ es) b ≡ t → AllReadable (if t then adds who e es b else [])
    step true up = adds_readable who es e b v (a, all) (and_from (is_sound_heard e) (list_all is_sound_heard es) now sound) up
    step false down = tt
