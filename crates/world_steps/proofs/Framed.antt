-- What a peer was told at a frame stays all that is to be told, while nothing changes of it.
use Rattle.std.proofs.Common.{◌≡◌, ℕ, ℤ, Bool, true, false, not, ◌||◌, List, [], ◌∷◌, ◌++◌, map, filter, refl, sym, ap, ap₂, ◌∙◌, subst, Option, Some, None}
use Rattle.std.specs.Prelude.{flat_map, if◌then◌else◌}
use Rattle.std.specs.List.{list_all, list_any, AllByRecursion, Contains}
use Rattle.std.proofs.lemmas.List.Elements.{recursion_from_All}
use Rattle.std.proofs.lemmas.Bool.{true≢false}
use Rattle.gd_variant.specs.Words.{has_nat, some_is, or_else}
use Rattle.gd_variant.specs.Tree.{same_value}
use Rattle.gd_variant.specs.declared.value.Variant.{Variant}
use Rattle.gd_variant.proofs.Equal.{value_decides}
use Rattle.scene_model.specs.declared.scene.Scene.{Scene}
use Rattle.scene_model.specs.declared.event.Op.TheVariants.{Frame}
use Rattle.scene_model.specs.Syncs.{Syncer, change_props, fixed_syncers}
use Rattle.scene_model.specs.Valid.{IsValidScene}
use Rattle.scene_model.proofs.ListLaws.{any-map}
use Rattle.peer_model.specs.Heard.{Who, Heard, does}
use Rattle.peer_model.specs.Peers.{is_up}
use Rattle.peer_model.specs.Rows.{OwnRow, own_rows}
use Rattle.peer_model.specs.Values.{own_value}
use Rattle.peer_model.specs.Visible.{own_syncers, row_syncers_of, sees, visible_rows, visible_to}
use Rattle.peer_model.specs.Updates.{Update, Hide, Show, Tell, Live, Replica, applied}
use Rattle.peer_model.specs.Changes.{added, changes, differs, hides, hides_and_shows, is_frame, live_numbers, mask_of, numbers_of, show_of, shows, tell_for, tell_of, tells, value_told, with_tells}
use Rattle.peer_model.specs.View.{updates_from, view}
use Rattle.peer_laws.proofs.Each.{any_none, every_kept, every_left, every_right, of_each}
use Rattle.peer_laws.proofs.Filters.{filter_none}
use Rattle.peer_laws.proofs.Told.{changes_up}
use Rattle.world_laws.specs.Done.{AllDone}
use Rattle.world_laws.specs.Laws.{peer}
use Rattle.world_laws.proofs.Frames.{frame_tells_all}
use Rattle.world_laws.proofs.Law.{numbers_are_seen}
use Rattle.world_laws.proofs.Settled.{values_settle}
use Rattle.sight_laws.specs.Sights.{is_visible}
use Rattle.sight_laws.proofs.Events.{still_alone}
use Rattle.sight_laws.proofs.Later.{sight_left, unspawned}
use Rattle.sight_laws.proofs.Lists.{every_of_all, every_unkept, filter_same, flat_same, map_same, of_member}
use Rattle.sight_laws.proofs.Sends.{none_set}
use Rattle.sight_laws.proofs.Settings.{visible_is_kept}
use Rattle.sight_laws.proofs.Stepping.{rows_same}
use Rattle.world_steps.specs.Framed.{LeavesTold, AllLeave, IsFramed, HasValues, StillLeaves}

-- lists

-- what is true of each element that a list has is true of each element
every_had : {X : Type 0} (P : X → Type 0) (xs : List X) → ((x : X) → Contains xs x → P x) → AllByRecursion P xs
every_had P xs h = recursion_from_All P xs (of_each P xs h)

any_same : {X : Type 0} (p q : X → Bool) (xs : List X) → AllByRecursion (λ x. p x ≡ q x) xs → list_any p xs ≡ list_any q xs
any_same p q [] h = refl
any_same p q (x ∷ xs) h = ap₂ (λ s t. s || t) h.0 (any_same p q xs h.1)

-- numbers that aren't among themselves are none
nums_left : (ns : List ℕ) → list_any (λ n. not (has_nat n ns)) ns ≡ false
nums_left ns = any_none (λ n. not (has_nat n ns)) ns (λ n h. ap not h)

-- one event that leaves what a peer may be told

module _ (who : Who) (e : Heard) (es : List Heard) (b : ℤ) (h : LeavesTold who e es b) where
  syncers_stay : own_syncers who (e ∷ es) ≡ own_syncers who es
  syncers_stay = ap (λ rs. fixed_syncers who.scene who.id ++ flat_map (row_syncers_of who) rs) h.rows

  all_seen : AllByRecursion (λ (y : Syncer). visible_to who (e ∷ es) b y ≡ visible_to who es b y) (own_syncers who es)
  all_seen = every_had (λ (y : Syncer). visible_to who (e ∷ es) b y ≡ visible_to who es b y) (own_syncers who es) h.seen

  -- rows

  sees_by : (r : OwnRow) (ys : List Syncer) → row_syncers_of who r ≡ ys → AllByRecursion (λ (y : Syncer). visible_to who (e ∷ es) b y ≡ visible_to who es b y) ys → sees who (e ∷ es) b r ≡ sees who es b r
  sees_by r [] are same = rw are refl
  sees_by r (y ∷ ys) are same = rw are (any_same (visible_to who (e ∷ es) b) (visible_to who es b) (y ∷ ys) same)

  rows_see : (rs : List OwnRow) → AllByRecursion (λ (y : Syncer). visible_to who (e ∷ es) b y ≡ visible_to who es b y) (flat_map (row_syncers_of who) rs) → AllByRecursion (λ (r : OwnRow). sees who (e ∷ es) b r ≡ sees who es b r) rs
  rows_see [] same = tt
  rows_see (r ∷ rs) same =
      let seen : Syncer → Type 0 = λ (y : Syncer). visible_to who (e ∷ es) b y ≡ visible_to who es b y in
      (sees_by r (row_syncers_of who r) refl (every_left seen (row_syncers_of who r) (flat_map (row_syncers_of who) rs) same), rows_see rs (every_right seen (row_syncers_of who r) (flat_map (row_syncers_of who) rs) same))

  rows_stay : is_up es b ≡ true → visible_rows who (e ∷ es) b ≡ visible_rows who es b
  rows_stay was =
      ap (λ t. if t then filter (sees who (e ∷ es) b) (own_rows who (e ∷ es)) else []) h.up
      ∙ ap (filter (sees who (e ∷ es) b)) h.rows
      ∙ filter_same (sees who (e ∷ es) b) (sees who es b) (own_rows who es) (rows_see (own_rows who es) (every_right (λ (y : Syncer). visible_to who (e ∷ es) b y ≡ visible_to who es b y) (fixed_syncers who.scene who.id) (flat_map (row_syncers_of who) (own_rows who es)) all_seen))
      ∙ sym (ap (λ t. if t then filter (sees who es b) (own_rows who es) else []) was)

  -- Tells

  tell_stays : (y : Syncer) (mask : ℕ) (names : List (List ℕ)) → AllByRecursion (λ p. own_value who (e ∷ es) y.node p ≡ own_value who es y.node p) names → tell_for who (e ∷ es) y mask names ≡ tell_for who es y mask names
  tell_stays y mask [] same = refl
  tell_stays y mask (p ∷ ps) same = ap (λ vs. Tell (record { id = y.id; mask = mask; values = vs }) ∷ []) (map_same (own_value who (e ∷ es) y.node) (own_value who es y.node) (p ∷ ps) same)

  sync_stays : (r : Replica) (y : Syncer) → Contains (own_syncers who es) y → tell_of who (e ∷ es) r y ≡ tell_of who es r y
  sync_stays r y has =
      let props = change_props y.def in
      let values = every_had (λ p. own_value who (e ∷ es) y.node p ≡ own_value who es y.node p) props (λ p there. h.values y p has there) in
      let differ = every_had (λ p. differs who (e ∷ es) r y p ≡ differs who es r y p) props (λ p there. ap (λ v. not (some_is (same_value v) (value_told r y.node p))) (h.values y p has there)) in
      ap₂ (λ bs names. tell_for who (e ∷ es) y (mask_of bs) names) (map_same (differs who (e ∷ es) r y) (differs who es r y) props differ) (filter_same (differs who (e ∷ es) r y) (differs who es r y) props differ)
      ∙ tell_stays y (mask_of (map (differs who es r y) props)) (filter (differs who es r y) props) (every_kept (λ p. own_value who (e ∷ es) y.node p ≡ own_value who es y.node p) (differs who es r y) props values)

  tells_stay : (r : Replica) → tells who (e ∷ es) b r ≡ tells who es b r
  tells_stay r =
      ap (λ ys. flat_map (tell_of who (e ∷ es) r) (filter (visible_to who (e ∷ es) b) ys)) syncers_stay
      ∙ ap (flat_map (tell_of who (e ∷ es) r)) (filter_same (visible_to who (e ∷ es) b) (visible_to who es b) (own_syncers who es) all_seen)
      ∙ flat_same (tell_of who (e ∷ es) r) (tell_of who es r) (filter (visible_to who es b) (own_syncers who es))
      (every_kept (λ y. tell_of who (e ∷ es) r y ≡ tell_of who es r y) (visible_to who es b) (own_syncers who es) (every_had (λ y. tell_of who (e ∷ es) r y ≡ tell_of who es r y) (own_syncers who es) (sync_stays r)))

-- Hides and Shows

none_hidden : (rows : List Live) (seen : List OwnRow) → live_numbers rows ≡ numbers_of seen → hides rows seen ≡ []
none_hidden rows seen same = ap (map Hide) (ap (λ ns. filter (λ n. not (has_nat n (numbers_of seen))) ns) same ∙ filter_none (λ n. not (has_nat n (numbers_of seen))) (numbers_of seen) (nums_left (numbers_of seen)))

none_shown : (who : Who) (es : List Heard) (rows : List Live) (seen : List OwnRow) → live_numbers rows ≡ numbers_of seen → shows who es rows seen ≡ []
none_shown who es rows seen same =
    ap (λ ns. map (λ r. Show (show_of who es r)) (filter (λ (r : OwnRow). not (has_nat r.num ns)) seen)) same
    ∙ ap (map (λ r. Show (show_of who es r))) (filter_none (λ (r : OwnRow). not (has_nat r.num (numbers_of seen))) seen
    (sym (any-map (λ n. not (has_nat n (numbers_of seen))) (λ (r : OwnRow). r.num) seen) ∙ nums_left (numbers_of seen)))

-- what a peer was told makes this replica
abbrev made : Who → List Heard → ℤ → Replica
made who es b = applied who.scene who.id (changes who es b)

-- A peer is up, and nothing more is to be told.
record IsTold (who : Who) (es : List Heard) (b : ℤ) : Type 0 where
  pub up : is_up es b ≡ true
  pub none : tells who es b (made who es b) ≡ []

-- an event that leaves what a peer may be told adds nothing
nothing_added : (who : Who) (e : Heard) (es : List Heard) (b : ℤ) → IsValidScene who.scene → AllDone who es → LeavesTold who e es b → IsTold who es b → added who e es b (made who es b) ≡ []
nothing_added who e es b v all h told = step (is_frame e)
  where
    r : Replica
    r = made who es b

    numbers : live_numbers r.rows ≡ numbers_of (visible_rows who (e ∷ es) b)
    numbers = numbers_are_seen who es b v all told.up ∙ ap numbers_of (sym (rows_stay who e es b h told.up))

    both : hides_and_shows who (e ∷ es) b r ≡ []
    both = ap₂ (λ us vs. us ++ vs) (none_hidden r.rows (visible_rows who (e ∷ es) b) numbers) (none_shown who (e ∷ es) r.rows (visible_rows who (e ∷ es) b) numbers)

    step : (t : Bool) → (if t then with_tells who (e ∷ es) b r (hides_and_shows who (e ∷ es) b r) else hides_and_shows who (e ∷ es) b r) ≡ []
    step true = ap (with_tells who (e ∷ es) b r) both ∙ tells_stay who e es b h r ∙ told.none
    step false = both

-- what such events leave
record StaysTold (who : Who) (later es : List Heard) (b : ℤ) : Type 0 where
  pub told : IsTold who (later ++ es) b
  pub changes_stay : changes who (later ++ es) b ≡ changes who es b
  pub syncers : own_syncers who (later ++ es) ≡ own_syncers who es
  pub seen : (y : Syncer) → Contains (own_syncers who es) y → visible_to who (later ++ es) b y ≡ visible_to who es b y
  pub values : (y : Syncer) (p : List ℕ) → Contains (own_syncers who es) y → Contains (change_props y.def) p → own_value who (later ++ es) y.node p ≡ own_value who es y.node p

stays_told : (who : Who) (later es : List Heard) (b : ℤ) → IsValidScene who.scene → AllDone who (later ++ es) → IsTold who es b → AllLeave who later es b → StaysTold who later es b
stays_told who [] es b v all told leave = record { told = told; changes_stay = refl; syncers = refl; seen = λ y has. refl; values = λ y p has there. refl }
stays_told who (e ∷ later) es b v all told leave =
    let fs = later ++ es in
    let before = stays_told who later es b v all.1 told leave.1 in
    let h = leave.0 in
    let same : changes who (e ∷ fs) b ≡ changes who fs b = changes_up who e fs b h.up ∙ ap (λ us. changes who fs b ++ us) (nothing_added who e fs b v all.1 h before.told) ∙ nil_right (changes who fs b) in
    record {
      told = record { up = h.up; none = ap (λ us. tells who (e ∷ fs) b (applied who.scene who.id us)) same ∙ tells_stay who e fs b h (made who fs b) ∙ before.told.none };
      changes_stay = same ∙ before.changes_stay;
      syncers = syncers_stay who e fs b h ∙ before.syncers;
      seen = λ y has. h.seen y (subst (λ ys. Contains ys y) (sym before.syncers) has) ∙ before.seen y has;
      values = λ y p has there. h.values y p (subst (λ ys. Contains ys y) (sym before.syncers) has) there ∙ before.values y p has there;
    }
  where
    nil_right : (us : List Update) → us ++ [] ≡ us
    nil_right [] = refl
    nil_right (u ∷ us) = ap (λ vs. u ∷ vs) (nil_right us)

done_before : (who : Who) (later es : List Heard) → AllDone who (later ++ es) → AllDone who es
done_before who [] es all = all
done_before who (e ∷ later) es all = done_before who later es all.1

-- where all arrived that was told since, the hearer has each of these values
pub framed_values : (s : Scene) (a b : ℤ) → IsValidScene s → (here there : List Heard) → AllDone (peer s a) here → is_up there a ≡ true → updates_from (peer s b) there a ≡ changes (peer s a) here b
    → IsFramed (peer s a) here b → HasValues (peer s a) here b (view (peer s b) there a)
framed_values s a b v here there all up got f = subst (λ es. HasValues who es b (view (peer s b) there a)) (sym f.are) values
  where
    who : Who
    who = peer s a

    now : List Heard
    now = does Frame ∷ f.before

    all_now : AllDone who (f.later ++ now)
    all_now = subst (AllDone who) f.are all

    framed : AllDone who now
    framed = done_before who f.later now all_now

    stays : StaysTold who f.later now b
    stays = stays_told who f.later now b v all_now (record { up = f.up; none = frame_tells_all who f.before b v framed f.up }) f.leave

    same_as : (x : Variant) (o : Option Variant) → some_is (same_value x) o ≡ true → o ≡ Some x
    same_as x None h = absurd (true≢false (sym h))
    same_as x (Some z) h = ap Some (sym ((value_decides x z).0 h))

    settled : AllByRecursion (λ (y : Syncer). list_all (λ p. some_is (same_value (own_value who now y.node p)) (value_told (view (peer s b) there a) y.node p)) (change_props y.def) ≡ true) (filter (visible_to who now b) (own_syncers who now))
    settled = values_settle s a b v f.before there framed f.up up (got ∙ ap (λ es. changes who es b) f.are ∙ stays.changes_stay)

    values : HasValues who (f.later ++ now) b (view (peer s b) there a)
    values y p has sees_it there_is =
        let told = view (peer s b) there a in
        let own = subst (λ ys. Contains ys y) stays.syncers has in
        let right : list_all (λ q. some_is (same_value (own_value who now y.node q)) (value_told told y.node q)) (change_props y.def) ≡ true =
        of_member (λ (z : Syncer). visible_to who now b z ≡ true → list_all (λ q. some_is (same_value (own_value who now z.node q)) (value_told told z.node q)) (change_props z.def) ≡ true) (own_syncers who now) y
        (every_unkept (λ (z : Syncer). list_all (λ q. some_is (same_value (own_value who now z.node q)) (value_told told z.node q)) (change_props z.def) ≡ true) (visible_to who now b) (own_syncers who now) settled) own (sym (stays.seen y own) ∙ sees_it) in
        let one = of_member (λ q. some_is (same_value (own_value who now y.node q)) (value_told told y.node q) ≡ true) (change_props y.def) p
        (every_of_all (λ q. some_is (same_value (own_value who now y.node q)) (value_told told y.node q)) (change_props y.def) right) there_is in
        same_as (own_value who now y.node p) (value_told told y.node p) one ∙ ap Some (sym (stays.values y p own there_is))

-- kinds of events

pub still_leaves : StillLeaves
still_leaves who es e b still none up =
    let alone = still_alone e still in
    record {
      up = up;
      rows = rows_same who es e alone.2 alone.0;
      seen = λ y has. visible_is_kept who (e ∷ es) b y ∙ ap (λ v. is_visible v b) (sight_left who e es y (unspawned who y.path e alone.0) (none_set y.path e alone.1)) ∙ sym (visible_is_kept who es b y);
      values = λ y p has there. ap (λ o. or_else o (own_value who es y.node p)) (none y.node p);
    }
