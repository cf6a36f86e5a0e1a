-- What each kind of event makes of what is kept of told values.
use Rattle.std.proofs.Common.{◌≡◌, ℕ, ℤ, Bool, true, false, not, ◌||◌, List, [], ◌∷◌, ◌++◌, refl, sym, ap, ap₂, ◌∙◌, subst, map, filter, nat_eq, Some, None, ◌⊎◌, inl, inr}
use Rattle.std.specs.Prelude.{option_map}
use Rattle.std.proofs.lemmas.List.{append-nil}
use Rattle.std.proofs.lemmas.List.Elements.{recursion_from_All, All-contains_itself, Contains-push, Contains-append_cases}
use Rattle.world_laws.specs.Marks.{new_rows}
use Rattle.std.specs.List.{AllByRecursion, Contains}
use Rattle.std.specs.Ordering.{int_eq}
use Rattle.std.proofs.lemmas.Bool.{and_parts, true≢false}
use Rattle.gd_variant.specs.Words.{has_int, has_nat, has_text, text_eq, some_is}
use Rattle.gd_variant.specs.declared.value.Variant.{Variant}
use Rattle.scene_model.specs.declared.event.SpawnOp.{SpawnOp}
use Rattle.scene_model.specs.declared.event.Op.TheVariants.{Despawn}
use Rattle.scene_model.specs.Lookup.{fixed_paths}
use Rattle.scene_model.specs.Syncs.{Syncer, fixed_syncers, change_props}
use Rattle.scene_model.specs.Valid.{IsValidScene}
use Rattle.scene_model.proofs.TextLaws.{text_eq-true, text_eq-sym}
use Rattle.headless_tree.proofs.Numbered.{unnot}
use Rattle.peer_model.specs.Heard.{Who, Heard, does}
use Rattle.peer_model.specs.Peers.{is_up, was_up, brought_up, taken_down}
use Rattle.peer_model.specs.Rows.{OwnRow, own_rows, row_made, spawn_in, spawns, despawns, spawned_path}
use Rattle.peer_model.specs.Values.{default_value}
use Rattle.peer_model.specs.Visible.{sees, row_syncers_of, visible_rows}
use Rattle.peer_model.specs.Changes.{numbers_of}
use Rattle.peer_laws.proofs.Each.{every_kept}
use Rattle.peer_laws.proofs.Filters.{all_pass}
use Rattle.peer_laws.proofs.Numbers.{int_is}
use Rattle.peer_laws.proofs.Ups.{was_up_if_up}
use Rattle.world_laws.specs.Done.{AllDone}
use Rattle.world_laws.proofs.Law.{every_weaker}
use Rattle.world_laws.proofs.Own.{leaves, own_later, is_unfixed, own_unfixed}
use Rattle.world_laws.proofs.Sending.{brought_new}
use Rattle.sight_laws.specs.Seen.{SightSet, set_in, is_still}
use Rattle.sight_laws.specs.Told.{row_first_told, fixed_first_told}
use Rattle.sight_laws.proofs.Events.{still_alone, up_alone, down_alone, spawn_alone, set_alone, up_same, up_more, up_less}
use Rattle.sight_laws.proofs.Later.{sets_at, spawns_is}
use Rattle.sight_laws.proofs.Lists.{of_member, every_of_all, every_both}
use Rattle.sight_laws.proofs.Sends.{sees_left, none_set}
use Rattle.sight_laws.proofs.Stepping.{rows_same, rows_more, rows_unspawned}
use Rattle.delta_props.specs.Telling.{ToldValues, told_of, without_peer}
use Rattle.telling_laws.specs.Telling.{told_all, told_none, told_shift, over_peers, HasOnce}
use Rattle.telling_laws.proofs.Keys.{left_other, left_once}
use Rattle.telling_laws.proofs.Several.{all_once, all_other, all_other_peer, all_told, none_once, none_other, none_other_peer}
use Rattle.telling_laws.proofs.Ids.{fixed_member, row_member, only_fixed, only_row, row_apart, fixed_apart}
use Rattle.telling_laws.proofs.Nexts.{own_of, seen_is, seen_there, seen_number, seen_before, Puts}
use Rattle.telling_laws.proofs.Peers.{IsForOne, over_once, over_kept, over_put}
use Rattle.telling_laws.proofs.Firsts.{first_fixed}
use Rattle.telling_laws.proofs.Rows.{IsSame, same_row, id_among, path_among, other_ids, other_keys, rows_told, rows_once, rows_other_peer, rows_other, rows_put}

-- a row that a peer sees may be seen
seen_sees : (who : Who) (es : List Heard) (b : ℤ) (r : OwnRow) → is_up es b ≡ true → Contains (visible_rows who es b) r → sees who es b r ≡ true
seen_sees who es b r up has =
    let seen = filter (sees who es b) (own_rows who es) in
    of_member (λ x. sees who es b x ≡ true) seen r (every_of_all (sees who es b) seen (all_pass (sees who es b) (own_rows who es))) (subst (λ rs. Contains rs r) (seen_is who es b up) has)

-- a row that may be seen by a peer that is up is seen
was_seen : (who : Who) (es : List Heard) (b : ℤ) (r : OwnRow) → is_up es b ≡ true → Contains (own_rows who es) r → sees who es b r ≡ true → has_nat r.num (numbers_of (visible_rows who es b)) ≡ true
was_seen who es b r up has k = ap (λ rs. has_nat r.num (numbers_of rs)) (seen_is who es b up) ∙ of_member (λ (x : OwnRow). has_nat x.num (numbers_of (filter (sees who es b) (own_rows who es))) ≡ sees who es b x) (own_rows who es) r (seen_number who es b) has ∙ k

-- and the other way round
was_not_seen : (who : Who) (es : List Heard) (b : ℤ) (r : OwnRow) → is_up es b ≡ true → Contains (own_rows who es) r → has_nat r.num (numbers_of (visible_rows who es b)) ≡ false → sees who es b r ≡ false
was_not_seen who es b r up has h = step (sees who es b r) refl
  where
    step : (s : Bool) → sees who es b r ≡ s → sees who es b r ≡ false
    step true k = absurd (true≢false (sym (was_seen who es b r up has k) ∙ h))
    step false k = k

-- the own rows are own rows
themselves : (who : Who) (es : List Heard) → AllByRecursion (Contains (own_rows who es)) (own_rows who es)
themselves who es = recursion_from_All (Contains (own_rows who es)) (own_rows who es) (All-contains_itself (own_rows who es))

module _ (who : Who) (es : List Heard) (e : Heard) (v : IsValidScene who.scene) (all : AllDone who (e ∷ es)) where
  -- the events with this one
  abbrev now : List Heard
  now = e ∷ es

  -- these are the values of rows that are shown
  abbrev pub AreFirst : (OwnRow → Syncer → List Variant) → Type 0
  AreFirst f = (b : ℤ) (r : OwnRow) (y : Syncer) → is_up now b ≡ true → Contains (visible_rows who now b) r → Contains (row_syncers_of who r) y → has_nat r.num (numbers_of (visible_rows who es b)) ≡ false → map Some (f r y) ≡ row_first_told who now r y

  -- a row that no setting names was seen before
  left_seen : (b : ℤ) (r : OwnRow) → is_up es b ≡ true → Contains (own_rows who es) r → sets_at r.path e ≡ false → sees who now b r ≡ true → has_nat r.num (numbers_of (visible_rows who es b)) ≡ true
  left_seen b r up has unset k = was_seen who es b r up has (sym (sees_left who e es b r (of_member (λ x. spawns who x.path e ≡ false) (own_rows who es) r (rows_unspawned who es e all) has) unset) ∙ k)

  -- events that leave the peers
  module _ (no_up : brought_up e ≡ None) (no_down : taken_down e ≡ None) where
    up_before : (b : ℤ) → is_up now b ≡ true → is_up es b ≡ true
    up_before b up = sym (up_same e es no_up no_down b) ∙ up

    -- of fixed synchronizers nothing is put then
    none_first : (b : ℤ) {X : Type 0} → is_up now b ≡ true → is_up es b ≡ false → X
    none_first b up down = absurd (true≢false (sym (up_before b up) ∙ down))

    -- an event that leaves the rows too, and who sees them
    puts_nothing : (t : ToldValues) → HasOnce t → own_rows who now ≡ own_rows who es → ((r : OwnRow) → Contains (own_rows who es) r → sets_at r.path e ≡ false) → Puts who es e t t
    puts_nothing t once rows unset = record {
      once = once;
      fixed_stays = λ b y up was has. refl;
      fixed_first = λ b y up down has. none_first b up down;
      row_stays = λ b r y up seen mine was. refl;
      row_shown = λ b r y up seen mine new.
          let own = subst (λ rs. Contains rs r) rows (own_of who now b r seen) in
          absurd (true≢false (sym (left_seen b r (up_before b up) own (unset r own) (seen_sees who now b r up seen)) ∙ new));
    }

    -- an event that spawns, despawns and sets nothing
    pub puts_still : (t : ToldValues) → HasOnce t → is_still e ≡ true → Puts who es e t t
    puts_still t once still = let alone = still_alone e still in puts_nothing t once (rows_same who es e alone.2 alone.0) (λ r has. none_set r.path e alone.1)

    -- a setting of a fixed synchronizer
    pub puts_fixed_set : (t : ToldValues) → HasOnce t → (s : SightSet) → set_in e ≡ Some s → has_text s.path (fixed_paths who.scene) ≡ true → Puts who es e t t
    puts_fixed_set t once s is fixed =
        let alone = set_alone e s is in
        puts_nothing t once (rows_same who es e alone.1 alone.0) (λ r has. ap (some_is (λ (x : SightSet). text_eq x.path r.path)) is ∙ other r has (text_eq s.path r.path) refl)
      where
        other : (r : OwnRow) → Contains (own_rows who es) r → (c : Bool) → text_eq s.path r.path ≡ c → text_eq s.path r.path ≡ false
        other r has false k = k
        other r has true k = absurd (true≢false (sym fixed ∙ ap (λ p. has_text p (fixed_paths who.scene)) (text_eq-true s.path r.path k) ∙ unnot (has_text r.path (fixed_paths who.scene)) (of_member (λ x. is_unfixed who x ≡ true) (own_rows who es) r (every_of_all (is_unfixed who) (own_rows who es) (own_unfixed who es all.1)) has)))

    -- a new row
    pub puts_spawn : (f : OwnRow → Syncer → List Variant) → AreFirst f → (t : ToldValues) → HasOnce t → (o : SpawnOp) → spawn_in e ≡ Some o → (bs : List ℤ) → ((b : ℤ) → is_up now b ≡ true → sees who now b (row_made who es o) ≡ true → has_int b bs ≡ true)
        → Puts who es e t (over_peers (λ b. told_all b (f (row_made who es o)) (row_syncers_of who (row_made who es o))) bs t)
    puts_spawn f first t once o is bs among = record {
      once = over_once op for_one bs t once;
      fixed_stays = λ b y up was has. over_kept op for_one b y.id (λ u h. all_other b b y.id (f q) (row_syncers_of who q) u (other_ids b b y (row_syncers_of who q) (fixed_apart who now all v q y has there))) bs t once;
      fixed_first = λ b y up down has. none_first b up down;
      row_stays = λ b r y up seen mine was.
          let old = own_of who es b r (seen_before who es b e r (own_of who now b r seen) was).1 in
          over_kept op for_one b y.id (λ u h. all_other b b y.id (f q) (row_syncers_of who q) u (other_ids b b y (row_syncers_of who q) (row_apart who now all r q y (own_of who now b r seen) mine there (apart r old)))) bs t once;
      row_shown = λ b r y up seen mine new. shown b r y up seen mine new (Contains-append_cases (own_rows who es) (q ∷ []) r (subst (λ rs. Contains rs r) (rows_more who es e o is) (own_of who now b r seen)));
    }
      where
        q : OwnRow
        q = row_made who es o

        op : ℤ → ToldValues → ToldValues
        op b = told_all b (f q) (row_syncers_of who q)

        there : Contains (own_rows who now) q
        there = subst (λ rs. Contains rs q) (sym (rows_more who es e o is)) (Contains-push (own_rows who es) q)

        for_one : IsForOne op
        for_one = record {
          once = λ b u h. all_once b (f q) (row_syncers_of who q) u h;
          other = λ b c id u h k. all_other_peer b c id (f q) (row_syncers_of who q) u k;
        }

        apart : (r : OwnRow) → Contains (own_rows who es) r → text_eq r.path q.path ≡ false
        apart r has = text_eq-sym r.path q.path ∙ sym (ap (some_is (λ (x : SpawnOp). text_eq (spawned_path who x) r.path)) is) ∙ sym (spawns_is who r.path e) ∙ of_member (λ x. spawns who x.path e ≡ false) (own_rows who es) r (rows_unspawned who es e all) has

        new_put : (b : ℤ) (y : Syncer) → is_up now b ≡ true → sees who now b q ≡ true → Contains (row_syncers_of who q) y → told_of b y.id (over_peers op bs t) ≡ Some (f q y)
        new_put b y up sees_it mine = over_put op for_one b y.id (f q y) (λ u h. all_told b (f q) y (row_syncers_of who q) u (only_row who now all y q (row_member who now q y there mine) there) (id_among (row_syncers_of who q) y mine)) bs t once (among b up sees_it)

        shown : (b : ℤ) (r : OwnRow) (y : Syncer) → is_up now b ≡ true → Contains (visible_rows who now b) r → Contains (row_syncers_of who r) y → has_nat r.num (numbers_of (visible_rows who es b)) ≡ false
            → Contains (own_rows who es) r ⊎ Contains (q ∷ []) r → option_map (map Some) (told_of b y.id (over_peers op bs t)) ≡ Some (row_first_told who now r y)
        shown b r y up seen mine new (inl old) = absurd (true≢false (sym (left_seen b r (up_before b up) old (none_set r.path e (spawn_alone e o is).0) (seen_sees who now b r up seen)) ∙ new))
        shown b r y up seen mine new (inr last) =
            let same : r ≡ q = of_member (λ x. x ≡ q) (q ∷ []) r (refl, tt) last in
            ap (option_map (map Some)) (new_put b y up (ap (sees who now b) (sym same) ∙ seen_sees who now b r up seen) (subst (λ x. Contains (row_syncers_of who x) y) same mine) ∙ ap (λ x. Some (f x y)) (sym same)) ∙ ap Some (first b r y up seen mine new)

    -- an own row goes
    pub puts_despawn : (t : ToldValues) → HasOnce t → (path : List ℕ) (q : OwnRow) (bs : List ℤ) → e ≡ does (Despawn path) → Contains (own_rows who es) q → q.path ≡ path → Puts who es e t (over_peers (λ b. told_none b (map (λ (z : Syncer). z.id) (row_syncers_of who q))) bs t)
    puts_despawn t once path q bs is has at = record {
      once = over_once op for_one bs t once;
      fixed_stays = λ b y up was fixed. over_kept op for_one b y.id (λ u h. none_other b b y.id ids u h (other_keys b b y (row_syncers_of who q) (fixed_apart who es all.1 v q y fixed has))) bs t once;
      fixed_first = λ b y up down fixed. none_first b up down;
      row_stays = λ b r y up seen mine was.
          let kept = left b r seen in
          over_kept op for_one b y.id (λ u h. none_other b b y.id ids u h (other_keys b b y (row_syncers_of who q) (row_apart who es all.1 r q y kept.0 mine has kept.1))) bs t once;
      row_shown = λ b r y up seen mine new. absurd (true≢false (sym (left_seen b r (up_before b up) (left b r seen).0 (unset r.path) (seen_sees who now b r up seen)) ∙ new));
    }
      where
        ids : List ℕ
        ids = map (λ (z : Syncer). z.id) (row_syncers_of who q)

        op : ℤ → ToldValues → ToldValues
        op b = told_none b ids

        for_one : IsForOne op
        for_one = record { once = λ b u h. none_once b ids u h; other = λ b c id u h k. none_other_peer b c id ids u h k }

        unset : (p : List ℕ) → sets_at p e ≡ false
        unset p = ap (sets_at p) is

        no_spawn : spawn_in e ≡ None
        no_spawn = ap spawn_in is

        -- the rows that are left, whose paths are others
        left_rows : AllByRecursion (λ r. Contains (own_rows who es) r × (text_eq r.path q.path ≡ false)) (own_rows who now)
        left_rows = subst (AllByRecursion (λ r. Contains (own_rows who es) r × (text_eq r.path q.path ≡ false))) (sym (own_later who es e ∙ ap (λ o. filter (leaves e) (own_rows who es) ++ new_rows who es o) no_spawn ∙ append-nil (filter (leaves e) (own_rows who es))))
            (every_both (Contains (own_rows who es)) (λ r. leaves e r ≡ true) (λ r. Contains (own_rows who es) r × (text_eq r.path q.path ≡ false))
            (λ r own stays. (own, text_eq-sym r.path q.path ∙ ap (λ p. text_eq p r.path) at ∙ sym (ap (despawns r.path) is) ∙ unnot (despawns r.path e) stays)) (filter (leaves e) (own_rows who es))
            (every_kept (Contains (own_rows who es)) (leaves e) (own_rows who es) (recursion_from_All (Contains (own_rows who es)) (own_rows who es) (All-contains_itself (own_rows who es))))
            (every_of_all (leaves e) (filter (leaves e) (own_rows who es)) (all_pass (leaves e) (own_rows who es))))

        left : (b : ℤ) (r : OwnRow) → Contains (visible_rows who now b) r → Contains (own_rows who es) r × (text_eq r.path q.path ≡ false)
        left b r seen = of_member (λ x. Contains (own_rows who es) x × (text_eq x.path q.path ≡ false)) (own_rows who now) r left_rows (own_of who now b r seen)

    -- a setting of a synchronizer of an own row
    pub puts_row_set : (f : OwnRow → Syncer → List Variant) → AreFirst f → (t : ToldValues) → HasOnce t → (s : SightSet) → set_in e ≡ Some s → (q : OwnRow) → Contains (own_rows who es) q → q.path ≡ s.path → (up : List ℤ) → ((b : ℤ) → is_up now b ≡ true → has_int b up ≡ true)
        → (before after : ℤ → Bool) → ((b : ℤ) → is_up es b ≡ true → before b ≡ sees who es b q) → ((b : ℤ) → is_up now b ≡ true → after b ≡ sees who now b q)
        → Puts who es e t (over_peers (λ b. told_shift b (f q) (row_syncers_of who q) (map (λ (z : Syncer). z.id) (row_syncers_of who q)) (before b) (after b)) up t)
    puts_row_set f first t once s is q has at ups among before after was_it is_it = record {
      once = over_once op for_one ups t once;
      fixed_stays = λ b y up was fixed. over_kept op for_one b y.id (λ u h. op_other b y (fixed_apart who es all.1 v q y fixed has) (before b) (after b) u h) ups t once;
      fixed_first = λ b y up down fixed. none_first b up down;
      row_stays = λ b r y up seen mine was.
          let own = own_before b r seen in
          stays b r y up seen mine was own (text_eq r.path q.path) refl;
      row_shown = λ b r y up seen mine new.
          let own = own_before b r seen in
          shown b r y up seen mine new own (text_eq r.path q.path) refl;
    }
      where
        ids : List ℕ
        ids = map (λ (z : Syncer). z.id) (row_syncers_of who q)

        op : ℤ → ToldValues → ToldValues
        op b = told_shift b (f q) (row_syncers_of who q) (map (λ (z : Syncer). z.id) (row_syncers_of who q)) (before b) (after b)

        for_one : IsForOne op
        for_one = record { once = λ b u h. once_by b u h (before b) (after b); other = λ b c id u h k. other_by b c id u h k (before c) (after c) }
          where
            once_by : (b : ℤ) (u : ToldValues) → HasOnce u → (m n : Bool) → HasOnce (told_shift b (f q) (row_syncers_of who q) (map (λ (z : Syncer). z.id) (row_syncers_of who q)) m n u)
            once_by b u h true false = none_once b (map (λ (z : Syncer). z.id) (row_syncers_of who q)) u h
            once_by b u h false true = all_once b (f q) (row_syncers_of who q) u h
            once_by b u h true true = h
            once_by b u h false false = h

            other_by : (b c : ℤ) (id : ℕ) (u : ToldValues) → HasOnce u → int_eq b c ≡ false → (m n : Bool) → told_of b id (told_shift c (f q) (row_syncers_of who q) (map (λ (z : Syncer). z.id) (row_syncers_of who q)) m n u) ≡ told_of b id u
            other_by b c id u h k true false = none_other_peer b c id (map (λ (z : Syncer). z.id) (row_syncers_of who q)) u h k
            other_by b c id u h k false true = all_other_peer b c id (f q) (row_syncers_of who q) u k
            other_by b c id u h k true true = refl
            other_by b c id u h k false false = refl

        -- other synchronizers
        op_other : (b : ℤ) (y : Syncer) → AllByRecursion (λ (z : Syncer). nat_eq y.id z.id ≡ false) (row_syncers_of who q) → (m n : Bool) (u : ToldValues) → HasOnce u → told_of b y.id (told_shift b (f q) (row_syncers_of who q) (map (λ (z : Syncer). z.id) (row_syncers_of who q)) m n u) ≡ told_of b y.id u
        op_other b y apart true false u h = none_other b b y.id (map (λ (z : Syncer). z.id) (row_syncers_of who q)) u h (other_keys b b y (row_syncers_of who q) apart)
        op_other b y apart false true u h = all_other b b y.id (f q) (row_syncers_of who q) u (other_ids b b y (row_syncers_of who q) apart)
        op_other b y apart true true u h = refl
        op_other b y apart false false u h = refl

        own_before : (b : ℤ) (r : OwnRow) → Contains (visible_rows who now b) r → Contains (own_rows who es) r
        own_before b r seen = subst (λ rs. Contains rs r) (rows_same who es e (set_alone e s is).1 (set_alone e s is).0) (own_of who now b r seen)

        unset : (r : OwnRow) → text_eq r.path q.path ≡ false → sets_at r.path e ≡ false
        unset r k = ap (some_is (λ (x : SightSet). text_eq x.path r.path)) is ∙ ap (λ p. text_eq p r.path) (sym at) ∙ text_eq-sym q.path r.path ∙ k

        -- the row that is set
        row_is : (r : OwnRow) → Contains (own_rows who es) r → text_eq r.path q.path ≡ true → q ≡ r
        row_is r own k = of_member (IsSame (λ (x : OwnRow). x.path) r) (own_rows who es) q (same_row who es all.1 r own) has k

        stays : (b : ℤ) (r : OwnRow) (y : Syncer) → is_up now b ≡ true → Contains (visible_rows who now b) r → Contains (row_syncers_of who r) y → has_nat r.num (numbers_of (visible_rows who es b)) ≡ true → Contains (own_rows who es) r
            → (c : Bool) → text_eq r.path q.path ≡ c → told_of b y.id (over_peers op ups t) ≡ told_of b y.id t
        stays b r y up seen mine was own false k = over_kept op for_one b y.id (λ u h. op_other b y (row_apart who es all.1 r q y own mine has k) (before b) (after b) u h) ups t once
        stays b r y up seen mine was own true k =
            let same = row_is r own k in
            let now_sees : after b ≡ true = is_it b up ∙ ap (sees who now b) same ∙ seen_sees who now b r up seen in
            let then_saw : before b ≡ true = was_it b (up_before b up) ∙ ap (sees who es b) same ∙ seen_sees who es b r (up_before b up) (seen_before who es b e r (own_of who now b r seen) was).1 in
            over_kept op for_one b y.id (λ u h. ap₂ (λ m n. told_of b y.id (told_shift b (f q) (row_syncers_of who q) (map (λ (z : Syncer). z.id) (row_syncers_of who q)) m n u)) then_saw now_sees) ups t once

        shown : (b : ℤ) (r : OwnRow) (y : Syncer) → is_up now b ≡ true → Contains (visible_rows who now b) r → Contains (row_syncers_of who r) y → has_nat r.num (numbers_of (visible_rows who es b)) ≡ false → Contains (own_rows who es) r
            → (c : Bool) → text_eq r.path q.path ≡ c → option_map (map Some) (told_of b y.id (over_peers op ups t)) ≡ Some (row_first_told who now r y)
        shown b r y up seen mine new own false k = absurd (true≢false (sym (left_seen b r (up_before b up) own (unset r k) (seen_sees who now b r up seen)) ∙ new))
        shown b r y up seen mine new own true k =
            let same = row_is r own k in
            let of_q : Contains (row_syncers_of who q) y = subst (λ x. Contains (row_syncers_of who x) y) (sym same) mine in
            let now_sees : after b ≡ true = is_it b up ∙ ap (sees who now b) same ∙ seen_sees who now b r up seen in
            let then_not : before b ≡ false = was_it b (up_before b up) ∙ ap (sees who es b) same ∙ was_not_seen who es b r (up_before b up) own new in
            ap (option_map (map Some)) (over_put op for_one b y.id (f q y)
            (λ u h. ap₂ (λ m n. told_of b y.id (told_shift b (f q) (row_syncers_of who q) (map (λ (z : Syncer). z.id) (row_syncers_of who q)) m n u)) then_not now_sees ∙ all_told b (f q) y (row_syncers_of who q) u (only_row who es all.1 y q (row_member who es q y has of_q) has) (id_among (row_syncers_of who q) y of_q))
            ups t once (among b up) ∙ ap (λ x. Some (f x y)) same) ∙ ap Some (first b r y up seen mine new)

  -- a peer goes down
  pub puts_down : (t : ToldValues) → HasOnce t → (c : ℤ) → taken_down e ≡ Some c → Puts who es e t (without_peer c t)
  puts_down t once c is = record {
    once = left_once c t once;
    fixed_stays = λ b y up was has. left_other b c y.id t (left b up).0;
    fixed_first = λ b y up down has. absurd (true≢false (sym (left b up).1 ∙ down));
    row_stays = λ b r y up seen mine was. left_other b c y.id t (left b up).0;
    row_shown = λ b r y up seen mine new.
        let own = subst (λ rs. Contains rs r) (rows_same who es e still.2 still.0) (own_of who now b r seen) in
        absurd (true≢false (sym (left_seen b r (left b up).1 own (none_set r.path e still.1) (seen_sees who now b r up seen)) ∙ new));
  }
    where
      still : (spawn_in e ≡ None) × (set_in e ≡ None) × ((p : List ℕ) → despawns p e ≡ false)
      still = still_alone e (down_alone e c is).0

      left : (b : ℤ) → is_up now b ≡ true → (int_eq b c ≡ false) × (is_up es b ≡ true)
      left b up = let parts = and_parts (not (int_eq b c)) (is_up es b) (sym (up_less e es c is b) ∙ up) in (unnot (int_eq b c) parts.0, parts.1)

  -- a peer comes up: it has the defaults of the fixed synchronizers, and the values of the rows that it sees
  pub puts_up : (f : OwnRow → Syncer → List Variant) → AreFirst f → (t : ToldValues) → HasOnce t → (c : ℤ) → brought_up e ≡ Some c
      → Puts who es e t (rows_told who c f (filter (sees who es c) (own_rows who es)) (told_all c (λ y. map (default_value who y.node) (change_props y.def)) (fixed_syncers who.scene who.id) t))
  puts_up f first t once c is = record {
    once = rows_once who c f rows start (all_once c defaults (fixed_syncers who.scene who.id) t once);
    fixed_stays = λ b y up was has. others b y.id (old b was);
    fixed_first = λ b y up down has. let same = brought b up down in (ap (was_up es) same ∙ new, fixed_put b y same up has);
    row_stays = λ b r y up seen mine was. others b y.id (old b (seen_before who es b e r (own_of who now b r seen) was).0);
    row_shown = λ b r y up seen mine fresh. shown b r y up seen mine fresh (is_up es b) refl;
  }
    where
      defaults : Syncer → List Variant
      defaults y = map (default_value who y.node) (change_props y.def)

      start : ToldValues
      start = told_all c (λ y. map (default_value who y.node) (change_props y.def)) (fixed_syncers who.scene who.id) t

      rows : List OwnRow
      rows = filter (sees who es c) (own_rows who es)

      new : was_up es c ≡ false
      new = brought_new who es e c all.0 is

      still : (spawn_in e ≡ None) × (set_in e ≡ None) × ((p : List ℕ) → despawns p e ≡ false)
      still = still_alone e (up_alone e c is).0

      -- a peer that was up is another, and nothing is put for it
      old : (b : ℤ) → is_up es b ≡ true → int_eq b c ≡ false
      old b was = step (int_eq b c) refl
        where
          step : (s : Bool) → int_eq b c ≡ s → int_eq b c ≡ false
          step true e = absurd (true≢false (sym (was_up_if_up es b was) ∙ ap (was_up es) (int_is b c e) ∙ new))
          step false e = e

      others : (b : ℤ) (id : ℕ) → int_eq b c ≡ false → told_of b id (rows_told who c f rows start) ≡ told_of b id t
      others b id k = rows_other_peer who c f b id rows start k ∙ all_other_peer b c id defaults (fixed_syncers who.scene who.id) t k

      -- one that wasn't up is the new one
      brought : (b : ℤ) → is_up now b ≡ true → is_up es b ≡ false → b ≡ c
      brought b up down = step (int_eq b c) refl
        where
          step : (s : Bool) → int_eq b c ≡ s → b ≡ c
          step true k = int_is b c k
          step false k = absurd (true≢false (sym up ∙ up_more e es c is b ∙ ap₂ (λ s u. s || u) k down))

      fixed_put : (b : ℤ) (y : Syncer) → b ≡ c → is_up now b ≡ true → Contains (fixed_syncers who.scene who.id) y → option_map (map Some) (told_of b y.id (rows_told who c f rows start)) ≡ Some (fixed_first_told who y)
      fixed_put b y same up has =
          ap (λ d. option_map (map Some) (told_of d y.id (rows_told who c f rows start))) same
          ∙ ap (option_map (map Some)) (rows_other who c f y rows start
          (every_kept (λ (q : OwnRow). AllByRecursion (λ (z : Syncer). nat_eq y.id z.id ≡ false) (row_syncers_of who q)) (sees who es c) (own_rows who es)
          (every_weaker (Contains (own_rows who es)) (λ (q : OwnRow). AllByRecursion (λ (z : Syncer). nat_eq y.id z.id ≡ false) (row_syncers_of who q)) (λ q own. fixed_apart who es all.1 v q y has own) (own_rows who es) (themselves who es)))
          ∙ all_told c defaults y (fixed_syncers who.scene who.id) t (only_fixed who es all.1 y (fixed_member who es y has)) (id_among (fixed_syncers who.scene who.id) y has))
          ∙ ap Some (first_fixed who es e b y v all (up_alone e c is).2 up (ap (was_up es) same ∙ new) has)

      own_before : (b : ℤ) (r : OwnRow) → Contains (visible_rows who now b) r → Contains (own_rows who es) r
      own_before b r seen = subst (λ rs. Contains rs r) (rows_same who es e still.2 still.0) (own_of who now b r seen)

      -- what a peer sees then it may have seen before
      saw : (b : ℤ) (r : OwnRow) → Contains (own_rows who es) r → sees who now b r ≡ true → sees who es b r ≡ true
      saw b r own k = sym (sees_left who e es b r (of_member (λ x. spawns who x.path e ≡ false) (own_rows who es) r (rows_unspawned who es e all) own) (none_set r.path e still.1)) ∙ k

      row_put : (r : OwnRow) (y : Syncer) → Contains (own_rows who es) r → Contains (row_syncers_of who r) y → sees who es c r ≡ true → told_of c y.id (rows_told who c f rows start) ≡ Some (f r y)
      row_put r y own mine k = rows_put who c f r y mine (only_row who es all.1 y r (row_member who es r y own mine) own) rows start
          (every_kept (λ (q : OwnRow). IsSame (λ (x : OwnRow). x.path) r q × (text_eq r.path q.path ≡ false → AllByRecursion (λ (z : Syncer). nat_eq y.id z.id ≡ false) (row_syncers_of who q))) (sees who es c) (own_rows who es)
          (every_both (IsSame (λ (x : OwnRow). x.path) r) (Contains (own_rows who es)) (λ (q : OwnRow). IsSame (λ (x : OwnRow). x.path) r q × (text_eq r.path q.path ≡ false → AllByRecursion (λ (z : Syncer). nat_eq y.id z.id ≡ false) (row_syncers_of who q)))
          (λ q same has. (same, λ other. row_apart who es all.1 r q y own mine has other)) (own_rows who es) (same_row who es all.1 r own) (themselves who es)))
          (path_among rows r (of_member (λ (x : OwnRow). sees who es c x ≡ true → Contains rows x) (own_rows who es) r (seen_there who es c) own k))

      shown : (b : ℤ) (r : OwnRow) (y : Syncer) → is_up now b ≡ true → Contains (visible_rows who now b) r → Contains (row_syncers_of who r) y → has_nat r.num (numbers_of (visible_rows who es b)) ≡ false
          → (s : Bool) → is_up es b ≡ s → option_map (map Some) (told_of b y.id (rows_told who c f rows start)) ≡ Some (row_first_told who now r y)
      shown b r y up seen mine fresh true was = absurd (true≢false (sym (left_seen b r was (own_before b r seen) (none_set r.path e still.1) (seen_sees who now b r up seen)) ∙ fresh))
      shown b r y up seen mine fresh false down =
          let same = brought b up down in
          let own = own_before b r seen in
          ap (option_map (map Some)) (ap (λ d. told_of d y.id (rows_told who c f rows start)) same ∙ row_put r y own mine (ap (λ d. sees who es d r) (sym same) ∙ saw b r own (seen_sees who now b r up seen))) ∙ ap Some (first b r y up seen mine fresh)
