-- A frame, peer by peer: each is told what the definitions say, and what is kept then says what all events say.
use Rattle.std.proofs.Common.{◌≡◌, ℕ, ℤ, Bool, true, false, ◌||◌, List, [], ◌∷◌, refl, sym, ap, ◌∙◌, subst, map, filter, nat_eq, Some}
use Rattle.std.specs.Prelude.{flat_map, int_lt, option_map, if◌then◌else◌}
use Rattle.std.specs.List.{list_all, AllByRecursion, Contains}
use Rattle.std.specs.Ordering.{int_eq}
use Rattle.std.proofs.lemmas.Bool.{and_parts, or_parts}
use Rattle.std.proofs.lemmas.List.Elements.{recursion_from_All, All-contains_itself, filter-append}
use Rattle.gd_variant.specs.Words.{has_int}
use Rattle.scene_model.specs.declared.event.Op.TheVariants.{Frame}
use Rattle.scene_model.specs.Nodes.{Live}
use Rattle.scene_model.specs.Syncs.{Syncer, change_props, fixed_syncers}
use Rattle.scene_model.specs.Valid.{IsValidScene}
use Rattle.peer_model.specs.Heard.{Who, Heard, does}
use Rattle.peer_model.specs.Peers.{is_up, peers_up}
use Rattle.peer_model.specs.Rows.{OwnRow, own_rows}
use Rattle.peer_model.specs.Values.{own_value}
use Rattle.peer_model.specs.Visible.{own_syncers, row_syncers_of, sees, visible_rows, visible_to}
use Rattle.peer_laws.proofs.Each.{all_has, every_joined, every_kept}
use Rattle.peer_laws.proofs.Filters.{all_pass}
use Rattle.peer_laws.proofs.Joined.{map-map}
use Rattle.peer_laws.proofs.Numbers.{int_is, int_comm, int_same, lt_apart}
use Rattle.peer_laws.proofs.Sorted.{is_rising}
use Rattle.peer_laws.proofs.Ups.{has_up}
use Rattle.peer_laws.proofs.Tests.{never}
use Rattle.world_laws.specs.Done.{AllDone}
use Rattle.world_laws.proofs.Law.{every_weaker, unseen}
use Rattle.sight_laws.proofs.Frames.{told_at_frame}
use Rattle.sight_laws.proofs.Lists.{of_member, every_both, every_unkept, every_of_all, every_true, filter_same}
use Rattle.sight_laws.proofs.Later.{unspawned}
use Rattle.sight_laws.proofs.Sends.{sees_left, none_set}
use Rattle.sight_laws.proofs.Stepping.{rows_same}
use Rattle.sight_laws.proofs.Unseen.{told_unseen_stays}
use Rattle.delta_props.specs.Telling.{ToldValues, told_of, collected}
use Rattle.telling_laws.specs.Telling.{HasOnce, IsTold, Tells}
use Rattle.telling_laws.specs.Collecting.{sync_ref, told_frames}
use Rattle.telling_laws.proofs.Several.{IsOnly}
use Rattle.telling_laws.proofs.Ids.{own_only, fixed_member, row_member}
use Rattle.telling_laws.proofs.Nexts.{own_of, seen_is, seen_there}
use Rattle.telling_laws.proofs.Collecting.{HasNoId, Serves, own_differ, kept_differ, collected_once, collected_peer, collected_other, counts}

module _ (who : Who) (es : List Heard) (nodes : List Live) (all : AllDone who es) (serves : AllByRecursion (Serves who es nodes) (own_syncers who es)) where
  -- the synchronizers that a peer may see
  abbrev pub seen : ℤ → List Syncer
  seen b = filter (visible_to who es b) (own_syncers who es)

  -- what counts as told after a frame for some peers
  abbrev pub frames : List ℤ → ToldValues → ToldValues
  frames bs t = told_frames who.scene nodes (λ b. map sync_ref (filter (visible_to who es b) (own_syncers who es))) bs t

  frames_once : (bs : List ℤ) (t : ToldValues) → HasOnce t → HasOnce (frames bs t)
  frames_once [] t h = h
  frames_once (b ∷ bs) t h = frames_once bs (collected b who.scene nodes (map sync_ref (seen b)) t).1 (collected_once who es nodes b (map sync_ref (seen b)) t h)

  frames_peer : (c : ℤ) (i : ℕ) (bs : List ℤ) (t : ToldValues) → has_int c bs ≡ false → told_of c i (frames bs t) ≡ told_of c i t
  frames_peer c i [] t h = refl
  frames_peer c i (b ∷ bs) t h =
      let parts = or_parts (int_eq c b) (has_int c bs) h in
      frames_peer c i bs (collected b who.scene nodes (map sync_ref (seen b)) t).1 parts.1 ∙ collected_peer who es nodes b c i (map sync_ref (seen b)) t parts.0

  -- what a peer was told of a synchronizer that it may not see stays
  frames_unseen : (b : ℤ) (i : ℕ) (bs : List ℤ) (t : ToldValues) → HasNoId i (seen b) → told_of b i (frames bs t) ≡ told_of b i t
  frames_unseen b i [] t h = refl
  frames_unseen b i (c ∷ bs) t h = frames_unseen b i bs (collected c who.scene nodes (map sync_ref (seen c)) t).1 h ∙ step (int_eq b c) refl
    where
      step : (s : Bool) → int_eq b c ≡ s → told_of b i (collected c who.scene nodes (map sync_ref (seen c)) t).1 ≡ told_of b i t
      step true e = ap (λ d. told_of b i (collected d who.scene nodes (map sync_ref (seen d)) t).1) (sym (int_is b c e)) ∙ collected_other who es nodes b i (seen b) t h
      step false e = collected_peer who es nodes c b i (map sync_ref (seen c)) t e

  pub seen_serve : (b : ℤ) → AllByRecursion (Serves who es nodes) (seen b)
  seen_serve b = every_kept (Serves who es nodes) (visible_to who es b) (own_syncers who es) serves

  -- each peer was told the present values of those that it may see
  frames_seen : (bs : List ℤ) (t : ToldValues) → is_rising bs ≡ true → ((b : ℤ) → has_int b bs ≡ true → AllByRecursion (Tells who es t b) (seen b)) → (b : ℤ) → has_int b bs ≡ true
      → AllByRecursion (λ (y : Syncer). told_of b y.id (frames bs t) ≡ Some (map (own_value who es y.node) (change_props y.def))) (seen b)
  frames_seen [] t r tells b has = absurd (cc has)
  frames_seen (c ∷ bs) t r tells b has = step (int_eq b c) refl has (λ k. frames_seen bs next parts.1 later b k)
    where
      next : ToldValues
      next = (collected c who.scene nodes (map sync_ref (seen c)) t).1

      parts : (list_all (int_lt c) bs ≡ true) × (is_rising bs ≡ true)
      parts = and_parts (list_all (int_lt c) bs) (is_rising bs) r

      apart : (d : ℤ) → has_int d bs ≡ true → int_eq d c ≡ false
      apart d k = int_comm d c ∙ lt_apart c d (all_has (int_lt c) d bs parts.0 k)

      later : (d : ℤ) → has_int d bs ≡ true → AllByRecursion (Tells who es next d) (seen d)
      later d k = every_weaker (Tells who es t d) (Tells who es next d) (λ y h. ap (option_map (map Some)) (collected_peer who es nodes c d y.id (map sync_ref (seen c)) t (apart d k)) ∙ h) (seen d) (tells d (or_last (int_eq d c) (has_int d bs) k))
        where
          or_last : (x y : Bool) → y ≡ true → (x || y) ≡ true
          or_last true y h = refl
          or_last false y h = h

      here : b ≡ c → AllByRecursion (λ (y : Syncer). told_of b y.id (frames bs next) ≡ Some (map (own_value who es y.node) (change_props y.def))) (seen b)
      here same = subst (λ d. AllByRecursion (λ (y : Syncer). told_of d y.id (frames bs next) ≡ Some (map (own_value who es y.node) (change_props y.def))) (seen d)) (sym same)
          (every_weaker (λ (y : Syncer). told_of c y.id next ≡ Some (map (own_value who es y.node) (change_props y.def))) (λ (y : Syncer). told_of c y.id (frames bs next) ≡ Some (map (own_value who es y.node) (change_props y.def)))
          (λ y h. frames_peer c y.id bs next (never (has_int c bs) (λ k. sym (int_same c) ∙ apart c k)) ∙ h) (seen c)
          (counts who es nodes c (seen c) t (kept_differ (visible_to who es c) (own_syncers who es) (own_differ who es all)) (seen_serve c) (tells c (ap (λ s. s || has_int c bs) (int_same c)))))

      step : (s : Bool) → int_eq b c ≡ s → (s || has_int b bs) ≡ true
          → (has_int b bs ≡ true → AllByRecursion (λ (y : Syncer). told_of b y.id (frames bs next) ≡ Some (map (own_value who es y.node) (change_props y.def))) (seen b))
          → AllByRecursion (λ (y : Syncer). told_of b y.id (frames bs next) ≡ Some (map (own_value who es y.node) (change_props y.def))) (seen b)
      step true e k more = here (int_is b c e)
      step false e k more = more k

-- what is kept tells of all synchronizers that a peer may see
pub told_seen : (who : Who) (es : List Heard) (t : ToldValues) → IsTold who es t → (b : ℤ) → is_up es b ≡ true → AllByRecursion (Tells who es t b) (filter (visible_to who es b) (own_syncers who es))
told_seen who es t told b up = subst (AllByRecursion (Tells who es t b)) (sym (filter-append (visible_to who es b) (fixed_syncers who.scene who.id) (flat_map (row_syncers_of who) (own_rows who es))))
    (every_joined (Tells who es t b) (filter (visible_to who es b) (fixed_syncers who.scene who.id)) (filter (visible_to who es b) (flat_map (row_syncers_of who) (own_rows who es)))
    (every_kept (Tells who es t b) (visible_to who es b) (fixed_syncers who.scene who.id) (every_weaker (Contains (fixed_syncers who.scene who.id)) (Tells who es t b) (λ y has. told.fixed b y up has) (fixed_syncers who.scene who.id) (itself (fixed_syncers who.scene who.id))))
    (rows (own_rows who es) (every_weaker (Contains (own_rows who es)) (λ r. sees who es b r ≡ true → AllByRecursion (Tells who es t b) (row_syncers_of who r)) (λ r has k. every_weaker (Contains (row_syncers_of who r)) (Tells who es t b) (λ y mine. told.rows b r y up (there r has k) mine) (row_syncers_of who r) (itself (row_syncers_of who r))) (own_rows who es) (itself (own_rows who es)))))
  where
    itself : {X : Type 0} (xs : List X) → AllByRecursion (Contains xs) xs
    itself xs = recursion_from_All (Contains xs) xs (All-contains_itself xs)

    there : (r : OwnRow) → Contains (own_rows who es) r → sees who es b r ≡ true → Contains (visible_rows who es b) r
    there r has k = subst (λ rs. Contains rs r) (sym (seen_is who es b up)) (of_member (λ (x : OwnRow). sees who es b x ≡ true → Contains (filter (sees who es b) (own_rows who es)) x) (own_rows who es) r (seen_there who es b) has k)

    rows : (rs : List OwnRow) → AllByRecursion (λ r. sees who es b r ≡ true → AllByRecursion (Tells who es t b) (row_syncers_of who r)) rs → AllByRecursion (Tells who es t b) (filter (visible_to who es b) (flat_map (row_syncers_of who) rs))
    rows [] h = tt
    rows (r ∷ rs) h = subst (AllByRecursion (Tells who es t b)) (sym (filter-append (visible_to who es b) (row_syncers_of who r) (flat_map (row_syncers_of who) rs)))
        (every_joined (Tells who es t b) (filter (visible_to who es b) (row_syncers_of who r)) (filter (visible_to who es b) (flat_map (row_syncers_of who) rs)) (step (sees who es b r) refl) (rows rs h.1))
      where
        step : (s : Bool) → sees who es b r ≡ s → AllByRecursion (Tells who es t b) (filter (visible_to who es b) (row_syncers_of who r))
        step true e = every_kept (Tells who es t b) (visible_to who es b) (row_syncers_of who r) (h.0 e)
        step false e = subst (AllByRecursion (Tells who es t b)) (sym (unseen who es b r e)) tt

-- a frame leaves the rows that a peer sees
frame_rows : (who : Who) (es : List Heard) (b : ℤ) → AllDone who (does Frame ∷ es) → visible_rows who (does Frame ∷ es) b ≡ visible_rows who es b
frame_rows who es b all =
    ap (λ rs. if is_up es b then filter (sees who (does Frame ∷ es) b) rs else []) (rows_same who es (does Frame) (λ p. refl) refl)
    ∙ ap (λ rs. if is_up es b then rs else []) (filter_same (sees who (does Frame ∷ es) b) (sees who es b) (own_rows who es)
    (every_true (λ r. sees who (does Frame ∷ es) b r ≡ sees who es b r) (λ r. sees_left who (does Frame) es b r (unspawned who r.path (does Frame) refl) (none_set r.path (does Frame) refl)) (own_rows who es)))

-- after a frame what is kept says what all events say
pub told_frame : (who : Who) (es : List Heard) (nodes : List Live) (t : ToldValues) → IsValidScene who.scene → (all : AllDone who (does Frame ∷ es)) → is_rising (peers_up es) ≡ true → (serves : AllByRecursion (Serves who es nodes) (own_syncers who es)) → IsTold who es t
    → IsTold who (does Frame ∷ es) (frames who es nodes all.1 serves (peers_up es) t)
told_frame who es nodes t v all rising serves told = record {
  once = frames_once who es nodes all.1 serves (peers_up es) t told.once;
  fixed = λ b y up has. one b y up (fixed_member who es y has) (told.fixed b y up has);
  rows = λ b r y up has mine.
      let before = subst (λ rs. Contains rs r) (frame_rows who es b all) has in
      one b y up (row_member who es r y (own_of who es b r before) mine) (told.rows b r y up before mine);
}
  where
    one : (b : ℤ) (y : Syncer) → is_up es b ≡ true → Contains (own_syncers who es) y → Tells who es t b y → Tells who (does Frame ∷ es) (frames who es nodes all.1 serves (peers_up es) t) b y
    one b y up has before = step (visible_to who es b y) refl
      where
        member : visible_to who es b y ≡ true → Contains (filter (visible_to who es b) (own_syncers who es)) y
        member e = of_member (λ z. visible_to who es b z ≡ true → Contains (filter (visible_to who es b) (own_syncers who es)) z) (own_syncers who es) y
            (every_unkept (Contains (filter (visible_to who es b) (own_syncers who es))) (visible_to who es b) (own_syncers who es) (recursion_from_All (Contains (filter (visible_to who es b) (own_syncers who es))) (filter (visible_to who es b) (own_syncers who es)) (All-contains_itself (filter (visible_to who es b) (own_syncers who es))))) has e

        none : visible_to who es b y ≡ false → HasNoId y.id (filter (visible_to who es b) (own_syncers who es))
        none e = every_both (IsOnly y) (λ z. visible_to who es b z ≡ true) (λ (z : Syncer). nat_eq y.id z.id ≡ false) (λ z only k. never (nat_eq y.id z.id) (λ same. sym k ∙ ap (visible_to who es b) (only same) ∙ e)) (filter (visible_to who es b) (own_syncers who es))
            (every_kept (IsOnly y) (visible_to who es b) (own_syncers who es) (of_member (λ z. AllByRecursion (IsOnly z) (own_syncers who es)) (own_syncers who es) y (own_only who es all.1) has))
            (every_of_all (visible_to who es b) (filter (visible_to who es b) (own_syncers who es)) (all_pass (visible_to who es b) (own_syncers who es)))

        step : (s : Bool) → visible_to who es b y ≡ s → Tells who (does Frame ∷ es) (frames who es nodes all.1 serves (peers_up es) t) b y
        step true e =
            ap (option_map (map Some)) (of_member (λ (z : Syncer). told_of b z.id (frames who es nodes all.1 serves (peers_up es) t) ≡ Some (map (own_value who es z.node) (change_props z.def))) (filter (visible_to who es b) (own_syncers who es)) y
            (frames_seen who es nodes all.1 serves (peers_up es) t rising (λ c k. told_seen who es t told c (sym (has_up es c) ∙ k)) b (has_up es b ∙ up)) (member e))
            ∙ ap Some (map-map Some (own_value who es y.node) (change_props y.def) ∙ sym (told_at_frame who es b y v all up (member e)))
        step false e =
            ap (option_map (map Some)) (frames_unseen who es nodes all.1 serves b y.id (peers_up es) t (none e)) ∙ before ∙ ap Some (sym (told_unseen_stays who es b y v all up has e))
