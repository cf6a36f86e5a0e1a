-- What is kept of told values after an event that is no frame, by what the event leaves and what it puts.
use Rattle.std.proofs.Common.{◌≡◌, ℤ, Bool, true, false, List, [], ◌∷◌, refl, sym, ap, ◌∙◌, subst, map, filter, nat_lt, Option, Some, None}
use Rattle.std.specs.Prelude.{option_map, if◌then◌else◌}
use Rattle.std.specs.List.{AllByRecursion, Contains, IsDistinct}
use Rattle.std.proofs.lemmas.Bool.{true≢false}
use Rattle.std.proofs.lemmas.List.Elements.{recursion_from_All, All-contains_itself}
use Rattle.std.proofs.lemmas.List.Folds.{list_all-map}
use Rattle.gd_variant.specs.Words.{has_nat}
use Rattle.scene_model.specs.declared.event.SpawnOp.{SpawnOp}
use Rattle.scene_model.specs.Syncs.{Syncer, fixed_syncers}
use Rattle.scene_model.specs.Valid.{IsValidScene}
use Rattle.peer_model.specs.Heard.{Who, Heard}
use Rattle.peer_model.specs.Peers.{is_up, was_up}
use Rattle.peer_model.specs.Rows.{OwnRow, own_rows, row_made, next_number, spawn_in}
use Rattle.peer_model.specs.Visible.{sees, row_syncers_of, visible_rows}
use Rattle.peer_model.specs.Changes.{is_frame, numbers_of}
use Rattle.peer_laws.specs.Facts.{is_below}
use Rattle.peer_laws.proofs.Each.{all-filter, every_joined, every_kept}
use Rattle.peer_laws.proofs.Rows.{below_of}
use Rattle.world_laws.specs.Done.{AllDone}
use Rattle.world_laws.specs.Marks.{new_rows}
use Rattle.world_laws.proofs.Own.{leaves, own_later}
use Rattle.world_laws.proofs.Rising.{lower_lacks}
use Rattle.sight_laws.specs.Told.{fixed_first_told, row_first_told}
use Rattle.sight_laws.proofs.Firsts.{sync_fixed_at_first, sync_fixed_stays, sync_row_stays, sync_row_shown}
use Rattle.sight_laws.proofs.Lists.{of_member, every_both, every_unkept, kept_by_number}
use Rattle.sight_laws.proofs.Stepping.{own_nums_rise}
use Rattle.sight_laws.proofs.ToldRows.{every_visible}
use Rattle.delta_props.specs.Telling.{ToldValues, told_of}
use Rattle.telling_laws.specs.Telling.{HasOnce, IsTold, Tells}

-- a row that is seen is an own row
pub own_of : (who : Who) (es : List Heard) (b : ℤ) (r : OwnRow) → Contains (visible_rows who es b) r → Contains (own_rows who es) r
own_of who es b r has = of_member (Contains (own_rows who es)) (visible_rows who es b) r (every_visible (Contains (own_rows who es)) who es b (recursion_from_All (Contains (own_rows who es)) (own_rows who es) (All-contains_itself (own_rows who es)))) has

module _ (who : Who) (es : List Heard) (b : ℤ) where
  -- the own rows that the peer may see
  abbrev seen : List OwnRow
  seen = filter (sees who es b) (own_rows who es)

  pub seen_is : is_up es b ≡ true → visible_rows who es b ≡ seen
  seen_is up = ap (λ t. if t then seen else []) up

  -- an own row that may be seen is among them
  pub seen_there : AllByRecursion (λ (r : OwnRow). sees who es b r ≡ true → Contains seen r) (own_rows who es)
  seen_there = every_unkept (Contains seen) (sees who es b) (own_rows who es) (recursion_from_All (Contains seen) seen (All-contains_itself seen))

  -- and its number among theirs
  pub seen_number : AllByRecursion (λ (r : OwnRow). has_nat r.num (numbers_of seen) ≡ sees who es b r) (own_rows who es)
  seen_number = kept_by_number (λ (r : OwnRow). r.num) (sees who es b) 1 (own_rows who es) (own_nums_rise who es)

  -- no row that is made later has such a number
  new_number : (o : SpawnOp) → has_nat (row_made who es o).num (numbers_of seen) ≡ false
  new_number o = lower_lacks (next_number who es) (numbers_of seen)
      (list_all-map (λ i. nat_lt i (next_number who es)) (λ (r : OwnRow). r.num) seen ∙ all-filter (is_below (next_number who es)) (sees who es b) (own_rows who es) (below_of who es))

  number_there : (e : Heard) → AllByRecursion (λ (r : OwnRow). has_nat r.num (numbers_of seen) ≡ true → Contains seen r) (own_rows who (e ∷ es))
  number_there e = subst (AllByRecursion (λ (r : OwnRow). has_nat r.num (numbers_of seen) ≡ true → Contains seen r)) (sym (own_later who es e))
      (every_joined (λ (r : OwnRow). has_nat r.num (numbers_of seen) ≡ true → Contains seen r) (filter (leaves e) (own_rows who es)) (new_rows who es (spawn_in e))
      (every_kept (λ (r : OwnRow). has_nat r.num (numbers_of seen) ≡ true → Contains seen r) (leaves e) (own_rows who es)
      (every_both (λ (r : OwnRow). has_nat r.num (numbers_of seen) ≡ sees who es b r) (λ (r : OwnRow). sees who es b r ≡ true → Contains seen r) (λ (r : OwnRow). has_nat r.num (numbers_of seen) ≡ true → Contains seen r) (λ r k c h. c (sym k ∙ h)) (own_rows who es) seen_number seen_there))
      (step (spawn_in e)))
    where
      step : (o : Option SpawnOp) → AllByRecursion (λ (r : OwnRow). has_nat r.num (numbers_of seen) ≡ true → Contains seen r) (new_rows who es o)
      step None = tt
      step (Some o) = (λ h. absurd (true≢false (sym h ∙ new_number o)), tt)

  -- a row that is there after an event, with the number of one that was seen before it, was seen before it
  pub seen_before : (e : Heard) (r : OwnRow) → Contains (own_rows who (e ∷ es)) r → has_nat r.num (numbers_of (visible_rows who es b)) ≡ true → (is_up es b ≡ true) × Contains (visible_rows who es b) r
  seen_before e r has was = step (is_up es b) refl
    where
      step : (t : Bool) → is_up es b ≡ t → (is_up es b ≡ true) × Contains (visible_rows who es b) r
      step true up = (up, subst (λ rs. Contains rs r) (sym (seen_is up)) (of_member (λ (x : OwnRow). has_nat x.num (numbers_of seen) ≡ true → Contains seen x) (own_rows who (e ∷ es)) r (number_there e) has (ap (λ rs. has_nat r.num (numbers_of rs)) (sym (seen_is up)) ∙ was)))
      step false down = absurd (true≢false (sym was ∙ ap (λ t. has_nat r.num (numbers_of (if t then seen else []))) down))

-- what an event makes of what is kept
pub record Puts (who : Who) (es : List Heard) (e : Heard) (t u : ToldValues) : Type 0 where
  pub once : HasOnce u
  -- of fixed synchronizers, what a peer was told stays while it is up, and a new peer has the defaults
  pub fixed_stays : (b : ℤ) (y : Syncer) → is_up (e ∷ es) b ≡ true → is_up es b ≡ true → Contains (fixed_syncers who.scene who.id) y → told_of b y.id u ≡ told_of b y.id t
  pub fixed_first : (b : ℤ) (y : Syncer) → is_up (e ∷ es) b ≡ true → is_up es b ≡ false → Contains (fixed_syncers who.scene who.id) y → (was_up es b ≡ false) × (option_map (map Some) (told_of b y.id u) ≡ Some (fixed_first_told who y))
  -- of rows, what a peer was told stays of one that it saw before, and of another it has the values of the Show
  pub row_stays : (b : ℤ) (r : OwnRow) (y : Syncer) → is_up (e ∷ es) b ≡ true → Contains (visible_rows who (e ∷ es) b) r → Contains (row_syncers_of who r) y → has_nat r.num (numbers_of (visible_rows who es b)) ≡ true → told_of b y.id u ≡ told_of b y.id t
  pub row_shown : (b : ℤ) (r : OwnRow) (y : Syncer) → is_up (e ∷ es) b ≡ true → Contains (visible_rows who (e ∷ es) b) r → Contains (row_syncers_of who r) y → has_nat r.num (numbers_of (visible_rows who es b)) ≡ false
      → option_map (map Some) (told_of b y.id u) ≡ Some (row_first_told who (e ∷ es) r y)

-- what is kept says what all events say, one event later
pub told_next : (who : Who) (es : List Heard) (e : Heard) (t u : ToldValues) → IsValidScene who.scene → AllDone who (e ∷ es) → is_frame e ≡ false → IsTold who es t → Puts who es e t u → IsTold who (e ∷ es) u
told_next who es e t u v all plain told puts = record {
  once = puts.once;
  fixed = fixed;
  rows = rows;
}
  where
    fixed : (b : ℤ) (y : Syncer) → is_up (e ∷ es) b ≡ true → Contains (fixed_syncers who.scene who.id) y → Tells who (e ∷ es) u b y
    fixed b y up has = step (is_up es b) refl
      where
        step : (s : Bool) → is_up es b ≡ s → Tells who (e ∷ es) u b y
        step true was = ap (option_map (map Some)) (puts.fixed_stays b y up was has) ∙ told.fixed b y was has ∙ ap Some (sym (sync_fixed_stays who es e b y v has plain))
        step false down =
            let first = puts.fixed_first b y up down has in
            first.1 ∙ ap Some (sym (sync_fixed_stays who es e b y v has plain ∙ sync_fixed_at_first who es b y v has first.0))

    rows : (b : ℤ) (r : OwnRow) (y : Syncer) → is_up (e ∷ es) b ≡ true → Contains (visible_rows who (e ∷ es) b) r → Contains (row_syncers_of who r) y → Tells who (e ∷ es) u b y
    rows b r y up has mine = step (has_nat r.num (numbers_of (visible_rows who es b))) refl
      where
        step : (s : Bool) → has_nat r.num (numbers_of (visible_rows who es b)) ≡ s → Tells who (e ∷ es) u b y
        step true was =
            let before = seen_before who es b e r (own_of who (e ∷ es) b r has) was in
            ap (option_map (map Some)) (puts.row_stays b r y up has mine was) ∙ told.rows b r y before.0 before.1 mine ∙ ap Some (sym (sync_row_stays who es e b r y v all plain up has mine was))
        step false wasn't = puts.row_shown b r y up has mine wasn't ∙ ap Some (sym (sync_row_shown who es e b r y v all plain up has mine wasn't))

-- before the first event nobody was told anything
pub none_told : (who : Who) → IsTold who [] []
unfolding IsDistinct
none_told who = record { once = tt; fixed = λ b y up has. absurd (true≢false (sym up)); rows = λ b r y up has mine. absurd (true≢false (sym up)) }
