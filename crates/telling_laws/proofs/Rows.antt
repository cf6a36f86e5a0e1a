-- What is told of rows: those of a new peer, and the synchronizers of one row.
use Rattle.std.proofs.Common.{◌≡◌, ℕ, ℤ, Bool, true, false, ◌||◌, List, [], ◌∷◌, refl, sym, ap, ◌∙◌, map, nat_eq, Some}
use Rattle.std.specs.List.{list_any, AllByRecursion, Contains}
use Rattle.std.specs.Ordering.{int_eq}
use Rattle.std.proofs.lemmas.Bool.{or_parts, true≢false, eq-eqb}
use Rattle.gd_variant.specs.Words.{has_text, text_eq}
use Rattle.gd_variant.specs.declared.value.Variant.{Variant}
use Rattle.scene_model.specs.Syncs.{Syncer}
use Rattle.scene_model.specs.Valid.{has_twice}
use Rattle.scene_model.proofs.TextLaws.{text_eq-same, text_eq-sym}
use Rattle.peer_model.specs.Heard.{Who, Heard}
use Rattle.peer_model.specs.Rows.{OwnRow, own_rows}
use Rattle.peer_model.specs.Visible.{row_syncers_of}
use Rattle.world_laws.specs.Done.{AllDone}
use Rattle.world_laws.proofs.Law.{every_weaker}
use Rattle.world_laws.proofs.Own.{own_apart}
use Rattle.sight_laws.proofs.Lists.{of_member, every_both}
use Rattle.delta_props.specs.Telling.{ToldValues, is_key, told_of}
use Rattle.telling_laws.specs.Telling.{told_all, HasOnce}
use Rattle.telling_laws.proofs.Several.{IsOnly, all_once, all_other, all_other_peer, all_told, other_sync}

-- elements with keys apart

-- an element with the same key is the same
abbrev pub IsSame : {X : Type 0} → (X → List ℕ) → X → X → Type 0
IsSame key x z = text_eq (key x) (key z) ≡ true → z ≡ x

unlike_first : {X : Type 0} (key : X → List ℕ) (x : X) (ys : List X) → has_text (key x) (map key ys) ≡ false → AllByRecursion (IsSame key x) ys × AllByRecursion (λ y. IsSame key y x) ys
unlike_first key x [] h = (tt, tt)
unlike_first key x (y ∷ ys) h =
    let parts = or_parts (text_eq (key x) (key y)) (has_text (key x) (map key ys)) h in
    let more = unlike_first key x ys parts.1 in
    ((λ e. absurd (true≢false (sym e ∙ parts.0)), more.0), (λ e. absurd (true≢false (sym e ∙ text_eq-sym (key y) (key x) ∙ parts.0)), more.1))

same_by_key : {X : Type 0} (key : X → List ℕ) (xs : List X) → has_twice (map key xs) ≡ false → AllByRecursion (λ x. AllByRecursion (IsSame key x) xs) xs
same_by_key key [] h = tt
same_by_key key (x ∷ ys) h =
    let parts = or_parts (has_text (key x) (map key ys)) (has_twice (map key ys)) h in
    let unlike = unlike_first key x ys parts.0 in
    (((λ e. refl), unlike.0), every_both (λ y. IsSame key y x) (λ y. AllByRecursion (IsSame key y) ys) (λ y. AllByRecursion (IsSame key y) (x ∷ ys)) (λ y k l. (k, l)) ys unlike.1 (same_by_key key ys parts.1))

pub same_row : (who : Who) (es : List Heard) → AllDone who es → (r : OwnRow) → Contains (own_rows who es) r → AllByRecursion (IsSame (λ (x : OwnRow). x.path) r) (own_rows who es)
same_row who es all r has = of_member (λ x. AllByRecursion (IsSame (λ (z : OwnRow). z.path) x) (own_rows who es)) (own_rows who es) r (same_by_key (λ (x : OwnRow). x.path) (own_rows who es) (own_apart who es all)) has

-- members by their ids and paths

id_itself : (ys : List Syncer) → AllByRecursion (λ (y : Syncer). list_any (λ (z : Syncer). nat_eq y.id z.id) ys ≡ true) ys
id_itself [] = tt
id_itself (y ∷ ys) = (
  ap (λ b. b || list_any (λ (z : Syncer). nat_eq y.id z.id) ys) (eq-eqb y.id y.id refl),
  every_weaker (λ (x : Syncer). list_any (λ (z : Syncer). nat_eq x.id z.id) ys ≡ true) (λ (x : Syncer). list_any (λ (z : Syncer). nat_eq x.id z.id) (y ∷ ys) ≡ true) (λ x h. or_last (nat_eq x.id y.id) (list_any (λ (z : Syncer). nat_eq x.id z.id) ys) h) ys (id_itself ys),
)
  where
    or_last : (a b : Bool) → b ≡ true → (a || b) ≡ true
    or_last true b h = refl
    or_last false b h = h

pub id_among : (ys : List Syncer) (y : Syncer) → Contains ys y → list_any (λ (z : Syncer). nat_eq y.id z.id) ys ≡ true
id_among ys y has = of_member (λ (x : Syncer). list_any (λ (z : Syncer). nat_eq x.id z.id) ys ≡ true) ys y (id_itself ys) has

path_itself : (rs : List OwnRow) → AllByRecursion (λ (r : OwnRow). list_any (λ (q : OwnRow). text_eq r.path q.path) rs ≡ true) rs
path_itself [] = tt
path_itself (r ∷ rs) = (
  ap (λ b. b || list_any (λ (q : OwnRow). text_eq r.path q.path) rs) (text_eq-same r.path),
  every_weaker (λ (x : OwnRow). list_any (λ (q : OwnRow). text_eq x.path q.path) rs ≡ true) (λ (x : OwnRow). list_any (λ (q : OwnRow). text_eq x.path q.path) (r ∷ rs) ≡ true) (λ x h. or_last (text_eq x.path r.path) (list_any (λ (q : OwnRow). text_eq x.path q.path) rs) h) rs (path_itself rs),
)
  where
    or_last : (a b : Bool) → b ≡ true → (a || b) ≡ true
    or_last true b h = refl
    or_last false b h = h

pub path_among : (rs : List OwnRow) (r : OwnRow) → Contains rs r → list_any (λ (q : OwnRow). text_eq r.path q.path) rs ≡ true
path_among rs r has = of_member (λ (x : OwnRow). list_any (λ (q : OwnRow). text_eq x.path q.path) rs ≡ true) rs r (path_itself rs) has

-- keys of other synchronizers

pub other_ids : (b c : ℤ) (y : Syncer) (zs : List Syncer) → AllByRecursion (λ (z : Syncer). nat_eq y.id z.id ≡ false) zs → AllByRecursion (λ (z : Syncer). is_key b y.id (c, z.id) ≡ false) zs
other_ids b c y zs h = every_weaker (λ (z : Syncer). nat_eq y.id z.id ≡ false) (λ (z : Syncer). is_key b y.id (c, z.id) ≡ false) (λ z k. other_sync b c y.id z.id k) zs h

pub other_keys : (b c : ℤ) (y : Syncer) (zs : List Syncer) → AllByRecursion (λ (z : Syncer). nat_eq y.id z.id ≡ false) zs → AllByRecursion (λ i. is_key b y.id (c, i) ≡ false) (map (λ (z : Syncer). z.id) zs)
other_keys b c y [] h = tt
other_keys b c y (z ∷ zs) h = (other_sync b c y.id z.id h.0, other_keys b c y zs h.1)

-- rows that are told to one peer

module _ (who : Who) (b : ℤ) (f : OwnRow → Syncer → List Variant) where
  -- own rows are shown to the peer
  abbrev pub rows_told : List OwnRow → ToldValues → ToldValues
  rows_told [] t = t
  rows_told (r ∷ rs) t = rows_told rs (told_all b (f r) (row_syncers_of who r) t)

  pub rows_once : (rs : List OwnRow) (t : ToldValues) → HasOnce t → HasOnce (rows_told rs t)
  rows_once [] t h = h
  rows_once (r ∷ rs) t h = rows_once rs (told_all b (f r) (row_syncers_of who r) t) (all_once b (f r) (row_syncers_of who r) t h)

  pub rows_other_peer : (c : ℤ) (id : ℕ) (rs : List OwnRow) (t : ToldValues) → int_eq c b ≡ false → told_of c id (rows_told rs t) ≡ told_of c id t
  rows_other_peer c id [] t h = refl
  rows_other_peer c id (r ∷ rs) t h = rows_other_peer c id rs (told_all b (f r) (row_syncers_of who r) t) h ∙ all_other_peer c b id (f r) (row_syncers_of who r) t h

  pub rows_other : (y : Syncer) (rs : List OwnRow) (t : ToldValues) → AllByRecursion (λ (q : OwnRow). AllByRecursion (λ (z : Syncer). nat_eq y.id z.id ≡ false) (row_syncers_of who q)) rs → told_of b y.id (rows_told rs t) ≡ told_of b y.id t
  rows_other y [] t h = refl
  rows_other y (q ∷ rs) t h = rows_other y rs (told_all b (f q) (row_syncers_of who q) t) h.1 ∙ all_other b b y.id (f q) (row_syncers_of who q) t (other_ids b b y (row_syncers_of who q) h.0)

  module _ (r : OwnRow) (y : Syncer) (mine : Contains (row_syncers_of who r) y) (only : AllByRecursion (IsOnly y) (row_syncers_of who r)) where
    -- each row is this one, or has none with the id
    abbrev IsApart : OwnRow → Type 0
    IsApart q = IsSame (λ (x : OwnRow). x.path) r q × (text_eq r.path q.path ≡ false → AllByRecursion (λ (z : Syncer). nat_eq y.id z.id ≡ false) (row_syncers_of who q))

    one_put : (q : OwnRow) (t : ToldValues) → q ≡ r → told_of b y.id (told_all b (f q) (row_syncers_of who q) t) ≡ Some (f r y)
    one_put q t e = ap (λ (x : OwnRow). told_of b y.id (told_all b (f x) (row_syncers_of who x) t)) e ∙ all_told b (f r) y (row_syncers_of who r) t only (id_among (row_syncers_of who r) y mine)

    rows_stay : (rs : List OwnRow) (t : ToldValues) → AllByRecursion IsApart rs → told_of b y.id t ≡ Some (f r y) → told_of b y.id (rows_told rs t) ≡ Some (f r y)
    rows_stay [] t h k = k
    rows_stay (q ∷ rs) t h k = rows_stay rs (told_all b (f q) (row_syncers_of who q) t) h.1 (step (text_eq r.path q.path) refl)
      where
        step : (s : Bool) → text_eq r.path q.path ≡ s → told_of b y.id (told_all b (f q) (row_syncers_of who q) t) ≡ Some (f r y)
        step true e = one_put q t (h.0.0 e)
        step false e = all_other b b y.id (f q) (row_syncers_of who q) t (other_ids b b y (row_syncers_of who q) (h.0.1 e)) ∙ k

    pub rows_put : (rs : List OwnRow) (t : ToldValues) → AllByRecursion IsApart rs → list_any (λ (q : OwnRow). text_eq r.path q.path) rs ≡ true → told_of b y.id (rows_told rs t) ≡ Some (f r y)
    rows_put [] t h k = absurd (cc k)
    rows_put (q ∷ rs) t h k = step (text_eq r.path q.path) refl k (λ l. rows_put rs (told_all b (f q) (row_syncers_of who q) t) h.1 l)
      where
        step : (s : Bool) → text_eq r.path q.path ≡ s → (s || list_any (λ (x : OwnRow). text_eq r.path x.path) rs) ≡ true
            → (list_any (λ (x : OwnRow). text_eq r.path x.path) rs ≡ true → told_of b y.id (rows_told rs (told_all b (f q) (row_syncers_of who q) t)) ≡ Some (f r y))
            → told_of b y.id (rows_told rs (told_all b (f q) (row_syncers_of who q) t)) ≡ Some (f r y)
        step true e l more = rows_stay rs (told_all b (f q) (row_syncers_of who q) t) h.1 (one_put q t (h.0.0 e))
        step false e l more = more l
