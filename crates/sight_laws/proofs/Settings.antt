-- What is kept of a synchronizer's settings, one entry a peer, says the same as all events since its node was spawned.
use Rattle.std.proofs.Common.{◌≡◌, suc, ℤ, Bool, true, false, not, ◌&&◌, ◌||◌, List, [], ◌∷◌, refl, sym, ap, ap₂, ◌∙◌, map, length, nat_eq, nat_le, arith, Option, Some, None}
use Rattle.std.specs.Prelude.{filter_map, if◌then◌else◌}
use Rattle.std.specs.List.{list_any, list_all, cons_option}
use Rattle.std.specs.Ordering.{int_eq}
use Rattle.std.proofs.lemmas.List.{length-append}
use Rattle.std.proofs.lemmas.List.Folds.{list_all-append}
use Rattle.gd_variant.specs.Words.{text_eq, has_int, or_else, newest}
use Rattle.scene_model.specs.declared.event.Op.TheVariants.{Public, For, Filter}
use Rattle.scene_model.specs.Syncs.{Syncer}
use Rattle.peer_model.specs.Heard.{Who, Heard, does}
use Rattle.peer_model.specs.Rows.{OwnRow, since_spawn}
use Rattle.peer_model.specs.Visible.{visible_to, sees, row_syncers_of, public_set, set_for, peer_set, filter_added}
use Rattle.peer_model.specs.Refusals.{distinct, most_peers_set, most_filters}
use Rattle.peer_laws.proofs.Numbers.{int_is, int_comm}
use Rattle.sight_laws.specs.Sights.{Sight, Setting, is_visible, is_set, has_setting, put_setting, with_public, with_setting, with_filter, sight_next, sight_after, sight_of, any_sees}
use Rattle.sight_laws.specs.Laws.{VisibleIsKept, SeesIsKept, PeersFullIsKept, FiltersFullIsKept}

-- what an event sets at one synchronizer

pub data SetHere : Type 0 where
  publicly : Bool → SetHere
  for_peer : ℤ → Bool → SetHere
  filtered : List ℤ → SetHere

abbrev pub set_here : Syncer → Heard → Option SetHere
set_here y (does (Public p k on)) = if text_eq p y.path && nat_eq k y.place then Some (publicly on) else None
set_here y (does (For p k b on)) = if text_eq p y.path && nat_eq k y.place then Some (for_peer b on) else None
set_here y (does (Filter p k peers)) = if text_eq p y.path && nat_eq k y.place then Some (filtered peers) else None
set_here y e = None

abbrev pub with_set : Option SetHere → Sight → Sight
with_set None v = v
with_set (Some (publicly on)) v = with_public on v
with_set (Some (for_peer b on)) v = with_setting b on v
with_set (Some (filtered peers)) v = with_filter peers v

abbrev public_in : Option SetHere → Option Bool
public_in (Some (publicly on)) = Some on
public_in o = None

abbrev for_in : ℤ → Option SetHere → Option Bool
for_in b (Some (for_peer c on)) = if int_eq c b then Some on else None
for_in b o = None

abbrev peer_in : Option SetHere → Option ℤ
peer_in (Some (for_peer c on)) = Some c
peer_in o = None

abbrev filter_in : Option SetHere → Option (List ℤ)
filter_in (Some (filtered peers)) = Some peers
filter_in o = None

pub next_is : (y : Syncer) (e : Heard) (v : Sight) → sight_next y e v ≡ with_set (set_here y e) v
next_is y (does (Public p k on)) v = elim (text_eq p y.path && nat_eq k y.place) as (λ t. (if t then with_public on v else v) ≡ with_set (if t then Some (publicly on) else None) v) [ true ↦ refl | false ↦ refl ]
next_is y (does (For p k b on)) v = elim (text_eq p y.path && nat_eq k y.place) as (λ t. (if t then with_setting b on v else v) ≡ with_set (if t then Some (for_peer b on) else None) v) [ true ↦ refl | false ↦ refl ]
next_is y (does (Filter p k peers)) v = elim (text_eq p y.path && nat_eq k y.place) as (λ t. (if t then with_filter peers v else v) ≡ with_set (if t then Some (filtered peers) else None) v) [ true ↦ refl | false ↦ refl ]
next_is y e v = refl

public_is : (y : Syncer) (e : Heard) → public_set y.path y.place e ≡ public_in (set_here y e)
public_is y (does (Public p k on)) = elim (text_eq p y.path && nat_eq k y.place) as (λ t. (if t then Some on else None) ≡ public_in (if t then Some (publicly on) else None)) [ true ↦ refl | false ↦ refl ]
public_is y (does (For p k b on)) = elim (text_eq p y.path && nat_eq k y.place) as (λ t. None ≡ public_in (if t then Some (for_peer b on) else None)) [ true ↦ refl | false ↦ refl ]
public_is y (does (Filter p k peers)) = elim (text_eq p y.path && nat_eq k y.place) as (λ t. None ≡ public_in (if t then Some (filtered peers) else None)) [ true ↦ refl | false ↦ refl ]
public_is y e = refl

for_is : (y : Syncer) (b : ℤ) (e : Heard) → set_for y.path y.place b e ≡ for_in b (set_here y e)
for_is y b (does (Public p k on)) = elim (text_eq p y.path && nat_eq k y.place) as (λ t. None ≡ for_in b (if t then Some (publicly on) else None)) [ true ↦ refl | false ↦ refl ]
for_is y b (does (For p k c on)) = elim (text_eq p y.path && nat_eq k y.place) as (λ t. (if t && int_eq c b then Some on else None) ≡ for_in b (if t then Some (for_peer c on) else None)) [ true ↦ refl | false ↦ refl ]
for_is y b (does (Filter p k peers)) = elim (text_eq p y.path && nat_eq k y.place) as (λ t. None ≡ for_in b (if t then Some (filtered peers) else None)) [ true ↦ refl | false ↦ refl ]
for_is y b e = refl

peer_is : (y : Syncer) (e : Heard) → peer_set y.path y.place e ≡ peer_in (set_here y e)
peer_is y (does (Public p k on)) = elim (text_eq p y.path && nat_eq k y.place) as (λ t. None ≡ peer_in (if t then Some (publicly on) else None)) [ true ↦ refl | false ↦ refl ]
peer_is y (does (For p k c on)) = elim (text_eq p y.path && nat_eq k y.place) as (λ t. (if t then Some c else None) ≡ peer_in (if t then Some (for_peer c on) else None)) [ true ↦ refl | false ↦ refl ]
peer_is y (does (Filter p k peers)) = elim (text_eq p y.path && nat_eq k y.place) as (λ t. None ≡ peer_in (if t then Some (filtered peers) else None)) [ true ↦ refl | false ↦ refl ]
peer_is y e = refl

filter_is : (y : Syncer) (e : Heard) → filter_added y.path y.place e ≡ filter_in (set_here y e)
filter_is y (does (Public p k on)) = elim (text_eq p y.path && nat_eq k y.place) as (λ t. None ≡ filter_in (if t then Some (publicly on) else None)) [ true ↦ refl | false ↦ refl ]
filter_is y (does (For p k c on)) = elim (text_eq p y.path && nat_eq k y.place) as (λ t. None ≡ filter_in (if t then Some (for_peer c on) else None)) [ true ↦ refl | false ↦ refl ]
filter_is y (does (Filter p k peers)) = elim (text_eq p y.path && nat_eq k y.place) as (λ t. (if t then Some peers else None) ≡ filter_in (if t then Some (filtered peers) else None)) [ true ↦ refl | false ↦ refl ]
filter_is y e = refl

-- lists of settings, one a peer

set_put : (b c : ℤ) (on : Bool) (ss : List Setting) → is_set b (put_setting c on ss) ≡ (if int_eq c b then on else is_set b ss)
set_put b c on [] = refl
set_put b c on (s ∷ ss) = step (int_eq s.peer c) refl (set_put b c on ss)
  where
    step : (t : Bool) → int_eq s.peer c ≡ t → is_set b (put_setting c on ss) ≡ (if int_eq c b then on else is_set b ss)
        → is_set b (if t then record s { on = on } ∷ ss else s ∷ put_setting c on ss) ≡ (if int_eq c b then on else if int_eq s.peer b then s.on else is_set b ss)
    step true e more = ap (λ z. if int_eq z b then on else is_set b ss) (int_is s.peer c e) ∙ put (int_eq c b) (ap (λ z. int_eq z b) (int_is s.peer c e))
      where
        put : (u : Bool) → int_eq s.peer b ≡ u → (if u then on else is_set b ss) ≡ (if u then on else if int_eq s.peer b then s.on else is_set b ss)
        put true k = refl
        put false k = ap (λ u. if u then s.on else is_set b ss) (sym k)
    step false e more = ap (λ z. if int_eq s.peer b then s.on else z) more ∙ past (int_eq s.peer b) refl (int_eq c b) refl
      where
        past : (u : Bool) → int_eq s.peer b ≡ u → (w : Bool) → int_eq c b ≡ w → (if u then s.on else if w then on else is_set b ss) ≡ (if w then on else if u then s.on else is_set b ss)
        past true k true l = absurd (cc (sym e ∙ ap (int_eq s.peer) (int_is c b l) ∙ k))
        past true k false l = refl
        past false k true l = refl
        past false k false l = refl

or_swap : (a b c : Bool) → (a || (b || c)) ≡ (b || (a || c))
or_swap true true c = refl
or_swap true false c = refl
or_swap false true c = refl
or_swap false false c = refl

has_put : (b c : ℤ) (on : Bool) (ss : List Setting) → has_setting b (put_setting c on ss) ≡ (int_eq b c || has_setting b ss)
has_put b c on [] = ap (λ t. t || false) (int_comm c b)
has_put b c on (s ∷ ss) = step (int_eq s.peer c) refl (has_put b c on ss)
  where
    twice : (t u : Bool) → t ≡ u → (t || has_setting b ss) ≡ (u || (t || has_setting b ss))
    twice true true k = refl
    twice true false k = absurd (cc k)
    twice false true k = absurd (cc k)
    twice false false k = refl

    step : (t : Bool) → int_eq s.peer c ≡ t → has_setting b (put_setting c on ss) ≡ (int_eq b c || has_setting b ss)
        → has_setting b (if t then record s { on = on } ∷ ss else s ∷ put_setting c on ss) ≡ (int_eq b c || (int_eq s.peer b || has_setting b ss))
    step true e more = twice (int_eq s.peer b) (int_eq b c) (int_comm s.peer b ∙ ap (int_eq b) (int_is s.peer c e))
    step false e more = ap (λ z. int_eq s.peer b || z) more ∙ or_swap (int_eq s.peer b) (int_eq b c) (has_setting b ss)

length_put : (c : ℤ) (on : Bool) (ss : List Setting) → length (put_setting c on ss) ≡ (if has_setting c ss then length ss else suc (length ss))
length_put c on [] = refl
length_put c on (s ∷ ss) = step (int_eq s.peer c) (length_put c on ss)
  where
    later : (t : Bool) → suc (if t then length ss else suc (length ss)) ≡ (if t then suc (length ss) else suc (suc (length ss)))
    later true = refl
    later false = refl

    step : (t : Bool) → length (put_setting c on ss) ≡ (if has_setting c ss then length ss else suc (length ss))
        → length (if t then record s { on = on } ∷ ss else s ∷ put_setting c on ss) ≡ (if t || has_setting c ss then suc (length ss) else suc (suc (length ss)))
    step true more = refl
    step false more = ap suc more ∙ later (has_setting c ss)

-- after any events

pub public_kept : (y : Syncer) (hs : List Heard) → (sight_after y hs).public ≡ or_else (newest (filter_map (public_set y.path y.place) hs)) y.def.public
public_kept y [] = refl
public_kept y (e ∷ hs) =
    ap (λ (v : Sight). v.public) (next_is y e (sight_after y hs))
    ∙ step (set_here y e) (public_kept y hs)
    ∙ sym (ap (λ o. or_else (newest (cons_option o (filter_map (public_set y.path y.place) hs))) y.def.public) (public_is y e))
  where
    step : (o : Option SetHere) → (sight_after y hs).public ≡ or_else (newest (filter_map (public_set y.path y.place) hs)) y.def.public
        → (with_set o (sight_after y hs)).public ≡ or_else (newest (cons_option (public_in o) (filter_map (public_set y.path y.place) hs))) y.def.public
    step None more = more
    step (Some (publicly on)) more = refl
    step (Some (for_peer b on)) more = more
    step (Some (filtered peers)) more = more

pub set_kept : (y : Syncer) (b : ℤ) (hs : List Heard) → is_set b (sight_after y hs).set ≡ or_else (newest (filter_map (set_for y.path y.place b) hs)) false
set_kept y b [] = refl
set_kept y b (e ∷ hs) =
    ap (λ (v : Sight). is_set b v.set) (next_is y e (sight_after y hs))
    ∙ step (set_here y e) (set_kept y b hs)
    ∙ sym (ap (λ o. or_else (newest (cons_option o (filter_map (set_for y.path y.place b) hs))) false) (for_is y b e))
  where
    fs : List Bool
    fs = filter_map (set_for y.path y.place b) hs

    put : (t on : Bool) → is_set b (sight_after y hs).set ≡ or_else (newest fs) false → (if t then on else is_set b (sight_after y hs).set) ≡ or_else (newest (cons_option (if t then Some on else None) fs)) false
    put true on more = refl
    put false on more = more

    step : (o : Option SetHere) → is_set b (sight_after y hs).set ≡ or_else (newest fs) false → is_set b (with_set o (sight_after y hs)).set ≡ or_else (newest (cons_option (for_in b o) fs)) false
    step None more = more
    step (Some (publicly on)) more = more
    step (Some (for_peer c on)) more = set_put b c on (sight_after y hs).set ∙ put (int_eq c b) on more
    step (Some (filtered peers)) more = more

and_comm : (a b : Bool) → (a && (b && true)) ≡ (b && a)
and_comm true true = refl
and_comm true false = refl
and_comm false true = refl
and_comm false false = refl

pub filters_kept : (y : Syncer) (b : ℤ) (hs : List Heard) → list_all (has_int b) (sight_after y hs).filters ≡ list_all (has_int b) (filter_map (filter_added y.path y.place) hs)
filters_kept y b [] = refl
filters_kept y b (e ∷ hs) =
    ap (λ (v : Sight). list_all (has_int b) v.filters) (next_is y e (sight_after y hs))
    ∙ step (set_here y e) (filters_kept y b hs)
    ∙ sym (ap (λ o. list_all (has_int b) (cons_option o (filter_map (filter_added y.path y.place) hs))) (filter_is y e))
  where
    fs : List (List ℤ)
    fs = filter_map (filter_added y.path y.place) hs

    step : (o : Option SetHere) → list_all (has_int b) (sight_after y hs).filters ≡ list_all (has_int b) fs → list_all (has_int b) (with_set o (sight_after y hs)).filters ≡ list_all (has_int b) (cons_option (filter_in o) fs)
    step None more = more
    step (Some (publicly on)) more = more
    step (Some (for_peer c on)) more = more
    step (Some (filtered peers)) more =
        list_all-append (has_int b) (sight_after y hs).filters (peers ∷ [])
        ∙ and_comm (list_all (has_int b) (sight_after y hs).filters) (has_int b peers)
        ∙ ap (λ t. has_int b peers && t) more

pub filters_counted : (y : Syncer) (hs : List Heard) → length (sight_after y hs).filters ≡ length (filter_map (filter_added y.path y.place) hs)
filters_counted y [] = refl
filters_counted y (e ∷ hs) =
    ap (λ (v : Sight). length v.filters) (next_is y e (sight_after y hs))
    ∙ step (set_here y e) (filters_counted y hs)
    ∙ sym (ap (λ o. length (cons_option o (filter_map (filter_added y.path y.place) hs))) (filter_is y e))
  where
    fs : List (List ℤ)
    fs = filter_map (filter_added y.path y.place) hs

    step : (o : Option SetHere) → length (sight_after y hs).filters ≡ length fs → length (with_set o (sight_after y hs)).filters ≡ length (cons_option (filter_in o) fs)
    step None more = more
    step (Some (publicly on)) more = more
    step (Some (for_peer c on)) more = more
    step (Some (filtered peers)) more = omega (arith, more, length-append (sight_after y hs).filters (peers ∷ []))

pub peers_kept : (y : Syncer) (b : ℤ) (hs : List Heard) → has_setting b (sight_after y hs).set ≡ has_int b (filter_map (peer_set y.path y.place) hs)
peers_kept y b [] = refl
peers_kept y b (e ∷ hs) =
    ap (λ (v : Sight). has_setting b v.set) (next_is y e (sight_after y hs))
    ∙ step (set_here y e) (peers_kept y b hs)
    ∙ sym (ap (λ o. has_int b (cons_option o (filter_map (peer_set y.path y.place) hs))) (peer_is y e))
  where
    ps : List ℤ
    ps = filter_map (peer_set y.path y.place) hs

    step : (o : Option SetHere) → has_setting b (sight_after y hs).set ≡ has_int b ps → has_setting b (with_set o (sight_after y hs)).set ≡ has_int b (cons_option (peer_in o) ps)
    step None more = more
    step (Some (publicly on)) more = more
    step (Some (for_peer c on)) more = has_put b c on (sight_after y hs).set ∙ ap (λ t. int_eq b c || t) more
    step (Some (filtered peers)) more = more

pub peers_counted : (y : Syncer) (hs : List Heard) → length (sight_after y hs).set ≡ length (distinct (filter_map (peer_set y.path y.place) hs))
peers_counted y [] = refl
peers_counted y (e ∷ hs) =
    ap (λ (v : Sight). length v.set) (next_is y e (sight_after y hs))
    ∙ step (set_here y e) (peers_counted y hs)
    ∙ sym (ap (λ o. length (distinct (cons_option o (filter_map (peer_set y.path y.place) hs)))) (peer_is y e))
  where
    ps : List ℤ
    ps = filter_map (peer_set y.path y.place) hs

    put : (t : Bool) (c : ℤ) → length (sight_after y hs).set ≡ length (distinct ps) → (if t then length (sight_after y hs).set else suc (length (sight_after y hs).set)) ≡ length (if t then distinct ps else c ∷ distinct ps)
    put true c more = more
    put false c more = ap suc more

    step : (o : Option SetHere) → length (sight_after y hs).set ≡ length (distinct ps) → length (with_set o (sight_after y hs)).set ≡ length (distinct (cons_option (peer_in o) ps))
    step None more = more
    step (Some (publicly on)) more = more
    step (Some (for_peer c on)) more =
        length_put c on (sight_after y hs).set
        ∙ ap (λ t. if t then length (sight_after y hs).set else suc (length (sight_after y hs).set)) (peers_kept y c hs)
        ∙ put (has_int c ps) c more
    step (Some (filtered peers)) more = more

-- A synchronizer is visible to a peer just where its kept settings say so.
pub visible_is_kept : VisibleIsKept
visible_is_kept who es b y =
    let hs = since_spawn who y.path es in
    sym (ap₂ (λ f s. f && ((sight_after y hs).public || s)) (filters_kept y b hs) (set_kept y b hs)
    ∙ ap (λ p. list_all (has_int b) (filter_map (filter_added y.path y.place) hs) && (p || or_else (newest (filter_map (set_for y.path y.place b) hs)) false)) (public_kept y hs))

any_kept : (who : Who) (es : List Heard) (b : ℤ) (ys : List Syncer) → list_any (visible_to who es b) ys ≡ list_any (λ (v : Sight). is_visible v b) (map (sight_of who es) ys)
any_kept who es b [] = refl
any_kept who es b (y ∷ ys) = ap₂ (λ s t. s || t) (visible_is_kept who es b y) (any_kept who es b ys)

sees_by : (who : Who) (es : List Heard) (b : ℤ) (r : OwnRow) (ys : List Syncer) → row_syncers_of who r ≡ ys → sees who es b r ≡ any_sees (map (sight_of who es) ys) b
sees_by who es b r [] e = rw e refl
sees_by who es b r (y ∷ ys) e = rw e (any_kept who es b (y ∷ ys))

-- So is a row.
pub sees_is_kept : SeesIsKept
sees_is_kept who es b r = sees_by who es b r (row_syncers_of who r) refl

-- There is no room for another peer just where the kept settings say so.
pub peers_full_is_kept : PeersFullIsKept
peers_full_is_kept who es b y =
    let hs = since_spawn who y.path es in
    sym (ap₂ (λ t n. not t && nat_le most_peers_set n) (peers_kept y b hs) (peers_counted y hs))

-- And none for another filter.
pub filters_full_is_kept : FiltersFullIsKept
filters_full_is_kept who es y = sym (ap (nat_le most_filters) (filters_counted y (since_spawn who y.path es)))
