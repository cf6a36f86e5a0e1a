-- What a frame tells, and what a peer was told then.
use Rattle.std.proofs.Common.{◌≡◌, ℕ, ℤ, Bool, true, false, cond, List, [], ◌∷◌, ◌++◌, refl, sym, ap, ap₂, ◌∙◌, subst, map, filter, Option, Some, None}
use Rattle.std.specs.Prelude.{flat_map, zip}
use Rattle.std.specs.List.{list_all, AllByRecursion}
use Rattle.std.proofs.lemmas.Bool.{and_parts}
use Rattle.gd_variant.specs.Words.{some_is}
use Rattle.gd_variant.specs.Tree.{same_value}
use Rattle.gd_variant.specs.declared.value.Variant.{Variant}
use Rattle.gd_variant.proofs.Equal.{value_decides}
use Rattle.scene_model.specs.declared.event.Op.TheVariants.{Frame}
use Rattle.scene_model.specs.Syncs.{Syncer, fixed_syncers, change_props}
use Rattle.scene_model.proofs.ListLaws.{filter_ext}
use Rattle.peer_model.specs.Heard.{Who, Heard, does}
use Rattle.peer_model.specs.Peers.{is_up, peers_up}
use Rattle.peer_model.specs.Values.{own_value}
use Rattle.peer_model.specs.Visible.{visible_to, own_syncers, row_syncers_of}
use Rattle.peer_model.specs.Updates.{Replica, apply_updates}
use Rattle.peer_model.specs.Changes.{tells, tell_of, tell_for, differs, mask_of, value_told}
use Rattle.peer_model.specs.Answer.{reliable, update_packet, sends_to}
use Rattle.peer_laws.proofs.Joined.{flat_each}
use Rattle.world_laws.proofs.Frames.{frame_tells_values}
use Rattle.sight_laws.specs.Sights.{is_visible}
use Rattle.sight_laws.specs.Told.{told_to, told_values, is_untold, tell_by}
use Rattle.sight_laws.specs.Laws.{SendsFrame, ToldAtFrame}
use Rattle.sight_laws.proofs.Lists.{of_member, flat_same}
use Rattle.sight_laws.proofs.Settings.{visible_is_kept}
use Rattle.sight_laws.proofs.Later.{sight_left}
use Rattle.sight_laws.proofs.Stepping.{rows_same}
use Rattle.sight_laws.proofs.Sends.{each_is_up, all_left, nothing_shifts}
use Rattle.world_laws.proofs.Law.{every_weaker}

-- Tells by the values that were told

untold_are : (who : Who) (es : List Heard) (y : Syncer) (r : Replica) (ps : List (List ℕ)) → map (is_untold who es y) (zip ps (map (value_told r y.node) ps)) ≡ map (differs who es r y) ps
untold_are who es y r [] = refl
untold_are who es y r (p ∷ ps) = ap (λ bs. differs who es r y p ∷ bs) (untold_are who es y r ps)

untold_names : (who : Who) (es : List Heard) (y : Syncer) (r : Replica) (ps : List (List ℕ)) → map (λ z. z.0) (filter (is_untold who es y) (zip ps (map (value_told r y.node) ps))) ≡ filter (differs who es r y) ps
untold_names who es y r [] = refl
untold_names who es y r (p ∷ ps) = step (differs who es r y p) (untold_names who es y r ps)
  where
    rest : List (List ℕ × Option Variant)
    rest = filter (is_untold who es y) (zip ps (map (value_told r y.node) ps))

    step : (b : Bool) → map (λ z. z.0) (filter (is_untold who es y) (zip ps (map (value_told r y.node) ps))) ≡ filter (differs who es r y) ps
        → map (λ z. z.0) (cond b ((p, value_told r y.node p) ∷ filter (is_untold who es y) (zip ps (map (value_told r y.node) ps))) (filter (is_untold who es y) (zip ps (map (value_told r y.node) ps)))) ≡ cond b (p ∷ filter (differs who es r y) ps) (filter (differs who es r y) ps)
    step true more = ap (λ qs. p ∷ qs) more
    step false more = more

pub tell_is_by : (who : Who) (es : List Heard) (r : Replica) (y : Syncer) → tell_of who es r y ≡ tell_by who es y (map (value_told r y.node) (change_props y.def))
tell_is_by who es r y = sym (ap₂ (λ bs names. tell_for who es y (mask_of bs) names) (untold_are who es y r (change_props y.def)) (untold_names who es y r (change_props y.def)))

-- who sees what at a frame

frame_visible : (who : Who) (es : List Heard) (b : ℤ) (y : Syncer) → visible_to who (does Frame ∷ es) b y ≡ visible_to who es b y
frame_visible who es b y = visible_is_kept who (does Frame ∷ es) b y ∙ ap (λ v. is_visible v b) (sight_left who (does Frame) es y refl refl) ∙ sym (visible_is_kept who es b y)

frame_syncers : (who : Who) (es : List Heard) → own_syncers who (does Frame ∷ es) ≡ own_syncers who es
frame_syncers who es = ap (λ rs. fixed_syncers who.scene who.id ++ flat_map (row_syncers_of who) rs) (rows_same who es (does Frame) (λ p. refl) refl)

pub frame_seen : (who : Who) (es : List Heard) (b : ℤ) → filter (visible_to who (does Frame ∷ es) b) (own_syncers who (does Frame ∷ es)) ≡ filter (visible_to who es b) (own_syncers who es)
frame_seen who es b = ap (filter (visible_to who (does Frame ∷ es) b)) (frame_syncers who es) ∙ filter_ext (visible_to who (does Frame ∷ es) b) (visible_to who es b) (frame_visible who es b) (own_syncers who es)

-- what is sent

pub sends_frame : SendsFrame
sends_frame who es v all = flat_same (sends_to who (does Frame) es) (λ b. map (λ u. reliable who b (update_packet u)) (flat_map (λ y. tell_by who es y (told_values who es b y)) (filter (visible_to who es b) (own_syncers who es)))) (peers_up es)
    (every_weaker (λ b. is_up es b ≡ true) (λ b. sends_to who (does Frame) es b ≡ map (λ u. reliable who b (update_packet u)) (flat_map (λ y. tell_by who es y (told_values who es b y)) (filter (visible_to who es b) (own_syncers who es))))
    (λ b up. ap (λ us. map (λ u. reliable who b (update_packet u)) us)
    (ap (λ us. us ++ tells who (does Frame ∷ es) b (apply_updates who.scene who.id (told_to who es b) us)) (nothing_shifts who es (does Frame) v all b up up refl (all_left who es (does Frame) b refl))
    ∙ ap (flat_map (tell_of who (does Frame ∷ es) (told_to who es b))) (frame_seen who es b)
    ∙ flat_each (tell_of who (does Frame ∷ es) (told_to who es b)) (λ y. tell_by who es y (told_values who es b y)) (λ y. tell_is_by who (does Frame ∷ es) (told_to who es b) y) (filter (visible_to who es b) (own_syncers who es))))
    (peers_up es) (each_is_up es))

-- what was told then

is_told : (x : Variant) (o : Option Variant) → some_is (same_value x) o ≡ true → o ≡ Some x
is_told x None h = absurd (cc h)
is_told x (Some z) h = ap Some (sym ((value_decides x z).0 h))

all_told : (own : List ℕ → Variant) (told : List ℕ → Option Variant) (ps : List (List ℕ)) → list_all (λ p. some_is (same_value (own p)) (told p)) ps ≡ true → map told ps ≡ map (λ p. Some (own p)) ps
all_told own told [] h = refl
all_told own told (p ∷ ps) h =
    let parts = and_parts (some_is (same_value (own p)) (told p)) (list_all (λ q. some_is (same_value (own q)) (told q)) ps) h in
    ap₂ (λ o os. o ∷ os) (is_told (own p) (told p) parts.0) (all_told own told ps parts.1)

pub told_at_frame : ToldAtFrame
told_at_frame who es b y v all up has =
    let right : Syncer → Type 0 = λ z. list_all (λ p. some_is (same_value (own_value who (does Frame ∷ es) z.node p)) (value_told (told_to who (does Frame ∷ es) b) z.node p)) (change_props z.def) ≡ true in
    all_told (own_value who es y.node) (value_told (told_to who (does Frame ∷ es) b) y.node) (change_props y.def)
    (of_member (λ (z : Syncer). list_all (λ p. some_is (same_value (own_value who (does Frame ∷ es) z.node p)) (value_told (told_to who (does Frame ∷ es) b) z.node p)) (change_props z.def) ≡ true) (filter (visible_to who es b) (own_syncers who es)) y
    (subst (AllByRecursion (λ (z : Syncer). list_all (λ p. some_is (same_value (own_value who (does Frame ∷ es) z.node p)) (value_told (told_to who (does Frame ∷ es) b) z.node p)) (change_props z.def) ≡ true)) (frame_seen who es b) (frame_tells_values who es b v all up)) has)
