-- No two rows of another peer share a number.
use Rattle.std.proofs.Common.{◌≡◌, ℕ, ℤ, Bool, true, false, cond, not, ◌||◌, List, [], ◌∷◌, ◌++◌, refl, sym, ap, ◌∙◌, subst, map, filter, nat_eq, Option, Some, None, Ok, Err}
use Rattle.std.specs.Prelude.{if◌then◌else◌}
use Rattle.std.specs.List.{AllByRecursion}
use Rattle.std.specs.Ordering.{int_eq}
use Rattle.std.proofs.lemmas.Bool.{or_parts, true≢false, eqb-true}
use Rattle.std.proofs.lemmas.List.Folds.{list_any-append}
use Rattle.gd_variant.specs.Words.{has_nat, put_by}
use Rattle.gd_variant.specs.declared.message.DeltaEntry.{DeltaEntry}
use Rattle.gd_variant.specs.declared.message.Plain.{Plain}
use Rattle.gd_variant.specs.declared.message.Plain.TheVariants as packet
use Rattle.gd_variant.specs.declared.message.Message.TheVariants.{Plain as plain_packet}
use Rattle.scene_model.specs.declared.scene.Scene.{Scene}
use Rattle.scene_model.specs.declared.event.Class.{Class}
use Rattle.scene_model.specs.declared.spawn.SpawnMsg.{SpawnMsg}
use Rattle.scene_model.specs.Syncs.{Syncer, syncer_with}
use Rattle.peer_model.specs.Heard.{Who, Heard, does, comes, goes, gets}
use Rattle.peer_model.specs.Peers.{is_up}
use Rattle.peer_model.specs.Updates.{Tell, Live, Replica, applied, apply_update, apply_updates, by_number, fixed_of, replica_syncers, shown_node, tell_node}
use Rattle.peer_model.specs.View.{updates_from, updates_in, view}
use Rattle.peer_model.specs.Faults.{first_known, known_ids}
use Rattle.peer_model.proofs.Shown.{joined_updates}
use Rattle.peer_laws.specs.Built.{AllAccepted}
use Rattle.peer_laws.proofs.Each.{every_kept}
use Rattle.peer_laws.proofs.Numbers.{int_is}
use Rattle.peer_laws.proofs.Replica.{in_view}
use Rattle.peer_laws.proofs.Tests.{never}
use Rattle.peer_laws.proofs.Views.{applied_hide, applied_show, got, show_plain, spawn_is_welcome, updates_got, updates_of_others, welcome_is_up}

-- rows that share no number

-- the numbers of a row
abbrev pub numbers : Live → List ℕ
numbers n = n.num ∷ n.ids

-- whether no number of a row is one of another
abbrev pub SharesNone : Live → Live → Type 0
SharesNone n m = (i : ℕ) → has_nat i (numbers n) ≡ true → has_nat i (numbers m) ≡ false

shares_back : (n m : Live) → SharesNone n m → SharesNone m n
shares_back n m h i k = never (has_nat i (numbers n)) (λ e. sym k ∙ h i e)

-- no two rows share a number
abbrev pub Unshared : List Live → Type 0
Unshared [] = Unit {0}
Unshared (n ∷ ns) = AllByRecursion (SharesNone n) ns × Unshared ns

back_all : (n : Live) (ns : List Live) → AllByRecursion (SharesNone n) ns → AllByRecursion (λ m. SharesNone m n) ns
back_all n [] h = tt
back_all n (m ∷ ns) h = (shares_back n m h.0, back_all n ns h.1)

put_every : (P : Live → Type 0) (before : Live → Live → Bool) (x : Live) (ys : List Live) → P x → AllByRecursion P ys → AllByRecursion P (put_by before x ys)
put_every P before x [] h k = (h, tt)
put_every P before x (y ∷ ys) h k = step (before y x) (put_every P before x ys h k.1)
  where
    step : (b : Bool) → AllByRecursion P (put_by before x ys) → AllByRecursion P (cond b (y ∷ put_by before x ys) (x ∷ y ∷ ys))
    step true more = (k.0, more)
    step false more = (h, k)

put_unshared : (before : Live → Live → Bool) (x : Live) (ys : List Live) → AllByRecursion (SharesNone x) ys → Unshared ys → Unshared (put_by before x ys)
put_unshared before x [] h k = (tt, tt)
put_unshared before x (y ∷ ys) h k = step (before y x) (put_unshared before x ys h.1 k.1)
  where
    step : (b : Bool) → Unshared (put_by before x ys) → Unshared (cond b (y ∷ put_by before x ys) (x ∷ y ∷ ys))
    step true more = (put_every (SharesNone y) before x ys (shares_back x y h.0) k.0, more)
    step false more = (h, k)

kept_unshared : (p : Live → Bool) (ys : List Live) → Unshared ys → Unshared (filter p ys)
kept_unshared p [] h = tt
kept_unshared p (y ∷ ys) h = step (p y) (kept_unshared p ys h.1)
  where
    step : (b : Bool) → Unshared (filter p ys) → Unshared (cond b (y ∷ filter p ys) (filter p ys))
    step true more = (every_kept (SharesNone y) p ys h.0, more)
    step false more = more

-- changes that leave the numbers
pub map_unshared : (f : Live → Live) → ((n : Live) → numbers (f n) ≡ numbers n) → (ys : List Live) → Unshared ys → Unshared (map f ys)
map_unshared f same [] h = tt
map_unshared f same (y ∷ ys) h = (each ys h.0, map_unshared f same ys h.1)
  where
    each : (zs : List Live) → AllByRecursion (SharesNone y) zs → AllByRecursion (SharesNone (f y)) (map f zs)
    each [] k = tt
    each (z ∷ zs) k = ((λ i e. ap (has_nat i) (same z) ∙ k.0 i (sym (ap (has_nat i) (same y)) ∙ e)), each zs k.1)

pub tell_numbers : (o : Option Syncer) (t : DeltaEntry) (n : Live) → numbers (tell_node o t n) ≡ numbers n
tell_numbers None t n = refl
tell_numbers (Some y) t n = refl

tells_unshared : (s : Scene) (c : ℤ) (ts : List DeltaEntry) (r : Replica) → Unshared r.rows → Unshared (apply_updates s c r (map Tell ts)).rows
tells_unshared s c [] r h = h
tells_unshared s c (t ∷ ts) r h =
    let o = syncer_with t.id (replica_syncers s c r.rows) in
    tells_unshared s c ts (apply_update s c r (Tell t)) (map_unshared (tell_node o t) (tell_numbers o t) r.rows h)

-- numbers of a spawn that are new

none_known : (known is : List ℕ) → first_known known is ≡ None → (i : ℕ) → has_nat i is ≡ true → has_nat i known ≡ false
none_known known [] h i k = absurd (cc k)
none_known known (j ∷ is) h i k = step (has_nat j known) refl h (nat_eq i j) refl k (λ f l. none_known (j ∷ known) is f i l)
  where
    step : (b : Bool) → has_nat j known ≡ b → (if b then Some j else first_known (j ∷ known) is) ≡ None → (c : Bool) → nat_eq i j ≡ c → (c || has_nat i is) ≡ true
        → (first_known (j ∷ known) is ≡ None → has_nat i is ≡ true → has_nat i (j ∷ known) ≡ false) → has_nat i known ≡ false
    step true e f c g l more = absurd (cc f)
    step false e f true g l more = ap (λ n. has_nat n known) (eqb-true i j g) ∙ e
    step false e f false g l more = (or_parts (nat_eq i j) (has_nat i known) (more f l)).1

rows_lack : (i : ℕ) (rows : List Live) → has_nat i (known_ids rows) ≡ false → AllByRecursion (λ (m : Live). has_nat i (numbers m) ≡ false) rows
rows_lack i [] h = tt
rows_lack i (m ∷ rows) h = let parts = or_parts (has_nat i (numbers m)) (has_nat i (known_ids rows)) (sym (list_any-append (nat_eq i) (numbers m) (known_ids rows)) ∙ h) in (parts.0, rows_lack i rows parts.1)

new_shares : (x : Live) (rows : List Live) → first_known (known_ids rows) (numbers x) ≡ None → AllByRecursion (SharesNone x) rows
new_shares x rows h = each rows (λ i k. rows_lack i rows (none_known (known_ids rows) (numbers x) h i k))
  where
    each : (ms : List Live) → ((i : ℕ) → has_nat i (numbers x) ≡ true → AllByRecursion (λ (m : Live). has_nat i (numbers m) ≡ false) ms) → AllByRecursion (SharesNone x) ms
    each [] k = tt
    each (m ∷ ms) k = ((λ i e. (k i e).0), each ms (λ i e. (k i e).1))

-- the rows of a peer

after_got : (who : Who) (es : List Heard) (from : ℤ) (class : Class) (bytes : List ℕ) (p : Plain) (c : ℤ) → Unshared (applied who.scene c (updates_from who es c)).rows → (from ≡ c → Unshared (applied who.scene c (updates_from who es c ++ updates_in p)).rows)
    → Unshared (applied who.scene c (updates_from who (got from class bytes p ∷ es) c)).rows
after_got who es from class bytes p c before then_it = step (int_eq from c) refl
  where
    step : (b : Bool) → int_eq from c ≡ b → Unshared (applied who.scene c (updates_from who (got from class bytes p ∷ es) c)).rows
    step true e =
        let same = int_is from c e in
        subst (λ us. Unshared (applied who.scene c us).rows) (sym (ap (λ z. updates_from who (got z class bytes p ∷ es) c) same ∙ updates_got who es c class bytes p)) (then_it same)
    step false e = subst (λ us. Unshared (applied who.scene c us).rows) (sym (updates_of_others who es from class bytes p c e)) before

applied_unshared : (who : Who) (es : List Heard) → AllAccepted who es → (c : ℤ) → Unshared (applied who.scene c (updates_from who es c)).rows
applied_unshared who [] h c = tt
applied_unshared who (does op ∷ es) h c = applied_unshared who es h.1 c
applied_unshared who (comes b ∷ es) h c = applied_unshared who es h.1 c
applied_unshared who (goes b ∷ es) h c = applied_unshared who es h.1 c
applied_unshared who (gets from class bytes (Ok (plain_packet (packet.Spawn scene spawner net syncs name arg values))) ∷ es) h c =
    let m : SpawnMsg = record { scene = scene; spawner = spawner; net = net; syncs = syncs; name = name; arg = arg; values = values } in
    let before = applied_unshared who es h.1 c in
    after_got who es from class bytes (show_plain m) c before (λ same.
    let w = spawn_is_welcome who es from class bytes m h.0 in
    let seen = in_view who es h.1 from (welcome_is_up who es from m w) in
    let fresh = sym (ap (λ (r : Replica). first_known (known_ids r.rows) (net ∷ syncs)) seen) ∙ w.fresh in
    subst (λ (r : Replica). Unshared r.rows) (sym (applied_show who.scene c (updates_from who es c) m))
    (put_unshared by_number (shown_node who.scene c m) (applied who.scene c (updates_from who es c)).rows (new_shares (shown_node who.scene c m) (applied who.scene c (updates_from who es c)).rows (ap (λ z. first_known (known_ids (applied who.scene z (updates_from who es z)).rows) (net ∷ syncs)) (sym same) ∙ fresh)) before))
applied_unshared who (gets from class bytes (Ok (plain_packet (packet.Despawn net))) ∷ es) h c =
    let before = applied_unshared who es h.1 c in
    after_got who es from class bytes (packet.Despawn net) c before (λ same. subst (λ (r : Replica). Unshared r.rows) (sym (applied_hide who.scene c (updates_from who es c) net)) (kept_unshared (λ (n : Live). not (nat_eq n.num net)) (applied who.scene c (updates_from who es c)).rows before))
applied_unshared who (gets from class bytes (Ok (plain_packet (packet.Delta ts))) ∷ es) h c =
    let before = applied_unshared who es h.1 c in
    after_got who es from class bytes (packet.Delta ts) c before (λ same. subst (λ (r : Replica). Unshared r.rows) (sym (joined_updates who.scene c (record { fixed = fixed_of who.scene c; rows = [] }) (updates_from who es c) (map Tell ts)))
    (tells_unshared who.scene c ts (applied who.scene c (updates_from who es c)) before))
applied_unshared who (gets from class bytes (Ok m) ∷ es) h c = absurd (true≢false (sym h.0.built))
applied_unshared who (gets from class bytes (Err bad) ∷ es) h c = applied_unshared who es h.1 c

-- no two rows of a peer that is up share a number
pub view_unshared : (who : Who) (es : List Heard) → AllAccepted who es → (c : ℤ) → is_up es c ≡ true → Unshared (view who es c).rows
view_unshared who es h c up = subst (λ (r : Replica). Unshared r.rows) (sym (in_view who es h c up)) (applied_unshared who es h c)
