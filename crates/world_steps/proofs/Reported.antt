-- What a peer reports of another's nodes has the values that it sees of them.
use Rattle.std.proofs.Common.{◌≡◌, ℕ, ℤ, Bool, true, false, cond, ◌||◌, List, [], ◌∷◌, ◌++◌, map, filter, refl, sym, ap, ap₂, ◌∙◌, subst, Option, Some, None}
use Rattle.std.specs.Prelude.{find, flat_map, int_lt, option_map, option_and_then, if◌then◌else◌}
use Rattle.std.specs.List.{list_any, AllByRecursion}
use Rattle.std.specs.Ordering.{int_eq}
use Rattle.std.proofs.lemmas.Bool.{or_parts}
use Rattle.gd_variant.specs.Words.{first_some, has_text, or_else, text_eq}
use Rattle.gd_variant.specs.declared.value.Variant.{Variant}
use Rattle.scene_model.specs.declared.scene.Scene.{Scene}
use Rattle.scene_model.specs.declared.scene.Node.{Node}
use Rattle.scene_model.specs.declared.report.Row.{Row}
use Rattle.scene_model.specs.Lookup.{fixed_node, value_in}
use Rattle.scene_model.specs.Syncs.{Syncer, syncer_with}
use Rattle.scene_model.specs.Valid.{IsValidScene, has_twice}
use Rattle.scene_model.proofs.ListLaws.{any_ext, any-put_by}
use Rattle.scene_model.proofs.TextLaws.{text_eq-same, text_eq-true}
use Rattle.gd_variant.specs.declared.message.DeltaEntry.{DeltaEntry}
use Rattle.peer_model.specs.Heard.{Who, Heard}
use Rattle.peer_model.specs.Peers.{is_up, peers_up}
use Rattle.peer_model.specs.Rows.{own_rows}
use Rattle.peer_model.specs.Values.{own_value}
use Rattle.peer_model.specs.Updates.{Update, Hide, Show, Tell, Live, Replica, apply_update, apply_updates, applied, fixed_live, fixed_of, live_at, replica_syncers, tell_node}
use Rattle.peer_model.specs.Changes.{value_told}
use Rattle.peer_model.specs.View.{authorities, fixed_now, own_live, own_values, report_of, row_of, rows_of, tree_of, updates_from, values_seen, view}
use Rattle.peer_model.proofs.Nodes.{fixed_is_there}
use Rattle.peer_laws.specs.Built.{AllAccepted}
use Rattle.peer_laws.proofs.Each.{every_of, every_right}
use Rattle.peer_laws.proofs.FactsOf.{facts}
use Rattle.peer_laws.proofs.Numbers.{int_comm, int_is}
use Rattle.peer_laws.proofs.OwnValues.{find_mapped}
use Rattle.peer_laws.proofs.Replica.{in_view}
use Rattle.peer_laws.proofs.Scenes.{fixed_apart}
use Rattle.peer_laws.proofs.Tests.{or_true}
use Rattle.peer_laws.proofs.Ups.{has_up}
use Rattle.world_steps.specs.Framed.{HasValues, ReportsValues, value_reported}

-- lists

-- what stands behind others later is found by its own text still
found_later : {X : Type 0} (key : X → List ℕ) (y : X) (xs zs : List X) → has_text (key y) (map key zs) ≡ false → AllByRecursion (λ x. find (λ z. text_eq (key z) (key x)) xs ≡ Some x) zs → AllByRecursion (λ x. find (λ z. text_eq (key z) (key x)) (y ∷ xs) ≡ Some x) zs
found_later key y xs [] h all = tt
found_later key y xs (z ∷ zs) h all =
    let parts = or_parts (text_eq (key y) (key z)) (has_text (key y) (map key zs)) h in
    (ap (λ b. cond b (Some y) (find (λ x. text_eq (key x) (key z)) xs)) parts.0 ∙ all.0, found_later key y xs zs parts.1 all.1)

-- what has a text of its own is found by it
found_by_text : {X : Type 0} (key : X → List ℕ) (xs : List X) → has_twice (map key xs) ≡ false → AllByRecursion (λ x. find (λ z. text_eq (key z) (key x)) xs ≡ Some x) xs
found_by_text key [] h = tt
found_by_text key (x ∷ xs) h =
    let parts = or_parts (has_text (key x) (map key xs)) (has_twice (map key xs)) h in
    (ap (λ b. cond b (Some x) (find (λ z. text_eq (key z) (key x)) xs)) (text_eq-same (key x)), found_later key x xs xs parts.0 (found_by_text key xs parts.1))

-- what is found is what is known of each, and passes the test
found_is : {X : Type 0} (P : X → Type 0) (test : X → Bool) (xs : List X) (x : X) → AllByRecursion P xs → find test xs ≡ Some x → P x × (test x ≡ true)
found_is P test [] x h e = absurd (cc e)
found_is P test (z ∷ zs) x h e = step (test z) refl e (λ k. found_is P test zs x h.1 k)
  where
    step : (b : Bool) → test z ≡ b → cond b (Some z) (find test zs) ≡ Some x → (find test zs ≡ Some x → P x × (test x ≡ true)) → P x × (test x ≡ true)
    step true f k more = let same : z ≡ x = cc in (subst P same h.0, sym (ap test same) ∙ f)
    step false f k more = more k

-- a search of two lists
found_in_both : {X : Type 0} (test : X → Bool) (xs ys : List X) (o : Option X) → find test xs ≡ o → find test (xs ++ ys) ≡ first_some o (find test ys)
found_in_both test [] ys o h = ap (λ p. first_some p (find test ys)) h
found_in_both test (x ∷ xs) ys o h = step (test x) h (found_in_both test xs ys (find test xs) refl)
  where
    step : (b : Bool) → cond b (Some x) (find test xs) ≡ o → find test (xs ++ ys) ≡ first_some (find test xs) (find test ys) → cond b (Some x) (find test (xs ++ ys)) ≡ first_some o (find test ys)
    step true k more = ap (λ p. first_some p (find test ys)) k
    step false k more = more ∙ ap (λ p. first_some p (find test ys)) k

-- the fixed nodes of a replica are those of its authority

-- the fixed node at a path, with the authority that it has
abbrev OwnedAt : Scene → ℤ → List ℕ → Type 0
OwnedAt s auth q = (n : Node) × (fixed_node s q ≡ Some n) × (n.auth ≡ auth)

abbrev AllOwned : Scene → ℤ → List Live → Type 0
AllOwned s auth nodes = AllByRecursion (λ (n : Live). OwnedAt s auth n.path) nodes

first_owned : (s : Scene) (auth : ℤ) (ns : List Node) → AllByRecursion (λ (n : Node). fixed_node s n.path ≡ Some n) ns → AllOwned s auth (map fixed_live (filter (λ (n : Node). int_eq n.auth auth) ns))
first_owned s auth [] h = tt
first_owned s auth (n ∷ ns) h = step (int_eq n.auth auth) refl (first_owned s auth ns h.1)
  where
    step : (b : Bool) → int_eq n.auth auth ≡ b → AllOwned s auth (map fixed_live (filter (λ (m : Node). int_eq m.auth auth) ns)) → AllOwned s auth (map fixed_live (cond b (n ∷ filter (λ (m : Node). int_eq m.auth auth) ns) (filter (λ (m : Node). int_eq m.auth auth) ns)))
    step true e more = ((n, h.0, int_is n.auth auth e), more)
    step false e more = more

told_owned : (s : Scene) (auth : ℤ) (o : Option Syncer) (t : DeltaEntry) (nodes : List Live) → AllOwned s auth nodes → AllOwned s auth (map (tell_node o t) nodes)
told_owned s auth o t [] h = tt
told_owned s auth o t (n ∷ nodes) h = (one o, told_owned s auth o t nodes h.1)
  where
    one : (p : Option Syncer) → OwnedAt s auth (tell_node p t n).path
    one None = h.0
    one (Some y) = h.0

stay_owned : (s : Scene) (auth : ℤ) (us : List Update) (r : Replica) → AllOwned s auth r.fixed → AllOwned s auth (apply_updates s auth r us).fixed
stay_owned s auth [] r h = h
stay_owned s auth (Hide num ∷ us) r h = stay_owned s auth us (apply_update s auth r (Hide num)) h
stay_owned s auth (Show m ∷ us) r h = stay_owned s auth us (apply_update s auth r (Show m)) h
stay_owned s auth (Tell t ∷ us) r h = stay_owned s auth us (apply_update s auth r (Tell t)) (told_owned s auth (syncer_with t.id (replica_syncers s auth r.rows)) t r.fixed h)

all_owned : (s : Scene) (auth : ℤ) (us : List Update) → IsValidScene s → AllOwned s auth (applied s auth us).fixed
all_owned s auth us v = stay_owned s auth us (record { fixed = fixed_of s auth; rows = [] }) (first_owned s auth s.nodes (found_by_text (λ (n : Node). n.path) s.nodes (fixed_apart s v)))

-- the value of a property of the node at a path among some nodes
abbrev value_among : List Live → List ℕ → List ℕ → Option Variant
value_among nodes q p = option_and_then (λ (n : Live). value_in n.values p) (live_at nodes q)

module _ (who : Who) (es : List Heard) (v : IsValidScene who.scene) (all : AllAccepted who es) (a : ℤ) (other : int_eq a who.id ≡ false) (up : is_up es a ≡ true) where
  -- what is seen of the other
  abbrev seen : Replica
  seen = view who es a

  -- rows

  rows_seen : (c : ℤ) → int_eq c a ≡ true → rows_of who es c ≡ seen.rows
  rows_seen c e = ap (rows_of who es) (int_is c a e) ∙ ap (λ t. if t then map (own_live who es) (own_rows who es) else seen.rows) other

  among : list_any (λ c. int_eq c a) (authorities who es) ≡ true
  among =
      any-put_by (λ c. int_eq c a) int_lt who.id (peers_up es)
      ∙ ap (λ t. int_eq who.id a || t) (any_ext (λ c. int_eq c a) (int_eq a) (λ c. int_comm c a) (peers_up es) ∙ has_up es a ∙ up)
      ∙ or_true (int_eq who.id a)

  rows_stand : AllByRecursion (λ (n : Live). live_at (tree_of who es) n.path ≡ Some n) seen.rows
  rows_stand =
      let P : Live → Type 0 = λ (n : Live). live_at (tree_of who es) n.path ≡ Some n in
      every_of P (rows_of who es) (λ c. int_eq c a) seen.rows rows_seen (authorities who es) among
      (every_right P (map (fixed_now who es) who.scene.nodes) (flat_map (rows_of who es) (authorities who es)) (found_by_text (λ (n : Live). n.path) (tree_of who es) (facts who es v all).apart))

  at_rows : (q p : List ℕ) (x : Variant) → value_among seen.rows q p ≡ Some x → value_among (tree_of who es) q p ≡ Some x
  at_rows q p x h = step (live_at seen.rows q) refl h
    where
      step : (o : Option Live) → live_at seen.rows q ≡ o → option_and_then (λ (n : Live). value_in n.values p) o ≡ Some x → value_among (tree_of who es) q p ≡ Some x
      step None e k = absurd (cc k)
      step (Some n) e k =
          let there = found_is (λ (m : Live). live_at (tree_of who es) m.path ≡ Some m) (λ (m : Live). text_eq m.path q) seen.rows n rows_stand e in
          ap (value_of_it) (ap (live_at (tree_of who es)) (sym (text_eq-true n.path q there.1)) ∙ there.0) ∙ k
        where
          value_of_it : Option Live → Option Variant
          value_of_it o = option_and_then (λ (m : Live). value_in m.values p) o

  -- fixed nodes

  fixed_owned : AllOwned who.scene a seen.fixed
  fixed_owned = subst (λ (r : Replica). AllOwned who.scene a r.fixed) (sym (in_view who es all a up)) (all_owned who.scene a (updates_from who es a) v)

  at_fixed : (q p : List ℕ) (n : Live) → live_at seen.fixed q ≡ Some n → value_among (tree_of who es) q p ≡ value_in n.values p
  at_fixed q p n e =
      ap (option_and_then (λ (m : Live). value_in m.values p)) (fixed_is_there who es q owned.0 there)
      ∙ ap (λ t. value_in (if t then own_values who es owned.0.path owned.0.props else values_seen who es owned.0) p) (ap (λ c. int_eq c who.id) owned.2 ∙ other)
      ∙ ap₂ (λ c w. value_in (or_else (option_map (λ (m : Live). m.values) (live_at (view who es c).fixed w)) owned.0.props) p) owned.2 path
      ∙ ap (λ o. value_in (or_else (option_map (λ (m : Live). m.values) o) owned.0.props) p) e
    where
      found : OwnedAt who.scene a n.path × (text_eq n.path q ≡ true)
      found = found_is (λ (m : Live). OwnedAt who.scene a m.path) (λ (m : Live). text_eq m.path q) seen.fixed n fixed_owned e

      owned : OwnedAt who.scene a n.path
      owned = found.0

      there : fixed_node who.scene q ≡ Some owned.0
      there = ap (fixed_node who.scene) (sym (text_eq-true n.path q found.1)) ∙ owned.1

      path : owned.0.path ≡ q
      path = text_eq-true owned.0.path q (found_is (λ (m : Node). Unit {0}) (λ (m : Node). text_eq m.path q) who.scene.nodes owned.0 (each who.scene.nodes) there).1
        where
          each : (ns : List Node) → AllByRecursion (λ (m : Node). Unit {0}) ns
          each [] = tt
          each (m ∷ ns) = (tt, each ns)

  -- a value that is seen stands in the tree
  pub seen_stands : (q p : List ℕ) (x : Variant) → value_told seen q p ≡ Some x → value_among (tree_of who es) q p ≡ Some x
  seen_stands q p x h = step (live_at seen.fixed q) refl
    where
      step : (o : Option Live) → live_at seen.fixed q ≡ o → value_among (tree_of who es) q p ≡ Some x
      step None e = at_rows q p x (sym (ap (option_and_then (λ (n : Live). value_in n.values p)) (found_in_both (λ (n : Live). text_eq n.path q) seen.fixed seen.rows None e)) ∙ h)
      step (Some n) e = at_fixed q p n e ∙ sym (ap (option_and_then (λ (m : Live). value_in m.values p)) (found_in_both (λ (m : Live). text_eq m.path q) seen.fixed seen.rows (Some n) e)) ∙ h

-- and so it is reported
reported_as : (who : Who) (es : List Heard) (q p : List ℕ) → value_reported (report_of who es) q p ≡ value_among (tree_of who es) q p
reported_as who es q p = ap (option_and_then (λ (r : Row). value_in r.values p)) (find_mapped (λ (r : Row). text_eq r.path q) row_of (tree_of who es)) ∙ step (live_at (tree_of who es) q)
  where
    step : (o : Option Live) → option_and_then (λ (r : Row). value_in r.values p) (option_map row_of o) ≡ option_and_then (λ (n : Live). value_in n.values p) o
    step None = refl
    step (Some n) = refl

-- a peer that sees another's values reports them
pub reports_values : (teller : Who) (here : List Heard) (who : Who) (there : List Heard) → IsValidScene who.scene → AllAccepted who there → (a : ℤ) → int_eq a who.id ≡ false → is_up there a ≡ true → HasValues teller here who.id (view who there a) → ReportsValues teller here who.id (report_of who there)
reports_values teller here who there v all a other up has y p own visible prop =
    reported_as who there y.node p ∙ seen_stands who there v all a other up y.node p (own_value teller here y.node p) (has y p own visible prop)
