-- Received entries one after the other: each leaves what the next needs.
use Rattle.std.proofs.Common.{◌≡◌, ℕ, zero, suc, ◌-◌, ℤ, Bool, true, false, cond, not, ◌&&◌, List, [], ◌∷◌, ◌++◌, refl, sym, ap, ap₂, ◌∙◌, subst, map, nat_eq, arith, is_some, Option, Some, None}
use Rattle.std.specs.Prelude.{find, if◌then◌else◌, is_none, option_and_then, option_map, position, slice_get, zip, Ok}
use Rattle.std.specs.List.{slice_set, AllByRecursion}
use Rattle.std.specs.Ordering.{int_eq}
use Rattle.std.proofs.lemmas.Bool.{and_parts, and_from, leb-false, leb-true}
use Rattle.gd_variant.specs.Words.{first_of, has_nat, some_is, text_eq, when}
use Rattle.gd_variant.specs.declared.message.DeltaEntry.{DeltaEntry}
use Rattle.scene_model.specs.declared.scene.Scene.{Scene}
use Rattle.scene_model.specs.declared.scene.Node.{Node}
use Rattle.scene_model.specs.declared.scene.SyncDef.{SyncDef}
use Rattle.scene_model.specs.declared.outcome.Fault.{Fault}
use Rattle.scene_model.specs.declared.outcome.Fault.TheVariants as fault
use Rattle.scene_model.specs.Lookup.{fixed_node, fixed_node_at, prop_names, sync_of}
use Rattle.scene_model.specs.Syncs.{Syncer, change_props, fixed_bit, row_syncers, sync_id, syncer_with}
use Rattle.scene_model.specs.Valid.{IsValidScene, auth_wrong, has_twice, no_target, node_no_prop}
use Rattle.scene_model.proofs.TextLaws.{text_eq-sym, text_eq-true}
use Rattle.peer_model.specs.Heard.{Who}
use Rattle.peer_model.specs.Rows.{syncs_at}
use Rattle.peer_model.specs.Updates.{Live, assign_all, live_syncers, masked, replica_syncers, tell_node}
use Rattle.peer_model.specs.Faults.{bad_mask, delta_fault, entry_id_faults, fixed_sync_node, is_fixed_id, wrong_delta}
use Rattle.headless_tree.specs.Nodes.{is_row_of, is_spawned}
use Rattle.headless_tree.specs.Numbers.{has_number}
use Rattle.headless_tree.proofs.Numbered.{all_at}
use Rattle.headless_tree.proofs.Places.{found_at, first_is, not_found}
use Rattle.peer_laws.specs.Facts.{paths_of, rows_under}
use Rattle.peer_laws.proofs.TreeTells.{meant_by, node_path, nodes_told, told_node}
use Rattle.world_laws.proofs.Properties.{sync_right, syncs_right, told_names}
use Rattle.sight_laws.proofs.Firsts.{IsOwned, served}
use Rattle.delta_props.specs.declared.meaning.Meant.{Meant}
use Rattle.delta_props.specs.declared.meaning.SyncAt.TheVariants.{Fixed, Row}
use Rattle.delta_props.specs.Taking.{def_at, delta_judged, entry_put, fixed_meant, meant, meant_judged, nodes_taken, row_meant, row_placed, target_of}
use Rattle.peer_steps.specs.Steps.{entries_put}
use Rattle.peer_steps.proofs.Meanings.{aim, aimed, found_number, placed_has, high_meant, low_meant, row_at, row_meant_is}
use Rattle.peer_steps.proofs.ViewIds.{Unshared, map_unshared, numbers, tell_numbers}
use Rattle.peer_steps.proofs.EntriesPut.{put_all, rows_told, same_syncers, told_at_place}
use Rattle.peer_steps.proofs.EntriesJudged.{entry_judged_is, node_before}

-- what is known of nodes while entries of one peer are put
pub record Stage (s : Scene) (c : ℤ) (nodes : List Live) : Type 0 where
  pub apart : has_twice (paths_of nodes) ≡ false
  pub unshared : Unshared (rows_under c nodes)
  pub stands : (i : ℕ) (m : Node) → slice_get s.nodes i ≡ Some m → (n : Live) × (slice_get nodes i ≡ Some n) × (n.path ≡ m.path) × (n.auth ≡ m.auth)
  pub names : AllByRecursion (λ (n : Live). int_eq n.auth c ≡ true → has_twice (prop_names n.values) ≡ false) nodes

-- the node that an accepted entry is for
pub record Target (s : Scene) (c : ℤ) (nodes : List Live) (t : DeltaEntry) : Type 0 where
  pub at : Meant
  pub meant_is : meant s nodes c t.id ≡ Ok at
  pub def : SyncDef
  pub def_is : def_at s at.at ≡ Some def
  pub place : ℕ
  pub place_is : at.place ≡ Some place
  pub node : Live
  pub there : slice_get nodes place ≡ Some node
  pub own : int_eq node.auth c ≡ true
  pub aims : option_map aim (meant_by s c t (rows_under c nodes)) ≡ Some (node.path, def)

-- a fixed synchronizer's node

found_node : (ns : List Node) (q : List ℕ) (n : Node) → find (λ (m : Node). text_eq m.path q) ns ≡ Some n → n.path ≡ q
found_node [] q n h = absurd (cc h)
found_node (m ∷ ms) q n h = step (text_eq m.path q) refl h (found_node ms q n)
  where
    step : (b : Bool) → text_eq m.path q ≡ b → cond b (Some m) (find (λ (x : Node). text_eq x.path q) ms) ≡ Some n → (find (λ (x : Node). text_eq x.path q) ms ≡ Some n → n.path ≡ q) → n.path ≡ q
    step true e k more = let same : m ≡ n = cc in ap (λ (x : Node). x.path) (sym same) ∙ text_eq-true m.path q e
    step false e k more = more k

swapped : (ns : List Node) (q : List ℕ) → find (λ (m : Node). text_eq q m.path) ns ≡ find (λ (m : Node). text_eq m.path q) ns
swapped [] q = refl
swapped (n ∷ ns) q = ap₂ (λ b o. cond b (Some n) o) (text_eq-sym q n.path) (swapped ns q)

target_place : (s : Scene) (d : SyncDef) (n : Node) → fixed_node s d.of ≡ Some n → (i : ℕ) × (target_of s d ≡ Some i) × (slice_get s.nodes i ≡ Some n)
target_place s d n h = step (position (λ (m : Node). text_eq d.of m.path) s.nodes) refl
  where
    step : (o : Option ℕ) → position (λ (m : Node). text_eq d.of m.path) s.nodes ≡ o → (i : ℕ) × (target_of s d ≡ Some i) × (slice_get s.nodes i ≡ Some n)
    step None e = let bad = sym (not_found (λ (m : Node). text_eq d.of m.path) s.nodes e) ∙ swapped s.nodes d.of ∙ h in absurd (cc bad)
    step (Some i) e = (i, e, found_at (λ (m : Node). text_eq d.of m.path) s.nodes i e ∙ swapped s.nodes d.of ∙ h)

module _ (who : Who) (v : IsValidScene who.scene) (c : ℤ) (nodes : List Live) (stage : Stage who.scene c nodes) (t : DeltaEntry) where
  owned_at : (j : ℕ) (n : Node) (d : SyncDef) → slice_get who.scene.nodes j ≡ Some n → sync_of n ≡ Some d → int_eq n.auth c ≡ true → IsOwned who.scene c d.of
  owned_at j n d there is own =
      let right = all_at (sync_right who.scene) who.scene.nodes j n there (syncs_right who.scene v) in
      let parts = and_parts (not (no_target who.scene n)) (not (node_no_prop who.scene n) && not (auth_wrong who.scene n)) right in
      served who.scene c n d is own (and_from (not (no_target who.scene n)) (not (auth_wrong who.scene n)) parts.0 (and_parts (not (node_no_prop who.scene n)) (not (auth_wrong who.scene n)) parts.1).1)

  fixed_target : is_fixed_id t.id ≡ true → delta_judged who.scene nodes c t ≡ None → Target who.scene c nodes t
  fixed_target high free = step (fixed_node_at who.scene (t.id - fixed_bit)) refl (sym (ap (λ b. meant_judged who.scene t (if b then fixed_meant who.scene c t.id else row_meant who.scene nodes c t.id)) high) ∙ free)
    where
      -- the id, by the place
      id_is : (j : ℕ) → fixed_node_at who.scene j ≡ fixed_node_at who.scene j → j ≡ t.id - fixed_bit → is_some (fixed_node_at who.scene j) ≡ true → t.id ≡ sync_id (suc (j - 1))
      id_is zero h e k = absurd (cc k)
      id_is (suc i) h e k = let low = leb-true fixed_bit t.id high in omega (arith, e, low)

      made : (n : Node) (d : SyncDef) → fixed_node_at who.scene (t.id - fixed_bit) ≡ Some n → sync_of n ≡ Some d → int_eq n.auth c ≡ true → Target who.scene c nodes t
      made n d e f g =
          let there = node_before who.scene (t.id - fixed_bit) n e in
          let own = owned_at (t.id - fixed_bit - 1) n d there f g in
          let place = target_place who.scene d own.node own.there in
          let stands = stage.stands place.0 own.node place.2 in
          record {
            at = record { at = Fixed (t.id - fixed_bit - 1); place = target_of who.scene d };
            meant_is = rw (high, e) (rw f (rw g refl));
            def = d;
            def_is = ap (option_and_then sync_of) there ∙ f;
            place = place.0;
            place_is = place.1;
            node = stands.0;
            there = stands.1;
            own = ap (λ a. int_eq a c) stands.3 ∙ own.own;
            aims = ap (λ i. option_map aim (syncer_with i (replica_syncers who.scene c (rows_under c nodes)))) (id_is (t.id - fixed_bit) refl refl (ap is_some e)) ∙ high_meant who.scene c (t.id - fixed_bit - 1) (rows_under c nodes) n d there f g
                ∙ ap (λ p. Some (aimed p d)) (sym (stands.2 ∙ found_node who.scene.nodes d.of own.node own.there));
          }

      step : (o : Option Node) → fixed_node_at who.scene (t.id - fixed_bit) ≡ o → meant_judged who.scene t (fixed_meant who.scene c t.id) ≡ None → Target who.scene c nodes t
      step None e k = absurd (cc (rw e at k))
      step (Some n) e k = by (sync_of n) refl
        where
          by : (q : Option SyncDef) → sync_of n ≡ q → Target who.scene c nodes t
          by None f = absurd (cc (rw f at (rw e at k)))
          by (Some d) f = mine (int_eq n.auth c) refl
            where
              mine : (b : Bool) → int_eq n.auth c ≡ b → Target who.scene c nodes t
              mine false g = absurd (cc (rw g at (rw f at (rw e at k))))
              mine true g = made n d e f g

  row_target : is_fixed_id t.id ≡ false → delta_judged who.scene nodes c t ≡ None → Target who.scene c nodes t
  row_target low free = step (position (has_number c t.id) nodes) refl (sym (ap (λ b. meant_judged who.scene t (if b then fixed_meant who.scene c t.id else row_meant who.scene nodes c t.id)) low) ∙ free)
    where
      made : (i : ℕ) (n : Live) (place k : ℕ) (d : SyncDef) → position (has_number c t.id) nodes ≡ Some i → slice_get nodes i ≡ Some n → n.place ≡ Some place → position (nat_eq t.id) n.ids ≡ Some k → slice_get (syncs_at who.scene (Some place)) k ≡ Some d → Target who.scene c nodes t
      made i n place k d e f p q g =
          let numbered_is = found_number c t.id nodes n (sym (found_at (has_number c t.id) nodes i e) ∙ f) in
          record {
            at = record { at = Row place k; place = Some i };
            meant_is = rw (low, e) (rw f (rw (p, q) (rw g refl)));
            def = d;
            def_is = g;
            place = i;
            place_is = refl;
            node = n;
            there = f;
            own = (and_parts (is_spawned n) (int_eq n.auth c) (and_parts (is_row_of c n) (has_nat t.id (numbers n)) numbered_is).0).1;
            aims =
                ap (option_map aim) (low_meant who.scene c t.id (rows_under c nodes) (leb-false fixed_bit t.id low) ∙ row_meant_is who.scene c t.id nodes stage.unshared
                ∙ ap (option_and_then (λ m. syncer_with t.id (live_syncers who.scene m))) (sym (found_at (has_number c t.id) nodes i e) ∙ f)
                ∙ ap (λ z. syncer_with t.id (row_syncers n.path n.ids (syncs_at who.scene z))) p)
                ∙ row_at n.path t.id 0 n.ids (syncs_at who.scene (Some place)) (placed_has t.id n.ids k q)
                ∙ ap (λ z. option_map (aimed n.path) (slice_get (syncs_at who.scene (Some place)) z)) (first_is (nat_eq t.id) n.ids k q)
                ∙ ap (option_map (aimed n.path)) g;
          }

      step : (o : Option ℕ) → position (has_number c t.id) nodes ≡ o → meant_judged who.scene t (row_placed who.scene nodes t.id (position (has_number c t.id) nodes)) ≡ None → Target who.scene c nodes t
      step None e k = absurd (cc (rw e at k))
      step (Some i) e k = by (slice_get nodes i) refl
        where
          by : (z : Option Live) → slice_get nodes i ≡ z → Target who.scene c nodes t
          by None f = absurd (cc (rw f at (rw e at k)))
          by (Some n) f = placed n.place refl
            where
              placed : (p : Option ℕ) → n.place ≡ p → Target who.scene c nodes t
              placed None g = absurd (cc (rw g at (rw f at (rw e at k))))
              placed (Some place) g = at_place (position (nat_eq t.id) n.ids) refl
                where
                  at_place : (q : Option ℕ) → position (nat_eq t.id) n.ids ≡ q → Target who.scene c nodes t
                  at_place None l = absurd (cc (rw (g, l) at (rw f at (rw e at k))))
                  at_place (Some j) l = defined (slice_get (syncs_at who.scene (Some place)) j) refl
                    where
                      defined : (d : Option SyncDef) → slice_get (syncs_at who.scene (Some place)) j ≡ d → Target who.scene c nodes t
                      defined None m = absurd (cc (rw m at (rw (g, l) at (rw f at (rw e at k)))))
                      defined (Some d) m = made i n place j d e f g l m

  target : delta_judged who.scene nodes c t ≡ None → Target who.scene c nodes t
  target free = step (is_fixed_id t.id) refl
    where
      step : (b : Bool) → is_fixed_id t.id ≡ b → Target who.scene c nodes t
      step true e = fixed_target e free
      step false e = row_target e free

  -- an accepted entry makes the nodes that the definitions make
  pub one_put : delta_judged who.scene nodes c t ≡ None → nodes_taken who.scene t (delta_judged who.scene nodes c t) (meant who.scene nodes c t.id) nodes ≡ map (told_node c (meant_by who.scene c t (rows_under c nodes)) t) nodes
  one_put free =
      let x = target free in
      ap₂ (λ f m. nodes_taken who.scene t f m nodes) free x.meant_is
      ∙ ap₂ (λ d p. entry_put t d p nodes) x.def_is x.place_is
      ∙ put_all x.place (zip (masked t.mask (change_props x.def)) t.values) nodes x.node x.there (every_at nodes x.place x.node stage.names x.there x.own)
      ∙ by x (meant_by who.scene c t (rows_under c nodes)) x.aims
    where
      every_at : (ns : List Live) (i : ℕ) (n : Live) → AllByRecursion (λ (m : Live). int_eq m.auth c ≡ true → has_twice (prop_names m.values) ≡ false) ns → slice_get ns i ≡ Some n → int_eq n.auth c ≡ true → has_twice (prop_names n.values) ≡ false
      every_at [] i n h e = absurd (cc e)
      every_at (m ∷ ns) zero n h e = let same : m ≡ n = cc in subst (λ (z : Live). int_eq z.auth c ≡ true → has_twice (prop_names z.values) ≡ false) same h.0
      every_at (m ∷ ns) (suc i) n h e = every_at ns i n h.1 e

      by : (x : Target who.scene c nodes t) (o : Option Syncer) → option_map aim o ≡ Some (aimed x.node.path x.def)
          → slice_set nodes x.place (record x.node { values = assign_all (zip (masked t.mask (change_props x.def)) t.values) x.node.values }) ≡ map (told_node c o t) nodes
      by x None h = absurd (cc h)
      by x (Some y) h =
          let both : aim y ≡ aimed x.node.path x.def = cc in
          ap (λ (d : SyncDef). slice_set nodes x.place (record x.node { values = assign_all (zip (masked t.mask (change_props d)) t.values) x.node.values })) (sym (ap (λ (a : List ℕ × SyncDef). a.1) both))
          ∙ told_at_place c y t x.place nodes x.node stage.apart x.there x.own (ap (λ (a : List ℕ × SyncDef). a.0) both)

-- one entry later

told_auth : (c : ℤ) (o : Option Syncer) (t : DeltaEntry) (n : Live) → (told_node c o t n).auth ≡ n.auth
told_auth c o t n = step (int_eq n.auth c) o
  where
    step : (b : Bool) (p : Option Syncer) → (cond b (tell_node p t n) n).auth ≡ n.auth
    step true None = refl
    step true (Some y) = refl
    step false p = refl

node_names : (c : ℤ) (o : Option Syncer) (t : DeltaEntry) (n : Live) → prop_names (told_node c o t n).values ≡ prop_names n.values
node_names c o t n = step (int_eq n.auth c)
  where
    step : (b : Bool) → prop_names (cond b (tell_node o t n) n).values ≡ prop_names n.values
    step true = told_names o t n
    step false = refl

mapped_get : (f : Live → Live) (ns : List Live) (i : ℕ) (n : Live) → slice_get ns i ≡ Some n → slice_get (map f ns) i ≡ Some (f n)
mapped_get f [] i n h = absurd (cc h)
mapped_get f (m ∷ ns) zero n h = let same : m ≡ n = cc in ap (λ z. Some (f z)) same
mapped_get f (m ∷ ns) (suc i) n h = mapped_get f ns i n h

mapped_paths : (f : Live → Live) → ((n : Live) → (f n).path ≡ n.path) → (ns : List Live) → paths_of (map f ns) ≡ paths_of ns
mapped_paths f same [] = refl
mapped_paths f same (n ∷ ns) = ap₂ (λ p ps. p ∷ ps) (same n) (mapped_paths f same ns)

stage_after : (s : Scene) (c : ℤ) (o : Option Syncer) (t : DeltaEntry) (nodes : List Live) → Stage s c nodes → Stage s c (map (told_node c o t) nodes)
stage_after s c o t nodes stage = record {
  apart = ap has_twice (mapped_paths (told_node c o t) (node_path c o t) nodes) ∙ stage.apart;
  unshared = subst Unshared (sym (rows_told c o t nodes)) (map_unshared (tell_node o t) (tell_numbers o t) (rows_under c nodes) stage.unshared);
  stands = λ i m there.
      let at = stage.stands i m there in
      (told_node c o t at.0, mapped_get (told_node c o t) nodes i at.0 at.1, node_path c o t at.0 ∙ at.2, told_auth c o t at.0 ∙ at.3);
  names = each nodes stage.names;
}
  where
    each : (ns : List Live) → AllByRecursion (λ (n : Live). int_eq n.auth c ≡ true → has_twice (prop_names n.values) ≡ false) ns → AllByRecursion (λ (n : Live). int_eq n.auth c ≡ true → has_twice (prop_names n.values) ≡ false) (map (told_node c o t) ns)
    each [] h = tt
    each (n ∷ ns) h = ((λ own. ap has_twice (node_names c o t n) ∙ h.0 (sym (ap (λ a. int_eq a c) (told_auth c o t n)) ∙ own)), each ns h.1)

-- faults beside rows that were told something

faults_stay : (who : Who) (c : ℤ) (o : Option Syncer) (t : DeltaEntry) (rows : List Live) (ts : List DeltaEntry) → map (delta_fault who c (map (tell_node o t) rows)) ts ≡ map (delta_fault who c rows) ts
faults_stay who c o t rows [] = refl
faults_stay who c o t rows (u ∷ ts) = ap₂ (λ x xs. x ∷ xs) (ap (fault_by u) (same_syncers who.scene o t rows)) (faults_stay who c o t rows ts)
  where
    -- by the synchronizers of the rows
    fault_by : DeltaEntry → List Syncer → Option Fault
    fault_by e ys = first_of (entry_id_faults who c e.id
        ++ when (is_none (meant_among e.id ys)) (fault.NoSync e.id)
        ∷ when (some_is (bad_mask e.mask) (meant_among e.id ys)) (fault.BadMask e.mask)
        ∷ when (some_is (wrong_delta e) (meant_among e.id ys)) fault.WrongValues
        ∷ [])
      where
        meant_among : ℕ → List Syncer → Option SyncDef
        meant_among id zs = if is_fixed_id id then option_and_then sync_of (fixed_sync_node who id) else option_map (λ (y : Syncer). y.def) (syncer_with id zs)

-- all entries

none_first : (x : Option Fault) (xs : List (Option Fault)) → first_of (x ∷ xs) ≡ None → (x ≡ None) × (first_of xs ≡ None)
none_first None xs h = (refl, h)
none_first (Some f) xs h = absurd (cc h)

pub all_entries : (who : Who) → IsValidScene who.scene → (c : ℤ) (ts : List DeltaEntry) (nodes : List Live) → Stage who.scene c nodes → first_of (map (delta_fault who c (rows_under c nodes)) ts) ≡ None
    → (entries_put c ts (record { scene = who.scene; nodes = nodes })).nodes ≡ nodes_told who.scene c ts (rows_under c nodes) nodes
all_entries who v c [] nodes stage free = refl
all_entries who v c (t ∷ ts) nodes stage free =
    let parts = none_first (delta_fault who c (rows_under c nodes) t) (map (delta_fault who c (rows_under c nodes)) ts) free in
    let o = meant_by who.scene c t (rows_under c nodes) in
    let later = map (told_node c o t) nodes in
    let rows = rows_told c o t nodes in
    ap (λ ns. (entries_put c ts (record { scene = who.scene; nodes = ns })).nodes) (one_put who v c nodes stage t (entry_judged_is who c nodes t stage.unshared ∙ parts.0))
    ∙ all_entries who v c ts later (stage_after who.scene c o t nodes stage) (ap (λ rs. first_of (map (delta_fault who c rs) ts)) rows ∙ ap first_of (faults_stay who c o t (rows_under c nodes) ts) ∙ parts.1)
    ∙ ap (λ rs. nodes_told who.scene c ts rs later) rows
