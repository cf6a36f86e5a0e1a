-- The tree after a spawn or a despawn that another peer sent: its node stands among that peer's rows, or goes.
use Rattle.std.proofs.Common.{◌≡◌, ℕ, ℤ, Bool, true, false, cond, not, ◌&&◌, List, [], ◌∷◌, ◌++◌, refl, sym, ap, ap₂, ◌∙◌, map, filter, reverse, nat_eq, Some, None, Ok}
use Rattle.std.specs.Prelude.{flat_map, option_map, if◌then◌else◌}
use Rattle.std.specs.List.{list_all, cons_option}
use Rattle.std.specs.Ordering.{int_eq}
use Rattle.std.proofs.lemmas.Bool.{and_parts}
use Rattle.std.proofs.lemmas.List.Elements.{filter-append}
use Rattle.std.proofs.lemmas.List.Folds.{list_all-map}
use Rattle.gd_variant.specs.Words.{put_by, or_else}
use Rattle.gd_variant.specs.declared.message.Plain.{Plain}
use Rattle.gd_variant.specs.declared.message.Plain.TheVariants as packet
use Rattle.gd_variant.specs.declared.message.Message.TheVariants.{Plain as plain_packet}
use Rattle.scene_model.specs.declared.scene.Node.{Node}
use Rattle.scene_model.specs.declared.event.Class.{Class}
use Rattle.scene_model.specs.declared.spawn.SpawnMsg.{SpawnMsg}
use Rattle.scene_model.specs.Valid.{IsValidScene}
use Rattle.peer_model.specs.Heard.{Who, Heard, received_from}
use Rattle.peer_model.specs.Peers.{is_up}
use Rattle.peer_model.specs.Rows.{own_rows}
use Rattle.peer_model.specs.Updates.{Live, Replica, applied, shown_node, fixed_live, live_at, by_number}
use Rattle.peer_model.specs.View.{view, seen_while, updates_in, updates_from, own_live, own_values, values_seen, rows_of, rows_while, authorities, fixed_now, tree_of}
use Rattle.headless_tree.specs.Nodes.{row_before, is_row_of}
use Rattle.headless_tree.proofs.Order.{all_weaker}
use Rattle.peer_laws.specs.Built.{Accepts, AllAccepted}
use Rattle.peer_laws.specs.Facts.{Facts, without_number}
use Rattle.peer_laws.proofs.Joined.{map_each, flat_each, filter-flat}
use Rattle.peer_laws.proofs.Each.{all_each}
use Rattle.peer_laws.proofs.Filters.{filter_all}
use Rattle.peer_laws.proofs.Numbers.{int_is, int_comm}
use Rattle.peer_laws.proofs.Sorted.{put_past, put_agree}
use Rattle.peer_laws.proofs.Authorities.{put_flat, row_by_number, row_other}
use Rattle.peer_laws.proofs.Rows.{rows_receive}
use Rattle.peer_laws.proofs.Ups.{not_this}
use Rattle.peer_laws.proofs.Views.{show_plain, shown_by, hidden_by, got, got_is_up, kept_while, view_is, updates_got, applied_show, applied_hide, IsWelcome, spawn_is_welcome, welcome_is_up, welcome_is_row, rows_are_of, view_rows_are_of, authorities_rise, up_among}

-- fixed nodes stand before every row
fixed_before : (who : Who) (es : List Heard) (x : Live) (nodes : List Node) → list_all (λ y. row_before y x) (map (fixed_now who es) nodes) ≡ true
fixed_before who es x [] = refl
fixed_before who es x (n ∷ nodes) = fixed_before who es x nodes

pub put_after_fixed : (who : Who) (es : List Heard) (x : Live) (nodes : List Node) (rows : List Live) → put_by row_before x (map (fixed_now who es) nodes ++ rows) ≡ map (fixed_now who es) nodes ++ put_by row_before x rows
put_after_fixed who es x nodes rows = put_past row_before x (map (fixed_now who es) nodes) rows (fixed_before who es x nodes)

module _ (who : Who) (es : List Heard) (from : ℤ) (class : Class) (bytes : List ℕ) (p : Plain) where
  -- the events with the packet
  abbrev then_got : List Heard
  then_got = got from class bytes p ∷ es

  -- what is seen of others stays
  pub view_of_others : (c : ℤ) → int_eq from c ≡ false → view who then_got c ≡ view who es c
  view_of_others c other =
      ap (λ b. seen_while who.scene c (cons_option (cond b (Some p) None) (received_from who es c)) (is_up es c)
      (applied who.scene c (flat_map updates_in (reverse (cons_option (cond b (Some p) None) (received_from who es c)))))) other

  -- what is seen of the sender is what its updates make then
  pub view_got : AllAccepted who then_got → view who then_got from ≡ kept_while (is_up es from) (applied who.scene from (updates_from who es from ++ updates_in p))
  view_got all = view_is who then_got all from ∙ ap (λ us. kept_while (is_up es from) (applied who.scene from us)) (updates_got who es from class bytes p)

  rows_same : (c : ℤ) → int_eq c from ≡ false → (if int_eq c who.id then map (own_live who es) (own_rows who then_got) else (view who then_got c).rows) ≡ rows_of who es c
  rows_same c other = ap₂ (λ rs ls. if int_eq c who.id then map (own_live who es) rs else ls) (rows_receive who es from class bytes (Ok (plain_packet p))) (ap (λ (q : Replica). q.rows) (view_of_others c (int_comm from c ∙ other)))

  -- fixed nodes stay where what is seen of the sender's stays
  fixed_same : (view who then_got from).fixed ≡ (view who es from).fixed → (c : ℤ) → (view who then_got c).fixed ≡ (view who es c).fixed
  fixed_same same c = step (int_eq from c) refl
    where
      step : (b : Bool) → int_eq from c ≡ b → (view who then_got c).fixed ≡ (view who es c).fixed
      step true e = ap (λ z. (view who then_got z).fixed) (sym (int_is from c e)) ∙ same ∙ ap (λ z. (view who es z).fixed) (int_is from c e)
      step false e = ap (λ (q : Replica). q.fixed) (view_of_others c e)

  fixed_got : (view who then_got from).fixed ≡ (view who es from).fixed → (n : Node)
      → record (fixed_live n) { values = if int_eq n.auth who.id then own_values who es n.path n.props else values_seen who then_got n } ≡ fixed_now who es n
  fixed_got same n = ap (λ ns. record (fixed_live n) { values = if int_eq n.auth who.id then own_values who es n.path n.props else or_else (option_map (λ (l : Live). l.values) (live_at ns n.path)) n.props }) (fixed_same same n.auth)

module _ (who : Who) (es : List Heard) (valid : IsValidScene who.scene) (before : AllAccepted who es) (facts : Facts who es) (from : ℤ) (class : Class) (bytes : List ℕ) where
  module _ (m : SpawnMsg) (now : Accepts who es (shown_by from class bytes m)) where
    welcome : IsWelcome who es from m
    welcome = spawn_is_welcome who es from class bytes m now

    -- what is seen of the sender has the node among its rows
    pub view_received : view who (shown_by from class bytes m ∷ es) from ≡ record { fixed = (view who es from).fixed; rows = put_by by_number (shown_node who.scene from m) (view who es from).rows }
    view_received =
        let up = welcome_is_up who es from m welcome in
        let us = updates_from who es from in
        let r = applied who.scene from us in
        view_got who es from class bytes (show_plain m) (now, before)
        ∙ ap (kept_while (is_up es from)) (applied_show who.scene from us m)
        ∙ ap {B = Replica} (λ b. record { fixed = r.fixed; rows = rows_while b (put_by by_number (shown_node who.scene from m) r.rows) }) up
        ∙ sym (ap {B = Replica} (λ b. record { fixed = r.fixed; rows = put_by by_number (shown_node who.scene from m) (rows_while b r.rows) }) up)
        ∙ sym (ap {B = Replica} (λ (q : Replica). record { fixed = q.fixed; rows = put_by by_number (shown_node who.scene from m) q.rows }) (view_is who es before from))

    rows_new : rows_of who (shown_by from class bytes m ∷ es) from ≡ put_by row_before (shown_node who.scene from m) (rows_of who es from)
    rows_new =
        let x = shown_node who.scene from m in
        let foreign = not_this who es facts from (welcome_is_up who es from m welcome) in
        let is_row = welcome_is_row who es from m valid welcome in
        ap (λ b. if b then map (own_live who es) (own_rows who (shown_by from class bytes m ∷ es)) else (view who (shown_by from class bytes m ∷ es) from).rows) foreign
        ∙ ap (λ (q : Replica). q.rows) view_received
        ∙ put_agree by_number row_before (is_row_of from) x (λ y k. sym (row_by_number from y x k is_row)) (view who es from).rows (view_rows_are_of who es valid before from)
        ∙ sym (ap (λ b. put_by row_before x (if b then map (own_live who es) (own_rows who es) else (view who es from).rows)) foreign)

    -- the tree after a received spawn
    pub tree_receive : tree_of who (shown_by from class bytes m ∷ es) ≡ put_by row_before (shown_node who.scene from m) (tree_of who es)
    tree_receive =
        let x = shown_node who.scene from m in
        ap₂ (λ xs ys. xs ++ ys) (map_each (fixed_now who (shown_by from class bytes m ∷ es)) (fixed_now who es) who.scene.nodes (fixed_got who es from class bytes (show_plain m) (ap (λ (q : Replica). q.fixed) view_received)))
        (put_flat (rows_of who es) (rows_are_of who es valid before) from (rows_of who (shown_by from class bytes m ∷ es)) x (welcome_is_row who es from m valid welcome) (rows_same who es from class bytes (show_plain m)) rows_new (authorities who es) (authorities_rise who es before facts) (up_among who es from (welcome_is_up who es from m welcome)))
        ∙ sym (put_after_fixed who es x who.scene.nodes (flat_map (rows_of who es) (authorities who es)))

  module _ (net : ℕ) (now : Accepts who es (hidden_by from class bytes net)) where
    -- whether a node isn't the one that goes
    abbrev stays : Live → Bool
    stays n = not (is_row_of from n && nat_eq n.num net)

    -- what is seen of the sender has lost the row
    pub view_hidden : view who (hidden_by from class bytes net ∷ es) from ≡ record { fixed = (view who es from).fixed; rows = filter (λ (n : Live). not (nat_eq n.num net)) (view who es from).rows }
    view_hidden =
        let up = got_is_up who es from class bytes (packet.Despawn net) now in
        let us = updates_from who es from in
        let r = applied who.scene from us in
        view_got who es from class bytes (packet.Despawn net) (now, before)
        ∙ ap (kept_while (is_up es from)) (applied_hide who.scene from us net)
        ∙ ap {B = Replica} (λ b. record { fixed = r.fixed; rows = rows_while b (filter (λ (n : Live). not (nat_eq n.num net)) r.rows) }) up
        ∙ sym (ap {B = Replica} (λ b. record { fixed = r.fixed; rows = filter (λ (n : Live). not (nat_eq n.num net)) (rows_while b r.rows) }) up)
        ∙ sym (ap {B = Replica} (λ (q : Replica). record { fixed = q.fixed; rows = filter (λ (n : Live). not (nat_eq n.num net)) q.rows }) (view_is who es before from))

    of_sender : (ns : List Live) → list_all (is_row_of from) ns ≡ true → filter (λ (n : Live). not (nat_eq n.num net)) ns ≡ filter stays ns
    of_sender [] h = refl
    of_sender (n ∷ ns) h =
        let parts = and_parts (is_row_of from n) (list_all (is_row_of from) ns) h in
        ap₂ (λ b xs. cond (not (b && nat_eq n.num net)) (n ∷ xs) xs) (sym parts.0) (of_sender ns parts.1)

    rows_left : (c : ℤ) → rows_of who (hidden_by from class bytes net ∷ es) c ≡ filter stays (rows_of who es c)
    rows_left c = step (int_eq c from) refl
      where
        foreign : int_eq from who.id ≡ false
        foreign = not_this who es facts from (got_is_up who es from class bytes (packet.Despawn net) now)

        step : (b : Bool) → int_eq c from ≡ b → rows_of who (hidden_by from class bytes net ∷ es) c ≡ filter stays (rows_of who es c)
        step true e =
            ap (rows_of who (hidden_by from class bytes net ∷ es)) (int_is c from e)
            ∙ ap (λ b. if b then map (own_live who es) (own_rows who (hidden_by from class bytes net ∷ es)) else (view who (hidden_by from class bytes net ∷ es) from).rows) foreign
            ∙ ap (λ (q : Replica). q.rows) view_hidden
            ∙ of_sender (view who es from).rows (view_rows_are_of who es valid before from)
            ∙ sym (ap (λ b. filter stays (if b then map (own_live who es) (own_rows who es) else (view who es from).rows)) foreign)
            ∙ ap (λ z. filter stays (rows_of who es z)) (sym (int_is c from e))
        step false e =
            rows_same who es from class bytes (packet.Despawn net) c e
            ∙ sym (filter_all stays (rows_of who es c) (all_weaker (is_row_of c) stays (λ n k. ap (λ b. not (b && nat_eq n.num net)) (row_other c from n e k)) (rows_of who es c) (rows_are_of who es valid before c)))

    -- the tree after a received despawn
    pub tree_hide : tree_of who (hidden_by from class bytes net ∷ es) ≡ without_number from net (tree_of who es)
    tree_hide =
        let fixed = map (fixed_now who es) who.scene.nodes in
        ap₂ (λ xs ys. xs ++ ys) (map_each (fixed_now who (hidden_by from class bytes net ∷ es)) (fixed_now who es) who.scene.nodes (fixed_got who es from class bytes (packet.Despawn net) (ap (λ (q : Replica). q.fixed) view_hidden)))
        (flat_each (rows_of who (hidden_by from class bytes net ∷ es)) (λ c. filter stays (rows_of who es c)) rows_left (authorities who es) ∙ sym (filter-flat stays (rows_of who es) (authorities who es)))
        ∙ ap (λ ns. ns ++ filter stays (flat_map (rows_of who es) (authorities who es))) (sym (filter_all stays fixed (list_all-map stays (fixed_now who es) who.scene.nodes ∙ all_each (λ n. stays (fixed_now who es n)) (λ n. refl) who.scene.nodes)))
        ∙ sym (filter-append stays fixed (flat_map (rows_of who es) (authorities who es)))
