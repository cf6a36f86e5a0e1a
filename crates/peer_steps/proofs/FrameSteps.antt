-- A frame: what is answered is what the definitions give, and what is kept then stands for the events with it.
use Rattle.std.proofs.Common.{◌≡◌, ℤ, Bool, true, false, ◌||◌, List, [], ◌∷◌, ◌++◌, refl, sym, ap, ap₂, ◌∙◌, subst, map, filter, Some}
use Rattle.std.specs.Prelude.{flat_map, int_lt, option_map}
use Rattle.std.specs.List.{list_all, AllByRecursion}
use Rattle.std.specs.Ordering.{int_eq}
use Rattle.std.proofs.lemmas.Bool.{and_parts}
use Rattle.std.proofs.lemmas.List.{map-append}
use Rattle.gd_variant.specs.Words.{has_int}
use Rattle.gd_variant.specs.declared.message.DeltaEntry.{DeltaEntry}
use Rattle.scene_model.specs.declared.event.Event.{Event}
use Rattle.scene_model.specs.declared.event.Event.TheVariants.{Op}
use Rattle.scene_model.specs.declared.event.Op.TheVariants.{Frame}
use Rattle.scene_model.specs.Syncs.{Syncer}
use Rattle.peer_model.specs.Heard.{Who, Heard, does}
use Rattle.peer_model.specs.Peers.{peers_up}
use Rattle.peer_model.specs.Updates.{Tell}
use Rattle.peer_model.specs.View.{tree_of}
use Rattle.peer_model.specs.Visible.{own_syncers, visible_to}
use Rattle.peer_model.specs.Answer.{reliable, update_packet}
use Rattle.peer_model.specs.Bytes.{PacketForm, accepted_events, out_of}
use Rattle.peer_laws.specs.Built.{Accepts}
use Rattle.peer_laws.proofs.Each.{all_has}
use Rattle.peer_laws.proofs.FactsOf.{facts}
use Rattle.peer_laws.proofs.Numbers.{int_comm, int_same, lt_apart}
use Rattle.peer_laws.proofs.Rows.{next_kept}
use Rattle.peer_laws.proofs.Sorted.{is_rising}
use Rattle.peer_laws.proofs.TreeRows.{rows_frame, tree_frame}
use Rattle.peer_laws.proofs.Ups.{has_up, ups_apart}
use Rattle.world_laws.specs.Done.{AllDone}
use Rattle.world_laws.proofs.Law.{built_done, every_weaker}
use Rattle.sight_laws.specs.Sights.{Sights}
use Rattle.sight_laws.specs.Told.{told_values, tell_by}
use Rattle.sight_laws.proofs.Frames.{sends_frame}
use Rattle.sight_laws.proofs.Stepping.{sights_stay}
use Rattle.delta_props.specs.Telling.{ToldValues, collected}
use Rattle.telling_laws.specs.Telling.{IsTold, Tells}
use Rattle.telling_laws.specs.Collecting.{sync_ref, told_frames}
use Rattle.telling_laws.proofs.Collecting.{Serves, collected_peer, kept_differ, own_differ, tells_are}
use Rattle.telling_laws.proofs.Frames.{seen_serve, told_frame, told_seen}
use Rattle.telling_laws.proofs.Serving.{all_serve}
use Rattle.peer_steps.specs.Rows.{kept_row}
use Rattle.peer_steps.specs.Kept.{Kept}
use Rattle.peer_steps.specs.Stands.{HasParts, StandsFor}
use Rattle.peer_steps.specs.Tellings.{syncs_seen}
use Rattle.peer_steps.specs.Steps.{done_with, entries_to, frame_taken, frame_told}
use Rattle.peer_steps.proofs.Accepted.{Right, done_right, done_sends}
use Rattle.peer_steps.proofs.Packets.{all_direct, is_direct, parcel_is}
use Rattle.peer_steps.proofs.ToldParts.{refs_are}

-- the packets of entries are those of Tells
entries_are : (form : PacketForm) (who : Who) (b : ℤ) → is_direct who b ≡ true → (entries : List DeltaEntry) → entries_to form b entries ≡ map (out_of form) (map (λ u. reliable who b (update_packet u)) (map Tell entries))
entries_are form who b direct [] = refl
entries_are form who b direct (e ∷ entries) = ap₂ (λ x xs. x ∷ xs) (sym (parcel_is form who b (update_packet (Tell e)) direct)) (entries_are form who b direct entries)

module _ (form : PacketForm) (k : Kept) (es : List Heard) (h : HasParts k es) where
  abbrev all : AllDone k.who es
  all = built_done k.who es h.accepted

  abbrev seen : ℤ → List Syncer
  seen b = filter (visible_to k.who es b) (own_syncers k.who es)

  -- what the peer collects, in the words of the definitions
  refs_now : (b : ℤ) → syncs_seen b k.who.scene k.track ≡ map sync_ref (seen b)
  refs_now b = refs_are k.who es h.valid b k.track h.rows h.seen h.fixed

  collected_is : (b : ℤ) (t : ToldValues) → collected b k.who.scene k.nodes (syncs_seen b k.who.scene k.track) t ≡ collected b k.who.scene (tree_of k.who es) (map sync_ref (seen b)) t
  collected_is b t = ap₂ (λ ns refs. collected b k.who.scene ns refs t) h.nodes (refs_now b)

  serves : AllByRecursion (Serves k.who es (tree_of k.who es)) (own_syncers k.who es)
  serves = all_serve k.who es h.valid (facts k.who es h.valid h.accepted)

  told_is : (bs : List ℤ) (t : ToldValues) → (frame_told form k bs t).1 ≡ told_frames k.who.scene (tree_of k.who es) (λ b. map sync_ref (seen b)) bs t
  told_is [] t = refl
  told_is (b ∷ bs) t = ap (λ (r : List DeltaEntry × ToldValues). (frame_told form k bs r.1).1) (collected_is b t) ∙ told_is bs (collected b k.who.scene (tree_of k.who es) (map sync_ref (seen b)) t).1

  sent_is : (bs : List ℤ) (t : ToldValues) → list_all (is_direct k.who) bs ≡ true → is_rising bs ≡ true → ((b : ℤ) → has_int b bs ≡ true → AllByRecursion (Tells k.who es t b) (seen b))
      → (frame_told form k bs t).0 ≡ map (out_of form) (flat_map (λ b. map (λ u. reliable k.who b (update_packet u)) (flat_map (λ y. tell_by k.who es y (told_values k.who es b y)) (seen b))) bs)
  sent_is [] t direct rising tells = refl
  sent_is (b ∷ bs) t direct rising tells =
      ap (λ (r : List DeltaEntry × ToldValues). entries_to form b r.0 ++ (frame_told form k bs r.1).0) (collected_is b t)
      ∙ ap₂ (λ xs ys. xs ++ ys) (entries_are form k.who b parts.0 (collected b k.who.scene (tree_of k.who es) (map sync_ref (seen b)) t).0
      ∙ ap (λ us. map (out_of form) (map (λ u. reliable k.who b (update_packet u)) us)) (tells_are k.who es (tree_of k.who es) b (seen b) t (kept_differ (visible_to k.who es b) (own_syncers k.who es) (own_differ k.who es all)) (seen_serve k.who es (tree_of k.who es) all serves b) (tells b (ap (λ s. s || has_int b bs) (int_same b)))))
      (sent_is bs (collected b k.who.scene (tree_of k.who es) (map sync_ref (seen b)) t).1 parts.1 order.1 later)
      ∙ sym (map-append (out_of form) (map (λ u. reliable k.who b (update_packet u)) (flat_map (λ y. tell_by k.who es y (told_values k.who es b y)) (seen b)))
      (flat_map (λ c. map (λ u. reliable k.who c (update_packet u)) (flat_map (λ y. tell_by k.who es y (told_values k.who es c y)) (seen c))) bs))
    where
      parts : (is_direct k.who b ≡ true) × (list_all (is_direct k.who) bs ≡ true)
      parts = and_parts (is_direct k.who b) (list_all (is_direct k.who) bs) direct

      order : (list_all (int_lt b) bs ≡ true) × (is_rising bs ≡ true)
      order = and_parts (list_all (int_lt b) bs) (is_rising bs) rising

      later : (c : ℤ) → has_int c bs ≡ true → AllByRecursion (Tells k.who es (collected b k.who.scene (tree_of k.who es) (map sync_ref (seen b)) t).1 c) (seen c)
      later c has = every_weaker (Tells k.who es t c) (Tells k.who es (collected b k.who.scene (tree_of k.who es) (map sync_ref (seen b)) t).1 c)
          (λ y s. ap (option_map (map Some)) (collected_peer k.who es (tree_of k.who es) b c y.id (map sync_ref (seen b)) t (int_comm c b ∙ lt_apart b c (all_has (int_lt b) c bs order.0 has))) ∙ s) (seen c) (tells c (or_last (int_eq c b) (has_int c bs) has))
        where
          or_last : (x y : Bool) → y ≡ true → (x || y) ≡ true
          or_last true y k = refl
          or_last false y k = k

-- a frame
pub frame_right : (form : PacketForm) (k : Kept) (es : List Event) → StandsFor form k es → Right form k es (Op Frame) (frame_taken form k)
frame_right form k es h = done_right form k j es (Op Frame) (done_with (frame_told form k k.peers.up k.told).0) refl refl refl refl
    (ap (λ us. done_with (frame_told form k us k.told).0) h.up
    ∙ ap done_with (sent_is form k gs h (peers_up gs) k.told (all_direct k.who gs h.accepted) (ups_apart k.who gs h.accepted) (λ b has. told_seen k.who gs k.told h.told b (sym (has_up gs b) ∙ has)))
    ∙ sym (done_sends form k.who (does Frame) gs _ (sends_frame k.who gs h.valid done) refl refl refl))
    (record {
      live = h.live;
      valid = h.valid;
      accepted = (fresh, h.accepted);
      me = h.me;
      come = h.come;
      up = h.up;
      nodes = h.nodes ∙ sym (tree_frame k.who gs);
      next = h.next ∙ sym (next_kept k.who gs (does Frame) refl);
      rows = h.rows ∙ sym (ap (map (kept_row k.who)) (rows_frame k.who gs));
      seen = h.seen ∙ ap (λ (v : Sights). v.rows) (sym (sights_stay k.who gs (does Frame) refl refl refl));
      fixed = h.fixed ∙ ap (λ (v : Sights). v.fixed) (sym (sights_stay k.who gs (does Frame) refl refl refl));
      told = subst (IsTold k.who (does Frame ∷ gs)) (sym (ap (λ us. (frame_told form k us k.told).1) h.up ∙ told_is form k gs h (peers_up gs) k.told))
          (told_frame k.who gs (tree_of k.who gs) k.told h.valid done (ups_apart k.who gs h.accepted) (serves form k gs h) h.told);
    })
  where
    gs : List Heard
    gs = accepted_events form k.who es

    j : Kept
    j = record k { told = (frame_told form k k.peers.up k.told).1 }

    fresh : Accepts k.who gs (does Frame)
    fresh = record { built = refl; no_refusal = refl; no_fault = refl }

    done : AllDone k.who (does Frame ∷ gs)
    done = built_done k.who (does Frame ∷ gs) (fresh, h.accepted)
