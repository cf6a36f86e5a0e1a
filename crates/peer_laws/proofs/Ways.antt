-- What an accepted event puts on one link: the packets of what it adds for the peer at the other end.
use Rattle.std.proofs.Common.{◌≡◌, ℤ, Bool, true, false, cond, ◌||◌, List, [], ◌∷◌, ◌++◌, refl, sym, ap, ap₂, ◌∙◌, map, filter, Ok}
use Rattle.std.specs.Prelude.{flat_map, int_lt}
use Rattle.std.specs.List.{list_all}
use Rattle.std.specs.Ordering.{int_eq}
use Rattle.std.proofs.lemmas.List.Elements.{filter-append}
use Rattle.std.proofs.lemmas.List.{map-append, append-nil}
use Rattle.std.proofs.lemmas.Bool.{and_parts}
use Rattle.gd_variant.specs.Words.{has_int}
use Rattle.gd_variant.specs.declared.message.Plain.{Plain}
use Rattle.gd_variant.specs.declared.message.Plain.TheVariants as packet
use Rattle.gd_variant.specs.declared.message.Message.TheVariants.{Plain as plain_packet, Relay}
use Rattle.scene_model.specs.declared.event.Op.TheVariants.{Call, Raw}
use Rattle.scene_model.specs.declared.outcome.Out.{Out}
use Rattle.peer_model.specs.Heard.{Who, Heard, does, gets, is_server, server}
use Rattle.peer_model.specs.Peers.{is_up, peers_up, peers_come}
use Rattle.peer_model.specs.Updates.{Update, applied}
use Rattle.peer_model.specs.Changes.{changes, added}
use Rattle.peer_model.specs.Answer.{Parcel, reliable, own_sends, sends, sends_to, update_packet}
use Rattle.peer_model.specs.Bytes.{PacketForm, out_of}
use Rattle.peer_laws.specs.Built.{AllAccepted, is_built}
use Rattle.peer_laws.proofs.Each.{all-sort_by, none_weaker}
use Rattle.peer_laws.proofs.Filters.{all_pass}
use Rattle.peer_laws.proofs.Joined.{flat_each}
use Rattle.peer_laws.proofs.Numbers.{lt_apart, int_is, int_comm}
use Rattle.peer_laws.proofs.Sorted.{is_rising}
use Rattle.peer_laws.proofs.Told.{adds}
use Rattle.peer_laws.proofs.Ups.{has_up, ups_apart, up_is_direct}
use Rattle.headless_tree.proofs.Order.{all_weaker}

-- what is built sends no packet of its own

no_own : (who : Who) (e : Heard) (es : List Heard) → is_built e ≡ true → own_sends who e es ≡ []
no_own who (does (Call c)) es h = absurd (cc h)
no_own who (does (Raw to class bytes)) es h = absurd (cc h)
no_own who (gets from class bytes (Ok (plain_packet (packet.Simplify digest id path)))) es h = absurd (cc h)
no_own who (gets from class bytes (Ok (Relay peer p))) es h = absurd (cc h)
no_own who e es h = refl

-- the packets of an event to a peer are those of what it adds for the peer
sent_to : (who : Who) (e : Heard) (es : List Heard) (c : ℤ) → sends_to who e es c ≡ map (λ u. reliable who c (update_packet u)) (adds who e es c)
sent_to who e es c = refl

-- a packet to a peer with a link of its own is put on that link
link_is : (who : Who) (c : ℤ) (p : Plain) → (is_server who || int_eq c server) ≡ true → (reliable who c p).link ≡ c
link_is who c p direct = rw direct refl

module _ (form : PacketForm) (who : Who) (b : ℤ) where
  -- whether a packet is put on the link
  abbrev is_on : Out → Bool
  is_on x = int_eq x.link b

  -- packets of updates
  abbrev outs : ℤ → List Update → List Out
  outs c us = map (λ u. out_of form (reliable who c (update_packet u))) us

  -- packets to one peer are all put on the link, or none is
  on_one : (c : ℤ) → (is_server who || int_eq c server) ≡ true → (us : List Update) → filter is_on (map (out_of form) (map (λ u. reliable who c (update_packet u)) us)) ≡ cond (int_eq c b) (outs c us) []
  on_one c direct [] = elim (int_eq c b) as (λ t. [] ≡ cond t (outs c []) []) [ true ↦ refl | false ↦ refl ]
  on_one c direct (u ∷ us) =
      ap₂ (λ z xs. cond (int_eq z b) (out_of form (reliable who c (update_packet u)) ∷ xs) xs) (link_is who c (update_packet u) direct) (on_one c direct us)
      ∙ elim (int_eq c b) as (λ t. cond t (out_of form (reliable who c (update_packet u)) ∷ cond t (outs c us) []) (cond t (outs c us) []) ≡ cond t (outs c (u ∷ us)) []) [ true ↦ refl | false ↦ refl ]

  -- of packets to peers that differ, those to the peer at the other end are put on the link
  on_link : (us : ℤ → List Update) (cs : List ℤ) → is_rising cs ≡ true → list_all (λ c. is_server who || int_eq c server) cs ≡ true
      → filter is_on (map (out_of form) (flat_map (λ c. map (λ u. reliable who c (update_packet u)) (us c)) cs)) ≡ cond (has_int b cs) (outs b (us b)) []
  on_link us [] rises direct = refl
  on_link us (c ∷ cs) rises direct =
      let to : ℤ → List Parcel = λ d. map (λ u. reliable who d (update_packet u)) (us d) in
      let low = and_parts (list_all (int_lt c) cs) (is_rising cs) rises in
      let near = and_parts (is_server who || int_eq c server) (list_all (λ d. is_server who || int_eq d server) cs) direct in
      ap (filter is_on) (map-append (out_of form) (to c) (flat_map to cs))
      ∙ filter-append is_on (map (out_of form) (to c)) (map (out_of form) (flat_map to cs))
      ∙ ap₂ (λ xs ys. xs ++ ys) (on_one c near.0 (us c)) (on_link us cs low.1 near.1)
      ∙ step (int_eq c b) refl (none_weaker (int_lt c) (int_eq c) (λ d k. lt_apart c d k) cs low.0)
    where
      step : (t : Bool) → int_eq c b ≡ t → has_int c cs ≡ false → cond t (outs c (us c)) [] ++ cond (has_int b cs) (outs b (us b)) [] ≡ cond (int_eq b c || has_int b cs) (outs b (us b)) []
      step true e later =
          let same = int_is c b e in
          ap₂ (λ z k. outs z (us z) ++ cond k (outs b (us b)) []) same (ap (λ z. has_int z cs) (sym same) ∙ later)
          ∙ append-nil (outs b (us b))
          ∙ ap (λ k. cond (k || has_int b cs) (outs b (us b)) []) (sym (int_comm b c ∙ e))
      step false e later = ap (λ k. cond (k || has_int b cs) (outs b (us b)) []) (sym (int_comm b c ∙ e))

  on_links : (e : Heard) (es : List Heard) → AllAccepted who (e ∷ es) → filter is_on (map (out_of form) (sends who e es)) ≡ cond (is_up (e ∷ es) b) (outs b (adds who e es b)) []
  on_links e es all =
      let ups = peers_up (e ∷ es) in
      ap (λ ps. filter is_on (map (out_of form) (ps ++ flat_map (sends_to who e es) ups))) (no_own who e es all.0.built)
      ∙ ap (λ ps. filter is_on (map (out_of form) ps)) (flat_each (sends_to who e es) (λ c. map (λ u. reliable who c (update_packet u)) (adds who e es c)) (λ c. sent_to who e es c) ups)
      ∙ on_link (adds who e es) ups (ups_apart who (e ∷ es) all)
      (all_weaker (is_up (e ∷ es)) (λ c. is_server who || int_eq c server) (λ c up. up_is_direct who (e ∷ es) all c up) ups
      (all-sort_by (is_up (e ∷ es)) int_lt (filter (is_up (e ∷ es)) (peers_come (e ∷ es))) (all_pass (is_up (e ∷ es)) (peers_come (e ∷ es)))))
      ∙ ap (λ k. cond k (outs b (adds who e es b)) []) (has_up (e ∷ es) b)

-- the packets that an event puts on the link of a peer that is up after it
pub sent_by_link : (form : PacketForm) (who : Who) (e : Heard) (es : List Heard) → AllAccepted who (e ∷ es) → (b : ℤ) → is_up (e ∷ es) b ≡ true
    → filter (λ (x : Out). int_eq x.link b) (map (out_of form) (sends who e es)) ≡ map (λ u. out_of form (reliable who b (update_packet u))) (added who e es b (applied who.scene who.id (changes who es b)))
sent_by_link form who e es all b up = on_links form who b e es all ∙ ap (λ k. cond k (outs form who b b (adds who e es b)) []) up

-- and none on the link of one that isn't
pub none_by_link : (form : PacketForm) (who : Who) (e : Heard) (es : List Heard) → AllAccepted who (e ∷ es) → (b : ℤ) → is_up (e ∷ es) b ≡ false
    → filter (λ (x : Out). int_eq x.link b) (map (out_of form) (sends who e es)) ≡ []
none_by_link form who e es all b down = on_links form who b e es all ∙ ap (λ k. cond k (outs form who b b (adds who e es b)) []) down
