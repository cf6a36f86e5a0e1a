-- The packets of an event: those that are made of what is kept are the definitions' parcels.
use Rattle.std.proofs.Common.{◌≡◌, ℕ, ℤ, Bool, true, false, cond, ◌||◌, List, [], ◌∷◌, ◌++◌, refl, sym, ap, ap₂, ◌∙◌, map, filter, None}
use Rattle.std.specs.Prelude.{flat_map, if◌then◌else◌}
use Rattle.std.specs.List.{list_all, Contains}
use Rattle.std.specs.Ordering.{int_eq}
use Rattle.std.proofs.lemmas.Bool.{and_parts, and_from}
use Rattle.std.proofs.lemmas.List.{map-append}
use Rattle.std.proofs.lemmas.List.Elements.{All-filter}
use Rattle.gd_variant.specs.Words.{has_int}
use Rattle.gd_variant.specs.declared.message.Plain.{Plain}
use Rattle.gd_variant.specs.declared.message.Plain.TheVariants as packet
use Rattle.gd_variant.specs.declared.message.Message.TheVariants.{Plain as plain_packet, Relay}
use Rattle.scene_model.specs.declared.event.Class.TheVariants.{Reliable}
use Rattle.scene_model.specs.Valid.{IsValidScene}
use Rattle.peer_model.specs.Heard.{Who, Heard, is_server, server}
use Rattle.peer_model.specs.Peers.{peers_up}
use Rattle.peer_model.specs.Rows.{OwnRow, own_rows}
use Rattle.peer_model.specs.View.{tree_of}
use Rattle.peer_model.specs.Visible.{sees}
use Rattle.peer_model.specs.Answer.{reliable, packet_sent}
use Rattle.peer_model.specs.Bytes.{PacketForm, out_of}
use Rattle.peer_laws.specs.Built.{AllAccepted}
use Rattle.peer_laws.specs.Facts.{Facts}
use Rattle.peer_laws.proofs.Each.{of_each}
use Rattle.peer_laws.proofs.Joined.{map_agree, map-map}
use Rattle.peer_laws.proofs.Numbers.{int_same}
use Rattle.peer_laws.proofs.OwnValues.{own_row_there, shown_from}
use Rattle.peer_laws.proofs.Ups.{has_up, up_is_direct}
use Rattle.sight_laws.specs.Sights.{row_sight}
use Rattle.sight_laws.specs.Seen.{shown_packet, shift_sends}
use Rattle.sight_laws.proofs.Settings.{sees_is_kept}
use Rattle.peer_steps.specs.Rows.{kept_row}
use Rattle.peer_steps.specs.Steps.{row_packet, sent_to, shift_to, shifts}
use Rattle.peer_steps.specs.Track.{seen_by}

pub or_true : (a b : Bool) → b ≡ true → (a || b) ≡ true
or_true true b h = refl
or_true false b h = h

pub or_left : (a b : Bool) → a ≡ true → (a || b) ≡ true
or_left true b h = refl
or_left false b h = absurd (cc h)

-- whether a packet to a peer goes on its own link
abbrev pub is_direct : Who → ℤ → Bool
is_direct who b = is_server who || int_eq b server

-- a packet on a peer's own link
pub parcel_is : (form : PacketForm) (who : Who) (b : ℤ) (p : Plain) → is_direct who b ≡ true → out_of form (reliable who b p) ≡ sent_to form b p
parcel_is form who b p direct = ap (λ c. out_of form (if c then record { link = b; to = b; class = Reliable; tick = None; sent = packet_sent (plain_packet p) }
    else record { link = server; to = b; class = Reliable; tick = None; sent = packet_sent (Relay b p) })) direct

-- packets go directly to the peers that are up

all_of : (p : ℤ → Bool) (bs : List ℤ) → ((b : ℤ) → has_int b bs ≡ true → p b ≡ true) → list_all p bs ≡ true
all_of p [] h = refl
all_of p (b ∷ bs) h = and_from (p b) (list_all p bs) (h b (or_left (int_eq b b) (has_int b bs) (int_same b))) (all_of p bs (λ c k. h c (or_true (int_eq c b) (has_int c bs) k)))

pub all_direct : (who : Who) (es : List Heard) → AllAccepted who es → list_all (is_direct who) (peers_up es) ≡ true
all_direct who es all = all_of (is_direct who) (peers_up es) (λ b h. up_is_direct who es all b (sym (has_up es b) ∙ h))

-- one packet to each of some peers
pub sent_to_each : (form : PacketForm) (who : Who) (p : Plain) (bs : List ℤ) → list_all (is_direct who) bs ≡ true → map (λ b. sent_to form b p) bs ≡ map (out_of form) (map (λ b. reliable who b p) bs)
sent_to_each form who p [] direct = refl
sent_to_each form who p (b ∷ bs) direct =
    let two = and_parts (is_direct who b) (list_all (is_direct who) bs) direct in
    ap₂ (λ x xs. x ∷ xs) (sym (parcel_is form who b p two.0)) (sent_to_each form who p bs two.1)

-- some packets to one peer
pub all_to_one : (form : PacketForm) (who : Who) (b : ℤ) → is_direct who b ≡ true → (ps : List Plain) → map (sent_to form b) ps ≡ map (out_of form) (map (reliable who b) ps)
all_to_one form who b direct [] = refl
all_to_one form who b direct (p ∷ ps) = ap₂ (λ x xs. x ∷ xs) (sym (parcel_is form who b p direct)) (all_to_one form who b direct ps)

-- what is told of one row, to those for which it appears or goes
pub shifts_are : (form : PacketForm) (who : Who) (shows : Plain) (num : ℕ) (before after bs : List ℤ) → list_all (is_direct who) bs ≡ true
    → shifts form shows num before after bs ≡ map (out_of form) (flat_map (λ b. shift_sends who shows num b (has_int b before) (has_int b after)) bs)
shifts_are form who shows num before after [] direct = refl
shifts_are form who shows num before after (b ∷ bs) direct =
    let two = and_parts (is_direct who b) (list_all (is_direct who) bs) direct in
    ap₂ (λ xs ys. xs ++ ys) (one (has_int b before) (has_int b after) two.0) (shifts_are form who shows num before after bs two.1)
    ∙ sym (map-append (out_of form) (shift_sends who shows num b (has_int b before) (has_int b after)) (flat_map (λ c. shift_sends who shows num c (has_int c before) (has_int c after)) bs))
  where
    one : (was is : Bool) → is_direct who b ≡ true → shift_to form shows num b was is ≡ map (out_of form) (shift_sends who shows num b was is)
    one true false d = ap (λ x. x ∷ []) (sym (parcel_is form who b (packet.Despawn num) d))
    one false true d = ap (λ x. x ∷ []) (sym (parcel_is form who b shows d))
    one true true d = refl
    one false false d = refl

-- the packet that shows an own row, with the values in the tree
pub row_packet_is : (who : Who) (es : List Heard) → IsValidScene who.scene → Facts who es → (r : OwnRow) → Contains (own_rows who es) r → row_packet who.scene (tree_of who es) (kept_row who r) ≡ shown_packet who es r
row_packet_is who es v f r has = sym (shown_from who es (tree_of who es) r v (own_row_there who es f r has))

-- the own rows that a peer sees
pub seen_is : (who : Who) (es : List Heard) (b : ℤ) (rows : List OwnRow) → seen_by b (map (kept_row who) rows) (map (row_sight who es) rows) ≡ map (kept_row who) (filter (sees who es b) rows)
seen_is who es b [] = refl
seen_is who es b (r ∷ rows) =
    ap₂ (λ c rs. if c then kept_row who r ∷ rs else rs) (sym (sees_is_kept who es b r)) (seen_is who es b rows)
    ∙ elim (sees who es b r) as (λ c. (if c then kept_row who r ∷ map (kept_row who) (filter (sees who es b) rows) else map (kept_row who) (filter (sees who es b) rows)) ≡ map (kept_row who) (cond c (r ∷ filter (sees who es b) rows) (filter (sees who es b) rows))) [ true ↦ refl | false ↦ refl ]

-- the packets that show a new peer the rows that it may see
pub all_shown : (form : PacketForm) (who : Who) (es : List Heard) (b : ℤ) → IsValidScene who.scene → Facts who es → is_direct who b ≡ true
    → map (λ r. sent_to form b (row_packet who.scene (tree_of who es) r)) (seen_by b (map (kept_row who) (own_rows who es)) (map (row_sight who es) (own_rows who es)))
    ≡ map (out_of form) (map (λ r. reliable who b (shown_packet who es r)) (filter (sees who es b) (own_rows who es)))
all_shown form who es b v f direct =
    let seen = filter (sees who es b) (own_rows who es) in
    let Same : OwnRow → Type 0 = λ r. row_packet who.scene (tree_of who es) (kept_row who r) ≡ shown_packet who es r in
    ap (map (λ r. sent_to form b (row_packet who.scene (tree_of who es) r))) (seen_is who es b (own_rows who es))
    ∙ map-map (λ r. sent_to form b (row_packet who.scene (tree_of who es) r)) (kept_row who) seen
    ∙ sym (map-map (sent_to form b) (λ r. row_packet who.scene (tree_of who es) (kept_row who r)) seen)
    ∙ ap (map (sent_to form b)) (map_agree (λ r. row_packet who.scene (tree_of who es) (kept_row who r)) (shown_packet who es) seen
    (All-filter (sees who es b) Same (own_rows who es) (of_each Same (own_rows who es) (row_packet_is who es v f))))
    ∙ all_to_one form who b direct (map (shown_packet who es) seen)
    ∙ ap (map (out_of form)) (map-map (reliable who b) (shown_packet who es) seen)
