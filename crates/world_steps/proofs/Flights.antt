-- The bytes ever put in flight, as peers put packets on their links.
use Rattle.std.proofs.Common.{◌≡◌, ℕ, ◌+◌, min, ℤ, Bool, true, false, cond, not, ◌&&◌, List, [], ◌∷◌, length, map, filter, refl, sym, ap, ap₂, ◌∙◌, arith, nat_le, nat_lt, ◌||◌}
use Rattle.std.specs.Prelude.{sum_by, if◌then◌else◌}
use Rattle.std.specs.List.{list_all}
use Rattle.std.specs.Ordering.{int_eq}
use Rattle.std.proofs.lemmas.Bool.{true≢false, and_parts, and_from, or_parts, leb-true, leb-false, le-ltb, lt-ltb, ltb-true, ltb-false}
use Rattle.std.proofs.lemmas.List.Sums.{sum_by-append, sum_by-cons}
use Rattle.gd_variant.specs.Words.{has_int}
use Rattle.scene_model.specs.declared.scene.Scene.{Scene}
use Rattle.scene_model.specs.declared.outcome.Out.{Out}
use Rattle.peer_model.specs.Heard.{server}
use Rattle.peer_model.specs.Peers.{is_up}
use Rattle.peer_model.specs.Answer.{sends}
use Rattle.peer_model.specs.Bytes.{heard_of, out_of}
use Rattle.peer_laws.specs.Built.{Accepts, AllAccepted}
use Rattle.peer_laws.proofs.Filters.{filter_all}
use Rattle.peer_laws.proofs.Numbers.{int_comm, int_is, int_same}
use Rattle.peer_laws.proofs.Ups.{up_is_direct}
use Rattle.peer_laws.proofs.Ways.{none_by_link}
use Rattle.headless_tree.proofs.Numbered.{unnot}
use Rattle.headless_tree.proofs.Order.{all_weaker}
use Rattle.peer_core.specs.Forms.{packet_form}
use Rattle.world_model.specs.World.{Parcel, Way, Came, World, peer_of, next_client, is_reliable, bytes_of, way_bytes, bytes_in_flight, most_in_flight}
use Rattle.world_model.specs.Happens.{packets_in, parcel_of, parcels_made, on_link, way_with, fed, with_client, after_next, at_way, answer_at}
use Rattle.world_steps.specs.Steps.{packet_bytes, put_with}
use Rattle.world_steps.proofs.Numbers.{is_once}
use Rattle.world_steps.proofs.Runs.{heard_at, packets_are}

-- sums

-- a sum of sums
sum_both : {X : Type 0} (f g : X → ℕ) (xs : List X) → sum_by (λ x. f x + g x) xs ≡ sum_by f xs + sum_by g xs
sum_both f g [] = refl
sum_both f g (x ∷ xs) = omega (arith, sum_by-cons (λ y. f y + g y) x xs, sum_by-cons f x xs, sum_by-cons g x xs, sum_both f g xs)

sum_same : {X : Type 0} (f g : X → ℕ) → ((x : X) → f x ≡ g x) → (xs : List X) → sum_by f xs ≡ sum_by g xs
sum_same f g h [] = refl
sum_same f g h (x ∷ xs) = omega (arith, sum_by-cons f x xs, sum_by-cons g x xs, h x, sum_same f g h xs)

-- the same for what is asked of each number in the list alone
sum_among : (f g : ℤ → ℕ) (ps : List ℤ) → ((p : ℤ) → has_int p ps ≡ true → f p ≡ g p) → sum_by f ps ≡ sum_by g ps
sum_among f g [] h = refl
sum_among f g (p ∷ ps) h = omega (arith, sum_by-cons f p ps, sum_by-cons g p ps, h p (ap (λ t. t || has_int p ps) (int_same p)), sum_among f g ps (λ q k. h q (ap (λ t. int_eq q p || t) k ∙ or_true (int_eq q p))))
  where
    or_true : (t : Bool) → (t || true) ≡ true
    or_true true = refl
    or_true false = refl

sum_zero : {X : Type 0} (xs : List X) → sum_by (λ x. 0) xs ≡ 0
sum_zero [] = refl
sum_zero (x ∷ xs) = omega (arith, sum_by-cons (λ y. 0) x xs, sum_zero xs)

-- what one of some numbers that differ counts for
abbrev counted : ℤ → ℕ → ℤ → ℕ
counted q n p = if int_eq q p then n else 0

none_counted : (q : ℤ) (n : ℕ) (ps : List ℤ) → has_int q ps ≡ false → sum_by (counted q n) ps ≡ 0
none_counted q n [] h = refl
none_counted q n (p ∷ ps) h =
    let parts = or_parts (int_eq q p) (has_int q ps) h in
    let none : counted q n p ≡ 0 = ap (λ t. if t then n else 0) parts.0 in
    omega (arith, sum_by-cons (counted q n) p ps, none, none_counted q n ps parts.1)

one_counted : (q : ℤ) (n : ℕ) (ps : List ℤ) → is_once ps ≡ true → has_int q ps ≡ true → sum_by (counted q n) ps ≡ n
one_counted q n [] once h = absurd (cc h)
one_counted q n (p ∷ ps) once h = step (int_eq q p) refl h (one_counted q n ps parts.1)
  where
    parts : (not (has_int p ps) ≡ true) × (is_once ps ≡ true)
    parts = and_parts (not (has_int p ps)) (is_once ps) once

    step : (t : Bool) → int_eq q p ≡ t → (t || has_int q ps) ≡ true → (has_int q ps ≡ true → sum_by (counted q n) ps ≡ n) → sum_by (counted q n) (p ∷ ps) ≡ n
    step true e k more =
        let one : counted q n p ≡ n = ap (λ t. if t then n else 0) e in
        let later : has_int q ps ≡ false = ap (λ x. has_int x ps) (int_is q p e) ∙ unnot (has_int p ps) parts.0 in
        omega (arith, sum_by-cons (counted q n) p ps, one, none_counted q n ps later)
    step false e k more =
        let none : counted q n p ≡ 0 = ap (λ t. if t then n else 0) e in
        omega (arith, sum_by-cons (counted q n) p ps, none, more k)

-- packets on links

-- the bytes of the packets for one link
abbrev bytes_to : ℤ → List Out → ℕ
bytes_to p xs = packet_bytes (filter (λ (x : Out). int_eq x.link p) xs)

to_cons : (p : ℤ) (x : Out) (xs : List Out) → bytes_to p (x ∷ xs) ≡ counted x.link (length x.bytes) p + bytes_to p xs
to_cons p x xs = step (int_eq x.link p)
  where
    rest : List Out
    rest = filter (λ (y : Out). int_eq y.link p) xs

    step : (t : Bool) → packet_bytes (cond t (x ∷ rest) rest) ≡ (if t then length x.bytes else 0) + packet_bytes rest
    step true = sum_by-cons (λ (y : Out). length y.bytes) x rest
    step false = omega arith

-- all packets, link by link
all_links : (ps : List ℤ) → is_once ps ≡ true → (xs : List Out) → list_all (λ (x : Out). has_int x.link ps) xs ≡ true → sum_by (λ p. bytes_to p xs) ps ≡ packet_bytes xs
all_links ps once [] h = sum_zero ps
all_links ps once (x ∷ xs) h =
    let parts = and_parts (has_int x.link ps) (list_all (λ (y : Out). has_int y.link ps) xs) h in
    let here = one_counted x.link (length x.bytes) ps once parts.0 in
    let more = all_links ps once xs parts.1 in
    let split = sum_same (λ p. bytes_to p (x ∷ xs)) (λ p. counted x.link (length x.bytes) p + bytes_to p xs) (λ p. to_cons p x xs) ps in
    let both = sum_both (counted x.link (length x.bytes)) (λ p. bytes_to p xs) ps in
    omega (arith, split, both, here, more, sum_by-cons (λ (y : Out). length y.bytes) x xs)

-- the parcels of packets for a link, in either class
classes_of : (p : ℤ) (c : Came) (b : ℤ) (xs : List Out) → bytes_of (on_link b true (map (parcel_of packet_form p c) xs)) + bytes_of (on_link b false (map (parcel_of packet_form p c) xs)) ≡ bytes_to b xs
classes_of p c b [] = refl
classes_of p c b (x ∷ xs) = step (int_eq x.link b) (is_reliable x.class) (classes_of p c b xs)
  where
    q : Parcel
    q = parcel_of packet_form p c x

    reliable : List Parcel
    reliable = on_link b true (map (parcel_of packet_form p c) xs)

    loose : List Parcel
    loose = on_link b false (map (parcel_of packet_form p c) xs)

    rest : List Out
    rest = filter (λ (y : Out). int_eq y.link b) xs

    step : (t u : Bool) → bytes_of reliable + bytes_of loose ≡ packet_bytes rest → bytes_of (cond (t && u) (q ∷ reliable) reliable) + bytes_of (cond (t && not u) (q ∷ loose) loose) ≡ packet_bytes (cond t (x ∷ rest) rest)
    step true true more = omega (arith, more, sum_by-cons (λ (z : Parcel). length z.out.bytes) q reliable, sum_by-cons (λ (y : Out). length y.bytes) x rest)
    step true false more = omega (arith, more, sum_by-cons (λ (z : Parcel). length z.out.bytes) q loose, sum_by-cons (λ (y : Out). length y.bytes) x rest)
    step false u more = more

-- so with a way on which they are put
way_more : (p : ℤ) (c : Came) (b : ℤ) (y : Way) (xs : List Out) → way_bytes (way_with y b (map (parcel_of packet_form p c) xs)) ≡ way_bytes y + bytes_to b xs
way_more p c b y xs =
    let ps = map (parcel_of packet_form p c) xs in
    omega (arith, sum_by-append (λ (q : Parcel). length q.out.bytes) y.sent (on_link b true ps), sum_by-append (λ (q : Parcel). length q.out.bytes) y.loose (on_link b false ps), classes_of p c b xs)

-- worlds

-- What is known of the clients that ever came: no number stands twice, and none is the server's.
pub record Distinct (w : World) : Type 0 where
  pub once : is_once w.come ≡ true
  pub others : has_int server w.come ≡ false

pub no_server : (w : World) → Distinct w → (p : ℤ) → has_int p w.come ≡ true → int_eq p server ≡ false
no_server w d p h = step (int_eq p server) refl
  where
    step : (t : Bool) → int_eq p server ≡ t → t ≡ false
    step true e = absurd (true≢false (sym h ∙ ap (λ q. has_int q w.come) (int_is p server e) ∙ d.others))
    step false e = refl

-- the server took an event, and its packets are for clients that came
pub server_flies : (s : Scene) (w : World) (c : Came) → Distinct w → list_all (λ (x : Out). has_int x.link w.come) (packets_in (answer_at packet_form s w server c.event)) ≡ true
    → bytes_in_flight (fed packet_form s w server c) ≡ bytes_in_flight w + packet_bytes (packets_in (answer_at packet_form s w server c.event))
server_flies s w c d links =
    let split = sum_among (λ p. way_bytes (x.way server p) + way_bytes (x.way p server)) (λ p. (way_bytes (w.way server p) + way_bytes (w.way p server)) + bytes_to p xs) w.come each in
    let both = sum_both (λ p. way_bytes (w.way server p) + way_bytes (w.way p server)) (λ p. bytes_to p xs) w.come in
    let all = all_links w.come d.once xs links in
    omega (arith, split, both, all)
  where
    x : World
    x = fed packet_form s w server c

    xs : List Out
    xs = packets_in (answer_at packet_form s w server c.event)

    each : (p : ℤ) → has_int p w.come ≡ true → way_bytes (x.way server p) + way_bytes (x.way p server) ≡ (way_bytes (w.way server p) + way_bytes (w.way p server)) + bytes_to p xs
    each p h =
        let back : way_bytes (x.way p server) ≡ way_bytes (w.way p server) = ap (λ t. way_bytes (if t then way_with (w.way p server) server (parcels_made packet_form s w server c) else w.way p server)) (no_server w d p h) in
        let there : way_bytes (x.way server p) ≡ way_bytes (w.way server p) + bytes_to p xs = way_more server c p (w.way server p) xs in
        omega (arith, back, there)

-- a client took one, and its packets are for the server
pub client_flies : (s : Scene) (w : World) (p : ℤ) (c : Came) → Distinct w → has_int p w.come ≡ true → list_all (λ (x : Out). int_eq x.link server) (packets_in (answer_at packet_form s w p c.event)) ≡ true
    → bytes_in_flight (fed packet_form s w p c) ≡ bytes_in_flight w + packet_bytes (packets_in (answer_at packet_form s w p c.event))
client_flies s w p c d there links =
    let split = sum_among (λ q. way_bytes (x.way server q) + way_bytes (x.way q server)) (λ q. (way_bytes (w.way server q) + way_bytes (w.way q server)) + counted p (bytes_to server xs) q) w.come (λ q h. each q (int_eq q p) refl) in
    let both = sum_both (λ q. way_bytes (w.way server q) + way_bytes (w.way q server)) (counted p (bytes_to server xs)) w.come in
    let one = one_counted p (bytes_to server xs) w.come d.once there in
    let all = all_to in
    omega (arith, split, both, one, all)
  where
    x : World
    x = fed packet_form s w p c

    xs : List Out
    xs = packets_in (answer_at packet_form s w p c.event)

    far : int_eq server p ≡ false
    far = int_comm server p ∙ no_server w d p there

    all_to : bytes_to server xs ≡ packet_bytes xs
    all_to = ap packet_bytes (filter_all (λ (y : Out). int_eq y.link server) xs links)

    down : (q : ℤ) → way_bytes (x.way server q) ≡ way_bytes (w.way server q)
    down q = ap (λ t. way_bytes (if t then way_with (w.way server q) q (parcels_made packet_form s w p c) else w.way server q)) far

    each : (q : ℤ) (t : Bool) → int_eq q p ≡ t
        → way_bytes (x.way server q) + way_bytes (if t then way_with (w.way q server) server (parcels_made packet_form s w p c) else w.way q server)
        ≡ (way_bytes (w.way server q) + way_bytes (w.way q server)) + counted p (bytes_to server xs) q
    each q true e =
        let mine : counted p (bytes_to server xs) q ≡ bytes_to server xs = ap (λ t. if t then bytes_to server xs else 0) (int_comm p q ∙ e) in
        omega (arith, down q, way_more p c server (w.way q server) xs, mine)
    each q false e =
        let none : counted p (bytes_to server xs) q ≡ 0 = ap (λ t. if t then bytes_to server xs else 0) (int_comm p q ∙ e) in
        omega (arith, down q, none)

-- a delivery moves nothing
pub moved_flies : (w : World) (a b : ℤ) → bytes_in_flight (at_way w a b after_next) ≡ bytes_in_flight w
moved_flies w a b = sum_same (λ p. way_bytes (x.way server p) + way_bytes (x.way p server)) (λ p. way_bytes (w.way server p) + way_bytes (w.way p server)) (λ p. ap₂ (λ n m. n + m) (same server p) (same p server)) w.come
  where
    x : World
    x = at_way w a b after_next

    same : (y z : ℤ) → way_bytes (x.way y z) ≡ way_bytes (w.way y z)
    same y z = step (int_eq y a && int_eq z b)
      where
        step : (t : Bool) → way_bytes (if t then after_next (w.way y z) else w.way y z) ≡ way_bytes (w.way y z)
        step true = refl
        step false = refl

pub empty_way : (y : Way) → y.sent ≡ [] → y.loose ≡ [] → way_bytes y ≡ 0
empty_way y sent loose = ap₂ (λ ps qs. bytes_of ps + bytes_of qs) sent loose

-- nothing is on the link of a client that is new
pub joined_flies : (w : World) → way_bytes (w.way server (next_client w)) ≡ 0 → way_bytes (w.way (next_client w) server) ≡ 0 → bytes_in_flight (with_client w) ≡ bytes_in_flight w
joined_flies w down up = omega (arith, sum_by-cons (λ p. way_bytes (w.way server p) + way_bytes (w.way p server)) (next_client w) w.come, down, up)

-- links of packets

-- each packet is for a link that passes, where there are none for others
links_pass : (f : ℤ → Bool) (xs : List Out) → ((b : ℤ) → f b ≡ false → filter (λ (x : Out). int_eq x.link b) xs ≡ []) → list_all (λ (x : Out). f x.link) xs ≡ true
links_pass f [] h = refl
links_pass f (x ∷ xs) h = and_from (f x.link) (list_all (λ (y : Out). f y.link) xs) (first (f x.link) refl) (links_pass f xs (λ b k. later b (int_eq x.link b) (h b k)))
  where
    rest : ℤ → List Out
    rest b = filter (λ (y : Out). int_eq y.link b) xs

    first : (t : Bool) → f x.link ≡ t → t ≡ true
    first true e = refl
    first false e = let none = sym (ap (λ t. cond t (x ∷ rest x.link) (rest x.link)) (int_same x.link)) ∙ h x.link e in absurd (cc none)

    later : (b : ℤ) (t : Bool) → cond t (x ∷ rest b) (rest b) ≡ [] → rest b ≡ []
    later b true k = absurd (cc k)
    later b false k = k

-- the packets of an event that is accepted are for peers that are up
pub up_links : (s : Scene) (w : World) (p : ℤ) (c : Came) → AllAccepted (peer_of s p) (heard_at w p) → Accepts (peer_of s p) (heard_at w p) (heard_of packet_form c.event)
    → list_all (λ (x : Out). is_up (heard_of packet_form c.event ∷ heard_at w p) x.link) (packets_in (answer_at packet_form s w p c.event)) ≡ true
up_links s w p c all a =
    let e = heard_of packet_form c.event in
    let es = heard_at w p in
    ap (list_all (λ (x : Out). is_up (e ∷ es) x.link)) (packets_are s w p c.event all a)
    ∙ links_pass (is_up (e ∷ es)) (map (out_of packet_form) (sends (peer_of s p) e es)) (λ b down. none_by_link packet_form (peer_of s p) e es (a, all) b down)

-- at a client that is the server
pub client_links : (s : Scene) (w : World) (p : ℤ) (c : Came) → int_eq p server ≡ false → AllAccepted (peer_of s p) (heard_at w p) → Accepts (peer_of s p) (heard_at w p) (heard_of packet_form c.event)
    → list_all (λ (x : Out). int_eq x.link server) (packets_in (answer_at packet_form s w p c.event)) ≡ true
client_links s w p c client all a = all_weaker (λ (x : Out). is_up (heard_of packet_form c.event ∷ heard_at w p) x.link) (λ (x : Out). int_eq x.link server)
    (λ x up. sym (ap (λ t. t || int_eq x.link server) client) ∙ up_is_direct (peer_of s p) (heard_of packet_form c.event ∷ heard_at w p) (a, all) x.link up)
    (packets_in (answer_at packet_form s w p c.event)) (up_links s w p c all a)

-- counts

pub over_is : (n : ℕ) → nat_lt most_in_flight (min n (most_in_flight + 1)) ≡ not (nat_le n most_in_flight)
over_is n = step (nat_le n most_in_flight) refl
  where
    step : (t : Bool) → nat_le n most_in_flight ≡ t → nat_lt most_in_flight (min n (most_in_flight + 1)) ≡ not t
    step true e = let low = leb-true n most_in_flight e in le-ltb most_in_flight (min n (most_in_flight + 1)) (omega (arith, low))
    step false e = let high = leb-false n most_in_flight e in lt-ltb most_in_flight (min n (most_in_flight + 1)) (omega (arith, high))

pub under_is : (n : ℕ) → nat_le n most_in_flight ≡ true → min n (most_in_flight + 1) ≡ n
under_is n h = let low = leb-true n most_in_flight h in omega (arith, low)

-- a count of bytes ever put in flight
abbrev pub Counts : ℕ → ℕ → Type 0
Counts put n = put ≡ min n (most_in_flight + 1)

-- more is put
pub put_more : (put n : ℕ) (xs : List Out) → Counts put n → Counts (put_with put xs) (n + packet_bytes xs)
put_more put n xs is = step (nat_lt most_in_flight put) refl
  where
    step : (t : Bool) → nat_lt most_in_flight put ≡ t → (if t then put else min (put + packet_bytes xs) (most_in_flight + 1)) ≡ min (n + packet_bytes xs) (most_in_flight + 1)
    step true e = let high = ltb-true most_in_flight put e in omega (arith, high, is)
    step false e = let low = ltb-false most_in_flight put e in omega (arith, low, is)

-- nothing more is put
pub put_nothing : (put : ℕ) → put_with put [] ≡ put
put_nothing put = step (nat_lt most_in_flight put) refl
  where
    step : (t : Bool) → nat_lt most_in_flight put ≡ t → (if t then put else min (put + 0) (most_in_flight + 1)) ≡ put
    step true e = refl
    step false e = let low = ltb-false most_in_flight put e in omega (arith, low)
