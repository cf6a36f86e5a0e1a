-- From what the code of a step says of its parts to what the step makes.
use Rattle.std.proofs.Common.{◌≡◌, ℕ, ◌+◌, ◌++◌, ◌<◌, is_some, ℤ, pos, List, length, subst, [], ◌∷◌, refl, sym, ap, ap₂, ◌∙◌, Option, Some, None, Result, Ok, Err}
use Rattle.std.specs.Prelude.{IfOk, OnOk, MatchOption, slice_get, slice_index_or, ◌&&◌, ◌||◌, not, if◌then◌else◌, true, false, Bool}
use Rattle.std.specs.List.{slice_set}
use Rattle.std.specs.Ordering.{int_eq}
use Rattle.scene_model.specs.declared.scene.Scene.{Scene}
use Rattle.scene_model.specs.declared.event.Event.{Event}
use Rattle.scene_model.specs.declared.event.Event.TheVariants as event
use Rattle.scene_model.specs.declared.event.Op.{Op as Operation}
use Rattle.scene_model.specs.declared.outcome.Outcome.{Outcome}
use Rattle.scene_model.specs.declared.outcome.Out.{Out}
use Rattle.scene_model.specs.declared.world.WorldOutcome.{WorldOutcome}
use Rattle.scene_model.specs.declared.world.WorldOutcome.TheVariants as answers
use Rattle.scene_model.specs.declared.world.WorldNo.TheVariants as refusal
use Rattle.peer_model.specs.Heard.{server}
use Rattle.peer_steps.specs.Kept.{Kept, new_peer}
use Rattle.peer_steps.specs.Steps.{Taken, taken, is_done}
use Rattle.peer_core.specs.Forms.{packet_form}
use Rattle.world_model.specs.Happens.{packets_in}
use Rattle.world_model.specs.Answers.{effects_in, has_no_link, peer_answer, step_of}
use Rattle.world_steps.specs.Steps.{Client, Parts, Made, live_parts, place_of, has_peer, new_client, put_with, waiting_with, with_packets, left_after, with_client, unchanged, is_full, number_after, connect_as, connect_made, connect_with, server_made, down_with, client_made, client_does, does_at, op_made, deliver_down, deliver_up, delivers_of, delivers_at, rel_made, IsTaken}
use Rattle.world_steps.proofs.Links.{some_same}
use Rattle.world_steps.proofs.Lists.{set_same}
use Rattle.world_steps.proofs.Places.{client_there}
use Rattle.world_steps.proofs.Keeping.{took}
use Rattle.world_steps.proofs.Calls.{nothing_put}
use Rattle.mp_world.proofs.Puts.{got_at}

pub on_ok : {T E : Type 0} (r : Result T E) (P : Type 0) → P → OnOk r P
on_ok (Ok x) P h = h
on_ok (Err e) P h = tt

-- an outcome that isn't done sends nothing
pub sends_nothing : (cs : List Client) (o : Outcome) → packets_in o ≡ [] → cs ≡ with_packets (packets_in o) cs
sends_nothing cs o none = sym (ap (λ ps. with_packets ps cs) none ∙ nothing_put cs)

-- a client that took an event
pub client_took : (c : Client) (n : ℤ) (j k : Kept) (d u xs : List Out) (e : Event) (o : Outcome) → record { number = n; kept = j; down = d; up = u } ≡ c → record { outcome = o; kept = k } ≡ taken packet_form j e → xs ≡ waiting_with u (packets_in o) server
    → record { number = n; kept = k; down = d; up = xs } ≡ took c e
client_took c n j k d u xs e o is step sent =
    ap (λ ys. record { number = n; kept = k; down = d; up = ys }) sent
    ∙ ap (λ (t : Taken). record { number = n; kept = t.kept; down = d; up = waiting_with u (packets_in t.outcome) server }) step
    ∙ ap (λ (x : Client). took x e) is

-- what was made, by another name of it
pub made_as : {E : Type 0} (r : Result WorldOutcome E) (v : Parts) (m n : Made) → m ≡ n → IfOk r (λ o. record { outcome = o; parts = v } ≡ m) → IfOk r (λ o. record { outcome = o; parts = v } ≡ n)
made_as r v m n is h = subst (λ x. IfOk r (λ o. record { outcome = o; parts = v } ≡ x)) is h

-- the same with one count of clients for another
pub counted_as : {E : Type 0} (r : Result WorldOutcome E) (k : Kept) (n m put : ℕ) (cs : List Client) (x : Made) → n ≡ m → IfOk r (λ o. record { outcome = o; parts = live_parts k m put cs } ≡ x) → IfOk r (λ o. record { outcome = o; parts = live_parts k n put cs } ≡ x)
counted_as r k n m put cs x is h = subst (λ j. IfOk r (λ o. record { outcome = o; parts = live_parts k j put cs } ≡ x)) (sym is) h

-- where there is room, the next client connects
pub there_is_room : (v : Parts) (id : ℤ) → is_full v.come v.clients ≡ false → id ≡ pos (number_after v.come) → connect_as v id ≡ connect_made v
there_is_room v id room is = ap (connect_as v) is ∙ sym (ap (λ t. if t then unchanged v (answers.Refused refusal.PeersFull) else connect_as v (pos (number_after v.come))) room)

-- what a client that took an event sends is counted
abbrev pub put_by : ℕ → Client → Event → ℕ
put_by put c e = put_with put (packets_in (taken packet_form c.kept e).outcome)

-- an operation of a client that is there
pub does_there : {E : Type 0} (r : Result WorldOutcome E) (v : Parts) (p : ℤ) (op : Operation) (i n : ℕ) (c d : Client) → place_of p v.clients ≡ Some i → i < length v.clients → c ≡ slice_index_or v.clients i c
    → OnOk r (d ≡ took c (event.Op op)) → OnOk r (n ≡ put_by v.put c (event.Op op)) → IfOk r (λ o. o ≡ peer_answer c.number (taken packet_form c.kept (event.Op op)).outcome)
    → IfOk r (λ o. record { outcome = o; parts = with_client (record v { put = n }) i d } ≡ does_at v op (place_of p v.clients))
does_there (Ok o) v p op i n c d e below at now put said =
    ap₂ (λ x f. record { outcome = x; parts = with_client (record v { put = n }) i f }) said now
    ∙ ap (λ m. record { outcome = peer_answer c.number (taken packet_form c.kept (event.Op op)).outcome; parts = with_client (record v { put = m }) i (took c (event.Op op)) }) put
    ∙ sym (ap (does_at v op) e ∙ ap (client_does v i op) (got_at v.clients i c below at))
does_there (Err x) v p op i n c d e below at now put said = tt

-- an operation of a peer that isn't the server
pub op_of_client : (v : Parts) (p : ℤ) (op : Operation) → int_eq p server ≡ false → does_at v op (place_of p v.clients) ≡ op_made v p op
op_of_client v p op other = sym (ap (λ b. if b then server_made v (event.Op op) else does_at v op (place_of p v.clients)) other)

pub op_of_nobody : (v : Parts) (p : ℤ) (op : Operation) → place_of p v.clients ≡ None → unchanged v (answers.Refused refusal.NoPeer) ≡ does_at v op (place_of p v.clients)
op_of_nobody v p op none = sym (ap (does_at v op) none)

-- no packet for a client
pub nothing_down : (v : Parts) (i put : ℕ) (c d : Client) → slice_get v.clients i ≡ Some c → v.put ≡ put → d ≡ c → c.down ≡ [] → record { outcome = answers.Refused refusal.NothingInFlight; parts = with_client (record v { put = put }) i d } ≡ deliver_down v i c c.down
nothing_down v i put c d at counted same none =
    ap₂ (λ n cs. unchanged (record v { put = n; clients = cs }) (answers.Refused refusal.NothingInFlight)) (sym counted) (ap (slice_set v.clients i) same ∙ set_same v.clients i c at)
    ∙ sym (ap (deliver_down v i c) none)

-- a packet as its receiver sees it
abbrev pub received : ℤ → Out → Event
received from x = event.Received from x.class x.bytes

-- the next packet for a client, which took it
pub taken_down : {E : Type 0} (r : Result WorldOutcome E) (v : Parts) (i put n : ℕ) (c d e : Client) (x : Out) (got : Event) → v.put ≡ put → c.down ≡ x ∷ d.down → d ≡ record c { down = d.down } → got ≡ received server x
    → OnOk r (e ≡ took d got) → OnOk r (n ≡ put_by put d got) → IfOk r (λ o. o ≡ peer_answer d.number (taken packet_form d.kept got).outcome) → IfOk r (λ o. record { outcome = o; parts = with_client (record v { put = n }) i e } ≡ deliver_down v i c c.down)
taken_down (Err z) v i put n c d e x got counted next rest is now more said = tt
taken_down (Ok o) v i put n c d e x got counted next rest is now more said =
    ap₂ (λ y f. record { outcome = y; parts = with_client (record v { put = n }) i f }) said now
    ∙ ap (λ m. record { outcome = peer_answer d.number (taken packet_form d.kept got).outcome; parts = with_client (record v { put = m }) i (took d got) }) (more ∙ ap (λ m. put_by m d got) (sym counted))
    ∙ ap (client_made v i d) is
    ∙ ap (λ z. client_made v i z (received server x)) rest
    ∙ sym (ap (deliver_down v i c) next)

-- the next packet for a client that is there
pub next_down_there : (v : Parts) (p : ℤ) (i : ℕ) (c : Client) → place_of p v.clients ≡ Some i → slice_get v.clients i ≡ Some c → deliver_down v i c c.down ≡ delivers_at v true (place_of p v.clients)
next_down_there v p i c e at = sym (ap (delivers_at v true) e ∙ ap (delivers_of v true i) at)

pub delivers_nowhere : (v : Parts) (is_down : Bool) (p : ℤ) → place_of p v.clients ≡ None → unchanged v (answers.Refused refusal.NoPeer) ≡ delivers_at v is_down (place_of p v.clients)
delivers_nowhere v is_down p none = sym (ap (delivers_at v is_down) none)

-- the next packet from a client, which the server took
pub up_there : {E : Type 0} (r : Result WorldOutcome E) (k s : Kept) (come put n : ℕ) (cs es : List Client) (i : ℕ) (c d : Client) (x : Out) (got : Event) → slice_get cs i ≡ Some c → c.up ≡ x ∷ d.up → d ≡ record c { up = d.up } → got ≡ received c.number x
    → OnOk r (s ≡ (taken packet_form k got).kept) → OnOk r (es ≡ with_packets (packets_in (taken packet_form k got).outcome) (slice_set cs i d)) → OnOk r (n ≡ put_with put (packets_in (taken packet_form k got).outcome)) → IfOk r (λ o. o ≡ peer_answer server (taken packet_form k got).outcome)
    → IfOk r (λ o. record { outcome = o; parts = live_parts s come n es } ≡ delivers_at (live_parts k come put cs) false (Some i))
up_there (Err z) k s come put n cs es i c d x got at next rest is kept clients more said = tt
up_there (Ok o) k s come put n cs es i c d x got at next rest is kept clients more said =
    ap₂ (λ y ds. record { outcome = y; parts = live_parts s come n ds }) said clients
    ∙ ap₂ (λ j m. record { outcome = peer_answer server (taken packet_form k got).outcome; parts = live_parts j come m (with_packets (packets_in (taken packet_form k got).outcome) (slice_set cs i d)) }) kept more
    ∙ ap (λ f. server_made (with_client (live_parts k come put cs) i f) got) rest
    ∙ ap made_of is
    ∙ sym (ap (delivers_of (live_parts k come put cs) false i) at ∙ ap (deliver_up (live_parts k come put cs) i c) next)
  where
    made_of : Event → Made
    made_of f = server_made (with_client (live_parts k come put cs) i (record c { up = d.up })) f

-- no packet from a client
pub nothing_up : (k : Kept) (come put : ℕ) (cs : List Client) (i : ℕ) (c d : Client) → slice_get cs i ≡ Some c → IsTaken c.up d.up None → d ≡ record c { up = d.up }
    → record { outcome = answers.Refused refusal.NothingInFlight; parts = live_parts k come put (slice_set cs i d) } ≡ delivers_at (live_parts k come put cs) false (Some i)
nothing_up k come put cs i c d at none rest =
    ap (λ ds. unchanged (live_parts k come put ds) (answers.Refused refusal.NothingInFlight)) (ap (slice_set cs i) (rest ∙ ap (λ us. record c { up = us }) (none.1 ∙ sym none.0)) ∙ set_same cs i c at)
    ∙ sym (ap (delivers_of (live_parts k come put cs) false i) at ∙ ap (deliver_up (live_parts k come put cs) i c) none.0)

-- a client that goes down

-- the server took its link down
pub went : {E : Type 0} (r : Result WorldOutcome E) (k s : Kept) (come put n : ℕ) (cs ds es : List Client) (p q : ℤ) (o : Outcome) → q ≡ p → record { outcome = o; kept = s } ≡ taken packet_form k (event.Down q) → n ≡ put_with put (packets_in o) → ds ≡ left_after (is_done o) p cs → es ≡ with_packets (packets_in o) ds
    → IfOk r (λ a. a ≡ peer_answer server o) → IfOk r (λ a. record { outcome = a; parts = live_parts s come n es } ≡ down_with (live_parts k come put cs) p (taken packet_form k (event.Down p)))
went (Err z) k s come put n cs ds es p q o same step count left sent said = tt
went (Ok a) k s come put n cs ds es p q o same step count left sent said =
    ap₂ (λ y zs. record { outcome = y; parts = live_parts s come n zs }) said (sent ∙ ap (with_packets (packets_in o)) left)
    ∙ ap (λ m. record { outcome = peer_answer server o; parts = live_parts s come m (with_packets (packets_in o) (left_after (is_done o) p cs)) }) count
    ∙ ap (down_with (live_parts k come put cs) p) (step ∙ ap (λ z. taken packet_form k (event.Down z)) same)

-- which packets can be delivered
abbrev rel_by : Parts → ℤ → ℤ → Bool → Bool → Bool → Made
rel_by v a b none unlinked from_server =
    if none then unchanged v (answers.Refused refusal.NoPeer)
    else if unlinked then unchanged v (answers.Refused refusal.NotLink)
    else if from_server then delivers_at v true (place_of b v.clients)
    else delivers_at v false (place_of a v.clients)

pub nobody_there : (v : Parts) (a b : ℤ) → not (has_peer v a && has_peer v b) ≡ true → unchanged v (answers.Refused refusal.NoPeer) ≡ rel_made v a b
nobody_there v a b h = sym (ap (λ x. rel_by v a b x (has_no_link a b) (int_eq a server)) h)

pub no_link_there : (v : Parts) (a b : ℤ) → not (has_peer v a && has_peer v b) ≡ false → has_no_link a b ≡ true → unchanged v (answers.Refused refusal.NotLink) ≡ rel_made v a b
no_link_there v a b h l = sym (ap₂ (λ x y. rel_by v a b x y (int_eq a server)) h l)

pub to_client : (v : Parts) (a b : ℤ) → not (has_peer v a && has_peer v b) ≡ false → has_no_link a b ≡ false → int_eq a server ≡ true → delivers_at v true (place_of b v.clients) ≡ rel_made v a b
to_client v a b h l f = sym (ap₂ (λ x y. rel_by v a b x y (int_eq a server)) h l ∙ ap (rel_by v a b false false) f)

pub to_server : (v : Parts) (a b : ℤ) → not (has_peer v a && has_peer v b) ≡ false → has_no_link a b ≡ false → int_eq a server ≡ false → delivers_at v false (place_of a v.clients) ≡ rel_made v a b
to_server v a b h l f = sym (ap₂ (λ x y. rel_by v a b x y (int_eq a server)) h l ∙ ap (rel_by v a b false false) f)

-- a flag that says the opposite
pub flag_false : (b x : Bool) → b ≡ not x → b ≡ false → x ≡ true
flag_false b true is h = refl
flag_false b false is h = sym (sym is ∙ h)

pub flag_true : (b x : Bool) → b ≡ not x → b ≡ true → x ≡ false
flag_true b true is h = sym h ∙ is
flag_true b false is h = refl

-- a peer that isn't the server is there where it is a client
pub there_by_place : (v : Parts) (p : ℤ) (o : Option ℕ) (b : Bool) → b ≡ is_some o → MatchOption o (place_of p v.clients ≡ None) (λ i. (place_of p v.clients ≡ Some i) × (i < length v.clients)) → int_eq p server ≡ false → b ≡ has_peer v p
there_by_place v p None b is h other = is ∙ sym (ap₂ (λ x y. x || is_some y) other h)
there_by_place v p (Some i) b is h other = is ∙ sym (ap₂ (λ x y. x || is_some y) other h.0)

-- a new client, by what its step made
pub new_client_is : (s : Scene) (n id : ℤ) (p k : Kept) (o : Outcome) (ds ss xs : List Out) → n ≡ id → p ≡ new_peer s id → record { outcome = o; kept = k } ≡ taken packet_form p (event.Up server) → ds ≡ [] → ss ≡ [] → xs ≡ waiting_with ss (packets_in o) server
    → record { number = n; kept = k; down = ds; up = xs } ≡ new_client id (taken packet_form (new_peer s id) (event.Up server)).kept (packets_in (taken packet_form (new_peer s id) (event.Up server)).outcome)
new_client_is s n id p k o ds ss xs named fresh step down start sent =
    ap (λ m. record { number = m; kept = k; down = ds; up = xs }) named
    ∙ ap₂ (λ ys zs. record { number = id; kept = k; down = ys; up = zs }) down (sent ∙ ap (λ ws. waiting_with ws (packets_in o) server) start)
    ∙ ap (λ (t : Taken). new_client id t.kept (packets_in t.outcome)) (step ∙ ap (λ q. taken packet_form q (event.Up server)) fresh)

-- what a new client does as the server's link comes up at it
abbrev pub met : Scene → ℤ → Taken
met s id = taken packet_form (new_peer s id) (event.Up server)

-- a link to a new client came up at both ends
pub connected : {E : Type 0} (r : Result WorldOutcome E) (k s : Kept) (come put n m : ℕ) (cs ds es : List Client) (w : Scene) (id seen : ℤ) (c : Client) (one two : Outcome) → seen ≡ id → w ≡ k.who.scene
    → c ≡ new_client id (met w id).kept (packets_in (met w id).outcome) → two ≡ (met w id).outcome → record { outcome = one; kept = s } ≡ taken packet_form k (event.Up seen)
    → n ≡ put_with put (packets_in one) → m ≡ put_with n (packets_in two) → ds ≡ cs ++ c ∷ [] → es ≡ with_packets (packets_in one) ds
    → IfOk r (λ a. a ≡ answers.Done (Some id) (step_of server (effects_in one) ∷ step_of id (effects_in two) ∷ []))
    → IfOk r (λ a. record { outcome = a; parts = live_parts s (come + 1) m es } ≡ connect_as (live_parts k come put cs) id)
connected (Err z) k s come put n m cs ds es w id seen c one two same scene is does step first second pushed sent said = tt
connected (Ok a) k s come put n m cs ds es w id seen c one two same scene is does step first second pushed sent said =
    ap₂ (λ y zs. record { outcome = y; parts = live_parts s (come + 1) m zs }) said (sent ∙ ap (with_packets (packets_in one)) pushed)
    ∙ ap (λ j. made_with j c two) (second ∙ ap (λ j. put_with j (packets_in two)) first)
    ∙ ap₂ (λ d o. made_with (put_with (put_with put (packets_in one)) (packets_in o)) d o) is does
    ∙ ap (λ z. connect_with (live_parts k come put cs) id (record { outcome = one; kept = s }) (met z id)) scene
    ∙ ap (λ t. connect_with (live_parts k come put cs) id t (met k.who.scene id)) (step ∙ ap (λ z. taken packet_form k (event.Up z)) same)
  where
    made_with : ℕ → Client → Outcome → Made
    made_with j d o = record { outcome = answers.Done (Some id) (step_of server (effects_in one) ∷ step_of id (effects_in o) ∷ []); parts = live_parts s (come + 1) j (with_packets (packets_in one) (cs ++ d ∷ [])) }

-- a packet from a client, by the number that was asked for
pub received_as : (e : Event) (p n : ℤ) (x : Out) → e ≡ received p x → n ≡ p → e ≡ received n x
received_as e p n x is same = is ∙ ap (λ m. received m x) (sym same)

-- the client at the place of a number has the number
pub number_at : (cs : List Client) (p : ℤ) (i : ℕ) (c : Client) → place_of p cs ≡ Some i → slice_get cs i ≡ Some c → c.number ≡ p
number_at cs p i c e at =
    let t = client_there cs p i e in
    let same : c ≡ t.client = some_same c t.client (sym at ∙ t.there) in
    ap (λ (d : Client). d.number) same ∙ t.is
