-- Clients by their numbers and their places.
use Rattle.std.proofs.Common.{◌≡◌, ℕ, zero, suc, ℤ, Bool, true, false, cond, not, ◌&&◌, ◌||◌, List, [], ◌∷◌, length, map, filter, reverse, refl, sym, ap, ◌∙◌, subst, arith, nat_eq, is_some, Option, Some, None}
use Rattle.std.specs.Prelude.{slice_get, option_map, nat_lt, if◌then◌else◌}
use Rattle.std.specs.List.{slice_set}
use Rattle.std.specs.Ordering.{int_eq}
use Rattle.std.proofs.lemmas.Bool.{and_parts, or_parts}
use Rattle.std.proofs.lemmas.Bool.Decides.{nat_tests}
use Rattle.std.proofs.lemmas.List.{length-map}
use Rattle.gd_variant.specs.Words.{has_int}
use Rattle.scene_model.specs.declared.outcome.Out.{Out}
use Rattle.peer_model.specs.Heard.{server}
use Rattle.peer_laws.proofs.Numbers.{int_is, int_comm}
use Rattle.headless_tree.proofs.Numbered.{unnot}
use Rattle.world_model.specs.World.{World, is_in, clients, next_client}
use Rattle.world_steps.specs.Steps.{Parts, Client, place_of, has_peer, with_packets}
use Rattle.world_steps.proofs.Links.{some_same}
use Rattle.world_steps.proofs.Numbers.{has_left, has_number_to, has_reversed, is_once, length-reversed, numbers_once, once_kept, once_reversed, server_outside}
use Rattle.world_steps.proofs.Runs.{Members}

abbrev pub number_in : Client → ℤ
number_in c = c.number

-- The client with a number.
pub record ClientAt (cs : List Client) (p : ℤ) (i : ℕ) : Type 0 where
  pub client : Client
  pub there : slice_get cs i ≡ Some client
  pub is : client.number ≡ p

pub client_there : (cs : List Client) (p : ℤ) (i : ℕ) → place_of p cs ≡ Some i → ClientAt cs p i
client_there [] p i h = absurd (cc h)
client_there (c ∷ cs) p i h = step (int_eq c.number p) refl (client_there cs p) h
  where
    later : (o : Option ℕ) → place_of p cs ≡ o → ((j : ℕ) → place_of p cs ≡ Some j → ClientAt cs p j) → option_map suc o ≡ Some i → ClientAt (c ∷ cs) p i
    later None e more k = absurd (cc k)
    later (Some j) e more k =
        let t = more j e in
        subst (ClientAt (c ∷ cs) p) (some_same (suc j) i k) (record { client = t.client; there = t.there; is = t.is })

    step : (t : Bool) → int_eq c.number p ≡ t → ((j : ℕ) → place_of p cs ≡ Some j → ClientAt cs p j) → (if t then Some 0 else option_map suc (place_of p cs)) ≡ Some i → ClientAt (c ∷ cs) p i
    step true e more k = subst (ClientAt (c ∷ cs) p) (some_same 0 i k) (record { client = c; there = refl; is = int_is c.number p e })
    step false e more k = later (place_of p cs) refl more k

-- a number has a place where it is one of the numbers
pub has_place : (cs : List Client) (p : ℤ) → is_some (place_of p cs) ≡ has_int p (map number_in cs)
has_place [] p = refl
has_place (c ∷ cs) p = ap (λ t. is_some (if t then Some 0 else option_map suc (place_of p cs))) (int_comm c.number p) ∙ step (int_eq p c.number) (has_place cs p)
  where
    mapped : (o : Option ℕ) → is_some (option_map suc o) ≡ is_some o
    mapped None = refl
    mapped (Some i) = refl

    step : (t : Bool) → is_some (place_of p cs) ≡ has_int p (map number_in cs) → is_some (if t then Some 0 else option_map suc (place_of p cs)) ≡ (t || has_int p (map number_in cs))
    step true more = refl
    step false more = mapped (place_of p cs) ∙ more

-- a peer is there where the world has it
pub there_is : (v : Parts) (w : World) (p : ℤ) → map number_in v.clients ≡ reverse (clients w) → has_peer v p ≡ is_in w p
there_is v w p numbers = ap (λ b. int_eq p server || b) (has_place v.clients p ∙ ap (has_int p) numbers ∙ has_reversed p (clients w) ∙ has_left p w.gone w.come)

pub as_many : (w : World) (cs : List Client) → map number_in cs ≡ reverse (clients w) → length cs ≡ length (clients w)
as_many w cs numbers = sym (length-map cs number_in) ∙ ap (λ xs. length xs) numbers ∙ length-reversed (clients w)

-- the numbers of clients, as they change

pub numbers_with : (packets : List Out) (cs : List Client) → map number_in (with_packets packets cs) ≡ map number_in cs
numbers_with packets [] = refl
numbers_with packets (c ∷ cs) = ap (λ ns. c.number ∷ ns) (numbers_with packets cs)

pub numbers_set : (cs : List Client) (i : ℕ) (c d : Client) → slice_get cs i ≡ Some c → d.number ≡ c.number → map number_in (slice_set cs i d) ≡ map number_in cs
numbers_set [] i c d at is = refl
numbers_set (x ∷ cs) zero c d at is = let same : x ≡ c = cc in ap (λ n. n ∷ map number_in cs) (is ∙ ap number_in (sym same))
numbers_set (x ∷ cs) (suc i) c d at is = ap (λ ns. x.number ∷ ns) (numbers_set cs i c d at is)

pub numbers_left : (p : ℤ) (cs : List Client) → map number_in (filter (λ (c : Client). not (int_eq c.number p)) cs) ≡ filter (λ n. not (int_eq n p)) (map number_in cs)
numbers_left p [] = refl
numbers_left p (c ∷ cs) = step (not (int_eq c.number p)) (numbers_left p cs)
  where
    rest : List Client
    rest = filter (λ (d : Client). not (int_eq d.number p)) cs

    step : (t : Bool) → map number_in rest ≡ filter (λ n. not (int_eq n p)) (map number_in cs) → map number_in (cond t (c ∷ rest) rest) ≡ cond t (c.number ∷ filter (λ n. not (int_eq n p)) (map number_in cs)) (filter (λ n. not (int_eq n p)) (map number_in cs))
    step true more = ap (λ ns. c.number ∷ ns) more
    step false more = more

-- numbers at places

-- a number that no client has
pub outside_at : (p : ℤ) (cs : List Client) (i : ℕ) (c : Client) → has_int p (map number_in cs) ≡ false → slice_get cs i ≡ Some c → int_eq p c.number ≡ false
outside_at p [] i c h at = absurd (cc at)
outside_at p (d ∷ cs) zero c h at = ap (λ (x : Client). int_eq p x.number) (sym (some_same d c at)) ∙ (or_parts (int_eq p d.number) (has_int p (map number_in cs)) h).0
outside_at p (d ∷ cs) (suc i) c h at = outside_at p cs i c (or_parts (int_eq p d.number) (has_int p (map number_in cs)) h).1 at

-- where none stands twice, those at two places differ
pub apart_at : (cs : List Client) (i j : ℕ) (c d : Client) → is_once (map number_in cs) ≡ true → slice_get cs i ≡ Some c → slice_get cs j ≡ Some d → nat_eq i j ≡ false → int_eq c.number d.number ≡ false
apart_at [] i j c d h at there n = absurd (cc at)
apart_at (x ∷ cs) zero zero c d h at there n = absurd (cc n)
apart_at (x ∷ cs) zero (suc j) c d h at there n =
    ap (λ (y : Client). int_eq y.number d.number) (sym (some_same x c at)) ∙ outside_at x.number cs j d (unnot (has_int x.number (map number_in cs)) (and_parts (not (has_int x.number (map number_in cs))) (is_once (map number_in cs)) h).0) there
apart_at (x ∷ cs) (suc i) zero c d h at there n =
    ap (λ (y : Client). int_eq c.number y.number) (sym (some_same x d there)) ∙ int_comm c.number x.number ∙ outside_at x.number cs i c (unnot (has_int x.number (map number_in cs)) (and_parts (not (has_int x.number (map number_in cs))) (is_once (map number_in cs)) h).0) at
apart_at (x ∷ cs) (suc i) (suc j) c d h at there n = apart_at cs i j c d (and_parts (not (has_int x.number (map number_in cs))) (is_once (map number_in cs)) h).1 at there (grind (arith, nat_tests, n))

-- of clients of a world, none is the server, and none stands twice

pub server_outside_of : (w : World) (cs : List Client) → Members w → map number_in cs ≡ reverse (clients w) → has_int server (map number_in cs) ≡ false
server_outside_of w cs m numbers = ap (has_int server) numbers ∙ has_reversed server (clients w) ∙ has_left server w.gone w.come ∙ ap (λ t. t && not (has_int server w.gone)) (ap (has_int server) m.numbers ∙ server_outside (length w.come))

pub all_once : (w : World) (cs : List Client) → Members w → map number_in cs ≡ reverse (clients w) → is_once (map number_in cs) ≡ true
all_once w cs m numbers = ap is_once numbers ∙ once_reversed (clients w) (once_kept (λ p. not (has_int p w.gone)) w.come (ap is_once m.numbers ∙ numbers_once (length w.come)))

-- the next number is none of theirs
pub next_outside : (w : World) (cs : List Client) → Members w → map number_in cs ≡ reverse (clients w) → has_int (next_client w) (map number_in cs) ≡ false
next_outside w cs m numbers =
    let n = length w.come in
    let below : nat_lt n n ≡ false = grind (arith, nat_tests) in
    ap (has_int (next_client w)) numbers ∙ has_reversed (next_client w) (clients w) ∙ has_left (next_client w) w.gone w.come ∙ ap (λ t. t && not (has_int (next_client w) w.gone)) (ap (has_int (next_client w)) m.numbers ∙ has_number_to n n ∙ below)
