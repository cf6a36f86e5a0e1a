-- What a line of a session holds: texts that are texts, and values that are sound.
use Rattle.std.proofs.Common.{◌≡◌, ℕ, ◌≤◌, Bool, true, List, [], ◌∷◌, ◌++◌, Some, None, map, refl, sym, ap, ◌∙◌, subst, arith}
use Rattle.std.specs.Prelude.{ℤ, pos, negsuc, nat_le}
use Rattle.std.specs.List.{list_all}
use Rattle.std.specs.Str.{IsUtf8}
use Rattle.std.proofs.lemmas.Bool.{and_from, and_parts, le-leb, leb-true, false≢true}
use Rattle.std.specs.Int.{w32}
use Rattle.std.specs.Int.RustNames.{FitsSigned}
use Rattle.std.proofs.lemmas.List.{map-append}
use Rattle.std.proofs.lemmas.List.Folds.{list_all-append}
use Rattle.std.proofs.lemmas.Str.{is_utf8-from_IsUtf8}
use Rattle.gd_variant.specs.declared.value.Variant.{Variant}
use Rattle.gd_variant.specs.Text.{HasNoZero}
use Rattle.gd_variant.specs.Sound.{has_no_zero, is_text, is_sound}
use Rattle.scene_model.specs.declared.scene.Prop.{Prop}
use Rattle.scene_model.specs.declared.event.Op.TheVariants as op
use Rattle.line_text.specs.Held.{IsGiven, is_peer, is_place}

-- a text by its type
pub whole : (s t : List ℕ) → s ≡ t → HasNoZero s → IsUtf8 s → is_text t ≡ true
whole s t e zero utf8 = ap is_text (sym e) ∙ and_from (has_no_zero s) _ zero (is_utf8-from_IsUtf8 s utf8)

-- one element more that passes
pub all_on : {X Y : Type 0} (p : Y → Bool) (f : X → Y) (xs ys : List X) (x : X) → ys ≡ xs ++ x ∷ [] → p (f x) ≡ true → list_all p (map f xs) ≡ true → list_all p (map f ys) ≡ true
all_on p f xs ys x is one all =
    subst (λ zs. list_all p (map f zs) ≡ true) (sym is) (ap (list_all p) (map-append f xs (x ∷ [])) ∙ list_all-append p (map f xs) (f x ∷ []) ∙ and_from _ _ all (and_from _ _ one refl))

pub all_none : {X Y : Type 0} (p : Y → Bool) (f : X → Y) (xs : List X) → xs ≡ [] → list_all p (map f xs) ≡ true
all_none p f xs is = ap (λ ys. list_all p (map f ys)) is

pub set_given : (path prop : List ℕ) (v : Variant) → is_text path ≡ true → is_text prop ≡ true → is_sound v ≡ true → IsGiven (op.Set path prop v)
set_given path prop v a b sound = record {
  built = refl;
  texts = and_from (is_text path) _ a (and_from (is_text prop) _ b refl);
  values = and_from (is_sound v) _ sound refl;
  spawn = tt;
  peers = refl;
  places = refl;
}

pub custom_given : (spawner name : List ℕ) (sets : List Prop) (v : Variant) → sets ≡ [] → is_text spawner ≡ true → is_text name ≡ true → is_sound v ≡ true → IsGiven (op.Custom (record { spawner = spawner; scene = None; name = name; sets = sets; arg = Some v }))
custom_given spawner name sets v none a b sound = subst (λ ps. IsGiven (op.Custom (record { spawner = spawner; scene = None; name = name; sets = ps; arg = Some v }))) (sym none) (record {
  built = refl;
  texts = and_from (is_text spawner) _ a (and_from (is_text name) _ b refl);
  values = and_from (is_sound v) _ sound refl;
  spawn = (refl, refl, refl);
  peers = refl;
  places = refl;
})

pub despawn_given : (path : List ℕ) → is_text path ≡ true → IsGiven (op.Despawn path)
despawn_given path a = record { built = refl; texts = and_from (is_text path) _ a refl; values = refl; spawn = tt; peers = refl; places = refl }

pub public_given : (path : List ℕ) (k : ℕ) (on : Bool) → is_text path ≡ true → is_place k ≡ true → IsGiven (op.Public path k on)
public_given path k on a b = record { built = refl; texts = and_from (is_text path) _ a refl; values = refl; spawn = tt; peers = refl; places = and_from (is_place k) _ b refl }

pub for_given : (path : List ℕ) (k : ℕ) (peer : ℤ) (on : Bool) → is_text path ≡ true → is_place k ≡ true → is_peer peer ≡ true → IsGiven (op.For path k peer on)
for_given path k peer on a b c = record { built = refl; texts = and_from (is_text path) _ a refl; values = refl; spawn = tt; peers = and_from (is_peer peer) _ c refl; places = and_from (is_place k) _ b refl }

pub filter_given : (path : List ℕ) (k : ℕ) (peers : List ℤ) → is_text path ≡ true → is_place k ≡ true → list_all is_peer peers ≡ true → IsGiven (op.Filter path k peers)
filter_given path k peers a b c = record { built = refl; texts = and_from (is_text path) _ a refl; values = refl; spawn = tt; peers = c; places = and_from (is_place k) _ b refl }

-- a peer's number has 32 bits
pub peer_fits : (p : ℤ) → is_peer p ≡ true → FitsSigned w32 p
peer_fits (pos n) h = let q = and_parts (nat_le 1 n) (nat_le n 2147483647) h in omega (arith, leb-true n 2147483647 q.1)
peer_fits (negsuc n) h = absurd (false≢true h)

pub for_given_as : (path : List ℕ) (k : ℕ) (z peer : ℤ) (on : Bool) → z ≡ peer → is_text path ≡ true → is_place k ≡ true → is_peer peer ≡ true → IsGiven (op.For path k z on)
for_given_as path k z peer on same a b c = for_given path k z on a b (ap is_peer same ∙ c)

-- one peer more
pub one_peer_more : (ps qs : List ℤ) (p : ℤ) → qs ≡ ps ++ p ∷ [] → is_peer p ≡ true → list_all is_peer ps ≡ true → list_all is_peer qs ≡ true
one_peer_more ps qs p is one all = ap (list_all is_peer) is ∙ list_all-append is_peer ps (p ∷ []) ∙ and_from _ _ all (and_from _ _ one refl)

-- a place is within its range
pub place_within : (k : ℕ) → k ≤ 4294967295 → is_place k ≡ true
place_within k h = le-leb k 4294967295 h
