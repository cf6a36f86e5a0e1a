-- Writing values one after the other.
use Rattle.std.proofs.Common.{◌≡◌, ℕ, suc, ◌+◌, ◌*◌, ◌/◌, ◌<◌, List, [], ◌∷◌, ◌++◌, length, take, get_or, Result, Ok, Err, refl, sym, ap, ◌∙◌, append_assoc, arith}
use Rattle.std.specs.Prelude.{OnOk}
use Rattle.std.specs.Int.{w32}
use Rattle.std.proofs.lemmas.List.{append-nil, take_more}
use Rattle.byte_fields.specs.Fields.{word}
use Rattle.gd_variant.specs.declared.value.Variant.{Variant}
use Rattle.gd_variant.specs.declared.value.Pair.{Pair}
use Rattle.gd_variant.specs.declared.value.Variant.TheVariants.{Dict}
use Rattle.gd_variant.specs.Tree.{plain, plains, plain_pairs, dict}
use Rattle.gd_variant.proofs.TreeOf.{plain_dict}
use Rattle.variant_codec.specs.Parts.{count}
use Rattle.variant_codec.specs.Written.{written, written_all}

push : (vs : List Variant) (v : Variant) → written_all (plains (vs ++ v ∷ [])) ≡ written_all (plains vs) ++ written (plain v)
push [] v = append-nil (written (plain v))
push (w ∷ vs) v = ap (λ (b : List ℕ). written (plain w) ++ b) (push vs v) ∙ sym (append_assoc (written (plain w)) (written_all (plains vs)) (written (plain v)))

push_pair : (ps : List Pair) (p : Pair) → written_all (plain_pairs (ps ++ p ∷ [])) ≡ written_all (plain_pairs ps) ++ (written (plain p.key) ++ written (plain p.value))
push_pair [] p = ap (λ (b : List ℕ). written (plain p.key) ++ b) (append-nil (written (plain p.value)))
push_pair (q ∷ ps) p =
    ap (λ (b : List ℕ). written (plain q.key) ++ (written (plain q.value) ++ b)) (push_pair ps p)
    ∙ ap (λ (b : List ℕ). written (plain q.key) ++ b) (sym (append_assoc (written (plain q.value)) (written_all (plain_pairs ps)) (written (plain p.key) ++ written (plain p.value))))
    ∙ sym (append_assoc (written (plain q.key)) (written (plain q.value) ++ written_all (plain_pairs ps)) (written (plain p.key) ++ written (plain p.value)))

-- one value more
pub item_more : (vs : List Variant) (i : ℕ) (v : Variant) (old now after : List ℕ) → i < length vs → v ≡ get_or vs i v → now ≡ old ++ written_all (plains (take i vs)) → after ≡ now ++ written (plain v)
    → after ≡ old ++ written_all (plains (take (i + 1) vs))
item_more vs i v old now after lt is e f =
    f ∙ ap (λ (b : List ℕ). b ++ written (plain v)) e ∙ append_assoc old (written_all (plains (take i vs))) (written (plain v))
    ∙ ap (λ (b : List ℕ). old ++ b) (sym (push (take i vs) v))
    ∙ ap (λ (ws : List Variant). old ++ written_all (plains ws)) (sym (take_more vs i v lt ∙ ap (λ w. take i vs ++ w ∷ []) (sym is)))

-- one pair more
pub pair_more : (ps : List Pair) (i : ℕ) (p : Pair) (old now mid after : List ℕ) → i < length ps → p ≡ get_or ps i p → now ≡ old ++ written_all (plain_pairs (take i ps)) → mid ≡ now ++ written (plain p.key)
    → after ≡ mid ++ written (plain p.value) → after ≡ old ++ written_all (plain_pairs (take (i + 1) ps))
pair_more ps i p old now mid after lt is e f g =
    g ∙ ap (λ (b : List ℕ). b ++ written (plain p.value)) f ∙ append_assoc now (written (plain p.key)) (written (plain p.value))
    ∙ ap (λ (b : List ℕ). b ++ (written (plain p.key) ++ written (plain p.value))) e ∙ append_assoc old (written_all (plain_pairs (take i ps))) (written (plain p.key) ++ written (plain p.value))
    ∙ ap (λ (b : List ℕ). old ++ b) (sym (push_pair (take i ps) p))
    ∙ ap (λ (qs : List Pair). old ++ written_all (plain_pairs qs)) (sym (take_more ps i p lt ∙ ap (λ q. take i ps ++ q ∷ []) (sym is)))

pub count_plains : (vs : List Variant) → count (plains vs) ≡ length vs
count_plains [] = refl
count_plains (v ∷ vs) = ap suc (count_plains vs)

pub count_pairs : (ps : List Pair) → count (plain_pairs ps) ≡ 2 * length ps
count_pairs [] = refl
count_pairs (p ∷ ps) = omega (arith, count_pairs ps)

pub half_of_pairs : (ps : List Pair) → length ps ≡ count (plain_pairs ps) / 2
half_of_pairs ps = omega (arith, count_pairs ps)

-- a header, a count and what it counts
pub counted : {E : Type 0} (r : Result (Unit {0}) E) (n k : ℕ) (old head mid now h w : List ℕ) → head ≡ old ++ h → mid ≡ head ++ word w32 n → n ≡ k → OnOk r (now ≡ mid ++ w) → OnOk r (now ≡ old ++ (h ++ (word w32 k ++ w)))
counted (Err x) n k old head mid now h w a b c d = tt
counted (Ok x) n k old head mid now h w a b c d =
    d ∙ ap (λ (m : List ℕ). m ++ w) (b ∙ ap (λ (m : List ℕ). m ++ word w32 n) a ∙ append_assoc old h (word w32 n)) ∙ append_assoc old (h ++ word w32 n) w
    ∙ ap (λ (m : List ℕ). old ++ m) (append_assoc h (word w32 n) w) ∙ ap (λ j. old ++ (h ++ (word w32 j ++ w))) c

pub dict_put : {E : Type 0} (r : Result (Unit {0}) E) (v : Variant) (ps : List Pair) (old now : List ℕ) → v ≡ Dict ps → OnOk r (now ≡ old ++ written (dict (plain_pairs ps))) → OnOk r (now ≡ old ++ written (plain v))
dict_put (Err x) v ps old now e h = tt
dict_put (Ok x) v ps old now e h = h ∙ ap (λ t. old ++ written t) (sym (ap plain e ∙ plain_dict ps))
