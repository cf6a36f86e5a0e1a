-- Reading the items of an array one after the other.
use Rattle.std.proofs.Common.{◌≡◌, ℕ, ◌+◌, ◌<◌, ◌≤◌, List, [], ◌∷◌, ◌++◌, map, take, drop, length, get_or, Result, Ok, Err, refl, sym, ap, ◌∙◌, subst}
use Rattle.std.proofs.lemmas.List.{map_more, map-append, drop_more, take_all, take-append-drop}
use Rattle.serde_json.specs.Data.{Data}
use Rattle.serde_json.specs.View.{view, items_of, items_view}
use Rattle.serde_json.specs.declared.value.Value.{Value}
use Rattle.program_edge.specs.declared.status.LineWhy.{LineWhy}
use Rattle.program_edge.specs.declared.stop.LineStop.{LineStop}
use Rattle.program_edge.specs.declared.stop.LineStop.TheVariants as stops
use Rattle.line_text.specs.Reading.{Reading, Fails, ◌>>=◌, each_read}

-- these are what the first items give
abbrev pub Reads : {X : Type 0} → Reading X → List X → ℕ → List Value → Type 0
Reads read xs n vs = each_read read (items_view (take n vs)) ≡ Ok xs

-- what is read with these in front
abbrev in_front : {X : Type 0} → List X → Result (List X) LineWhy → Result (List X) LineWhy
in_front xs (Ok ys) = Ok (xs ++ ys)
in_front xs (Err why) = Err why

abbrev done : {X : Type 0} → List X → Result (List X) LineWhy
done xs = Ok xs

ok_is : {X : Type 0} (xs ys : List X) → done xs ≡ done ys → xs ≡ ys
ok_is xs ys e = cc

front_nil : {X : Type 0} (r : Result (List X) LineWhy) → r ≡ in_front [] r
front_nil (Ok ys) = refl
front_nil (Err why) = refl

with_first : {X : Type 0} (y : X) (xs : List X) (r : Result (List X) LineWhy) → (in_front xs r >>= λ zs. Ok (y ∷ zs)) ≡ in_front (y ∷ xs) r
with_first y xs (Ok ys) = refl
with_first y xs (Err why) = refl

-- a front that gives these, and what follows
split : {X : Type 0} (read : Reading X) (ds es : List Data) (xs : List X) → each_read read (items_of ds) ≡ Ok xs → each_read read (items_of (ds ++ es)) ≡ in_front xs (each_read read (items_of es))
unfolding each_read
split read [] es [] e = front_nil (each_read read (items_of es))
split read [] es (x ∷ xs) e = absurd cc
split {X} read (d ∷ ds) es xs e = split_at (read d) (each_read read (items_of ds)) xs e (λ ys f. split read ds es ys f)
  where
    split_at : (r : Result X LineWhy) (s : Result (List X) LineWhy) (zs : List X) → (r >>= λ x. (s >>= λ ys. Ok (x ∷ ys))) ≡ Ok zs → ((ys : List X) → s ≡ Ok ys → each_read read (items_of (ds ++ es)) ≡ in_front ys (each_read read (items_of es)))
        → (r >>= λ x. (each_read read (items_of (ds ++ es)) >>= λ ys. Ok (x ∷ ys))) ≡ in_front zs (each_read read (items_of es))
    split_at (Ok x) (Ok ys) zs f rest =
        rw (rest ys refl) (subst (λ us. (in_front ys (each_read read (items_of es)) >>= λ ws. Ok (x ∷ ws)) ≡ in_front us (each_read read (items_of es))) (ok_is (x ∷ ys) zs f) (with_first x ys (each_read read (items_of es))))
    split_at (Ok x) (Err why) zs f rest = absurd cc
    split_at (Err why) s zs f rest = absurd cc

-- one item more
one_more : {X : Type 0} (read : Reading X) (ds : List Data) (d : Data) (xs : List X) (x : X) → each_read read (items_of ds) ≡ Ok xs → read d ≡ Ok x → each_read read (items_of (ds ++ d ∷ [])) ≡ Ok (xs ++ x ∷ [])
unfolding each_read
one_more read ds d xs x e f = split read ds (d ∷ []) xs e ∙ rw f refl

-- an item where reading stops
stops_there : {X : Type 0} (read : Reading X) (ds es : List Data) (d : Data) (xs : List X) (why : LineWhy) → each_read read (items_of ds) ≡ Ok xs → read d ≡ Err why → each_read read (items_of (ds ++ d ∷ es)) ≡ Err why
unfolding each_read
stops_there read ds es d xs why e f = split read ds (d ∷ es) xs e ∙ rw f refl

front_views : (vs : List Value) (n : ℕ) (v : Value) → n < length vs → v ≡ get_or vs n v → map view (take (n + 1) vs) ≡ map view (take n vs) ++ view v ∷ []
front_views vs n v lt is = map_more view vs n v lt ∙ ap (λ w. map view (take n vs) ++ view w ∷ []) (sym is)

all_views : (vs : List Value) (n : ℕ) (v : Value) → n < length vs → v ≡ get_or vs n v → map view vs ≡ map view (take n vs) ++ view v ∷ map view (drop (n + 1) vs)
all_views vs n v lt is = ap (map view) (sym (take-append-drop n vs)) ∙ map-append view (take n vs) (drop n vs) ∙ ap (λ ws. map view (take n vs) ++ map view ws) (drop_more vs n v lt) ∙ ap (λ w. map view (take n vs) ++ view w ∷ map view (drop (n + 1) vs)) (sym is)

-- the loop goes on
pub reads_on : {X : Type 0} (read : Reading X) (xs ys : List X) (vs : List Value) (n : ℕ) (v : Value) (x : X) → n < length vs → v ≡ get_or vs n v → read (view v) ≡ Ok x → ys ≡ xs ++ x ∷ [] → Reads read xs n vs → Reads read ys (n + 1) vs
reads_on read xs ys vs n v x lt is e push reads =
    subst (λ zs. Reads read zs (n + 1) vs) (sym push) (ap (λ ds. each_read read (items_of ds)) (front_views vs n v lt is) ∙ one_more read (map view (take n vs)) (view v) xs x reads e)

-- the loop ends where reading stops
pub reads_fail : {X : Type 0} (stop : LineStop) (read : Reading X) (xs : List X) (vs : List Value) (n : ℕ) (v : Value) → n < length vs → v ≡ get_or vs n v → Fails stop (read (view v)) → Reads read xs n vs → Fails stop (each_read read (items_view vs))
reads_fail stops.OutOfMemory read xs vs n v lt is e reads = tt
reads_fail (stops.LineBad why) read xs vs n v lt is e reads =
    ap (λ ds. each_read read (items_of ds)) (all_views vs n v lt is) ∙ stops_there read (map view (take n vs)) (map view (drop (n + 1) vs)) (view v) xs why reads e

-- the loop begins
pub reads_start : {X : Type 0} (read : Reading X) (xs : List X) (vs : List Value) → xs ≡ [] → Reads read xs 0 vs
unfolding each_read
reads_start read xs vs is = ap done (sym is)

-- the loop ends where all was read
pub reads_all : {X : Type 0} (read : Reading X) (xs : List X) (vs : List Value) (n : ℕ) → length vs ≤ n → Reads read xs n vs → each_read read (items_view vs) ≡ Ok xs
reads_all read xs vs n h reads = ap (λ ws. each_read read (items_view ws)) (sym (take_all n vs h)) ∙ reads
