-- What is written, token by token, is the line.
use Rattle.std.proofs.Common.{◌≡◌, ℕ, ℤ, pos, negsuc, List, [], ◌∷◌, ◌++◌, map, flat_map, Result, OnOk, refl, sym, ap, ◌∙◌, append_assoc, append-nil}
use Rattle.std.proofs.lemmas.Result.{on_ok_weaker}
use Rattle.json.specs.Token.{Token, begin_array, end_array, begin_object, end_object, key}
use Rattle.std.specs.Fmt.{signed_decimal}
use Rattle.json.specs.Tree.{json_tokens, items_tokens}
use Rattle.json.specs.Print.{print}
use Rattle.json.specs.Written.{Written}
use Rattle.serde_json.specs.Data.{Data, array, item, no_items}
use Rattle.serde_json.specs.View.{items_of}
use Rattle.serde_json.specs.Written.{items_outline, outline}
use Rattle.serde_json.proofs.Texts.{print-outline}
use Rattle.session_text.specs.Json.{int_of, line_of, tagged_of}
use Rattle.session_text.specs.Tokens.{Adds, AddsCells, more, tokens_of}

more_is : (ts : List Token) (ds : List Data) → more ts ds ≡ ts ++ flat_map tokens_of ds
more_is ts [] = sym (append-nil ts)
more_is ts (d ∷ ds) = more_is (ts ++ tokens_of d) ds ∙ append_assoc ts (tokens_of d) (flat_map tokens_of ds)

items_tokens_are : (ds : List Data) → items_tokens (items_outline (items_of ds)) ≡ flat_map tokens_of ds ++ end_array ∷ []
unfolding tokens_of
items_tokens_are [] = refl
items_tokens_are (d ∷ ds) = ap (λ ts. json_tokens (outline d) ++ ts) (items_tokens_are ds) ∙ sym (append_assoc (json_tokens (outline d)) _ _)

array_tokens_are : (ds : List Data) → tokens_of (array (items_of ds)) ≡ begin_array ∷ (flat_map tokens_of ds ++ end_array ∷ [])
unfolding tokens_of
array_tokens_are ds = ap (λ ts. begin_array ∷ ts) (items_tokens_are ds)

flat_map_is : {A : Type 0} (f : A → Data) (xs : List A) → flat_map (λ x. tokens_of (f x)) xs ≡ flat_map tokens_of (map f xs)
flat_map_is f [] = refl
flat_map_is f (x ∷ xs) = ap (λ ts. tokens_of (f x) ++ ts) (flat_map_is f xs)

around : (o b t e : List Token) → ((o ++ b) ++ t) ++ e ≡ o ++ (b ++ (t ++ e))
around o b t e = simp append_assoc

-- a value under one key
pub tagged_told : {E : Type 0} (r : Result (Unit {0}) E) (old opened valued new : Written) (name : List ℕ) (d : Data) → Adds old opened (begin_object ∷ key name ∷ []) → Adds opened valued (tokens_of d) → OnOk r (Adds valued new (end_object ∷ [])) → OnOk r (Adds old new (tokens_of (tagged_of name d)))
unfolding tokens_of
tagged_told r old opened valued new name d a b =
    on_ok_weaker r (λ c. (c.0 ∙ b.0 ∙ a.0, c.1 ∙ ap (λ ts. ts ++ end_object ∷ []) (b.1 ∙ ap (λ ts. ts ++ tokens_of d) a.1) ∙ around old.tokens (begin_object ∷ key name ∷ []) (tokens_of d) (end_object ∷ [])))

-- an array of cells that were put one by one
pub list_told : {E : Type 0} (r : Result (Unit {0}) E) (old opened filled new : Written) (cells : List Data) → Adds old opened (begin_array ∷ []) → AddsCells opened filled cells → OnOk r (Adds filled new (end_array ∷ [])) → OnOk r (Adds old new (tokens_of (array (items_of cells))))
list_told r old opened filled new cells a b =
    on_ok_weaker r (λ c. (
      c.0 ∙ b.0 ∙ a.0,
      c.1 ∙ ap (λ ts. ts ++ end_array ∷ []) (b.1 ∙ more_is opened.tokens cells ∙ ap (λ ts. ts ++ flat_map tokens_of cells) a.1)
          ∙ around old.tokens (begin_array ∷ []) (flat_map tokens_of cells) (end_array ∷ []) ∙ ap (λ ts. old.tokens ++ ts) (sym (array_tokens_are cells)),
    ))

-- an array of one cell, of two, of three
pub one_told : {E : Type 0} (r : Result (Unit {0}) E) (old opened one new : Written) (a : Data) → Adds old opened (begin_array ∷ []) → Adds opened one (tokens_of a) → OnOk r (Adds one new (end_array ∷ [])) → OnOk r (Adds old new (tokens_of (array (item a no_items))))
one_told r old opened one new a begins first = list_told r old opened one new (a ∷ []) begins first

pub two_told : {E : Type 0} (r : Result (Unit {0}) E) (old opened one two new : Written) (a b : Data) → Adds old opened (begin_array ∷ []) → Adds opened one (tokens_of a) → Adds one two (tokens_of b) → OnOk r (Adds two new (end_array ∷ [])) → OnOk r (Adds old new (tokens_of (array (item a (item b no_items)))))
two_told r old opened one two new a b begins first second =
    list_told r old opened two new (a ∷ b ∷ []) begins (second.0 ∙ first.0, second.1 ∙ ap (λ ts. ts ++ tokens_of b) first.1)

pub three_told : {E : Type 0} (r : Result (Unit {0}) E) (old opened one two three new : Written) (a b c : Data) → Adds old opened (begin_array ∷ []) → Adds opened one (tokens_of a) → Adds one two (tokens_of b) → Adds two three (tokens_of c) → OnOk r (Adds three new (end_array ∷ [])) → OnOk r (Adds old new (tokens_of (array (item a (item b (item c no_items))))))
three_told r old opened one two three new a b c begins first second third =
    list_told r old opened three new (a ∷ b ∷ c ∷ []) begins (third.0 ∙ second.0 ∙ first.0, third.1 ∙ ap (λ ts. ts ++ tokens_of c) (second.1 ∙ ap (λ ts. ts ++ tokens_of b) first.1))

-- an array of what a loop has put
pub each_told : {E : Type 0} {A : Type 0} (r : Result (Unit {0}) E) (old opened filled new : Written) (f : A → Data) (xs : List A) → Adds old opened (begin_array ∷ []) → Adds opened filled (flat_map (λ x. tokens_of (f x)) xs) → OnOk r (Adds filled new (end_array ∷ [])) → OnOk r (Adds old new (tokens_of (array (items_of (map f xs)))))
each_told r old opened filled new f xs a b =
    list_told r old opened filled new (map f xs) a (b.0, b.1 ∙ ap (λ ts. opened.tokens ++ ts) (flat_map_is f xs) ∙ sym (more_is opened.tokens (map f xs)))

-- the text of a line
pub line_text : (ts : List Token) (cells : List Data) → ts ≡ more (begin_array ∷ []) cells → print (ts ++ end_array ∷ []) ++ 10 ∷ [] ≡ line_of cells
unfolding line_of tokens_of
line_text ts cells is =
    ap (λ us. print us ++ 10 ∷ []) (ap (λ us. us ++ end_array ∷ []) (is ∙ more_is (begin_array ∷ []) cells) ∙ sym (array_tokens_are cells)) ∙ ap (λ text. text ++ 10 ∷ []) (print-outline (array (items_of cells)))

-- a number with a sign
pub int_tokens : (z : ℤ) → Token.number (signed_decimal z) ∷ [] ≡ tokens_of (int_of z)
unfolding tokens_of
int_tokens (pos n) = refl
int_tokens (negsuc n) = refl

-- two cells that were put one by one, and three
pub two_behind : (old one two : Written) (a b : Data) (cells : List Data) → cells ≡ a ∷ b ∷ [] → Adds old one (tokens_of a) → Adds one two (tokens_of b) → AddsCells old two cells
two_behind old one two a b cells is first second = (second.0 ∙ first.0, second.1 ∙ ap (λ ts. ts ++ tokens_of b) first.1 ∙ ap (more old.tokens) (sym is))

pub three_behind : (old one two three : Written) (a b c : Data) (cells : List Data) → cells ≡ a ∷ b ∷ c ∷ [] → Adds old one (tokens_of a) → Adds one two (tokens_of b) → Adds two three (tokens_of c) → AddsCells old three cells
three_behind old one two three a b c cells is first second third =
    (third.0 ∙ second.0 ∙ first.0, third.1 ∙ ap (λ ts. ts ++ tokens_of c) (second.1 ∙ ap (λ ts. ts ++ tokens_of b) first.1) ∙ ap (more old.tokens) (sym is))
