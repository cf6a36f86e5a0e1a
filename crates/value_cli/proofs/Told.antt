-- What is told, line by line.
use Rattle.std.proofs.Common.{◌≡◌, ℕ, List, [], ◌∷◌, ◌++◌, map, refl, sym, ap, subst, ◌∙◌, append_assoc, append-nil}
use Rattle.std.specs.Prelude.{Result, Err}
use Rattle.std.proofs.lemmas.List.{map-append}
use Rattle.byte_fields.specs.declared.fault.CodecStop.{CodecStop}
use Rattle.byte_fields.specs.declared.fault.CodecStop.TheVariants as stops
use Rattle.gd_variant.specs.declared.message.Bad.{Bad}
use Rattle.session_text.specs.Messages.{bad_line}
use Rattle.variant_codec.specs.Breaks.{IsBad}
use Rattle.variant_codec.specs.Readers.{Breaking}
use Rattle.value_cli.specs.Answers.{AnswersEach, TellsFault}

-- a line of a fault
pub fault_told : {X : Type 0} {B : Breaking} {b text : List ℕ} {result : Result X CodecStop} (bad : Bad) → ((e : Bad) → result ≡ Err (stops.Bad e) → IsBad B b e) → result ≡ Err (stops.Bad bad) → text ≡ bad_line bad → TellsFault B b text
fault_told bad rightly is told = record { bad = bad; broken = rightly bad is; told = told }

-- one line more
pub each-snoc : (A : List ℕ → List ℕ → Type 0) (ls : List (List ℕ)) (text line more : List ℕ) → AnswersEach A ls text → A line more → AnswersEach A (ls ++ line ∷ []) (text ++ more)
each-snoc A [] text line more each a = (more, [], a, refl, ap (λ t. t ++ more) each ∙ sym (append-nil more))
each-snoc A (l ∷ ls) text line more each a =
    (each.0, each.1 ++ more, each.2, each-snoc A ls each.1 line more each.3 a, ap (λ t. t ++ more) each.4 ∙ append_assoc each.0 each.1 more)

-- an item more of those that gave the lines
pub each_more : {X : Type 0} (A : List ℕ → List ℕ → Type 0) (line_of : X → List ℕ) (xs : List X) (x : X) (text more : List ℕ) {after : List ℕ} → AnswersEach A (map line_of xs) text → A (line_of x) more → after ≡ text ++ more → AnswersEach A (map line_of (xs ++ x ∷ [])) after
each_more A line_of xs x text more {after} each a is =
    let P : List ℕ → Type 0 = λ t. AnswersEach A (map line_of (xs ++ x ∷ [])) t in
    let Q : List (List ℕ) → Type 0 = λ ls. AnswersEach A ls (text ++ more) in
    subst P (sym is) (subst Q (sym (map-append line_of xs (x ∷ []))) (each-snoc A (map line_of xs) text (line_of x) more each a))

-- all of them
pub each_all : (A : List ℕ → List ℕ → Type 0) {ls ms : List (List ℕ)} {text after : List ℕ} → AnswersEach A ls text → ls ≡ ms → after ≡ text → AnswersEach A ms after
each_all A {ls} {ms} {text} {after} each same is =
    let P : List ℕ → Type 0 = λ t. AnswersEach A ms t in
    let Q : List (List ℕ) → Type 0 = λ l. AnswersEach A l text in
    subst P (sym is) (subst Q same each)
