use Rattle.std.proofs.Common.{◌≡◌, ℕ, ◌<◌, ◌+◌, List, [], ◌∷◌, ◌++◌, take, drop, get_or, flat_map, sym, subst, ap, ◌∙◌, append_assoc, append-nil, arith, length, Bor}
use Rattle.std.specs.Prelude.{Option, Result, Ok, Err}
use Rattle.std.specs.Result.{IsErr}
use Rattle.std.proofs.lemmas.List.{take_more, take-append-drop}
use Rattle.std.proofs.lemmas.List.Concat.{flat_map-cons}
use Rattle.std.proofs.lemmas.Grind.{flat_map-append}
use Rattle.program_edge.specs.declared.source.Failed.{Failed}
use Rattle.program_edge.specs.Pieces.{PutsAll}
use Rattle.program_edge.proofs.Pieces.{part_behind}
use Rattle.program_edge.proofs.sink.put_pieces.Goals as goal

-- the pieces before one, that one, and those behind it
around : {X : Type 0} (f : X → List ℕ) (xs : List X) (i : ℕ) (x : X) → i < length xs → flat_map f xs ≡ flat_map f (take i xs) ++ (f (get_or xs i x) ++ flat_map f (drop (i + 1) xs))
around f xs i x lt =
    ap (flat_map f) (sym (take-append-drop (i + 1) xs))
    ∙ flat_map-append f (take (i + 1) xs) (drop (i + 1) xs)
    ∙ ap (λ (l : List ℕ). l ++ flat_map f (drop (i + 1) xs)) (ap (flat_map f) (take_more xs i x lt) ∙ flat_map-append f (take i xs) (get_or xs i x ∷ []) ∙ ap (λ (l : List ℕ). flat_map f (take i xs) ++ l) (flat_map-cons f (get_or xs i x) [] ∙ append-nil (f (get_or xs i x))))
    ∙ append_assoc (flat_map f (take i xs)) (f (get_or xs i x)) (flat_map f (drop (i + 1) xs))

-- a piece failed behind others
broke : (before now after : Option (List ℕ)) (pieces : List (Bor (List ℕ))) (i : ℕ) (none : Bor (List ℕ)) (first last : Result (Unit {0}) Failed) (e : Failed) → i < length pieces → PutsAll {E = Failed} before (Ok tt) (flat_map (λ p. p.now) (take i pieces)) now → PutsAll now first (get_or pieces i none).now after → first ≡ Err e → IsErr last → PutsAll before last (flat_map (λ p. p.now) pieces) after
broke before now after pieces i none first (Ok u) e lt so put is fails = absurd (cc)
broke before now after pieces i none first (Err f) e lt so put is fails =
    let P : Result (Unit {0}) Failed → Type 0 = λ r. PutsAll now r (get_or pieces i none).now after in
    part_behind before now after (flat_map (λ p. p.now) (take i pieces)) (get_or pieces i none).now (flat_map (λ p. p.now) (drop (i + 1) pieces)) (flat_map (λ p. p.now) pieces) f so (subst P is put) (around (λ (p : Bor (List ℕ)). p.now) pieces i none lt)

pub returns-in_err-put_all-clause-bytes : goal.returns-in_err-put_all-clause-bytes
returns-in_err-put_all-clause-bytes g c =
    broke _ _ _ c.args.pieces.now c.loop-piece.piece-index _ c.put_all.result c.from_residual.result c.in_err-put_all.field-0.0 (omega arith) c.loop-piece.invariant.0 c.put_all.ensures.bytes c.in_err-put_all.was c.from_residual.ensures.0
