-- Reading parts one after the other, as a loop does.
use Rattle.std.proofs.Common.{◌≡◌, ℕ, suc, ◌-◌, ◌+◌, ◌≤◌, ◌<◌, List, [], ◌∷◌, ◌++◌, map, Ok, Err, refl, sym, ap, ◌∙◌, arith}
use Rattle.std.proofs.lemmas.List.{map_push}
use Rattle.byte_fields.specs.declared.fault.ReadError.{ReadError}
use Rattle.byte_fields.specs.declared.fault.ReadError.TheVariants as errors
use Rattle.byte_fields.specs.Fields.{Fails}
use Rattle.variant_codec.specs.Readers.{Reader, list_by}

-- one part more
pub goes_on : {X : Type 0} (read : List X → Reader X) (before now : List X) (count i : ℕ) (bytes : List ℕ) (x : X) (after : List ℕ) (total : List X) (all : List ℕ) → i < count → read before bytes ≡ Ok (x, after)
    → now ≡ before ++ x ∷ [] → list_by read before (count - i) bytes ≡ list_by read total count all → list_by read now (count - (i + 1)) after ≡ list_by read total count all
goes_on read before now count i bytes x after total all lt h is so_far =
    let k : count - i ≡ suc (count - (i + 1)) = omega arith in
    let one : list_by read before (count - i) bytes ≡ list_by read (before ++ x ∷ []) (count - (i + 1)) after = rw (k, h) refl in
    ap (λ ys. list_by read ys (count - (i + 1)) after) is ∙ sym one ∙ so_far

-- the first part that fails
pub ends : {X : Type 0} (e : ReadError) (read : List X → Reader X) (before : List X) (count i : ℕ) (bytes : List ℕ) (total : List X) (all : List ℕ) → i < count → Fails e (read before bytes)
    → list_by read before (count - i) bytes ≡ list_by read total count all → Fails e (list_by read total count all)
ends errors.Memory read before count i bytes total all lt h so_far = tt
ends (errors.Fault f) read before count i bytes total all lt h so_far =
    let k : count - i ≡ suc (count - (i + 1)) = omega arith in
    let one : list_by read before (count - i) bytes ≡ Err f = rw (k, h) refl in
    sym so_far ∙ one

-- none is left
pub is_done : {X : Type 0} (read : List X → Reader X) (before : List X) (count i : ℕ) (bytes : List ℕ) (total : List X) (all : List ℕ) → count ≤ i
    → list_by read before (count - i) bytes ≡ list_by read total count all → list_by read total count all ≡ Ok (before, bytes)
is_done read before count i bytes total all le so_far =
    let k : count - i ≡ 0 = omega arith in
    let one : list_by read before (count - i) bytes ≡ Ok (before, bytes) = rw k refl in
    sym so_far ∙ one

-- the same of values that the code keeps, each seen as its tree
pub goes_on_seen : {V X : Type 0} (see : V → X) (read : List X → Reader X) (before now : List V) (count i : ℕ) (bytes : List ℕ) (v : V) (after all : List ℕ) → i < count → read (map see before) bytes ≡ Ok (see v, after)
    → now ≡ before ++ v ∷ [] → list_by read (map see before) (count - i) bytes ≡ list_by read [] count all → list_by read (map see now) (count - (i + 1)) after ≡ list_by read [] count all
goes_on_seen see read before now count i bytes v after all lt h is so_far =
    goes_on read (map see before) (map see now) count i bytes (see v) after [] all lt h (ap (map see) is ∙ map_push see before v) so_far
