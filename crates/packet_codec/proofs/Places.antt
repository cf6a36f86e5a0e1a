-- A part takes a byte at least, and a fault stands within the bytes.
use Rattle.std.proofs.Common.{◌≡◌, ℕ, ◌-◌, ◌≤◌, ◌<◌, Bool, ltb, List, length, take, drop, Result, Ok, Err, ap, subst, arith}
use Rattle.std.specs.Prelude.{IfOk}
use denote.Ref.{Bor}
use Rattle.std.proofs.lemmas.Bool.{ltb-false}
use Rattle.std.proofs.lemmas.List.{length-append, length-take, length-drop}
use Rattle.byte_fields.specs.declared.fault.Fault.{Fault}
use Rattle.byte_fields.specs.declared.fault.ReadError.{ReadError}
use Rattle.byte_fields.specs.declared.fault.ReadError.TheVariants as errors
use Rattle.byte_fields.specs.Fields.{IsBytes, Fails, Gives, fault}
use Rattle.byte_fields.proofs.Fields.{IsBytes-take, passed, ok_is}
use Rattle.gd_variant.specs.declared.value.Variant.{Variant}
use Rattle.gd_variant.specs.declared.message.Entry.{Entry}
use Rattle.gd_variant.specs.declared.message.DeltaEntry.{DeltaEntry}
use Rattle.gd_variant.specs.declared.message.Why.TheVariants.{Short, Size}
use Rattle.variant_codec.specs.Readers.{Reader, Relation, Breaking, raw_at}
use Rattle.variant_codec.proofs.Laws.{IsReader}
use Rattle.packet_form.specs.Wholes.{Whole, ending_by}
use Rattle.packet_form.specs.Reading.{value_at, values_at, args_at, entry_at, delta_entry_at}
use Rattle.packet_form.proofs.Wholes.{IsWhole, IsNeverEmpty, takes_some, ending_whole}
use Rattle.packet_form.proofs.ValueLaws.{value_reader, value_some, values_whole}
use Rattle.packet_form.proofs.CallLaws.{args_whole}
use Rattle.packet_form.proofs.LayoutLaws.{entry_reader, entry_some, delta_entry_reader, delta_entry_some}

-- what follows a part is shorter, and is bytes
goes_on : {X : Type 0} {read : Reader X} {R : Relation X} {B : Breaking} → IsReader read R B → IsNeverEmpty R → (bytes : List ℕ) (x : X × List ℕ) → IsBytes bytes → read bytes ≡ Ok x → (length x.1 < length bytes) × IsBytes x.1
goes_on r some bytes x fits e = (takes_some r some bytes x fits e, (r.takes bytes x fits e).rest_fits)

pub value_goes : (bytes : List ℕ) (x : Variant × List ℕ) → IsBytes bytes → value_at bytes ≡ Ok x → (length x.1 < length bytes) × IsBytes x.1
value_goes = goes_on value_reader value_some

pub entry_goes : (bytes : List ℕ) (x : Entry × List ℕ) → IsBytes bytes → entry_at bytes ≡ Ok x → (length x.1 < length bytes) × IsBytes x.1
entry_goes = goes_on entry_reader entry_some

pub delta_entry_goes : (bytes : List ℕ) (x : DeltaEntry × List ℕ) → IsBytes bytes → delta_entry_at bytes ≡ Ok x → (length x.1 < length bytes) × IsBytes x.1
delta_entry_goes = goes_on delta_entry_reader delta_entry_some

-- a function that gives what such a reader gives leaves fewer bytes
pub gives_shorter : {X : Type 0} (read : Reader X) → ((bytes : List ℕ) (x : X × List ℕ) → IsBytes bytes → read bytes ≡ Ok x → (length x.1 < length bytes) × IsBytes x.1) → (r : Result (X × Bor (List ℕ)) ReadError) (bytes : List ℕ)
    → IsBytes bytes → Gives (λ x. (x.0, x.1.now)) r (read bytes) → IfOk r (λ x. length x.1.now < length bytes)
gives_shorter read goes (Ok x) bytes fits e = (goes bytes (x.0, x.1.now) fits e).0
gives_shorter read goes (Err e) bytes fits h = tt

-- ---- a fault inside a region

-- reads up to the end, and no fault stands before the bytes
abbrev pub StaysWithin : {X : Type 0} → Whole X → Type 0
StaysWithin {X} read = (bytes : List ℕ) (f : Fault) → IsBytes bytes → read bytes ≡ Err f → f.left ≤ length bytes

stays : {X : Type 0} {read : Whole X} {R : Relation X} {B : Breaking} → IsWhole read R B → StaysWithin read
stays w bytes f fits e = let b = w.breaks bytes f fits e in omega (arith, b.left, ap length b.parts, length-append b.front b.rest)

pub values_within : StaysWithin values_at
values_within = stays values_whole

pub only_value_within : StaysWithin (ending_by Size value_at)
only_value_within = stays (ending_whole Size value_reader)

pub args_within : (raw : Bool) → StaysWithin (args_at raw)
args_within raw = stays (args_whole raw)

-- where a region is there whole, and what stands inside breaks
pub record Inside (bytes front after : List ℕ) (f : Fault) : Type 0 where
  pub within : f.left ≤ length front
  pub shorter : length front ≤ length bytes
  pub behind : length bytes - length front ≡ length after

pub breaks_inside : {X : Type 0} (read : Whole X) → StaysWithin read → (n : ℕ) (bytes front after : List ℕ) (f : Fault) (e : ReadError) → IsBytes bytes → raw_at n bytes ≡ Ok (front, after) → e ≡ errors.Fault f → Fails e (read front) → Inside bytes front after f
breaks_inside read stays n bytes front after f e fits r is h =
    let p = passed (ltb (length bytes) n) (fault (length bytes) Short) _ (front, after) r in
    let long : n ≤ length bytes = ltb-false _ _ p.0 in
    let parts : (take n bytes, drop n bytes) ≡ (front, after) = ok_is (take n bytes, drop n bytes) (front, after) p.1 in
    let left = stays front f (subst IsBytes (ap (λ x. x.0) parts) (IsBytes-take n bytes fits)) (subst (λ y. Fails y (read front)) is h) in
    let a = ap (λ x. length x.0) parts in
    let b = ap (λ x. length x.1) parts in
    record {
      within = left;
      shorter = omega (arith, long, a, length-take n bytes);
      behind = omega (arith, long, a, b, length-take n bytes, length-drop n bytes);
    }
