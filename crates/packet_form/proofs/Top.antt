-- What the laws of reading say of packets as a whole.
use Rattle.std.proofs.Common.{◌≡◌, ℕ, ◌-◌, ◌<◌, ◌≤◌, Bool, true, false, leb, List, ◌++◌, length, Result, Ok, Err, refl, sym, ap, ap₂, subst, ◌∙◌, arith, inl, inr, ◌⊎◌}
use Rattle.std.specs.Prelude.{IfOk}
use Rattle.std.proofs.lemmas.Bool.{le-leb, leb-true, leb-false, lt-leb}
use Rattle.std.proofs.lemmas.List.{length-append}
use Rattle.byte_fields.specs.declared.fault.Fault.{Fault}
use Rattle.byte_fields.specs.declared.fault.CodecStop.{CodecStop}
use Rattle.byte_fields.specs.declared.fault.CodecStop.TheVariants as stops
use Rattle.byte_fields.specs.Fields.{IsBytes, placed, Answers}
use Rattle.gd_variant.specs.declared.message.Bad.{Bad}
use Rattle.gd_variant.specs.declared.message.Why.{Why}
use Rattle.gd_variant.specs.declared.message.Message.{Message}
use Rattle.variant_codec.specs.Breaks.{IsBad}
use Rattle.variant_codec.specs.Clauses.{Is}
use Rattle.variant_codec.proofs.Laws.{Broke}
use Rattle.packet_form.specs.Reading.{message_at}
use Rattle.packet_form.specs.Breaks.{MessageBreaks}
use Rattle.packet_form.specs.Packets.{most_bytes, Frames, IsBadPacket, too_long, read_packet}
use Rattle.packet_form.proofs.MessageLaws.{message_whole}

abbrev reads : Message → Result Message Bad
reads m = Ok m

abbrev refused : Bad → Result Message Bad
refused bad = Err bad

ok_message : (m n : Message) → reads m ≡ reads n → m ≡ n
ok_message m n e = cc

err_bad : (x y : Bad) → refused x ≡ refused y → x ≡ y
err_bad x y e = cc

not_both : (m : Message) (bad : Bad) → reads m ≡ refused bad → ⊥
not_both m bad e = cc

abbrev bad_at : ℕ → Why → Bad
bad_at n why = record { at = n; why = why }

-- ---- whether the bytes are too many

short_reads : (b : List ℕ) → length b ≤ most_bytes → read_packet b ≡ placed (length b) (message_at b)
unfolding read_packet
short_reads b le = rw (le-leb (length b) most_bytes le) refl

long_reads : (b : List ℕ) → most_bytes < length b → read_packet b ≡ Err too_long
unfolding read_packet
long_reads b lt = rw (lt-leb (length b) most_bytes lt) refl

-- the bytes are few enough, or too many
few_or_many : (b : List ℕ) (t : Bool) → leb (length b) most_bytes ≡ t → (length b ≤ most_bytes) ⊎ (most_bytes < length b)
few_or_many b true e = inl (leb-true _ _ e)
few_or_many b false e = inr (leb-false _ _ e)

-- ---- placed

placed_ok : (n : ℕ) (r : Result Message Fault) (m : Message) → placed n r ≡ Ok m → r ≡ Ok m
placed_ok n (Ok x) m e = ap (λ (z : Message). Ok z) (ok_message x m e)
placed_ok n (Err f) m e = absurd (not_both m (bad_at (n - f.left) f.why) (sym e))

placed_err : (n : ℕ) (r : Result Message Fault) (bad : Bad) → placed n r ≡ Err bad → (f : Fault) × (r ≡ Err f) × (bad_at (n - f.left) f.why ≡ bad)
placed_err n (Ok x) bad e = absurd (not_both x bad e)
placed_err n (Err f) bad e = (f, refl, err_bad (bad_at (n - f.left) f.why) bad e)

same_bad : (x y : Bad) → x.at ≡ y.at → x.why ≡ y.why → x ≡ y
same_bad x y e f = ap₂ bad_at e f

-- ---- what is read

pub read_found : (b : List ℕ) (m : Message) → IsBytes b → read_packet b ≡ Ok m → Frames m b
read_found b m fits e =
    elim (few_or_many b _ refl) [
      | inl le ↦ record { short = le; frames = message_whole.takes b m fits (placed_ok (length b) (message_at b) m (sym (short_reads b le) ∙ e)) }
      | inr lt ↦ absurd (not_both m too_long (sym e ∙ long_reads b lt))
    ]

pub read_only : (b : List ℕ) (m : Message) → Frames m b → read_packet b ≡ Ok m
read_only b m f = short_reads b f.short ∙ ap (placed (length b)) (message_whole.again m b f.frames)

-- ---- what is wrong

bad_of : (b : List ℕ) (bad : Bad) (f : Fault) → Broke MessageBreaks b f → bad_at (length b - f.left) f.why ≡ bad → IsBad MessageBreaks b bad
bad_of b bad f k e = record {
  front = k.front;
  rest = k.rest;
  parts = k.parts;
  place = ap (λ (z : Bad). z.at) (sym e) ∙ ap (λ n. length b - n) k.left ∙ omega (arith, ap length k.parts, length-append k.front k.rest);
  breaks = subst (MessageBreaks b k.rest) (ap (λ (z : Bad). z.why) e) k.breaks;
}

pub bad_found : (b : List ℕ) (bad : Bad) → IsBytes b → read_packet b ≡ Err bad → IsBadPacket b bad
bad_found b bad fits e =
    elim (few_or_many b _ refl) [
      | inl le ↦
          let p = placed_err (length b) (message_at b) bad (sym (short_reads b le) ∙ e) in
          inr (le, bad_of b bad p.0 (message_whole.breaks b p.0 fits p.1) p.2)
      | inr lt ↦ inl (lt, err_bad bad too_long (sym e ∙ long_reads b lt))
    ]

place_is : (front rest b : List ℕ) → b ≡ front ++ rest → length b - length rest ≡ length front
place_is front rest b e = omega (arith, ap length e, length-append front rest)

pub bad_only : (b : List ℕ) (bad : Bad) → IsBadPacket b bad → read_packet b ≡ Err bad
bad_only b bad (inl h) = long_reads b h.0 ∙ ap refused (sym h.1)
bad_only b bad (inr h) =
    let is = h.1 in
    short_reads b h.0 ∙ ap (placed (length b)) (message_whole.broken b is.rest bad.why is.breaks)
    ∙ ap refused (same_bad (bad_at (length b - length is.rest) bad.why) bad (place_is is.front is.rest b is.parts ∙ sym is.place) refl)

-- ---- what a decoder answers, unless memory ran out

abbrev Answered : Result Message CodecStop → List ℕ → Type 0
Answered result b = Answers (λ x. x) result (read_packet b)

answer_bad : (result : Result Message CodecStop) (read : Result Message Bad) (bad : Bad) → Answers (λ x. x) result read → result ≡ Err (stops.Bad bad) → read ≡ Err bad
answer_bad result read bad a e = subst (λ r. Answers (λ x. x) r read) e a

is_ok : (result : Result Message CodecStop) (read : Result Message Bad) (m : Message) → Answers (λ x. x) result read → read ≡ Ok m → Is result (Ok m)
is_ok (Ok x) read m a e = inl (ap (λ (z : Message). Ok z) (ok_message x m (sym a ∙ e)))
is_ok (Err stops.OutOfMemory) read m a e = inr refl
is_ok (Err (stops.Bad bad)) read m a e = absurd (not_both m bad (sym e ∙ a))

is_bad : (result : Result Message CodecStop) (read : Result Message Bad) (bad : Bad) → Answers (λ x. x) result read → read ≡ Err bad → Is result (Err (stops.Bad bad))
is_bad (Ok x) read bad a e = absurd (not_both x bad (sym a ∙ e))
is_bad (Err stops.OutOfMemory) read bad a e = inr refl
is_bad (Err (stops.Bad y)) read bad a e = inl (ap (λ (z : Bad). Err (stops.Bad z)) (err_bad y bad (sym a ∙ e)))

pub answer_frames : (b : List ℕ) (result : Result Message CodecStop) → IsBytes b → Answered result b → IfOk result (λ m. Frames m b)
answer_frames b (Ok m) fits a = read_found b m fits a
answer_frames b (Err e) fits a = tt

-- the message of a packet is answered
pub answer_only : (b : List ℕ) (result : Result Message CodecStop) → Answered result b → (m : Message) → Frames m b → Is result (Ok m)
answer_only b result a m f = is_ok result (read_packet b) m a (read_only b m f)

-- what was answered as wrong is wrong
pub fault_found : (b : List ℕ) (result : Result Message CodecStop) → IsBytes b → Answered result b → (bad : Bad) → result ≡ Err (stops.Bad bad) → IsBadPacket b bad
fault_found b result fits a bad e = bad_found b bad fits (answer_bad result (read_packet b) bad a e)

-- what is wrong is answered
pub fault_only : (b : List ℕ) (result : Result Message CodecStop) → Answered result b → (bad : Bad) → IsBadPacket b bad → Is result (Err (stops.Bad bad))
fault_only b result a bad is = is_bad result (read_packet b) bad a (bad_only b bad is)
