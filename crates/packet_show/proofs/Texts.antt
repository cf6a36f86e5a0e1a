-- What a line gives, by what it decodes to.
use Rattle.std.proofs.Common.{◌≡◌, ◌⊎◌, inl, inr, List, ℕ, Result, Ok, Err, IfOk, sym, ap, subst, ◌∙◌}
use Rattle.byte_fields.specs.Fields.{Answers}
use Rattle.byte_fields.specs.declared.fault.CodecStop.{CodecStop}
use Rattle.byte_fields.specs.declared.fault.CodecStop.TheVariants as stops
use Rattle.gd_variant.specs.declared.message.Bad.{Bad}
use Rattle.gd_variant.specs.declared.message.Message.{Message}
use Rattle.gd_variant.specs.declared.text.OutOfMemory.{OutOfMemory}
use Rattle.hex.specs.Hex.{decode_of}
use Rattle.hex.specs.declared.error.FromHexError.{FromHexError}
use Rattle.hex.specs.declared.error.FromHexError.TheVariants as hex
use Rattle.packet_form.specs.Packets.{read_packet}
use Rattle.session_text.specs.Messages.{bad_line, message_line}
use Rattle.program_edge.specs.declared.status.LineWhy.{LineWhy}
use Rattle.program_edge.specs.declared.status.LineWhy.TheVariants.{Hex}
use Rattle.program_edge.specs.declared.stop.LineStop.{LineStop}
use Rattle.program_edge.specs.declared.stop.LineStop.TheVariants as stops_line
use Rattle.line_runs.specs.Steps.{MayStop}
use Rattle.packet_show.specs.Shown.{IsHex, TextOf, packet_line, read_line, shown, shown_by, stop_of}

-- a packet is shown by its message
pub by_message : (packet : List ℕ) (m : Message) (result : Result (List ℕ) OutOfMemory) → read_packet packet ≡ Ok m → IfOk result (λ t. t ≡ message_line m) → IfOk result (λ t. t ≡ packet_line packet)
unfolding packet_line
by_message packet m (Ok text) e is = is ∙ sym (ap read_line e)
by_message packet m (Err o) e is = tt

-- and bytes that are none by what is wrong with them
by_bad : (packet : List ℕ) (bad : Bad) (result : Result (List ℕ) OutOfMemory) → read_packet packet ≡ Err bad → IfOk result (λ t. t ≡ bad_line bad) → IfOk result (λ t. t ≡ packet_line packet)
unfolding packet_line
by_bad packet bad (Ok text) e is = is ∙ sym (ap read_line e)
by_bad packet bad (Err o) e is = tt

pub by_fault : (packet : List ℕ) (bad : Bad) (stop : CodecStop) (result : Result (List ℕ) OutOfMemory) → stop ≡ stops.Bad bad → Answers {X = Message} {Y = Message} (λ m. m) (Err stop) (read_packet packet) → IfOk result (λ t. t ≡ bad_line bad) → IfOk result (λ t. t ≡ packet_line packet)
by_fault packet bad stop result e h is = by_bad packet bad result (subst (λ s. Answers {X = Message} {Y = Message} (λ m. m) (Err s) (read_packet packet)) e h) is

pub decoded : (line packet text : List ℕ) → decode_of line ≡ Ok packet → text ≡ packet_line packet → shown line ≡ Ok text
unfolding shown
decoded line packet text e is = ap shown_by e ∙ ap Ok (sym is)

none_by : (line : List ℕ) (e : FromHexError) → decode_of line ≡ Err e → shown line ≡ Err Hex
unfolding shown
none_by line e h = ap shown_by h

pub not_decoded : (line : List ℕ) (e : FromHexError) → (e ≡ hex.OutOfMemory) ⊎ (decode_of line ≡ Err e) → TextOf line (Err (stop_of e))
not_decoded line hex.OutOfMemory h = tt
not_decoded line (hex.InvalidHexCharacter c i) (inl k) = absurd (cc)
not_decoded line (hex.InvalidHexCharacter c i) (inr k) = none_by line (hex.InvalidHexCharacter c i) k
not_decoded line hex.OddLength (inl k) = absurd (cc)
not_decoded line hex.OddLength (inr k) = none_by line hex.OddLength k
not_decoded line hex.InvalidStringLength (inl k) = absurd (cc)
not_decoded line hex.InvalidStringLength (inr k) = none_by line hex.InvalidStringLength k

-- a line that gives no text isn't hexadecimal
only_hex_by : (d : Result (List ℕ) FromHexError) (why : LineWhy) → shown_by d ≡ Err why → IsHex why
only_hex_by (Ok packet) why e = absurd (cc)
only_hex_by (Err x) why e = cc

pub only_hex : (line : List ℕ) (e : LineStop) → TextOf line (Err e) → MayStop IsHex (Err e)
unfolding shown
only_hex line (stops_line.LineBad why) h = only_hex_by (decode_of line) why h
only_hex line stops_line.OutOfMemory h = tt
