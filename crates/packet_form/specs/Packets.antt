-- Packets as a whole: which bytes are a message's packet, and what bytes read as.
use Rattle.std.specs.Prelude.{◌≡◌, ℕ, ◌<◌, ◌≤◌, List, length, Result, Err, nat_le, ◌⊎◌, if◌then◌else◌}
use Rattle.gd_variant.specs.declared.message.Bad.{Bad}
use Rattle.gd_variant.specs.declared.message.Message.{Message}
use Rattle.gd_variant.specs.declared.message.Why.TheVariants.{TooLong}
use Rattle.byte_fields.specs.Fields.{placed}
use Rattle.variant_codec.specs.Breaks.{IsBad}
use Rattle.packet_form.specs.Reading.{message_at}
use Rattle.packet_form.specs.Grammar.{IsMessage}
use Rattle.packet_form.specs.Breaks.{MessageBreaks}
use Rattle.packet_form.specs.Written.{IsMessageSound, FitsMessage, written_packet}

-- a packet has at most so many bytes
abbrev pub most_bytes : ℕ
most_bytes = 8388608

-- some bytes are a packet of a message
pub record Frames (m : Message) (b : List ℕ) : Type 0 where
  pub short : length b ≤ most_bytes
  pub frames : IsMessage m b

abbrev pub too_long : Bad
too_long = record { at = 0; why = TooLong }

-- what is wrong with some bytes: they are too long, or the first wrong field and why it is wrong
abbrev pub IsBadPacket : List ℕ → Bad → Type 0
IsBadPacket b bad = ((most_bytes < length b) × (bad ≡ too_long)) ⊎ ((length b ≤ most_bytes) × IsBad MessageBreaks b bad)

-- the message whose packet some bytes are, or what is wrong with them
unfoldable pub read_packet : List ℕ → Result Message Bad
read_packet b = if nat_le (length b) most_bytes then placed (length b) (message_at b) else Err too_long

-- a message that has a packet, apart from what its types say of numbers and texts
pub record IsEncodable (m : Message) : Type 0 where
  pub sound : IsMessageSound m
  pub short : length (written_packet m) ≤ most_bytes

-- a message that has a packet
pub record IsWritable (m : Message) : Type 0 where
  pub fits : FitsMessage m
  pub short : length (written_packet m) ≤ most_bytes
