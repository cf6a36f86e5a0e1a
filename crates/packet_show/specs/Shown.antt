-- The text that shows a line.
use Rattle.std.specs.Prelude.{◌≡◌, ℕ, List, Result, Ok, Err}
use Rattle.gd_variant.specs.declared.message.Bad.{Bad}
use Rattle.gd_variant.specs.declared.message.Message.{Message}
use Rattle.hex.specs.Hex.{decode_of}
use Rattle.hex.specs.declared.error.FromHexError.{FromHexError}
use Rattle.hex.specs.declared.error.FromHexError.TheVariants as hex
use Rattle.packet_form.specs.Packets.{read_packet}
use Rattle.session_text.specs.Messages.{bad_line, message_line}
use Rattle.program_edge.specs.declared.status.LineWhy.{LineWhy}
use Rattle.program_edge.specs.declared.status.LineWhy.TheVariants.{Hex}
use Rattle.program_edge.specs.declared.stop.LineStop.{LineStop}
use Rattle.program_edge.specs.declared.stop.LineStop.TheVariants.{LineBad, OutOfMemory}
use Rattle.program_edge.specs.declared.status.Status.TheVariants as status
use Rattle.line_runs.specs.Output.{Command, Telling, never_last, stops}

-- what reading a packet came to
abbrev pub read_line : Result Message Bad → List ℕ
read_line (Ok m) = message_line m
read_line (Err bad) = bad_line bad

-- the line that shows a packet, or says why the bytes are none
unfoldable pub packet_line : List ℕ → List ℕ
packet_line packet = read_line (read_packet packet)

-- by what the hexadecimal stands for
abbrev pub shown_by : Result (List ℕ) FromHexError → Result (List ℕ) LineWhy
shown_by (Ok packet) = Ok (packet_line packet)
shown_by (Err e) = Err Hex

-- the line that a line gives, or that it isn't an even number of hexadecimal digits
unfoldable pub shown : List ℕ → Result (List ℕ) LineWhy
shown line = shown_by (decode_of line)

-- the same, whatever lines came before
abbrev pub show_told : Telling
show_told ls line = shown line

-- the command `show`: no line ends the input, and its end gives nothing more
abbrev pub show_command : Command
show_command = record { told = show_told; is_last = never_last; closing = λ ls. stops status.Done }

-- nothing is known of lines of packets but what they give
abbrev pub NothingKnown : List (List ℕ) → Type 0
NothingKnown ls = Unit {0}

-- why a line gives none
abbrev pub stop_of : FromHexError → LineStop
stop_of hex.OutOfMemory = OutOfMemory
stop_of e = LineBad Hex

-- what a line comes to
abbrev pub TextOf : List ℕ → Result (List ℕ) LineStop → Type 0
TextOf line (Ok text) = shown line ≡ Ok text
TextOf line (Err (LineBad why)) = shown line ≡ Err why
TextOf line (Err OutOfMemory) = Unit {0}

-- a line stops a run of `show` for one reason alone
abbrev pub IsHex : LineWhy → Type 0
IsHex reason = reason ≡ Hex
