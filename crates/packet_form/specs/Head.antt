-- The first byte of a packet.
use Rattle.std.specs.Prelude.{ℕ, ◌+◌, ◌*◌, ◌/◌, ◌%◌, Bool, true, false, not, ◌&&◌, ◌||◌, nat_eq, if◌then◌else◌}
use Rattle.std.specs.Int.{Width, w8, w16, w32}
use Rattle.packet_form.specs.declared.head.NodeWidth.{NodeWidth}
use Rattle.packet_form.specs.declared.head.NodeWidth.TheVariants.{One, Two, Four}
use Rattle.packet_form.specs.declared.head.CallHead.{CallHead}
use Rattle.packet_form.specs.declared.head.Head.{Head}
use Rattle.packet_form.specs.declared.head.Head.TheVariants as head

-- bits 0 to 2, and bits 4 to 7
abbrev pub command_of : ℕ → ℕ
command_of n = n % 8

abbrev pub flags_of : ℕ → ℕ
flags_of n = n / 16

-- bit 3 is zero, and there are no flags but those of a call and that of a Delta
abbrev pub is_command : ℕ → Bool
is_command n = nat_eq (n / 8 % 2) 0 && (nat_eq (command_of n) 0 || nat_eq (flags_of n) 0 || (nat_eq (command_of n) 6 && nat_eq (flags_of n) 1))

-- the width of a call's node id, bits 4 and 5, is none of 1, 2 and 4 bytes
abbrev pub has_width : ℕ → Bool
has_width n = not (nat_eq (command_of n) 0 && nat_eq (flags_of n % 4) 3)

abbrev pub node_width : ℕ → NodeWidth
node_width n = if nat_eq n 0 then One else if nat_eq n 1 then Two else Four

-- the flags of a call: bits 4 and 5, bit 6, bit 7
abbrev pub call_head : ℕ → CallHead
call_head n = record { node = node_width (flags_of n % 4); wide_method = nat_eq (flags_of n / 4 % 2) 1; raw = nat_eq (flags_of n / 8) 1 }

-- what a first byte says
unfoldable pub head_of : ℕ → Head
head_of n =
    if nat_eq (command_of n) 0 then head.Call (call_head n)
    else (if nat_eq (command_of n) 1 then head.Simplify
    else (if nat_eq (command_of n) 2 then head.Confirm
    else (if nat_eq (command_of n) 3 then head.Raw
    else (if nat_eq (command_of n) 4 then head.Spawn
    else (if nat_eq (command_of n) 5 then head.Despawn
    else (if nat_eq (command_of n) 6 then (if nat_eq (flags_of n) 1 then head.Delta else head.Sync)
    else head.System))))))

-- a packet that one peer means for another
abbrev pub is_plain : Head → Bool
is_plain head.System = false
is_plain h = true

-- the bytes of a node id and of a method id
abbrev pub width_of : NodeWidth → Width
width_of One = w8
width_of Two = w16
width_of Four = w32

abbrev pub method_width : Bool → Width
method_width wide = if wide then w16 else w8

abbrev pub method_size : Bool → ℕ
method_size wide = if wide then 2 else 1

-- the first byte of a call
abbrev pub width_bits : NodeWidth → ℕ
width_bits One = 0
width_bits Two = 1
width_bits Four = 2

abbrev pub bit : Bool → ℕ
bit x = if x then 1 else 0

abbrev pub call_byte : CallHead → ℕ
call_byte h = 16 * width_bits h.node + 64 * bit h.wide_method + 128 * bit h.raw
