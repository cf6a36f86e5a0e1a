-- Two's complement; half is the number of signed numbers of a width that aren't negative.
use Rattle.std.specs.Prelude.{ℕ, ◌-◌, ◌*◌, ◌<◌, ℤ, pos, negsuc, nat_lt, if◌then◌else◌}

-- the number is one of the width
abbrev pub IsWithin : ℕ → ℤ → Type 0
IsWithin half (pos n) = n < half
IsWithin half (negsuc n) = n < half

-- the bits of a signed number, as an unsigned one
abbrev pub bits_of : ℕ → ℤ → ℕ
bits_of half (pos n) = n
bits_of half (negsuc n) = 2 * half - 1 - n

-- the signed number of some bits
abbrev pub signed_of : ℕ → ℕ → ℤ
signed_of half n = if nat_lt n half then pos n else negsuc (2 * half - 1 - n)

-- the halves of 8, 16, 32 and 64 bits
abbrev pub half8 : ℕ
half8 = 128

abbrev pub half16 : ℕ
half16 = 32768

abbrev pub half32 : ℕ
half32 = 2147483648

abbrev pub half64 : ℕ
half64 = 9223372036854775808
