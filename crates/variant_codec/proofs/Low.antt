-- The low 32 bits of a number are its word.
use Rattle.std.proofs.Common.{◌≡◌, ℕ, ◌%◌, ◌/◌, refl, arith}
use Rattle.std.specs.Int.{w32}
use Rattle.byte_fields.specs.Fields.{word}

pub word_low : (n : ℕ) → word w32 (n % 4294967296) ≡ word w32 n
unfolding word
word_low n =
    let a : n % 4294967296 % 256 ≡ n % 256 = omega arith in
    let b : n % 4294967296 / 256 % 256 ≡ n / 256 % 256 = omega arith in
    let c : n % 4294967296 / 65536 % 256 ≡ n / 65536 % 256 = omega arith in
    let d : n % 4294967296 / 16777216 % 256 ≡ n / 16777216 % 256 = omega arith in
    rw (a, b, c, d) refl
