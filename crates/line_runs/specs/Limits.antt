-- The limits of an input, which each command has.
use Rattle.std.specs.Prelude.{ℕ}

-- the most bytes of a line
abbrev pub longest_line : ℕ
longest_line = 33554432

-- the most bytes of an input that are judged
abbrev pub most_judged : ℕ
most_judged = 1073741824
