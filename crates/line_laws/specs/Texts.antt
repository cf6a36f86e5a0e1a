-- Values of JSON that are read of the text that is written of them.
use Rattle.std.specs.Prelude.{◌≡◌, ℕ, ◌<◌, ◌≤◌, ◌^◌, pos, negsuc, true, Ok, ⊤}
use Rattle.std.specs.Str.{is_utf8}
use Rattle.serde_json.specs.Data.{Num, unsigned, negative, float, Data, null, boolean, number, string, array, object, Items, no_items, item, Members, no_members, member, put, depth}
use Rattle.serde_json.specs.Read.{max_depth}
use Rattle.serde_json.specs.Written.{compact_text}
use Rattle.line_text.specs.Lines.{line_data}

-- an integer of 64 bits
abbrev pub FitsLine : Num → Type 0
FitsLine (unsigned n) = n < 2 ^ 64
FitsLine (negative (pos n)) = ⊥
FitsLine (negative (negsuc n)) = n < 2 ^ 63
FitsLine (float x) = ⊥

-- the members, each put among those that were found
abbrev pub put_all : Members → Members → Members
put_all no_members found = found
put_all (member k d ms) found = put_all ms (put k d found)

-- each key stands once, and in its place
abbrev pub IsSorted : Members → Type 0
IsSorted ms = put_all ms no_members ≡ ms

-- numbers are integers of 64 bits, texts are UTF-8, and keys are in order
abbrev mutual
  pub IsPlain : Data → Type 0
  IsPlain null = ⊤
  IsPlain (boolean b) = ⊤
  IsPlain (number n) = FitsLine n
  IsPlain (string s) = is_utf8 s ≡ true
  IsPlain (array ds) = ArePlain ds
  IsPlain (object ms) = IsSorted ms × HavePlain ms

  pub ArePlain : Items → Type 0
  ArePlain no_items = ⊤
  ArePlain (item d ds) = IsPlain d × ArePlain ds

  pub HavePlain : Members → Type 0
  HavePlain no_members = ⊤
  HavePlain (member k d ms) = (is_utf8 k ≡ true) × IsPlain d × HavePlain ms

-- such a value, at most so deep
abbrev pub IsReadable : ℕ → Data → Type 0
IsReadable n d = IsPlain d × (depth d ≤ n)

-- such a value, not too deep, is read of its text
abbrev pub ReadsTexts : Type 0
ReadsTexts = (d : Data) → IsPlain d → depth d ≤ max_depth → line_data (compact_text d) ≡ Ok d
