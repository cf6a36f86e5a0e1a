-- The 32-bit header of a binary form: the type number in the low half, flags in the high half.
use Rattle.std.specs.Prelude.{ℕ, ◌+◌, ◌/◌, ◌%◌, Bool, true, false, not, ◌&&◌, ◌||◌, nat_eq, nat_le, nat_lt, List, if◌then◌else◌}
use Rattle.std.specs.Int.{w32}
use Rattle.byte_fields.specs.Fields.{word}
use Rattle.gd_variant.specs.Sound.{ints_count, may_be_wide}
use Rattle.variant_codec.specs.declared.form.Form.{Form}
use Rattle.variant_codec.specs.declared.form.Form.TheVariants as form

-- bit 16 is the 64-bit flag
abbrev pub flag : Bool → ℕ
flag true = 65536
flag false = 0

-- the header of a type number, with or without the 64-bit flag
abbrev pub header : ℕ → Bool → List ℕ
header code wide = word w32 (code + flag wide)

-- the type number in a header, and whether its 64-bit flag is set
abbrev pub code_in : ℕ → ℕ
code_in n = n % 65536

abbrev pub is_wide : ℕ → Bool
is_wide n = nat_eq (n / 65536) 1

-- a type number that there is
abbrev pub is_kind : ℕ → Bool
is_kind n = nat_le (code_in n) 38

-- a type that is carried: no RID, Object, Callable or Signal
abbrev pub is_carried : ℕ → Bool
is_carried n = not (nat_lt 22 (code_in n) && nat_lt (code_in n) 27)

-- the types on which the 64-bit flag is allowed
abbrev pub may_be_flagged : ℕ → Bool
may_be_flagged code = nat_eq code 2 || may_be_wide code

-- no flag but an allowed 64-bit flag
abbrev pub has_right_flags : ℕ → Bool
has_right_flags n = nat_eq (n / 65536) 0 || (is_wide n && may_be_flagged (code_in n))

-- the types whose values hold values
abbrev pub holds_values : ℕ → Bool
holds_values code = nat_eq code 27 || nat_eq code 28

-- a value that holds values has room for a level more
abbrev pub has_room : Bool → ℕ → Bool
has_room room n = room || not (holds_values (code_in n))

-- the layout of a type number that is carried
unfoldable pub form_of : ℕ → Form
form_of code =
    if nat_eq code 0 then form.Nil
    else (if nat_eq code 1 then form.Bool
    else (if nat_eq code 2 then form.Int
    else (if nat_eq code 4 then form.Text
    else (if nat_eq code 21 then form.Name
    else (if nat_eq code 22 then form.Path
    else (if nat_eq code 27 then form.Dict
    else (if nat_eq code 28 then form.Array
    else (if nat_eq code 29 then form.Bytes
    else (if nat_eq code 30 then form.Shorts
    else (if nat_eq code 31 then form.Longs
    else (if nat_eq code 34 then form.Texts
    else (if not (nat_eq (ints_count code) 0) then form.Ints
    else (if nat_le 32 code then form.Elements
    else form.Fixed)))))))))))))
