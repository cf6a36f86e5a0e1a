-- The text of a value is read as the value.
use Rattle.std.proofs.Common.{◌≡◌, ℕ, suc, ◌≤◌, Bool, true, false, List, [], ◌∷◌, Option, Some, IsUtf8, refl, sym, ap, ap₂, ◌∙◌, append-nil, arith}
use Rattle.std.specs.Prelude.{pos, negsuc, max, option_map, option_and_then}
use Rattle.std.proofs.lemmas.Str.{IsUtf8-append, IsUtf8-nil, IsUtf8-from_ascii, IsUtf8-from_is_utf8, is_utf8-from_IsUtf8}
use Rattle.std.proofs.lemmas.Fmt.{IsAscii-decimal, IsAscii-signed}
use Rattle.json.specs.Json as json
use Rattle.json.specs.Token.{Token}
use Rattle.json.specs.Lex.{tokens}
use Rattle.json.specs.Print.{quoted}
use Rattle.json.specs.Tree as tree
use Rattle.json.proofs.Printed.Decimals.{IsNumber-decimal, IsNumber-signed_decimal}
use Rattle.json.proofs.Printed.Tokens.{tokens-print}
use Rattle.json.proofs.Printed.Trees.{ArePrintable-json_tokens, value-json_tokens}
use Rattle.json.proofs.Printed.Utf8.{IsUtf8-are_ascii, IsUtf8-quoted, IsUtf8-boolean}
use Rattle.serde_json.specs.Data.{Num, unsigned, negative, float, Data, null, boolean, number, string, array, object, Items, no_items, item, Members, no_members, member, put, depth, items_depth, members_depth}
use Rattle.serde_json.specs.Read.{number_of, of_json, of_items, of_members, read, max_depth}
use Rattle.serde_json.specs.Written.{number_text, outline, items_outline, members_outline, comma_if, compact_text, items_text, members_text}
use Rattle.serde_json.proofs.Numbers.{number_of-decimal, number_of-negative}
use Rattle.serde_json.proofs.Texts.{print-outline}
use Rattle.line_text.specs.Lines.{found, line_data}
use Rattle.line_laws.specs.Texts.{FitsLine, put_all, IsPlain, ArePlain, HavePlain, ReadsTexts}

-- ---- what the outline stands for

number_back : (n : Num) → FitsLine n → number_of (number_text n) ≡ Some n
number_back (unsigned n) h = number_of-decimal n h
number_back (negative (pos n)) h = absurd h
number_back (negative (negsuc n)) h = number_of-negative n h
number_back (float x) h = absurd h

mutual
  data_back : (d : Data) → IsPlain d → of_json (outline d) ≡ Some d
  data_back null h = refl
  data_back (boolean b) h = refl
  data_back (number n) h = ap (option_map number) (number_back n h)
  data_back (string s) h = refl
  data_back (array ds) h = ap (option_map array) (items_back ds h)
  data_back (object ms) h = ap (option_map object) (members_back ms no_members h.1 ∙ ap Some h.0)

  items_back : (ds : Items) → ArePlain ds → of_items (items_outline ds) ≡ Some ds
  items_back no_items h = refl
  items_back (item d ds) h = ap₂ (λ (x : Option Data) (xs : Option Items). option_and_then (λ e. option_map (item e) xs) x) (data_back d h.0) (items_back ds h.1)

  members_back : (ms before : Members) → HavePlain ms → of_members (members_outline ms) before ≡ Some (put_all ms before)
  members_back no_members before h = refl
  members_back (member k d ms) before h =
      ap (option_and_then (λ e. of_members (members_outline ms) (put k e before))) (data_back d h.1) ∙ members_back ms (put k d before) h.2

-- ---- its numbers and its depth

is_number : (n : Num) → FitsLine n → tree.HasNumbers (json.number (number_text n))
is_number (unsigned n) h = IsNumber-decimal n h
is_number (negative (pos n)) h = absurd h
is_number (negative (negsuc n)) h = IsNumber-signed_decimal (negsuc n) h
is_number (float x) h = absurd h

mutual
  numbers : (d : Data) → IsPlain d → tree.HasNumbers (outline d)
  numbers null h = tt
  numbers (boolean b) h = tt
  numbers (number n) h = is_number n h
  numbers (string s) h = tt
  numbers (array ds) h = items_numbers ds h
  numbers (object ms) h = members_numbers ms h.1

  items_numbers : (ds : Items) → ArePlain ds → tree.ItemsHaveNumbers (items_outline ds)
  items_numbers no_items h = tt
  items_numbers (item d ds) h = (numbers d h.0, items_numbers ds h.1)

  members_numbers : (ms : Members) → HavePlain ms → tree.MembersHaveNumbers (members_outline ms)
  members_numbers no_members h = tt
  members_numbers (member k d ms) h = (numbers d h.1, members_numbers ms h.2)

mutual
  same_depth : (d : Data) → tree.depth (outline d) ≡ depth d
  same_depth null = refl
  same_depth (boolean b) = refl
  same_depth (number n) = refl
  same_depth (string s) = refl
  same_depth (array ds) = ap suc (same_items_depth ds)
  same_depth (object ms) = ap suc (same_members_depth ms)

  same_items_depth : (ds : Items) → tree.items_depth (items_outline ds) ≡ items_depth ds
  same_items_depth no_items = refl
  same_items_depth (item d ds) = ap₂ max (same_depth d) (same_items_depth ds)

  same_members_depth : (ms : Members) → tree.members_depth (members_outline ms) ≡ members_depth ms
  same_members_depth no_members = refl
  same_members_depth (member k d ms) = ap₂ max (same_depth d) (same_members_depth ms)

-- ---- its text

number_utf8 : (n : Num) → FitsLine n → IsUtf8 (number_text n)
number_utf8 (unsigned n) h = IsUtf8-from_ascii _ (IsAscii-decimal n h)
number_utf8 (negative (pos n)) h = absurd h
number_utf8 (negative (negsuc n)) h = IsUtf8-from_ascii _ (IsAscii-signed (negsuc n) h)
number_utf8 (float x) h = absurd h

comma_utf8 : (later : Bool) → IsUtf8 (comma_if later)
comma_utf8 true = IsUtf8-are_ascii (44 ∷ []) refl
comma_utf8 false = IsUtf8-nil

behind : (x : ℕ) (xs : List ℕ) → IsUtf8 (x ∷ []) → IsUtf8 xs → IsUtf8 (x ∷ xs)
behind x xs h k = IsUtf8-append (x ∷ []) xs h k

mutual
  text_utf8 : (d : Data) → IsPlain d → IsUtf8 (compact_text d)
  text_utf8 null h = IsUtf8-are_ascii _ refl
  text_utf8 (boolean b) h = IsUtf8-boolean b
  text_utf8 (number n) h = number_utf8 n h
  text_utf8 (string s) h = IsUtf8-quoted s (IsUtf8-from_is_utf8 s h)
  text_utf8 (array ds) h = behind 91 (items_text false ds) (IsUtf8-are_ascii (91 ∷ []) refl) (items_utf8 false ds h)
  text_utf8 (object ms) h = behind 123 (members_text false ms) (IsUtf8-are_ascii (123 ∷ []) refl) (members_utf8 false ms h.1)

  items_utf8 : (later : Bool) (ds : Items) → ArePlain ds → IsUtf8 (items_text later ds)
  items_utf8 later no_items h = IsUtf8-are_ascii (93 ∷ []) refl
  items_utf8 later (item d ds) h = IsUtf8-append (comma_if later) _ (comma_utf8 later) (IsUtf8-append (compact_text d) _ (text_utf8 d h.0) (items_utf8 true ds h.1))

  members_utf8 : (later : Bool) (ms : Members) → HavePlain ms → IsUtf8 (members_text later ms)
  members_utf8 later no_members h = IsUtf8-are_ascii (125 ∷ []) refl
  members_utf8 later (member k d ms) h =
      IsUtf8-append (comma_if later) _ (comma_utf8 later) (IsUtf8-append (quoted k) _ (IsUtf8-quoted k (IsUtf8-from_is_utf8 k h.0))
      (behind 58 _ (IsUtf8-are_ascii (58 ∷ []) refl) (IsUtf8-append (compact_text d) _ (text_utf8 d h.1) (members_utf8 true ms h.2))))

-- ---- the whole

same_tokens : (d : Data) → IsPlain d → tokens (compact_text d) ≡ tree.json_tokens (outline d)
same_tokens d h = ap tokens (sym (print-outline d)) ∙ tokens-print (tree.json_tokens (outline d)) (ArePrintable-json_tokens (outline d) (numbers d h))

-- what the grammar finds, as a value
abbrev whole : Option (json.Json × List Token) → Option Data
whole o = option_and_then of_json (option_and_then (λ p. json.if_last p.0 p.1) o)

text_back : (d : Data) → IsPlain d → depth d ≤ max_depth → read (compact_text d) ≡ Some d
text_back d h shallow =
    let ts = tree.json_tokens (outline d) in
    ap whole (ap (json.value max_depth) (same_tokens d h ∙ sym (append-nil ts)) ∙ value-json_tokens (outline d) max_depth [] (omega (arith, same_depth d, shallow))) ∙ data_back d h

pub reads_texts : ReadsTexts
unfolding line_data
reads_texts d h shallow = rw (is_utf8-from_IsUtf8 (compact_text d) (text_utf8 d h)) (ap found (text_back d h shallow))
