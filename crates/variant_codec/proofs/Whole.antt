-- A header and what stands behind it are a form, and a form is a header and what stands behind it.
use Rattle.std.proofs.Common.{◌≡◌, ℕ, zero, suc, ◌+◌, ◌-◌, ◌*◌, ◌/◌, ◌%◌, ◌^◌, ◌<◌, ◌≤◌, Bool, true, false, List, [], ◌++◌, length, refl, sym, ap, subst, ◌∙◌, arith, inl, inr, ◌⊎◌}
use Rattle.std.specs.Prelude.{ℤ, not, ◌&&◌, ◌||◌, nat_eq, nat_le, nat_lt, Err}
use Rattle.std.specs.Int.{w32}
use Rattle.std.proofs.lemmas.Bool.{and_parts, and_from, eqb-true, eqb-false, eq-eqb, leb-true, le-leb, lt-ltb, ltb-true, cases_lt, cases_Bool}
use Rattle.std.proofs.Math.Nat.{mul-div_cancel, mul-mod_left, mod-add-div'}
use Rattle.byte_fields.specs.Fields.{word, fault}
use Rattle.gd_variant.specs.declared.message.Why.TheVariants.{Depth}
use Rattle.gd_variant.specs.Tree.{Tree, Trees, nil, boolean, int, text, name, path, ints, opaque, dict, array, packed_bytes, packed_ints, packed_texts, trees_of, pairs_of}
use Rattle.gd_variant.specs.Sound.{nesting, deepest, ints_count, components, at_or, component_size, element_size, may_be_wide, is_multiple, fixed_size_right, opaque_right, keys_distinct}
use Rattle.variant_codec.specs.declared.form.Form.{Form}
use Rattle.variant_codec.specs.declared.form.Form.TheVariants as form
use Rattle.variant_codec.specs.Header.{flag, header, code_in, is_wide, is_kind, is_carried, may_be_flagged, has_right_flags, holds_values, has_room, form_of}
use Rattle.variant_codec.specs.Parts.{Padded, SpellsText, SpellsElement, SpellsShort, SpellsLong, SpellsEach, Headed, Numbered, Counted, shared, truth, SpellsBool, SpellsPath, path_flags, count}
use Rattle.variant_codec.specs.Grammar.{SpellsInts, SpellsOpaque, Spells, SpellsAll}
use Rattle.variant_codec.specs.Readers.{Relation, Mapped, Then, EachOf}
use Rattle.variant_codec.specs.Reading.{value_at}
use Rattle.variant_codec.specs.Tests.{is_path_flags, without_bit}
use Rattle.variant_codec.specs.Breaks.{Word, Header, SpellsWithin, Breaks}
use Rattle.variant_codec.proofs.Codes.{told_test, told, head_is, flagless, flagged, code_back, wide_back, head_fits, GoodHead, ints_head, fixed_head, elements_head, or_true}
use Rattle.variant_codec.proofs.Fields.{each_to, each_from, header_reader}
use Rattle.variant_codec.proofs.Bodies.{SignedOf, PathBody, ArrayBody, DictBody, Body, body_reader}
use Rattle.variant_codec.proofs.Trees.{count_trees, list_of, list_back, list_count, all_to, deep_to, all_from, pairs_list, pairs_back, count_pairs, pairs_all, pairs_deep, pairs_distinct, pairs_from}
use Rattle.variant_codec.proofs.Laws.{IsReader, no_err, err_is, here, then_reader, seen}

headed : (c : ℕ) (wide : Bool) (R : List ℕ → Type 0) (head : ℕ) (body : List ℕ) → head ≡ c + flag wide → R body → Headed c wide R (word w32 head ++ body)
headed c wide R head body e r = record { body = body; right = r; form = ap (λ h. word w32 h ++ body) e }

not_true : (b : Bool) → not b ≡ true → b ≡ false
not_true true h = sym h
not_true false h = refl

-- the header of a type that has no flag
at_code : (head c : ℕ) → has_right_flags head ≡ true → nat_eq (code_in head) c ≡ true → may_be_flagged c ≡ false → head ≡ c + flag false
at_code head c flags is plain =
    let e : code_in head ≡ c = eqb-true (code_in head) c is in
    let w : is_wide head ≡ false = flagless head flags (ap may_be_flagged e ∙ plain) in
    head_is head flags ∙ ap (λ k. k + flag (is_wide head)) e ∙ ap (λ b. c + flag b) w

-- ---- counts with a shared bit

shared_bit : (n k : ℕ) → n < 2 ^ 32 → k ≡ without_bit n → (bit : Bool) × (k < 2 ^ 31) × (n ≡ k + shared bit)
shared_bit n k lt e =
    elim (cases_lt n 2147483648) [
      | inl h ↦ (false, omega arith, omega arith)
      | inr h ↦ (true, omega arith, omega arith)
    ]

bit_back : (k : ℕ) (bit : Bool) → k < 2 ^ 31 → (k + shared bit < 2 ^ 32) × (without_bit (k + shared bit) ≡ k)
bit_back k true h = (omega arith, omega arith)
bit_back k false h = (omega arith, omega arith)

-- ---- paths

flags_back : (f : ℕ) → f ≤ 1 → path_flags (nat_eq f 1) ≡ f
flags_back zero le = refl
flags_back (suc zero) le = refl
flags_back (suc (suc f)) le = absurd (omega (arith, le))

flag_seen : (a : Bool) → nat_eq (path_flags a) 1 ≡ a
flag_seen true = refl
flag_seen false = refl

flag_small : (a : Bool) → is_path_flags (path_flags a) ≡ true
flag_small true = refl
flag_small false = refl

flag_fits : (a : Bool) → path_flags a < 2 ^ 32
flag_fits true = omega arith
flag_fits false = omega arith

record PathParts (t : Tree) (body : List ℕ) : Type 0 where
  absolute : Bool
  names : List (List ℕ)
  subnames : List (List ℕ)
  is : t ≡ path absolute names subnames
  right : SpellsPath (path_flags absolute) names subnames body

path_to : (t : Tree) (body : List ℕ) → PathBody t body → PathParts t body
path_to t body (n, nf, after_n, (bit, (n_fits, n_is)), (m, mf, after_m, (m_fits, m_is), (f, ff, after_f, (small, (f_fits, f_is)), (names, xs, ys, (names_len, names_right), (subnames, is, (subs_len, subs_right)), tail), e_f), e_m), e_n) =
    let big : 2147483648 ≤ n = leb-true 2147483648 n bit in
    let n_back : n ≡ 2147483648 + length names = omega (arith, names_len) in
    record {
      absolute = nat_eq f 1;
      names = names;
      subnames = subnames;
      is = is;
      right = record {
        names_bytes = xs;
        subnames_bytes = ys;
        names_fit = omega (arith, names_len, n_fits);
        subnames_fit = subst (λ k. k < 2 ^ 32) (sym subs_len) m_fits;
        names_right = each_to SpellsText [] names xs names_right;
        subnames_right = each_to SpellsText [] subnames ys subs_right;
        form =
            e_n ∙ ap (λ (l : List ℕ). l ++ after_n) (n_is ∙ ap (word w32) n_back)
            ∙ ap (λ (l : List ℕ). word w32 (2147483648 + length names) ++ l) (e_m ∙ ap (λ (l : List ℕ). l ++ after_m) (m_is ∙ ap (word w32) (sym subs_len))
            ∙ ap (λ (l : List ℕ). word w32 (length subnames) ++ l) (e_f ∙ ap (λ (l : List ℕ). l ++ after_f) (f_is ∙ ap (word w32) (sym (flags_back f (leb-true f 1 small))))
            ∙ ap (λ (l : List ℕ). word w32 (path_flags (nat_eq f 1)) ++ l) tail));
      };
    }

path_from : (a : Bool) (names subnames : List (List ℕ)) (body : List ℕ) → SpellsPath (path_flags a) names subnames body → PathBody (path a names subnames) body
path_from a names subnames body s =
    let n = 2147483648 + length names in
    let names_len : length names ≡ n - 2147483648 = omega arith in
    let n_fits : n < 2 ^ 32 = omega (arith, s.names_fit) in (
      n,
      word w32 n,
      _,
      (le-leb 2147483648 n (omega arith), (n_fits, refl)),
      (
        length subnames,
        word w32 (length subnames),
        _,
        (s.subnames_fit, refl),
        (
          path_flags a,
          word w32 (path_flags a),
          s.names_bytes ++ s.subnames_bytes,
          (flag_small a, (flag_fits a, refl)),
          (
            names,
            s.names_bytes,
            s.subnames_bytes,
            (names_len, each_from SpellsText [] names s.names_bytes s.names_right),
            (subnames, ap (λ b. path b names subnames) (sym (flag_seen a)), (refl, each_from SpellsText [] subnames s.subnames_bytes s.subnames_right)),
            refl,
          ),
          refl,
        ),
        refl,
      ),
      s.form,
    )

-- ---- floats as bytes

fixed_right : (c : ℕ) (wide : Bool) (n : ℕ) → nat_le 32 c ≡ false → nat_eq (at_or c components) 0 ≡ false → (may_be_wide c || not wide) ≡ true → n ≡ at_or c components * component_size wide → opaque_right c wide n ≡ true
fixed_right c wide n small some w len =
    and_from (may_be_wide c || not wide) _ w (rw small (and_from (not (nat_eq (at_or c components) 0)) _ (ap not some) (eq-eqb n _ len)))

packed_right : (c : ℕ) (wide : Bool) (len n : ℕ) → nat_le 32 c ≡ true → nat_eq (element_size c wide) 0 ≡ false → (may_be_wide c || not wide) ≡ true → n < 2 ^ 32 → len ≡ n * element_size c wide
    → (opaque_right c wide len ≡ true) × (len / element_size c wide ≡ n)
packed_right c wide len n big some w lt e =
    let size = element_size c wide in
    let pos : 0 < size = (let h = eqb-false size 0 some in omega (arith, h)) in
    let back : len / size ≡ n = ap (λ k. k / size) e ∙ mul-div_cancel n pos in
    let rest : len % size ≡ 0 = ap (λ k. k % size) e ∙ mul-mod_left n size in (
      and_from (may_be_wide c || not wide) _ w
          (rw big (and_from _ _ (and_from (not (nat_eq size 0)) _ (ap not some) (eq-eqb _ 0 rest)) (lt-ltb (len / size) (2 ^ 32) (subst (λ k. k < 2 ^ 32) (sym back) lt)))),
      back,
    )

record FixedParts (c : ℕ) (wide : Bool) (len : ℕ) : Type 0 where
  some : nat_eq (at_or c components) 0 ≡ false
  wide_ok : (may_be_wide c || not wide) ≡ true
  sized : len ≡ at_or c components * component_size wide

record PackedParts (c : ℕ) (wide : Bool) (len : ℕ) : Type 0 where
  some : nat_eq (element_size c wide) 0 ≡ false
  wide_ok : (may_be_wide c || not wide) ≡ true
  fits : len / element_size c wide < 2 ^ 32
  sized : len ≡ len / element_size c wide * element_size c wide

fixed_parts : (c : ℕ) (wide : Bool) (len : ℕ) → nat_le 32 c ≡ false → opaque_right c wide len ≡ true → FixedParts c wide len
fixed_parts c wide len small h =
    let a = and_parts (may_be_wide c || not wide) _ h in
    let b : fixed_size_right c wide len ≡ true = rw small at a.1 in
    let d = and_parts (not (nat_eq (at_or c components) 0)) _ b in
    record { some = not_true _ d.0; wide_ok = a.0; sized = eqb-true len _ d.1 }

packed_parts : (c : ℕ) (wide : Bool) (len : ℕ) → nat_le 32 c ≡ true → opaque_right c wide len ≡ true → PackedParts c wide len
packed_parts c wide len big h =
    let size = element_size c wide in
    let a = and_parts (may_be_wide c || not wide) _ h in
    let b : is_multiple len size ≡ true = rw big at a.1 in
    let d = and_parts (not (nat_eq size 0) && nat_eq (len % size) 0) (nat_lt (len / size) (2 ^ 32)) b in
    let f = and_parts (not (nat_eq size 0)) (nat_eq (len % size) 0) d.0 in
    let rest : len % size ≡ 0 = eqb-true _ 0 f.1 in
    record {
      some = not_true _ f.0;
      wide_ok = a.0;
      fits = ltb-true (len / size) (2 ^ 32) d.1;
      sized = (let whole = mod-add-div' len size in sym (ap (λ k. k + len / size * size) (sym rest) ∙ whole) ∙ omega arith);
    }

-- ---- from a header and a body to a form

abbrev V : ℕ → Relation Tree
V n = SpellsWithin n

flat_to : (n head : ℕ) (more : List ℕ) (u t : Tree) → t ≡ u → nesting u ≡ 0 → Spells u (word w32 head ++ more) → SpellsWithin (suc n) t (word w32 head ++ more)
flat_to n head more u t e flat s = subst (λ x. SpellsWithin (suc n) x (word w32 head ++ more)) (sym e) (omega (arith, flat), s)

int_to : (z : ℤ) (wide : Bool) (head : ℕ) (more : List ℕ) → head ≡ 2 + flag wide → SignedOf wide z more → Spells (int z) (word w32 head ++ more)
int_to z true head more e s = inr (headed 2 true (SpellsLong z) head more e s)
int_to z false head more e s = inl (headed 2 false (SpellsShort z) head more e s)

counted_to : (k n : ℕ) (R : List ℕ → Type 0) (b front rest : List ℕ) → k ≡ without_bit n → n < 2 ^ 32 → front ≡ word w32 n → R rest → b ≡ front ++ rest → Counted k R b
counted_to k n R b front rest e lt f r parts =
    let s = shared_bit n k lt e in
    record { bit = s.0; body = rest; short = s.1; right = r; form = parts ∙ ap (λ (l : List ℕ). l ++ rest) f ∙ ap (λ m. word w32 m ++ rest) s.2 }

array_to : (n head : ℕ) (more : List ℕ) (t : Tree) → 0 < n → head ≡ 28 + flag false → ArrayBody (V n) t more → SpellsWithin (suc n) t (word w32 head ++ more)
array_to n head more t room e (m, front, rest, (m_fits, m_is), (ts, is, (len, each)), parts) =
    let counted : count (trees_of ts) ≡ without_bit m = count_trees ts ∙ len in
    subst (λ x. SpellsWithin (suc n) x (word w32 head ++ more)) (sym is) (
      omega (arith, deep_to n [] ts rest room each),
      headed 28 false (Counted (count (trees_of ts)) (λ body. SpellsAll (trees_of ts) body)) head more e
          (counted_to (count (trees_of ts)) m (λ body. SpellsAll (trees_of ts) body) more front rest counted m_fits m_is (all_to n [] ts rest each) parts),
    )

dict_to : (n head : ℕ) (more : List ℕ) (t : Tree) → 0 < n → head ≡ 27 + flag false → DictBody (V n) t more → SpellsWithin (suc n) t (word w32 head ++ more)
dict_to n head more t room e (m, front, rest, (m_fits, m_is), (ps, is, (len, each)), parts) =
    subst (λ x. SpellsWithin (suc n) x (word w32 head ++ more)) (sym is) (
      omega (arith, pairs_deep n [] ps rest room each),
      (
        (pairs_distinct n [] ps rest each).0,
        length ps,
        count_pairs ps,
        headed 27 false (Counted (length ps) (λ body. SpellsAll (pairs_of ps) body)) head more e
            (counted_to (length ps) m (λ body. SpellsAll (pairs_of ps) body) more front rest len m_fits m_is (pairs_all n [] ps rest each) parts),
      ),
    )

numbered_to : {X : Type 0} (R : Relation X) (n : ℕ) (xs : List X) (b front rest : List ℕ) → n < 2 ^ 32 → front ≡ word w32 n → EachOf (λ _. R) n xs rest → b ≡ front ++ rest → Numbered (length xs) (SpellsEach R xs) b
numbered_to R n xs b front rest lt f e parts =
    record {
      body = rest;
      short = subst (λ k. k < 2 ^ 32) (sym e.0) lt;
      right = each_to R [] xs rest e.1;
      form = parts ∙ ap (λ (l : List ℕ). l ++ rest) f ∙ ap (λ k. word w32 k ++ rest) (sym e.0);
    }

only_first : (a b : Bool) → b ≡ true → (a || not b) ≡ true → a ≡ true
only_first true b e h = refl
only_first false true e h = h
only_first false false e h = absurd cc

-- there is room for values inside
room_left : (n c head : ℕ) → code_in head ≡ c → holds_values c ≡ true → has_room (nat_lt 0 n) head ≡ true → 0 < n
room_left n c head e h room = ltb-true 0 n (only_first (nat_lt 0 n) _ (ap holds_values e ∙ h) room)

sized : (c : ℕ) (wide : Bool) → nat_eq (element_size c false) 0 ≡ false → nat_eq (element_size c true) 0 ≡ false → nat_eq (element_size c wide) 0 ≡ false
sized c true f t = t
sized c false f t = f

form_to : (n : ℕ) (f : Form) (head : ℕ) (t : Tree) (more : List ℕ) → told_test f (code_in head) ≡ true → has_right_flags head ≡ true → has_room (nat_lt 0 n) head ≡ true
    → Body (V n) f (code_in head) (is_wide head) t more → SpellsWithin (suc n) t (word w32 head ++ more)
form_to n form.Nil head t more is flags room (e, b) = flat_to n head more nil t e refl (headed 0 false (λ x. x ≡ []) head more (at_code head 0 flags is refl) b)
form_to n form.Bool head t more is flags room (m, e, (lt, b)) =
    flat_to n head more (boolean (truth m)) t e refl (headed 1 false (SpellsBool (truth m)) head more (at_code head 1 flags is refl) (record { bits = m; fits = lt; is = refl; form = b }))
form_to n form.Int head t more is flags room (z, e, s) =
    let two : code_in head ≡ 2 = eqb-true (code_in head) 2 is in
    flat_to n head more (int z) t e refl (int_to z (is_wide head) head more (head_is head flags ∙ ap (λ k. k + flag (is_wide head)) two) s)
form_to n form.Text head t more is flags room (s, e, r) = flat_to n head more (text s) t e refl (headed 4 false (SpellsText s) head more (at_code head 4 flags is refl) r)
form_to n form.Name head t more is flags room (s, e, r) = flat_to n head more (name s) t e refl (headed 21 false (SpellsText s) head more (at_code head 21 flags is refl) r)
form_to n form.Path head t more is flags room b =
    let p = path_to t more b in
    flat_to n head more (path p.absolute p.names p.subnames) t p.is refl (headed 22 false (SpellsPath (path_flags p.absolute) p.names p.subnames) head more (at_code head 22 flags is refl) p.right)
form_to n form.Ints head t more is flags room (zs, e, (len, each)) =
    let c = code_in head in
    let a = and_parts (not (nat_eq (ints_count c) 0)) (not (may_be_flagged c)) is in
    let w : is_wide head ≡ false = flagless head flags (not_true _ a.1) in
    flat_to n head more (ints c zs) t e refl
    (headed c false (SpellsInts c zs) head more (head_is head flags ∙ ap (λ b. c + flag b) w) (not_true _ a.0, len, each_to SpellsShort [] zs more each))
form_to n form.Fixed head t more is flags room (s, e, (len, b)) =
    let c = code_in head in
    let wide = is_wide head in
    let a = and_parts (not (nat_le 32 c)) _ is in
    let d = and_parts (not (nat_eq (at_or c components) 0)) _ a.1 in
    let small : nat_le 32 c ≡ false = not_true _ a.0 in
    flat_to n head more (opaque c wide s) t e refl
    (headed c wide (SpellsOpaque c wide s) head more (head_is head flags) (fixed_right c wide (length s) small (not_true _ d.0) (flagged head flags d.1) len, rw small b))
form_to n form.Dict head t more is flags room b = dict_to n head more t (room_left n 27 head (eqb-true (code_in head) 27 is) refl room) (at_code head 27 flags is refl) b
form_to n form.Array head t more is flags room b = array_to n head more t (room_left n 28 head (eqb-true (code_in head) 28 is) refl room) (at_code head 28 flags is refl) b
form_to n form.Bytes head t more is flags room (s, e, r) = flat_to n head more (packed_bytes s) t e refl (headed 29 false (Padded s) head more (at_code head 29 flags is refl) r)
form_to n form.Shorts head t more is flags room (m, front, rest, (lt, w), (zs, e, each), parts) =
    flat_to n head more (packed_ints false zs) t e refl (headed 30 false (Numbered (length zs) (SpellsEach SpellsShort zs)) head more (at_code head 30 flags is refl) (numbered_to SpellsShort m zs more front rest lt w each parts))
form_to n form.Longs head t more is flags room (m, front, rest, (lt, w), (zs, e, each), parts) =
    flat_to n head more (packed_ints true zs) t e refl (headed 31 false (Numbered (length zs) (SpellsEach SpellsLong zs)) head more (at_code head 31 flags is refl) (numbered_to SpellsLong m zs more front rest lt w each parts))
form_to n form.Texts head t more is flags room (m, front, rest, (lt, w), (ts, e, each), parts) =
    flat_to n head more (packed_texts ts) t e refl (headed 34 false (Numbered (length ts) (SpellsEach SpellsElement ts)) head more (at_code head 34 flags is refl) (numbered_to SpellsElement m ts more front rest lt w each parts))
form_to n form.Elements head t more is flags room (m, front, rest, (lt, w), (s, e, (len, b)), parts) =
    let c = code_in head in
    let wide = is_wide head in
    let a = and_parts (nat_le 32 c) _ is in
    let d = and_parts (not (nat_eq (element_size c false) 0)) _ a.1 in
    let f = and_parts (not (nat_eq (element_size c true) 0)) _ d.1 in
    let right = packed_right c wide (length s) m a.0 (sized c wide (not_true _ d.0) (not_true _ f.0)) (flagged head flags f.1) lt len in
    let body : more ≡ word w32 (length s / element_size c wide) ++ s = parts ∙ ap (λ (l : List ℕ). l ++ rest) w ∙ ap (λ (l : List ℕ). word w32 m ++ l) b ∙ ap (λ k. word w32 k ++ s) (sym right.1) in
    flat_to n head more (opaque c wide s) t e refl (headed c wide (SpellsOpaque c wide s) head more (head_is head flags) (right.0, rw a.0 body))

value_to : (n : ℕ) (t : Tree) (b : List ℕ) → Then (Header (nat_lt 0 n)) (λ head. Body (V n) (form_of (code_in head)) (code_in head) (is_wide head)) t b → SpellsWithin (suc n) t b
value_to n t b (head, front, more, (room, (flags, (carried, (kind, (lt, is))))), body, parts) =
    subst (SpellsWithin (suc n) t) (sym (parts ∙ ap (λ (l : List ℕ). l ++ more) is)) (form_to n (form_of (code_in head)) head t more (told head kind carried) flags room body)

-- ---- from a form to a header and a body

abbrev Raw : ℕ → Relation Tree
Raw n = Then (Header (nat_lt 0 n)) (λ head. Body (V n) (form_of (code_in head)) (code_in head) (is_wide head))

moved : (R : Relation Tree) (f g : Form) (c d : ℕ) (w v : Bool) (t : Tree) (b : List ℕ) → f ≡ g → c ≡ d → w ≡ v → Body R f c w t b → Body R g d v t b
moved R f g c d w v t b ef ec ew h = subst (λ x. Body R g d x t b) ew (subst (λ k. Body R g k w t b) ec (subst (λ x. Body R x c w t b) ef h))

from_head : (n : ℕ) (f : Form) (c : ℕ) (wide : Bool) (P : List ℕ → Type 0) (t : Tree) (b : List ℕ) → c < 39 → form_of c ≡ f → is_kind (c + flag wide) ≡ true → is_carried (c + flag wide) ≡ true → has_right_flags (c + flag wide) ≡ true
    → has_room (nat_lt 0 n) (c + flag wide) ≡ true → (h : Headed c wide P b) → Body (V n) f c wide t h.body → Raw n t b
from_head n f c wide P t b small named kind carried flags room h body =
    let lt : c < 65536 = omega (arith, small) in
    let code = code_back c wide lt in (
      c + flag wide,
      header c wide,
      h.body,
      (room, (flags, (carried, (kind, (head_fits c wide lt, refl))))),
      moved (V n) f (form_of (code_in (c + flag wide))) c (code_in (c + flag wide)) wide (is_wide (c + flag wide)) t h.body (sym (ap form_of code ∙ named)) (sym code) (sym (wide_back c wide lt)) body,
      h.form,
    )

from_good : (n : ℕ) (f : Form) (c : ℕ) (wide : Bool) (P : List ℕ → Type 0) (t : Tree) (b : List ℕ) → GoodHead f c wide → (h : Headed c wide P b) → Body (V n) f c wide t h.body → Raw n t b
from_good n f c wide P t b g h body =
    from_head n f c wide P t b g.small g.named g.kind g.carried g.flags (rw g.flat (or_true (nat_lt 0 n))) h body

-- a type of one kind, whose values hold none
flat_head : (c : ℕ) (wide : Bool) (f : Form) → nat_lt c 39 ≡ true → form_of c ≡ f → is_kind (c + flag wide) ≡ true → is_carried (c + flag wide) ≡ true → has_right_flags (c + flag wide) ≡ true → holds_values (code_in (c + flag wide)) ≡ false → GoodHead f c wide
flat_head c wide f lt named kind carried flags flat = record { small = ltb-true c 39 lt; named = named; kind = kind; carried = carried; flags = flags; flat = flat }

numbered_from : {X : Type 0} (R : Relation X) (xs : List X) (see : List X → Tree) (b : List ℕ) → Numbered (length xs) (SpellsEach R xs) b → Then Word (λ n. Mapped see (EachOf (λ _. R) n)) (see xs) b
numbered_from R xs see b s = (length xs, word w32 (length xs), s.body, (s.short, refl), (xs, refl, (refl, each_from R [] xs s.body s.right)), s.form)

array_from : (n : ℕ) (ts : Trees) (b : List ℕ) → deepest ts < n → Counted (count ts) (λ body. SpellsAll ts body) b → ArrayBody (V n) (array ts) b
array_from n ts b lt s =
    let c = bit_back (count ts) s.bit s.short in (
      count ts + shared s.bit,
      word w32 (count ts + shared s.bit),
      s.body,
      (c.0, refl),
      (list_of ts, ap array (sym (list_back ts)), (list_count ts ∙ sym c.1, all_from n [] ts s.body lt s.right)),
      s.form,
    )

dict_from : (n k : ℕ) (ts : Trees) (b : List ℕ) → deepest ts < n → keys_distinct ts ≡ true → count ts ≡ 2 * k → Counted k (λ body. SpellsAll ts body) b → DictBody (V n) (dict ts) b
dict_from n k ts b lt distinct counted s =
    let c = bit_back k s.bit s.short in
    let back = pairs_back ts distinct in
    let len : length (pairs_list ts) ≡ k = omega (arith, count_pairs (pairs_list ts), ap count back, counted) in (
      k + shared s.bit,
      word w32 (k + shared s.bit),
      s.body,
      (c.0, refl),
      (pairs_list ts, ap dict (sym back), (len ∙ sym c.1, pairs_from n [] ts s.body distinct refl lt s.right)),
      s.form,
    )

opaque_from : (n c : ℕ) (wide : Bool) (s b : List ℕ) (big : Bool) → nat_le 32 c ≡ big → Headed c wide (SpellsOpaque c wide s) b → Raw n (opaque c wide s) b
opaque_from n c wide s b false e h =
    let p = fixed_parts c wide (length s) e h.right.0 in
    from_good n form.Fixed c wide (SpellsOpaque c wide s) (opaque c wide s) b (fixed_head c wide e p.some p.wide_ok) h (s, refl, (p.sized, rw e at h.right.1))
opaque_from n c wide s b true e h =
    let p = packed_parts c wide (length s) e h.right.0 in
    let k = length s / element_size c wide in
    from_good n form.Elements c wide (SpellsOpaque c wide s) (opaque c wide s) b (elements_head c wide e p.some p.wide_ok) h (k, word w32 k, s, (p.fits, refl), (s, refl, (p.sized, refl)), rw e at h.right.1)

-- the dictionary or array stands where there is room
room_for : (n deep : ℕ) → suc deep < suc n → nat_lt 0 n ≡ true
room_for n deep lt = lt-ltb 0 n (omega (arith, lt))

value_from : (n : ℕ) (t : Tree) (b : List ℕ) → SpellsWithin (suc n) t b → Raw n t b
unfolding form_of
value_from n nil b (lt, h) = from_good n form.Nil 0 false (λ x. x ≡ []) nil b (flat_head 0 false form.Nil refl refl refl refl refl refl) h (refl, h.right)
value_from n (boolean x) b (lt, h) =
    from_good n form.Bool 1 false (SpellsBool x) (boolean x) b (flat_head 1 false form.Bool refl refl refl refl refl refl) h (h.right.bits, ap boolean (sym h.right.is), (h.right.fits, h.right.form))
value_from n (int z) b (lt, inl h) = from_good n form.Int 2 false (SpellsShort z) (int z) b (flat_head 2 false form.Int refl refl refl refl refl refl) h (z, refl, h.right)
value_from n (int z) b (lt, inr h) = from_good n form.Int 2 true (SpellsLong z) (int z) b (flat_head 2 true form.Int refl refl refl refl refl refl) h (z, refl, h.right)
value_from n (text s) b (lt, h) = from_good n form.Text 4 false (SpellsText s) (text s) b (flat_head 4 false form.Text refl refl refl refl refl refl) h (s, refl, h.right)
value_from n (name s) b (lt, h) = from_good n form.Name 21 false (SpellsText s) (name s) b (flat_head 21 false form.Name refl refl refl refl refl refl) h (s, refl, h.right)
value_from n (path a ns ss) b (lt, h) =
    from_good n form.Path 22 false (SpellsPath (path_flags a) ns ss) (path a ns ss) b (flat_head 22 false form.Path refl refl refl refl refl refl) h (path_from a ns ss h.body h.right)
value_from n (ints c zs) b (lt, h) =
    from_good n form.Ints c false (SpellsInts c zs) (ints c zs) b (ints_head c h.right.0) h (zs, refl, (h.right.1, each_from SpellsShort [] zs h.body h.right.2))
value_from n (opaque c wide s) b (lt, h) = opaque_from n c wide s b (nat_le 32 c) refl h
value_from n (dict ts) b (lt, (distinct, k, counted, h)) =
    from_head n form.Dict 27 false (Counted k (λ body. SpellsAll ts body)) (dict ts) b (ltb-true 27 39 refl) refl refl refl refl (ap (λ x. x || not (holds_values 27)) (room_for n (deepest ts) lt)) h
    (dict_from n k ts h.body (omega (arith, lt)) distinct counted h.right)
value_from n (array ts) b (lt, h) =
    from_head n form.Array 28 false (Counted (count ts) (λ body. SpellsAll ts body)) (array ts) b (ltb-true 28 39 refl) refl refl refl refl (ap (λ x. x || not (holds_values 28)) (room_for n (deepest ts) lt)) h
    (array_from n ts h.body (omega (arith, lt)) h.right)
value_from n (packed_bytes s) b (lt, h) = from_good n form.Bytes 29 false (Padded s) (packed_bytes s) b (flat_head 29 false form.Bytes refl refl refl refl refl refl) h (s, refl, h.right)
value_from n (packed_ints false zs) b (lt, h) =
    from_good n form.Shorts 30 false (Numbered (length zs) (SpellsEach SpellsShort zs)) (packed_ints false zs) b (flat_head 30 false form.Shorts refl refl refl refl refl refl) h (numbered_from SpellsShort zs (λ ys. packed_ints false ys) h.body h.right)
value_from n (packed_ints true zs) b (lt, h) =
    from_good n form.Longs 31 false (Numbered (length zs) (SpellsEach SpellsLong zs)) (packed_ints true zs) b (flat_head 31 false form.Longs refl refl refl refl refl refl) h (numbered_from SpellsLong zs (λ ys. packed_ints true ys) h.body h.right)
value_from n (packed_texts ts) b (lt, h) =
    from_good n form.Texts 34 false (Numbered (length ts) (SpellsEach SpellsElement ts)) (packed_texts ts) b (flat_head 34 false form.Texts refl refl refl refl refl refl) h (numbered_from SpellsElement ts packed_texts h.body h.right)

-- ---- the four laws of a value

no_room : IsReader (value_at zero) (SpellsWithin zero) (Breaks zero)
unfolding value_at
no_room = record {
  takes = λ bytes x fits e. absurd (no_err _ x e);
  again = λ x front rest r. absurd (omega (arith, r.0));
  breaks = λ bytes f fits e. here (Breaks zero) bytes f Depth (err_is _ f e) (refl, refl);
  broken = λ bytes rest why b. ap (λ (l : List ℕ). Err (fault (length l) Depth)) (sym b.0) ∙ ap (λ y. Err (fault (length rest) y)) (sym b.1);
}

pub value_reader : (n : ℕ) → IsReader (value_at n) (SpellsWithin n) (Breaks n)
unfolding value_at
value_reader zero = no_room
value_reader (suc n) = seen (then_reader (header_reader (nat_lt 0 n)) (λ head. body_reader (value_reader n) (form_of (code_in head)) (code_in head) (is_wide head))) (value_to n) (value_from n)

-- the header of floats
pub opaque_head : (c : ℕ) (wide : Bool) (n : ℕ) → opaque_right c wide n ≡ true → GoodHead form.Fixed c wide ⊎ GoodHead form.Elements c wide
opaque_head c wide n h =
    elim (cases_Bool (nat_le 32 c)) [
      | inl big ↦ let p = packed_parts c wide n big h in inr (elements_head c wide big p.some p.wide_ok)
      | inr small ↦ let p = fixed_parts c wide n small h in inl (fixed_head c wide small p.some p.wide_ok)
    ]
