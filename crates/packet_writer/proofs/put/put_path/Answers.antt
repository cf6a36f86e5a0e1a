use Rattle.std.proofs.Common.{◌≡◌, true, List, ℕ, ◌++◌, ap, subst, ◌∙◌}
use Rattle.std.specs.Prelude.{OnOk}
use Rattle.std.proofs.lemmas.Bool.{and_from}
use Rattle.std.proofs.lemmas.Str.{is_utf8-from_IsUtf8}
use Rattle.gd_variant.specs.Sound.{is_text}
use Rattle.packet_writer.proofs.Puts.{put_then, when_ok, zero_byte}
use Rattle.packet_writer.proofs.put.put_path.Goals as goal

pub returns-clause-text : goal.returns-clause-text
returns-clause-text c = when_ok c.put_u8.result (is_text c.args.path.now ≡ true) (and_from _ _ c.requires (is_utf8-from_IsUtf8 c.args.path.now c.utf8.path))

pub returns-clause-put : goal.returns-clause-put
returns-clause-put c =
    put_then c.put_u8.result c.args.out.now.items c.put_bytes.new.out.items c.put_u8.new.out.items c.args.path.now _
    (c.in_ok-put_bytes.ensures ∙ ap (λ (t : List ℕ). c.args.out.now.items ++ t) c.as_bytes.ensures.value)
    (subst (λ (z : List ℕ). OnOk c.put_u8.result (c.put_u8.new.out.items ≡ c.put_bytes.new.out.items ++ z)) zero_byte c.put_u8.ensures)
