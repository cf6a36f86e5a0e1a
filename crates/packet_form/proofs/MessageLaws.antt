-- Whole packets, by the laws of their reading.
use Rattle.std.proofs.Common.{◌≡◌, ℕ, List, length, Result, Err, refl, sym, ap, ◌∙◌}
use Rattle.std.specs.Prelude.{ℤ, nat_eq}
use Rattle.byte_fields.specs.declared.fault.Fault.{Fault}
use Rattle.byte_fields.specs.Fields.{fault}
use Rattle.gd_variant.specs.declared.message.Why.TheVariants.{Trailing, Nested}
use Rattle.gd_variant.specs.declared.message.Plain.{Plain}
use Rattle.gd_variant.specs.declared.message.Plain.TheVariants as plain
use Rattle.gd_variant.specs.declared.message.Message.TheVariants as message
use Rattle.variant_codec.proofs.Laws.{no_err, err_is, here, checked_reader, done_reader}
use Rattle.variant_codec.proofs.Fields.{short_reader}
use Rattle.packet_form.specs.declared.head.Head.{Head}
use Rattle.packet_form.specs.declared.head.Head.TheVariants as head
use Rattle.packet_form.specs.Head.{is_plain}
use Rattle.packet_form.specs.Reading.{plain_of, inner_at, payload_at, system_at, message_of, message_at}
use Rattle.packet_form.specs.Grammar.{IsPlainOf, IsInner, IsPayload, IsSystem, IsMessageOf, IsMessage}
use Rattle.packet_form.specs.Breaks.{PlainOfBreaks, InnerBreaks, PayloadBreaks, SystemBreaks, MessageOfBreaks, MessageBreaks}
use Rattle.packet_form.proofs.Wholes.{IsWhole, rest_whole, seen_whole, ending_whole, before_whole, chosen_whole}
use Rattle.packet_form.proofs.FieldLaws.{head_reader, subcommand_reader}
use Rattle.packet_form.proofs.CallLaws.{call_whole}
use Rattle.packet_form.proofs.LayoutLaws.{simplify_whole, confirm_whole, spawn_whole, despawn_whole, sync_whole, delta_whole}

abbrev refused : Fault → Result Plain Fault
refused f = Err f

system_refused : (bytes : List ℕ) → plain_of head.System bytes ≡ refused (fault (length bytes) Nested)
unfolding plain_of
system_refused bytes = refl

-- a system packet is none of the others
no_system : IsWhole (plain_of head.System) (IsPlainOf head.System) (PlainOfBreaks head.System)
no_system = record {
  takes = λ bytes y fits e. absurd (no_err _ y (sym (system_refused bytes) ∙ e));
  again = λ y b r. absurd r;
  breaks = λ bytes f fits e. here (PlainOfBreaks head.System) bytes f Nested (err_is _ f (sym (system_refused bytes) ∙ e)) (refl, refl);
  broken = λ bytes rest why b. system_refused bytes ∙ ap (λ (l : List ℕ). refused (fault (length l) Nested)) (sym b.0) ∙ ap (λ y. refused (fault (length rest) y)) (sym b.1);
}

pub plain_whole : (h : Head) → IsWhole (plain_of h) (IsPlainOf h) (PlainOfBreaks h)
unfolding plain_of
plain_whole (head.Call h) = call_whole h
plain_whole head.Simplify = simplify_whole
plain_whole head.Confirm = confirm_whole
plain_whole head.Raw = seen_whole (λ s. plain.Raw s) rest_whole
plain_whole head.Spawn = spawn_whole
plain_whole head.Despawn = despawn_whole
plain_whole head.Sync = sync_whole
plain_whole head.Delta = delta_whole
plain_whole head.System = no_system

inner_whole : IsWhole inner_at IsInner InnerBreaks
unfolding inner_at
inner_whole = before_whole (checked_reader is_plain Nested head_reader) plain_whole

payload_whole : (sub : ℕ) (peer : ℤ) → IsWhole (payload_at sub peer) (IsPayload sub peer) (PayloadBreaks sub peer)
unfolding payload_at
payload_whole sub peer =
    chosen_whole (nat_eq sub 0) (seen_whole (λ bytes. message.Auth peer bytes) rest_whole)
    (chosen_whole (nat_eq sub 1) (ending_whole Trailing (done_reader (message.AddPeer peer)))
    (chosen_whole (nat_eq sub 2) (ending_whole Trailing (done_reader (message.DelPeer peer)))
    (seen_whole (λ inner. message.Relay peer inner) inner_whole)))

system_whole : IsWhole system_at IsSystem SystemBreaks
unfolding system_at
system_whole = before_whole subcommand_reader (λ sub. before_whole short_reader (payload_whole sub))

message_of_whole : (h : Head) → IsWhole (message_of h) (IsMessageOf h) (MessageOfBreaks h)
unfolding message_of
message_of_whole h = chosen_whole (is_plain h) (seen_whole (λ p. message.Plain p) (plain_whole h)) system_whole

pub message_whole : IsWhole message_at IsMessage MessageBreaks
unfolding message_at
message_whole = before_whole head_reader message_of_whole
