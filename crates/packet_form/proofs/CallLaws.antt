-- Calls, by the laws of their reading.
use Rattle.std.proofs.Common.{ℕ, ◌-◌, Bool}
use Rattle.gd_variant.specs.declared.message.Target.TheVariants as target
use Rattle.gd_variant.specs.declared.message.Plain.TheVariants as plain
use Rattle.gd_variant.specs.declared.message.Why.TheVariants.{PathEnd, Trailing}
use Rattle.variant_codec.proofs.Laws.{IsReader, then_reader, list_reader}
use Rattle.packet_form.specs.declared.head.CallHead.{CallHead}
use Rattle.packet_form.specs.Reading.{counted_args_at, args_at, id_call_at, path_call_at, target_call_at, call_at}
use Rattle.packet_form.specs.Tests.{raw_args, is_offset, method_end, offset_fits}
use Rattle.packet_form.specs.Grammar.{IsCountedArgs, IsArgs, IsIdCall, IsPathCall, IsTargetCall, IsCall}
use Rattle.packet_form.specs.Breaks.{CountedArgsBreak, ArgsBreak, IdCallBreaks, PathCallBreaks, TargetCallBreaks, CallBreaks}
use Rattle.packet_form.proofs.Wholes.{IsWhole, rest_whole, seen_whole, ending_whole, before_whole, fitting_whole, region_reader, chosen_whole}
use Rattle.packet_form.proofs.ValueLaws.{value_reader}
use Rattle.packet_form.proofs.PathLaws.{path_whole}
use Rattle.packet_form.proofs.FieldLaws.{count_reader, id_reader, method_reader}

counted_args_reader : IsReader counted_args_at IsCountedArgs CountedArgsBreak
unfolding counted_args_at
counted_args_reader = then_reader count_reader (λ n. list_reader (λ _. value_reader) n)

pub args_whole : (raw : Bool) → IsWhole (args_at raw) (IsArgs raw) (ArgsBreak raw)
unfolding args_at
args_whole raw = chosen_whole raw (seen_whole raw_args rest_whole) (ending_whole Trailing counted_args_reader)

id_call_whole : (h : CallHead) (id : ℕ) → IsWhole (id_call_at h id) (IsIdCall h id) (IdCallBreaks h)
unfolding id_call_at
id_call_whole h id = before_whole (method_reader h) (λ method. seen_whole (λ args. plain.Call (target.Id id) method args) (args_whole h.raw))

path_call_whole : (h : CallHead) (n : ℕ) → IsWhole (path_call_at h n) (IsPathCall h n) (PathCallBreaks h n)
unfolding path_call_at
path_call_whole h n =
    before_whole (method_reader h) (λ method. before_whole (region_reader n (args_whole h.raw)) (λ args. seen_whole (λ path. plain.Call (target.At path) method args) path_whole))

target_call_whole : (h : CallHead) (id : ℕ) → IsWhole (target_call_at h id) (IsTargetCall h id) (TargetCallBreaks h id)
unfolding target_call_at
target_call_whole h id = chosen_whole (is_offset h.node id) (path_call_whole h (id - 2147483648 - method_end h)) (id_call_whole h id)

pub call_whole : (h : CallHead) → IsWhole (call_at h) (IsCall h) (CallBreaks h)
unfolding call_at
call_whole h = fitting_whole (offset_fits h) PathEnd (id_reader h) (target_call_whole h)
