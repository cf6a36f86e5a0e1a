-- The layouts behind a first byte, by the laws of their reading.
use Rattle.std.proofs.Common.{◌≡◌, ℕ, [], Err, refl}
use Rattle.std.specs.Prelude.{Some, None, nat_eq}
use Rattle.byte_fields.specs.Fields.{fault, number_at}
use Rattle.gd_variant.specs.declared.message.Plain.TheVariants as plain
use Rattle.gd_variant.specs.declared.message.Why.TheVariants.{Short, Size, Trailing}
use Rattle.variant_codec.proofs.Laws.{IsReader, mapped_reader, then_reader, done_reader}
use Rattle.variant_codec.proofs.Fields.{word32}
use Rattle.packet_form.specs.Reading.{arg_at, arg_for, spawn_at, despawn_at, entry_at, delta_entry_at, sync_at, delta_at, simplify_at, confirm_at}
use Rattle.packet_form.specs.Tests.{entry_of, delta_entry_of}
use Rattle.packet_form.specs.Grammar.{IsArg, IsArgFor, IsSpawn, IsDespawn, IsEntry, IsDeltaEntry, IsSync, IsDelta, IsSimplify, IsConfirm}
use Rattle.packet_form.specs.Breaks.{ArgBreaks, ArgForBreaks, SpawnBreaks, DespawnBreaks, EntryBreaks, DeltaEntryBreaks, SyncBreaks, DeltaBreaks, SimplifyBreaks, ConfirmBreaks}
use Rattle.packet_form.proofs.Wholes.{IsWhole, IsNeverEmpty, never_empty, seen_whole, ending_whole, ending_seen, before_right, before_whole, filled_whole, region_reader, chosen_reader}
use Rattle.packet_form.proofs.ValueLaws.{value_reader, values_whole, sized_values_reader}
use Rattle.packet_form.proofs.PathLaws.{path_whole}
use Rattle.packet_form.proofs.FieldLaws.{byte_reader, half_reader, long_reader, ids_reader, name_length_reader, more_than_none, name_reader, digest_reader, zero_reader, flag_reader}

-- ---- names and confirms

pub simplify_whole : IsWhole simplify_at IsSimplify SimplifyBreaks
unfolding simplify_at
simplify_whole =
    before_whole digest_reader (λ digest.
    before_whole zero_reader (λ _.
    before_whole word32 (λ id.
    seen_whole (λ path. plain.Simplify digest id path) path_whole)))

pub confirm_whole : IsWhole confirm_at IsConfirm ConfirmBreaks
unfolding confirm_at
confirm_whole = before_whole flag_reader (λ ok. ending_seen Trailing (λ id. plain.Confirm ok id) word32)

-- ---- spawns

arg_reader : IsReader arg_at IsArg ArgBreaks
unfolding arg_at
arg_reader = then_reader word32 (λ size. region_reader size (ending_whole Size value_reader))

arg_for_reader : (scene : ℕ) → IsReader (arg_for scene) (IsArgFor scene) (ArgForBreaks scene)
unfolding arg_for
arg_for_reader scene = chosen_reader (nat_eq scene 255) (mapped_reader (λ v. Some v) arg_reader) (done_reader None)

pub spawn_whole : IsWhole spawn_at IsSpawn SpawnBreaks
unfolding spawn_at
spawn_whole =
    before_whole byte_reader (λ scene.
    before_whole word32 (λ spawner.
    before_whole word32 (λ net.
    before_whole word32 (λ count.
    before_right name_length_reader (λ len front right.
    before_whole (ids_reader count) (λ syncs.
    before_whole (name_reader len (more_than_none len right.0)) (λ name.
    before_whole (arg_for_reader scene) (λ arg.
    seen_whole (λ values. plain.Spawn scene spawner net syncs name arg values) values_whole))))))))

pub despawn_whole : IsWhole despawn_at IsDespawn DespawnBreaks
unfolding despawn_at
despawn_whole = ending_seen Trailing (λ net. plain.Despawn net) word32

-- ---- samples and changes

pub entry_reader : IsReader entry_at IsEntry EntryBreaks
unfolding entry_at
entry_reader = then_reader word32 (λ id. mapped_reader (entry_of id) sized_values_reader)

pub delta_entry_reader : IsReader delta_entry_at IsDeltaEntry DeltaEntryBreaks
unfolding delta_entry_at
delta_entry_reader = then_reader word32 (λ id. then_reader long_reader (λ mask. mapped_reader (delta_entry_of id mask) sized_values_reader))

-- no entry stands in no byte
no_entry : entry_at [] ≡ Err (fault 0 Short)
unfolding entry_at number_at
no_entry = refl

no_delta_entry : delta_entry_at [] ≡ Err (fault 0 Short)
unfolding delta_entry_at number_at
no_delta_entry = refl

pub entry_some : IsNeverEmpty IsEntry
entry_some = never_empty (fault 0 Short) entry_reader no_entry

pub delta_entry_some : IsNeverEmpty IsDeltaEntry
delta_entry_some = never_empty (fault 0 Short) delta_entry_reader no_delta_entry

pub sync_whole : IsWhole sync_at IsSync SyncBreaks
unfolding sync_at
sync_whole = before_whole half_reader (λ tick. seen_whole (λ entries. plain.Sync tick entries) (filled_whole entry_reader entry_some))

pub delta_whole : IsWhole delta_at IsDelta DeltaBreaks
unfolding delta_at
delta_whole = seen_whole (λ entries. plain.Delta entries) (filled_whole delta_entry_reader delta_entry_some)
