use Rattle.std.proofs.Common.{take}
use Rattle.std.specs.List.{AllByRecursion}
use Rattle.packet_form.specs.Written.{IsEntrySound}
use Rattle.codec_tests.proofs.sound.are_entries_sound.Given as goal

-- the entries in front are sound
abbrev pub invariant-loop-entry : goal.invariant-loop-entry
invariant-loop-entry l = AllByRecursion IsEntrySound (take l.entry-index l.entries)
