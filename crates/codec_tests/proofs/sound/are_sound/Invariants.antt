use Rattle.std.proofs.Common.{take}
use Rattle.packet_form.specs.Written.{AreSound}
use Rattle.codec_tests.proofs.sound.are_sound.Given as goal

-- the values in front are sound
abbrev pub invariant-loop-value : goal.invariant-loop-value
invariant-loop-value l = AreSound (take l.value-index l.values)
