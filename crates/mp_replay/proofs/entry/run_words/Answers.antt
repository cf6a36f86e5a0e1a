use Rattle.std.proofs.Common.{ap}
use Rattle.mp_replay.specs.Program.{stream}
use Rattle.mp_replay.proofs.Ran.{no_words, words_run}
use Rattle.mp_replay.proofs.entry.run_words.Goals as goal

pub returns-in-Ok : goal.returns-in-Ok
returns-in-Ok g c =
    words_run _ c.in-Ok.words _ _ _ _ _ _ c.in-Ok.ensures c.as_slice.ensures.value (record {
      usage = c.run.ensures.usage;
      untouched = λ h. ap (λ k. stream (g.K.Sink.held k) (g.K.Sink.faults k)) (c.run.ensures.untouched h).1;
      replay_ends = c.run.ensures.ends;
      replays = c.run.ensures.output;
      rerun_ends = c.run.ensures.rerun_ends;
      reruns = c.run.ensures.rerun_output;
      show_ends = c.run.ensures.show_ends;
      shows = c.run.ensures.show_output;
    })

pub returns-in-Err : goal.returns-in-Err
returns-in-Err g c = no_words _ _ _ _ _ c.in-Err.ensures
