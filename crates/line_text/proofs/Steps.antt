-- Steps of which one fails.
use Rattle.std.proofs.Common.{◌≡◌, Result, Ok, refl}
use Rattle.program_edge.specs.declared.status.LineWhy.{LineWhy}
use Rattle.program_edge.specs.declared.stop.LineStop.{LineStop}
use Rattle.program_edge.specs.declared.stop.LineStop.TheVariants as stops
use Rattle.line_text.specs.Reading.{Fails, ◌>>=◌}

-- a step that fails ends what follows
pub fails_first : {A B : Type 0} (stop : LineStop) (r : Result A LineWhy) (f : A → Result B LineWhy) → Fails stop r → Fails stop (r >>= f)
fails_first stops.OutOfMemory r f h = tt
fails_first (stops.LineBad why) r f h = rw h refl

-- a step that doesn't fail hands on
pub fails_later : {A B : Type 0} (stop : LineStop) (r : Result A LineWhy) (f : A → Result B LineWhy) (x : A) → r ≡ Ok x → Fails stop (f x) → Fails stop (r >>= f)
fails_later stop r f x e h = rw e h
