-- What taking a line comes to, by what it reads as.
use Rattle.std.proofs.Common.{◌≡◌, ℕ, Bool, true, false, List, ◌++◌, refl, sym, subst, Result, Ok}
use Rattle.program_edge.specs.declared.status.LineWhy.{LineWhy}
use Rattle.line_text.specs.declared.sessions.SessionLine.{SessionLine}
use Rattle.line_runs.specs.Steps.{Takes}
use Rattle.line_runs.specs.declared.taker.Behind.{Behind}
use Rattle.world_steps.specs.Steps.{Parts}
use Rattle.mp_replay.specs.Sessions.{Session, HoldsIn, after_line, behind_event, line_fills, line_given, line_text}

-- a line that was read and acted on
pub acted_takes : (n : ℕ) (s : Session) (r : Result SessionLine LineWhy) (l : SessionLine) (old new : List ℕ) (b : Behind) (v : Parts) → r ≡ Ok l → b ≡ behind_event (line_fills s (Ok l)) → new ≡ old ++ line_text n s l → (line_fills s (Ok l) ≡ false → HoldsIn (after_line s (Ok l)) v)
    → Takes (line_given n s r) (line_fills s r) old (Ok b) new (line_fills s r ≡ false → HoldsIn (after_line s r) v)
acted_takes n s r l old new b v read behind put holds = subst (λ z. Takes (line_given n s z) (line_fills s z) old (Ok b) new (line_fills s z ≡ false → HoldsIn (after_line s z) v)) (sym read) (step (line_fills s (Ok l)) refl behind)
  where
    step : (t : Bool) → line_fills s (Ok l) ≡ t → b ≡ behind_event t → Takes (line_given n s (Ok l)) (line_fills s (Ok l)) old (Ok b) new (line_fills s (Ok l) ≡ false → HoldsIn (after_line s (Ok l)) v)
    step true e k = subst (λ x. Takes (line_given n s (Ok l)) (line_fills s (Ok l)) old (Ok x) new (line_fills s (Ok l) ≡ false → HoldsIn (after_line s (Ok l)) v)) (sym k) (e, record { text = line_text n s l; gives = refl; put = put; took = holds })
    step false e k = subst (λ x. Takes (line_given n s (Ok l)) (line_fills s (Ok l)) old (Ok x) new (line_fills s (Ok l) ≡ false → HoldsIn (after_line s (Ok l)) v)) (sym k) (e, record { text = line_text n s l; gives = refl; put = put; took = holds })
