-- The first two lines of a journal, and the end of its input.
use Rattle.std.proofs.Common.{◌≡◌, ℕ, ℤ, false, List, [], ◌∷◌, ◌++◌, Result, Ok, refl, sym, ap, ◌∙◌, subst, append-nil}
use Rattle.std.specs.List.{concat}
use Rattle.scene_model.specs.declared.scene.Scene.{Scene}
use Rattle.scene_model.specs.declared.event.Event.{Event}
use Rattle.peer_model.specs.Heard.{Who}
use Rattle.peer_steps.specs.Kept.{Kept}
use Rattle.program_edge.specs.declared.status.LineWhy.{LineWhy}
use Rattle.program_edge.specs.declared.status.Status.TheVariants as status
use Rattle.line_text.specs.Scenes.{scene_line_read}
use Rattle.line_runs.specs.Output.{next_number}
use Rattle.line_runs.specs.Steps.{Closes, Takes}
use Rattle.line_runs.specs.declared.taker.Behind.TheVariants.{Lines}
use Rattle.journal_text.specs.Reading.{journal_line_read}
use Rattle.journal_rerun.specs.declared.scene.ReadScene.{ReadScene}
use Rattle.journal_rerun.specs.declared.run.Stage.{Stage}
use Rattle.journal_rerun.specs.declared.run.Stage.TheVariants as stage
use Rattle.journal_rerun.specs.Journals.{Journal, begun, empty, ends_journal, given, journal_closing, journal_of, named, named_given, of_peer, one_line_more, peer_of, report_text, rerun_closing, rerun_last, rerun_told, scene_alone, scene_given, with_peer}
use Rattle.journal_rerun.specs.Stages.{Holds, HoldsIn, Names, Took}

-- a line that writes nothing, and what is kept behind it, by what is kept before
nothing_written : (ls : List (List ℕ)) (l : List ℕ) (now : Stage) (old : List ℕ) (j : Journal) → journal_of ls ≡ j → given (next_number ls) j l ≡ Ok [] → ends_journal j l ≡ false → Holds (one_line_more j l) now → Takes (rerun_told ls l) (rerun_last ls l) old (Ok Lines) old (Took now (l ∷ ls))
nothing_written ls l now old j is gives more holds = (
  ap (λ o. ends_journal o l) is ∙ more,
  record {
    text = [];
    gives = ap (λ o. given (next_number ls) o l) is ∙ gives;
    put = sym (append-nil old);
    took = subst (λ o. Holds (one_line_more o l) now) (sym is) holds;
  },
)

-- the scene line
pub first_taken : (s : Stage) (ls : List (List ℕ)) (l : List ℕ) (read : ReadScene) (old : List ℕ) → s ≡ stage.Start → Took s ls → scene_line_read l ≡ Ok read.scene → Takes (rerun_told ls l) (rerun_last ls l) old (Ok Lines) old (Took (stage.Alone read) (l ∷ ls))
first_taken s ls l read old start took gives = by_journal (journal_of ls) refl (subst (Holds (journal_of ls)) start took)
  where
    by_journal : (j : Journal) → journal_of ls ≡ j → Holds j stage.Start → Takes (rerun_told ls l) (rerun_last ls l) old (Ok Lines) old (Took (stage.Alone read) (l ∷ ls))
    by_journal empty is h = nothing_written ls l (stage.Alone read) old empty is (ap scene_given gives) refl (subst (λ r. Holds (begun r) (stage.Alone read)) (sym gives) refl)
    by_journal (scene_alone x) is h = absurd h
    by_journal (of_peer who es) is h = absurd h

-- the line of the peer
pub second_taken : (s : Stage) (ls : List (List ℕ)) (l : List ℕ) (read : ReadScene) (k : Kept) (old : List ℕ) → s ≡ stage.Alone read → Took s ls → Names read.scene (named (journal_line_read l)) (Ok k) → Takes (rerun_told ls l) (rerun_last ls l) old (Ok Lines) old (Took (stage.Running k) (l ∷ ls))
second_taken s ls l read k old alone took names = by_journal (journal_of ls) refl (subst (Holds (journal_of ls)) alone took)
  where
    by_journal : (j : Journal) → journal_of ls ≡ j → Holds j (stage.Alone read) → Takes (rerun_told ls l) (rerun_last ls l) old (Ok Lines) old (Took (stage.Running k) (l ∷ ls))
    by_journal empty is h = absurd h
    by_journal (scene_alone x) is h =
        nothing_written ls l (stage.Running k) old (scene_alone x) is (ap named_given names.1) refl
        (subst (λ r. Holds (with_peer x r) (stage.Running k)) (sym names.1) (subst (λ y. HoldsIn (peer_of y names.0) [] k) h names.2))
    by_journal (of_peer who es) is h = absurd h

-- the end behind the peer's lines
pub peer_closed : (s : Stage) (ls : List (List ℕ)) (k : Kept) (old new : List ℕ) → s ≡ stage.Running k → Took s ls → ((who : Who) (es : List Event) → HoldsIn who es k → new ≡ old ++ report_text who es) → Closes (rerun_closing ls) old (Ok status.Done) new
peer_closed s ls k old new running took put = by_journal (journal_of ls) refl (subst (Holds (journal_of ls)) running took)
  where
    by_journal : (j : Journal) → journal_of ls ≡ j → Holds j (stage.Running k) → Closes (rerun_closing ls) old (Ok status.Done) new
    by_journal empty is h = absurd h
    by_journal (scene_alone x) is h = absurd h
    by_journal (of_peer who es) is h =
        subst (λ j. Closes (journal_closing j) old (Ok status.Done) new) (sym is) (refl, put who es h ∙ ap (λ t. old ++ t) (sym (append-nil (report_text who es))))
