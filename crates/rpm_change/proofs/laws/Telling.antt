-- A course whose changes are made first, and then one text of it goes to out: all of it, its first bytes, or nothing.
use Rattle.std.proofs.Common.{◌≢◌, List, [], ◌∷◌, ◌++◌, ℕ, take, true, Ok, Err, refl, sym, ap, ◌∙◌}
use Rattle.std.proofs.lemmas.List.{append-nil}
use Rattle.std.specs.Prelude.{IsTrue}
use Rattle.rpm_outside.specs.declared.disk.Disk as disk
use Rattle.rpm_outside.specs.declared.sink.Sink as sink
use Rattle.rpm_outside.specs.declared.buffered.Buffered.{Buffered}
use Rattle.rpm_outside.specs.Files.{Files}
use Rattle.rpm_outside.specs.Sinks.{GainIs, GainedPart}
use Rattle.rpm_outside.specs.laws.Taken.{gained_none}
use Rattle.rpm_db.specs.Changes.{Change}
use Rattle.rpm_db.specs.Database.{Database}
use Rattle.rpm_db.specs.Frame.{state_in}
use Rattle.rpm_db.specs.State.{State}
use Rattle.rpm_effects.specs.declared.tally.Tally.{Tally}
use Rattle.rpm_effects.specs.declared.tally.Halt.{Halt}
use Rattle.rpm_effects.specs.declared.tally.Halt.TheVariants as halt
use Rattle.rpm_effects.specs.Steps.{Bearer, Course, ToOut}
use Rattle.rpm_effects.specs.Shown.{EndedOnOut, EndedQuietly}
use Rattle.rpm_change.specs.Progress.{ProgressBy}
use Rattle.rpm_effects.proofs.laws.Courses.{stopped_by}
use Rattle.rpm_effects.proofs.laws.Joins.{out_gone, took}
use Rattle.rpm_change.specs.inner.IndexLaws.{by_index}
use Rattle.rpm_change.proofs.laws.Leaving.{after_by}
use Rattle.rpm_change.proofs.laws.Single.{other_stop}

-- the changes alone, and with the text
abbrev quiet : List Change → Course
quiet changes = record { steps = []; failed = 0; changes = changes }

abbrev with_step_text : List Change → Bearer → List ℕ → Course
with_step_text changes for text = record { steps = ToOut for text ∷ []; failed = 0; changes = changes }

module _ {D S : Type 0} (d : disk.Ghosts D) (of : sink.Ghosts S) (changes : List Change) (for : Bearer) (text : List ℕ)
    {C A : Type 0}
    {G : List Change → State → Type 0} {from to : Files} {old new : D} {before after : Database} where
  module _ {tally : Tally} (made : ProgressBy d C A (IsTrue d.tells) G from to old new before after
      (Ok tally) EndedQuietly (quiet changes))
      (x y : Buffered S) where
    pub told_all : (IsTrue d.tells → GainIs of.tells (took of x) (took of y) text)
        → ProgressBy d C A (IsTrue d.tells) G from to old new before after (Ok tally) (EndedOnOut of x y)
        (with_step_text changes for text)
    told_all gained = record {
      ended = λ told et e.
          let done = made.ended told true true [] [] in
          record {
            steps = record {
              out = λ tells. gained told tells ∙ ap (λ (b : List ℕ). took of x ++ b) (sym (append-nil text));
              err = gained_none et e;
            };
            failed = done.failed;
            changes = done.changes;
            state_is = done.state_is;
          };
      limits = made.limits;
      whole = made.whole;
      bad = made.bad;
      given = made.given;
      left = made.left;
    }

    pub told_part : (IsTrue d.tells → GainedPart of.tells (took of x) (took of y) text)
        → ProgressBy d C A (IsTrue d.tells) G from to old new before after (Err halt.OutFault) (EndedOnOut of x y)
        (with_step_text changes for text)
    told_part part = record {
      ended = λ told et e.
          let first = part told in
          record {
            done = [];
            step = ToOut for text;
            rest = [];
            all_is = refl;
            sink = refl;
            bytes = first.0;
            through = record {
              out = λ tells. first.2 tells ∙ ap (λ (b : List ℕ). took of x ++ b) (sym (append-nil (take first.0 text)));
              err = gained_none et e;
            };
            reads = tt;
          };
      limits = λ told. by_index (λ i rows. other_stop i _ _ _ _ halt.OutFault refl);
      whole = λ told was. tt;
      bad = λ told. tt;
      given = λ told. tt;
      left = after_by d C old new after tally made.left (Err halt.OutFault) (λ same. absurd cc);
    }

  pub told_none : (h : Halt) → ProgressBy d C A (IsTrue d.tells) G from to old new before after (Err h) EndedQuietly
      (quiet changes)
      → h ≢ halt.OutFault → h ≢ halt.ErrFault → (x : Buffered S)
      → ProgressBy d C A (IsTrue d.tells) G from to old new before after (Err h) (EndedOnOut of x x)
      (with_step_text changes for text)
  told_none h made out err x = record {
    ended = λ told et e.
        let all = with_step_text changes for text in
        stopped_by all (state_in d old before) (state_in d new after) h _ _ out err (out_gone of x all et e);
    limits = made.limits;
    whole = made.whole;
    bad = made.bad;
    given = made.given;
    left = made.left;
  }
