-- Several command lines on one disk: what each answers, what it leaves to the next, and what stays of it while the next
-- ones are run. On it rest `ran`, `kept` and `numbers` of `run_each`.
use Rattle.std.specs.Prelude.{◌≡◌, ℕ, ◌++◌, List, [], ◌∷◌, true, IsTrue, Some, None, IfOk}
use Rattle.rpm_outside.specs.Logs.{reopened_files}
use Rattle.rpm_outside.specs.Shelves.{Paths}
use Rattle.rpm_outside.specs.declared.disk.Disk as disk
use Rattle.rpm_outside.specs.declared.shelf.Shelf as shelf
use Rattle.rpm_outside.specs.declared.sink.Sink as sink
use Rattle.rpm_pkgdb.specs.Store.{store}
use Rattle.rpm_db.specs.State.{state}
use Rattle.rpm_words.specs.Ask.{AskParts}
use Rattle.rpm_qfparse.specs.Tree.{Tree}
use Rattle.rpm_effects.specs.Answers.{ClosingEnding}
use Rattle.rpm_command.specs.Asked.{asks}
use Rattle.rpm_command.specs.Tasks.{TaskParts, asked_task}
use Rattle.rpm_effects.specs.Classes.{is_done}
use Rattle.rpm_effects.specs.Endings.{status_of}
use Rattle.rpm_print.specs.Closing.{closing}
use Rattle.rpm_outside.specs.Frame.{images, CrashLeaves}
use Rattle.rpm_effects.specs.Shown.{outs}
use Rattle.rpm_history.specs.Given.{given_on}
use Rattle.rpm_history.specs.History.{RunCall, course_of, made_by, Cuts, FromOneOf, RepresentsState}
use Rattle.rpm_effects.specs.Progress.{Outputs}
use Rattle.rpm_tool.specs.Theorem.{Run, ran, Setting, setting_at, AnswersWords, Answers, Causes}

-- what stands between two command lines: the disk, the shelf and both sinks, and the numbers that new packages were
-- given by the lines that were done
pub record Between (D S O E : Type 0) : Type 0 where
  pub disk : D
  pub shelf : S
  pub out : O
  pub err : E
  pub given : List ℕ

-- a moment between two command lines
abbrev pub between : {D S O E : Type 0} → D → S → O → E → List ℕ → Between D S O E
between disk shelf out err given = record { disk = disk; shelf = shelf; out = out; err = err; given = given }

-- each line begins with what the line before it leaves
abbrev pub InTurn : {X : Type 0} → (RunCall → X → X → Type 0) → List RunCall → X → X → Type 0
InTurn Each [] old new = new ≡ old
InTurn {X} Each (call ∷ calls) old new = (mid : X) × Each call old mid × InTurn Each calls mid new

-- each line begins with what the line before it leaves, and a relation holds of it, of the lines behind it and of what
-- they leave in the end
abbrev pub InTurnBefore : {X : Type 0} → (RunCall → List RunCall → X → X → X → Type 0) → List RunCall → X → X → Type 0
InTurnBefore Each [] old new = new ≡ old
InTurnBefore {X} Each (call ∷ calls) old new = (mid : X) × Each call calls old mid new × InTurnBefore Each calls mid new

module _ {D S O E : Type 0} (d : disk.Ghosts D) (s : shelf.Ghosts S) (o : sink.Ghosts O) (e : sink.Ghosts E) where
  -- the run that a command line is, by what stood before it and after it, and what was printed before the closing line
  abbrev pub run_of : RunCall → Between D S O E → Between D S O E → Outputs → Run d
  run_of call old new mid = ran d call.words call.outcome.why call.outcome.changes (old.disk, new.disk)
      (outs o e old.out old.err, mid)

  -- a command line has its moment, and the shelf as it stood before it and after it
  abbrev pub setting_of : RunCall → Between D S O E → Between D S O E → Setting s
  setting_of call old new = setting_at s call.moment (old.shelf, new.shelf)

  -- how a command line ended, and what it left: each clause of `run` but its laws, with a shelf that tells the same
  -- contents as at first
  pub record LineIs (paths : Paths) (call : RunCall) (old new : Between D S O E) : Type 0 where
    pub status : call.outcome.status ≡ status_of call.outcome.why
    pub words : AnswersWords call.words call.outcome.why
    pub unread : asks call.words ≡ None → (new.disk ≡ old.disk) × (new.shelf ≡ old.shelf) × (new.out ≡ old.out)
    pub answers : ClosingEnding (λ mid. Answers (run_of call old new mid) (setting_of call old new))
        (closing call.words call.outcome.why) (outs o e new.out new.err) (e.faults old.err) (e.faults new.err)
    pub causes : Causes d s o e call.outcome.why (old.disk, old.shelf, old.out, old.err)
        (new.disk, new.shelf, new.out, new.err)
    pub shelf : IsTrue s.tells → s.paths old.shelf ≡ paths
    -- the numbers that it gave, if it was done
    pub gives : new.given ≡ old.given ++ given_on (course_of paths call.moment call.words (asks call.words))
        (d.files old.disk) call.outcome.why

  -- what a command line leaves stays while those behind it are run, whenever a crash comes
  pub record LineStays (paths : Paths) (call : RunCall) (behind : List RunCall)
      (old mid new : Between D S O E) : Type 0 where
    pub line : LineIs paths call old mid
    -- each image since then represents a state of that moment, or one to which lines behind it lead
    pub since : CrashLeaves d mid.disk new.disk (RepresentsState (FromOneOf (images d mid.disk) (Cuts paths behind)))
    -- and after changes that were done for the state with all of them, or one to which lines behind it lead from there
    pub acknowledged : (a : AskParts) (tree : Tree) (task : TaskParts) → asks call.words ≡ Some (a, tree)
        → asked_task call.words a ≡ Some task → is_done call.outcome.why ≡ true
        → IfOk (store (reopened_files (d.files old.disk)).pkg) (λ value. CrashLeaves d mid.disk new.disk
        (RepresentsState (Cuts paths behind (made_by paths call.moment call.words
        (state (reopened_files (d.files old.disk)).pkg value)))))
