-- What is left of a database where nothing was done, where a change was refused, and after one call and then another.
use Rattle.std.proofs.Common.{◌≡◌, ◌≤◌, List, true, Result, Ok, Err, refl, ap, ◌∙◌, arith}
use Rattle.std.specs.Prelude.{IsTrue, IfOk}
use Rattle.rpm_outside.specs.declared.disk.Disk as disk
use Rattle.rpm_outside.specs.Causes.{Rose}
use Rattle.rpm_db.specs.declared.change_fault.ChangeFault.{ChangeFault}
use Rattle.rpm_db.specs.declared.change_fault.ChangeFault.TheVariants as fault
use Rattle.rpm_db.specs.Changed.{IsReady}
use Rattle.rpm_db.specs.Database.{Database, is_indexed}
use Rattle.rpm_db.specs.Frame.{IsIndexed, Runs}
use Rattle.rpm_db.specs.Database.{store_of}
use Rattle.rpm_db.proofs.laws.Running.{runs_none, runs_then}
use Rattle.rpm_db.specs.Runs.{SameLog}
use Rattle.rpm_effects.specs.declared.tally.Tally.{Tally}
use Rattle.rpm_effects.specs.declared.tally.Halt.{Halt}
use Rattle.rpm_effects.specs.declared.tally.Halt.TheVariants as halt
use Rattle.rpm_outside.specs.Files.{Files, Units}
use Rattle.rpm_db.specs.Lawful.{Remade}
use Rattle.rpm_db.specs.State.{state}
use Rattle.rpm_db.specs.Refusals.{BadCause, WholeCause}
use Rattle.rpm_hindex.specs.Rows.{Row}
use Rattle.rpm_change.specs.Progress.{BadTurn, WholeTurn, IsChangeable, IsCurrent, EndStateBy, EndStateOn}
use Rattle.rpm_effects.proofs.laws.Joins.{cause_then}
use Rattle.rpm_effects.specs.Progress.{halt_of}

of_disk : (f : ChangeFault) → halt_of f ≡ halt.DiskFault → f ≡ fault.DiskFault
of_disk fault.DiskFault is = refl
of_disk others is = absurd cc

-- a change was refused
pub whole_halt : (idx : Units) (f : ChangeFault) → WholeCause f → WholeTurn idx (Err (halt_of f))
whole_halt idx (fault.BadIndex unit) cause = cause
whole_halt idx others cause = tt

-- it blames what it drops
pub halt_bad : (drops : List Row) (idx : Units) (f : ChangeFault) → BadCause drops idx f → BadTurn idx (Err (halt_of f))
halt_bad drops idx (fault.BadIndex unit) bad = (drops, bad)
halt_bad drops idx others bad = tt

-- once the index was rebuilt the files say the same state
pub state_remade : (old new : Files) (before after : Database) → Remade old new → (store_of after) ≡ (store_of before)
    → state new.pkg (store_of after) ≡ state old.pkg (store_of before)
state_remade old new before after made store =
    ap (λ (u : Units). state u (store_of after)) made.pkg ∙ ap (state old.pkg) store

module _ {D : Type 0} (d : disk.Ghosts D) where
  abbrev Ran : D → D → Type 0
  Ran = Runs d SameLog

  -- after the index was rebuilt, and where it was
  pub remade_then : ((x y z : D) → d.follows x y → d.follows y z → d.follows x z) → (a b c : D) → Runs d Remade a b
      → Ran b c → Ran a c
  remade_then joins a b c =
      runs_then d joins Remade SameLog SameLog a b c (λ x y made. made.log)
      (λ x y z made log. log ∙ made.log)

  pub remade_log : ((x : D) → d.follows x x) → ((x y z : D) → d.follows x y → d.follows y z → d.follows x z) → (a b : D)
      → Runs d Remade a b → Ran a b
  remade_log stays joins a b run =
      remade_then joins a b b run (runs_none d stays SameLog (λ f. refl) b)

  -- ---- whatever is left where it was done

  done_any : (C : Type 0) → C → (r : Result Tally Halt) → IfOk r (λ tally. C)
  done_any C carried (Ok tally) = carried
  done_any C carried (Err h) = tt

  -- nothing was done
  pub none_by : ((x : D) → d.follows x x) → (C : Type 0) → C → (at : D) (db : Database) → is_indexed db ≡ true
      → (r : Result Tally Halt)
      → (r ≡ Err halt.DiskFault → ⊥) → EndStateBy d C at at db r
  none_by stays C carried at db indexed r other = record {
    carried = done_any C carried r;
    indexed = indexed;
    runs = runs_none d stays SameLog (λ f. refl) at;
    disk = record { later = omega arith; rose = λ is. absurd (other is) };
  }

  -- nothing was changed after it
  pub after_by : (C : Type 0) (old new : D) (after : Database) (tally : Tally) → EndStateBy d C old new after (Ok tally)
      → (r : Result Tally Halt) → (r ≡ Err halt.DiskFault → ⊥) → EndStateBy d C old new after r
  after_by C old new after tally left r other = record {
    carried = done_any C left.carried r;
    indexed = left.indexed;
    runs = left.runs;
    disk = record { later = left.disk.later; rose = λ is. absurd (other is) };
  }

  both_by : (A B C : Type 0) → (A → B → C) → A → (r : Result Tally Halt) → IfOk r (λ tally. B) → IfOk r (λ tally. C)
  both_by A B C join first (Ok tally) second = join first second
  both_by A B C join first (Err h) second = tt

  -- one call and then another
  pub then_by : ((x y z : D) → d.follows x y → d.follows y z → d.follows x z) → (A B C : Type 0) → (A → B → C)
      → (old mid new : D)
      (before after : Database) (tally : Tally) (r : Result Tally Halt) → EndStateBy d A old mid before (Ok tally)
      → EndStateBy d B mid new after r
      → EndStateBy d C old new after r
  then_by joins A B C join old mid new before after tally r first second = record {
    carried = both_by A B C join first.carried r second.carried;
    indexed = second.indexed;
    runs = runs_then d joins SameLog SameLog SameLog old mid new (λ x y log. log)
        (λ x y z one two. two ∙ one) first.runs second.runs;
    disk = cause_then first.disk.later second.disk;
  }

  -- stopped by a fault of a change
  pub halted_by : (C : Type 0) (old new : D) (after : Database) → Ran old new → d.faults old ≤ d.faults new
      → is_indexed after ≡ true
      → (f : ChangeFault) → (f ≡ fault.DiskFault → Rose (d.faults old) (d.faults new))
      → EndStateBy d C old new after (Err (halt_of f))
  halted_by C old new after runs later indexed f rose = record {
    carried = tt;
    indexed = indexed;
    runs = runs;
    disk = record { later = later; rose = λ is. rose (of_disk f (cc)) };
  }

  -- ---- nothing was done

  pub unchanged : (at : D) (db : Database) → IsReady d at db → IsChangeable d at at db db
  unchanged at db ready = record { going = ready.going; serving = ready.serving; index = λ told rows. rows }

  pub carried_any : (old new : D) (before after : Database) → IsChangeable d old new before after
      → (r : Result Tally Halt)
      → IfOk r (λ tally. IsChangeable d old new before after)
  carried_any old new before after = done_any (IsChangeable d old new before after)

  -- nothing was changed after it
  pub left_after : (old new : D) (before after : Database) (tally : Tally)
      → EndStateOn d old new before after (Ok tally)
      → (r : Result Tally Halt) → (r ≡ Err halt.DiskFault → ⊥) → EndStateOn d old new before after r
  left_after old new before after = after_by (IsChangeable d old new before after) old new after

  -- it can be changed further
  pub ready_left : (old new : D) (before after : Database) (tally : Tally)
      → EndStateOn d old new before after (Ok tally)
      → IsReady d new after
  ready_left old new before after tally left =
      record { indexed = left.indexed; going = left.carried.going; serving = left.carried.serving }

  pub current_left : (old new : D) (before after : Database) (r : Result Tally Halt)
      → EndStateOn d old new before after r
      → (IsTrue d.tells → IsIndexed d old before) → IfOk r (λ tally. IsCurrent d new after)
  current_left old new before after (Ok tally) left rows =
      record { ready = ready_left old new before after tally left; index = λ told. left.carried.index told (rows told) }
  current_left old new before after (Err h) left rows = tt
