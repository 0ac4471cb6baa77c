-- What is left of a database that was read after something else.
use Rattle.std.proofs.Common.{◌≡◌, ℕ, Result, Ok, Err, refl, sym, ap, ◌∙◌, subst}
use Rattle.rpm_outside.specs.declared.disk.Disk as disk
use Rattle.rpm_outside.specs.declared.disk.File.TheVariants.{Pkg}
use Rattle.rpm_outside.specs.Causes.{HasCauseAt}
use Rattle.rpm_outside.specs.Files.{Files}
use Rattle.rpm_outside.specs.Frame.{OnlyReads}
use Rattle.rpm_db.specs.Changes.{IsServing}
use Rattle.rpm_db.specs.Database.{Database, IsIndexed}
use Rattle.rpm_db.specs.Frame.{Runs}
use Rattle.rpm_db.specs.Runs.{ImageFrom, SameFiles, SameLog}
use Rattle.rpm_db.proofs.laws.Running.{runs_looks, runs_then}
use Rattle.rpm_effects.specs.declared.tally.Tally.{Tally}
use Rattle.rpm_effects.specs.declared.tally.Halt.{Halt}
use Rattle.rpm_effects.specs.declared.tally.Halt.TheVariants as halt
use Rattle.rpm_change.specs.Progress.{EndStateOn}
use Rattle.rpm_change.proofs.laws.Leaving.{carried_any}
use Rattle.rpm_effects.proofs.laws.Joins.{cause_then}

-- the value serves as before
pub serving_read : (old new : Files) (past since : Files → Type 0) (db : Database) → new ≡ old
    → ((image : Files) → since image → ImageFrom SameFiles past image) → IsServing old past db → IsServing new since db
serving_read old new past since db same came s =
    let here : (image : Files) → since image → past image = λ image left. subst past (sym (came image left).came)
    (came image left).was in
    subst (λ (f : Files). IsServing f since db) (sym same)
    (record {
      keeps = s.keeps;
      index = s.index;
      quiet = λ image left. s.quiet image (here image left);
      durable = λ image left. s.durable image (here image left);
    })

-- a look is a run that only reads
pub looks_run : {D : Type 0} (d : disk.Ghosts D) {most : ℕ} {old new : D} → OnlyReads d Pkg most old new
    → Runs d SameFiles old new
looks_run d {most = most} {old = old} {new = new} looks =
    runs_looks d SameFiles (λ f. refl) Pkg most old new refl looks

module _ {D : Type 0} (d : disk.Ghosts D) (joins : (x y z : D) → d.follows x y → d.follows y z → d.follows x z) where
  -- a run that only reads after another one
  pub reads_on : (x y z : D) → Runs d SameFiles x y → Runs d SameFiles y z → Runs d SameFiles x z
  reads_on x y z =
      runs_then d joins SameFiles SameFiles SameFiles x y z
      (λ f g same. same) (λ f g h first second. second ∙ first)

  -- and after one that writes
  read_after : (x y z : D) → Runs d SameLog x y → Runs d SameFiles y z → Runs d SameLog x z
  read_after x y z =
      runs_then d joins SameLog SameFiles SameLog x y z
      (λ f g log. log) (λ f g h log same. ap (λ (f : Files). f.log) same ∙ log)

  pub left_read : {old mid new : D} {start db : Database} {tally : Tally} → EndStateOn d old mid start db (Ok tally)
      → Runs d SameFiles mid new
      → (r : Result Tally Halt) → HasCauseAt (r ≡ Err halt.DiskFault) (d.faults mid) (d.faults new)
      → EndStateOn d old new start db r
  left_read {old = old} {mid = mid} {new = new} {start = start} {db = db} first runs r cause = record {
    carried = carried_any d old new start db (record {
      going = first.carried.going;
      serving = λ told.
          serving_read (d.files mid) (d.files new) (d.left_since mid (d.moment mid))
          (d.left_since new (d.moment new)) db (runs.reads_as told)
          (runs.now told) (first.carried.serving told);
      index = λ told rows. subst (λ (f : Files). IsIndexed f.pkg f.idx db) (sym (runs.reads_as told))
          (first.carried.index told rows);
    }) r;
    indexed = first.indexed;
    runs = read_after old mid new first.runs runs;
    disk = cause_then first.disk.later cause;
  }
