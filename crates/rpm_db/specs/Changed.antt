-- A change of an open database as one thing: what it asks, what it makes, what it leaves.
use Rattle.std.specs.Prelude.{◌≡◌, ◌≢◌, ◌⊎◌, ◌+◌, true, false, IsTrue, OnOk, IfErr, Result, Err}
use Rattle.rpm_outside.specs.declared.disk.Disk as disk
use Rattle.rpm_db.specs.declared.change_fault.ChangeFault.{ChangeFault}
use Rattle.rpm_db.specs.declared.change_fault.ChangeFault.TheVariants.{DiskFault}
use Rattle.rpm_db.specs.Changes.{AllSay, Change, IsServing, apply, changed_number}
use Rattle.rpm_db.specs.Database.{Database, IsIndexed, generation_of, is_blank_database, is_indexed, store_of}
use Rattle.rpm_db.specs.Frame.{Runs, StaysBetween, state_in}
use Rattle.rpm_db.specs.Lawful.{IsWholeIndex}
use Rattle.rpm_db.specs.Reaches.{Reaches, units_needed_after}
use Rattle.rpm_db.specs.Refusals.{FullIndexIs, IsRefusal, StaysWhole}
use Rattle.rpm_db.specs.Room.{RoomIs, next_store}
use Rattle.rpm_db.specs.Runs.{SameFiles}
use Rattle.rpm_db.specs.State.{state}
use Rattle.rpm_db.specs.Verdicts.{KeepsVerdicts}

module _ {D : Type 0} (d : disk.Ghosts D) where
  -- a database can be changed when it has an index, wasn't stopped, and is what the disk's files say
  pub record IsReady (at : D) (db : Database) : Type 0 where
    pub indexed : is_indexed db ≡ true
    pub going : db.stopped ≡ false
    pub serving : IsTrue d.tells → IsServing (d.files at) (d.left_since at (d.moment at)) db

  -- a change was made: the files say the state after it, also after each crash from now on
  pub record IsChangeMade (old new : D) (change : Change) (before after : Database) : Type 0 where
    pub state_is : IsTrue d.tells
        → state (d.files new).pkg (store_of after) ≡ apply change (state (d.files old).pkg (store_of before))
    pub held : IsTrue d.tells
        → AllSay (apply change (state (d.files old).pkg (store_of before)))
        (d.left_since new (d.moment new))
    pub verdicts : IsTrue d.tells → KeepsVerdicts (changed_number change (state_in d old before))
        (d.files old).pkg (d.files new).pkg before after
    pub reach : IsTrue d.tells → IsIndexed (d.files old).pkg (d.files old).idx before
        → Reaches (state (d.files old).pkg (store_of before)) change (d.files old).idx (d.files new).idx

  -- a change by its answer: whether it found room in both files, what it made, and what crashes leave meanwhile
  pub record Makes {A : Type 0} (old new : D) (change : Change) (before after : Database)
      (result : Result A ChangeFault) : Type 0 where
    pub room : RoomIs (next_store change (store_of before)) (store_of before) (store_of after) result
    pub changed : OnOk result (IsChangeMade old new change before after)
    pub full : IsTrue d.tells → before.stopped ≡ false → IsIndexed (d.files old).pkg (d.files old).idx before
        → FullIndexIs (units_needed_after (state_in d old before) change) result
    pub crashes : StaysBetween d old new change before

  -- what is left of a value; after a refusal it is this one, and nothing was written or synced
  pub record IsLeft {A : Type 0} (old new : D) (before after refused_as : Database)
      (result : Result A ChangeFault) : Type 0 where
    pub indexed : is_indexed after ≡ true
    pub not_blank : is_blank_database after ≡ false
    pub generation : OnOk result (generation_of after ≡ generation_of before + 1)
    pub index : OnOk result (IsTrue d.tells → IsIndexed (d.files old).pkg (d.files old).idx before
        → IsIndexed (d.files new).pkg (d.files new).idx after)
    pub whole : IsTrue d.tells → IsWholeIndex (d.files old).idx
        → StaysWhole (d.files new).idx result
    pub serving : result ≢ Err DiskFault → before.stopped ≡ false → IsTrue d.tells
        → IsServing (d.files new) (d.left_since new (d.moment new)) after
    pub refused : IfErr result (λ e. IsRefusal e → after ≡ refused_as)
    pub same : IfErr result (λ e. IsRefusal e
        → Runs d SameFiles old new)
    pub moment : IfErr result (λ e. IsRefusal e → d.moment new ≡ d.moment old)
    pub stopped : (after.stopped ≡ true → (before.stopped ≡ true) ⊎ (result ≡ Err DiskFault))
        × (result ≡ Err DiskFault → after.stopped ≡ true)
