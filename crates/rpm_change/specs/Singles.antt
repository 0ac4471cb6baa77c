-- One change of the database by its answer, while a batch goes on: what it is never stopped for, and what is left.
use Rattle.std.specs.Prelude.{◌≡◌, ◌≢◌, ℕ, true, IsTrue, IfOk, IfErr, Option, Some, None, Result}
use Rattle.rpm_outside.specs.declared.disk.Disk as disk
use Rattle.rpm_db.specs.Changes.{Change, Put, Erase}
use Rattle.rpm_db.specs.Database.{Database, generation_of, holds, next_package_number}
use Rattle.rpm_effects.specs.declared.tally.Tally.{Tally}
use Rattle.rpm_effects.specs.declared.tally.Halt.{Halt}
use Rattle.rpm_effects.specs.declared.tally.Halt.TheVariants as halt
use Rattle.rpm_db.specs.declared.netting.RowChange.{RowChange}
use Rattle.rpm_effects.specs.Steps.{course_of_change}
use Rattle.rpm_effects.specs.Shown.{EndedQuietly}
use Rattle.rpm_change.specs.Progress.{ProgressOwing}

-- a header goes under a new number, or under one that a package has
abbrev pub HasTarget : Option ℕ → Database → Type 0
HasTarget None db = Unit {0}
HasTarget (Some n) db = holds n db ≡ true

-- no number, no generation is left in this value
abbrev pub IsSpent : Database → Halt → Type 0
IsSpent db halt.NumbersSpent = next_package_number db ≡ 4294967295
IsSpent db halt.GenerationSpent = generation_of db ≡ 4294967295
IsSpent db others = Unit {0}

-- only a header under a new number takes a number, and only a header takes room in the store
abbrev pub IsRefusing : Halt → Change → Type 0
IsRefusing halt.NumbersSpent (Put n bytes) = ⊥
IsRefusing halt.NumbersSpent (Erase n) = ⊥
IsRefusing halt.StoreFull (Erase n) = ⊥
IsRefusing others change = Unit {0}

-- a change reads no shelf and writes no line
abbrev pub IsOfChange : Change → Halt → Type 0
IsOfChange change h = (h ≢ halt.ShelfFault) × (h ≢ halt.OutFault) × (h ≢ halt.ErrFault) × IsRefusing h change

module _ {D : Type 0} (d : disk.Ghosts D) where
  -- a change of a batch was made in the store, and its rows are owed; or what refuses it stopped it: numbers and
  -- generations are said to be spent only where they are
  pub record GathersOne (change : Change) (old new : D) (before after : Database) (owed more : RowChange)
      (r : Result Tally Halt) : Type 0 where
    pub went : ProgressOwing d (IsTrue d.tells) old new before after owed more r EndedQuietly (course_of_change change)
    pub one : IfOk r (λ tally. tally ≡ record { failed = 0; changes = 1 })
    pub kinds : IfErr r (IsOfChange change)
    pub spent : IfErr r (IsSpent after)
