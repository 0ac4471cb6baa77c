-- What rebuilding drops: the packages that can't be read.
use Rattle.std.specs.Prelude.{ℕ, List, [], ◌∷◌, ◌++◌, codes, decimal}
use Rattle.std.specs.FinMap as finite
use Rattle.rpm_db.specs.Changes.{Erase}
use Rattle.rpm_db.specs.State.{State, Package, Good, Bad, above}
use Rattle.rpm_effects.specs.declared.tally.Halt.{Halt}
use Rattle.rpm_effects.specs.declared.tally.Halt.TheVariants as halt
use Rattle.rpm_effects.specs.Steps.{Course, ToOut, bearer, idle, joined_courses}

-- the line that reports a package that a rebuild drops
unfoldable pub dropped_line : ℕ → List ℕ
dropped_line n = codes "package " ++ decimal n ++ codes ": dropped\n"

-- each Bad package of a list is dropped with a line, for which nothing fails
abbrev pub drop_each : List (ℕ × Package) → Course
drop_each [] = idle
drop_each ((n, Good bytes) ∷ es) = drop_each es
drop_each ((n, Bad) ∷ es) = joined_courses
    (record { steps = ToOut (bearer 0 n) (dropped_line n) ∷ []; failed = 0; changes = Erase n ∷ [] }) (drop_each es)

-- a rebuild drops the Bad packages by rising number, from 1 on: no package has the number 0
abbrev pub rebuild : State → Course
rebuild s = drop_each (above 0 (finite.entries s.packages))

-- ---- faults

-- rebuilding takes no new number and no room in the store, reads no shelf and writes no line to err
abbrev pub IsOfRebuilding : Halt → Type 0
IsOfRebuilding halt.NumbersSpent = ⊥
IsOfRebuilding halt.StoreFull = ⊥
IsOfRebuilding halt.ShelfFault = ⊥
IsOfRebuilding halt.ErrFault = ⊥
IsOfRebuilding others = Unit {0}
