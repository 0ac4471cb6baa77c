-- What package files make of the database.
use Rattle.std.specs.Prelude.{◌≡◌, ℕ, List, Option, Some, None, Result, Ok, Err, Vec}
use Rattle.std.specs.FinMap as finite
use Rattle.std.specs.declared.alloc.Global.{Global}
use Rattle.rpm_header.specs.Header.{Header}
use Rattle.rpm_outside.specs.Shelves.{Paths, bytes_at}
use Rattle.rpm_file.specs.declared.fault.FileFault.{FileFault}
use Rattle.rpm_file.specs.declared.fault.FileFault.TheVariants as file
use Rattle.rpm_file.specs.Merging.{header_with_entries}
use Rattle.rpm_file.specs.Package.{HeaderAndRest, package_header, read_again}
use Rattle.rpm_db.specs.Changes.{change_at}
use Rattle.rpm_db.specs.State.{State}
use Rattle.rpm_change.specs.declared.add.Placing.{Placing}
use Rattle.rpm_effects.specs.declared.tally.Halt.{Halt}
use Rattle.rpm_effects.specs.declared.tally.Halt.TheVariants as halt
use Rattle.rpm_change.specs.Installs.{install_items}
use Rattle.rpm_effects.specs.Steps.{Course, ToErr, whole_step, course_of_change, course_of_failure, in_turn}
use Rattle.rpm_change.specs.Erasing.{missing_line}
use Rattle.rpm_effects.specs.Texts.{refused_line, absent_line}

-- ---- a file

-- the header of a package file as it is installed at this moment, unless a limit of headers would be passed
abbrev pub as_installed : ℕ → Result HeaderAndRest FileFault → Result Header FileFault
as_installed now (Ok found) = header_with_entries found.header (install_items now)
as_installed now (Err fault) = Err fault

-- the package file under a path goes into the database as it is installed then; a line tells that there is none, or what
-- is wrong with it
abbrev pub put_file : Placing → Paths → ℕ → List ℕ → Course
put_file how paths j path = elim (bytes_at paths path) [
  | None ↦ course_of_failure (ToErr (whole_step j) (absent_line path))
  | Some bytes ↦ elim (as_installed how.moment (package_header bytes)) [
    | Ok h ↦ course_of_change (change_at how.number h.blob)
    | Err fault ↦ course_of_failure (ToErr (whole_step j) (refused_line path fault))
  ]
]

-- ---- the commands

-- each file is added, at the moment `now`
abbrev pub add_files : Paths → ℕ → State → List (List ℕ) → Course
add_files paths now s files = in_turn (λ t j path. put_file (record { number = None; moment = now }) paths j path) s 0 files

-- a file goes in place of a number's package; that there is one is tried before the file
abbrev pub replace : Paths → ℕ → State → ℕ → List ℕ → Course
replace paths now s n path = elim (finite.get s.packages n) [
  | None ↦ course_of_failure (ToErr (whole_step 0) (missing_line n))
  | Some held ↦ put_file (record { number = Some n; moment = now }) paths 0 path
]

-- ---- what a call answers

-- the bytes of such a header, which are read as it again; or its fault, a read that failed, or a want of memory
abbrev pub GivesInstalled : Result Header FileFault → Result (Vec ℕ Global) FileFault → Type 0
GivesInstalled said (Ok blob) = said ≡ Ok (read_again blob.items)
GivesInstalled said (Err file.ReadFault) = Unit {0}
GivesInstalled said (Err file.NoMemory) = Unit {0}
GivesInstalled said (Err fault) = said ≡ Err fault

-- nothing is written to out; and only a new number can be spent
abbrev pub IsOfPutting : Option ℕ → Halt → Type 0
IsOfPutting number halt.OutFault = ⊥
IsOfPutting None halt.NumbersSpent = Unit {0}
IsOfPutting (Some n) halt.NumbersSpent = ⊥
IsOfPutting number others = Unit {0}
