-- The courses of changes part by part, as proofs and private functions name them: each is a part of a definition.
use Rattle.std.specs.Prelude.{ℕ, List, [], ◌∷◌, length, codes, nat_lt, if◌then◌else◌, Option, Some, None, Result, Ok, Err}
use Rattle.std.specs.FinMap as finite
use Rattle.rpm_header.specs.Header.{Header, header}
use Rattle.rpm_outside.specs.Shelves.{Paths}
use Rattle.rpm_file.specs.declared.fault.FileFault.{FileFault}
use Rattle.rpm_file.specs.declared.fault.ListFault.{ListFault}
use Rattle.rpm_file.specs.List.{BlobAndRest}
use Rattle.rpm_file.specs.Package.{package_header}
use Rattle.rpm_db.specs.Changes.{Erase}
use Rattle.rpm_db.specs.State.{State, Package, Good, Bad}
use Rattle.rpm_effects.specs.Steps.{Course, ToErr, ToOut, bearer, whole_step, idle, joined_courses, course_of_change, course_of_failure}
use Rattle.rpm_effects.specs.Texts.{refused_line, absent_line}
use Rattle.rpm_change.specs.declared.add.Placing.{Placing}
use Rattle.rpm_db.specs.Changes.{change_at}
use Rattle.rpm_change.specs.Adding.{as_installed, put_file}
use Rattle.rpm_change.specs.Erasing.{missing_line}
use Rattle.rpm_change.specs.Importing.{imported_header, import_from, place_fails}
use Rattle.rpm_change.specs.Places.{list_text}
use Rattle.rpm_change.specs.Rebuilding.{dropped_line}

-- a package file that could be read goes into the database with its moment, or its line is told
abbrev pub put_installed : Option ℕ → ℕ → List ℕ → Result Header FileFault → Course
put_installed number j path (Ok h) = course_of_change (change_at number h.blob)
put_installed number j path (Err fault) = course_of_failure (ToErr (whole_step j) (refused_line path fault))

-- a package file is put, or reported where it isn't there
abbrev pub put_found : Placing → ℕ → List ℕ → Option (List ℕ) → Course
put_found how j path None = course_of_failure (ToErr (whole_step j) (absent_line path))
put_found how j path (Some bytes) =
    put_installed how.number j path (as_installed how.moment (package_header bytes))

-- what adding a file does isn't of the state
abbrev pub add_file : ℕ → Paths → State → ℕ → List ℕ → Course
add_file now paths s j path = put_file (record { number = None; moment = now }) paths j path

-- a number that no package has, as a line and nothing more
abbrev pub missing_course : ℕ → ℕ → Course
missing_course j n = course_of_failure (ToErr (whole_step j) (missing_line n))

-- a file goes in place of a number's package
abbrev pub replacement : Option Package → Paths → ℕ → ℕ → List ℕ → Course
replacement o paths now n path = elim o [
  | None ↦ missing_course 0 n
  | Some held ↦ put_file (record { number = Some n; moment = now }) paths 0 path
]

-- what the number has is erased
abbrev pub erasure : Option Package → ℕ → ℕ → Course
erasure o j n = elim o [ None ↦ missing_course j n | Some held ↦ course_of_change (Erase n) ]

-- the course of one erasure
abbrev pub erase_one : State → ℕ → ℕ → Course
erase_one s j n = erasure (finite.get s.packages n) j n

-- a Bad package is dropped with a line, for which nothing fails
abbrev pub dropped_course : ℕ → Package → Course
dropped_course n (Good bytes) = idle
dropped_course n Bad = record { steps = ToOut (bearer 0 n) (dropped_line n) ∷ []; failed = 0; changes = Erase n ∷ [] }

-- the headers of a list from place k on
abbrev pub list_course : ℕ → ℕ → List ℕ → Course
list_course most k bytes = import_from most k (length bytes) bytes

-- what stands at place k, and the course after it
abbrev pub import_next : (List ℕ → Course) → ℕ → ℕ → Result (Option BlobAndRest) ListFault → Course
import_next after most k (Ok None) = idle
import_next after most k (Ok (Some found)) = if nat_lt most k then place_fails k (codes "too many headers")
    else joined_courses (imported_header k (header found.blob)) (after found.rest)
import_next after most k (Err fault) = place_fails k (list_text fault)
