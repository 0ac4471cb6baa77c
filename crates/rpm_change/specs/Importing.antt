-- What importing a list of headers does.
use Rattle.std.specs.Prelude.{ℕ, zero, suc, ◌+◌, min, List, length, codes, nat_lt, if◌then◌else◌, Option, Some}
use Rattle.std.specs.Prelude.{None, Result, Ok, Err}
use Rattle.rpm_header.specs.declared.form.HeaderFault.{HeaderFault}
use Rattle.rpm_header.specs.Header.{Header, header}
use Rattle.rpm_file.specs.List.{list_head}
use Rattle.rpm_db.specs.Changes.{Add}
use Rattle.rpm_effects.specs.Steps.{Course, ToErr, whole_step, idle, joined_courses, course_of_change}
use Rattle.rpm_effects.specs.Steps.{course_of_failure}
use Rattle.rpm_effects.specs.Texts.{header_text, absent_line}
use Rattle.rpm_change.specs.Places.{list_text, place_line}

-- a line of the header at place k, from 1
abbrev pub place_fails : ℕ → List ℕ → Course
place_fails k text = course_of_failure (ToErr (whole_step 0) (place_line k text))

-- a header of the list is added as it is, or passed over with a line
abbrev pub imported_header : ℕ → Result Header HeaderFault → Course
imported_header k (Ok h) = course_of_change (Add h.blob)
imported_header k (Err fault) = place_fails k (header_text fault)

-- the headers from place k on, of a list of these bytes, in so many turns: each takes a byte at least; the list ends in
-- front of one too many
abbrev pub import_from : ℕ → ℕ → ℕ → List ℕ → Course
import_from most k zero bytes = idle
import_from most k (suc turns) bytes = elim (list_head bytes) [
  | Ok None ↦ idle
  | Ok (Some found) ↦ if nat_lt most k then place_fails k (codes "too many headers")
      else joined_courses (imported_header k (header found.blob)) (import_from most (k + 1) turns found.rest)
  | Err fault ↦ place_fails k (list_text fault)
]

-- an import takes the list under the path -, of at most so many headers; the command counts as one argument, which
-- fails once
abbrev pub import_list : ℕ → Option (List ℕ) → Course
import_list most None = course_of_failure (ToErr (whole_step 0) (absent_line (codes "-")))
import_list most (Some bytes) =
    let c = import_from most 1 (length bytes) bytes in
    record { steps = c.steps; failed = min 1 c.failed; changes = c.changes }
