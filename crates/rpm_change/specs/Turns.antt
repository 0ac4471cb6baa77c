-- What is done with what stands in front of a list.
use Rattle.std.specs.Prelude.{◌≡◌, ◌≢◌, ℕ, List, Bool, true, false, codes, nat_lt, if◌then◌else◌, Option, Some, None}
use Rattle.std.specs.Prelude.{Result, Ok, Err}
use Rattle.rpm_header.specs.Header.{header}
use Rattle.rpm_file.specs.declared.fault.ListFault.{ListFault}
use Rattle.rpm_file.specs.declared.fault.ListFault.TheVariants as list
use Rattle.rpm_file.specs.List.{BlobAndRest}
use Rattle.rpm_effects.specs.declared.tally.Tally.{Tally}
use Rattle.rpm_effects.specs.declared.tally.Halt.{Halt}
use Rattle.rpm_effects.specs.declared.tally.Halt.TheVariants as halt
use Rattle.rpm_change.specs.declared.turn.Turn.{Turn}
use Rattle.rpm_effects.specs.Steps.{Course, idle}
use Rattle.rpm_change.specs.Importing.{place_fails, imported_header}
use Rattle.rpm_change.specs.laws.Courses.{list_course}
use Rattle.rpm_change.specs.Places.{list_text}

-- a header at place k of a list that may have so many
abbrev pub turn_found : ℕ → ℕ → List ℕ → Course
turn_found most k blob = if nat_lt most k then place_fails k (codes "too many headers")
    else imported_header k (header blob)

-- what stands at place k
abbrev pub turn : ℕ → ℕ → Result (Option BlobAndRest) ListFault → Course
turn most k (Ok None) = idle
turn most k (Ok (Some found)) = turn_found most k found.blob
turn most k (Err fault) = place_fails k (list_text fault)

-- whether the list ends there; where it doesn't, these bytes are left
abbrev pub ListEnd : ℕ → ℕ → Result (Option BlobAndRest) ListFault → Bool → List ℕ → Type 0
ListEnd most k (Ok None) is_last left = is_last ≡ true
ListEnd most k (Ok (Some found)) is_last left = (is_last ≡ nat_lt most k) × (found.rest ≡ left)
ListEnd most k (Err fault) is_last left = is_last ≡ true

-- what is left of a course, where the list has ended or goes on
abbrev pub from_place : Bool → ℕ → ℕ → List ℕ → Course
from_place true most k bytes = idle
from_place false most k bytes = list_course most k bytes

-- what a turn came to
abbrev pub tally_of : Result Turn Halt → Result Tally Halt
tally_of (Ok turn) = Ok turn.tally
tally_of (Err halt) = Err halt

-- ---- faults

-- importing writes no line to out
abbrev pub IsOfImporting : Halt → Type 0
IsOfImporting halt.OutFault = ⊥
IsOfImporting others = Unit {0}

-- a halt of an import that adds headers isn't the shelf's
abbrev pub IsOfHeaders : Halt → Type 0
IsOfHeaders h = (h ≢ halt.ShelfFault) × IsOfImporting h

-- a failed read and want of memory stop the command; the others are faults of the list
abbrev pub HaltOfList : ListFault → Option Halt → Type 0
HaltOfList list.ReadFault stop = stop ≡ Some halt.ShelfFault
HaltOfList list.NoMemory stop = stop ≡ Some halt.NoMemory
HaltOfList others stop = stop ≡ None
