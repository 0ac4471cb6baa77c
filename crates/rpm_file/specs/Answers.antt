-- What a call answers that reads from a shelf. Only a failed read and want of memory come from elsewhere than the
-- bytes.
use Rattle.std.specs.Prelude.{◌≡◌, ℕ, ◌+◌, ◌≤◌, List, length, take, Option, Some, None, Result, Ok, Err, Vec}
use Rattle.std.specs.declared.alloc.Global.{Global}
use Rattle.rpm_header.specs.Header.{Header}
use Rattle.rpm_file.specs.declared.fault.ListFault.{ListFault}
use Rattle.rpm_file.specs.declared.fault.ListFault.TheVariants as of_list
use Rattle.rpm_file.specs.declared.fault.FileFault.{FileFault}
use Rattle.rpm_file.specs.declared.fault.FileFault.TheVariants as of_file
use Rattle.rpm_outside.specs.Browses.{bytes_left}
use Rattle.rpm_file.specs.List.{list_head}
use Rattle.rpm_file.specs.Package.{HeaderAndRest}

-- a fault is the definition's
abbrev pub IsListFault : {X : Type 0} → Result X ListFault → ListFault → Type 0
IsListFault found of_list.ReadFault = Unit {0}
IsListFault found of_list.NoMemory = Unit {0}
IsListFault found fault = found ≡ Err fault

-- a package file's answer names this fault
abbrev pub IsFileFault : {X : Type 0} → Result X FileFault → FileFault → Type 0
IsFileFault found of_file.ReadFault = Unit {0}
IsFileFault found of_file.NoMemory = Unit {0}
IsFileFault found fault = found ≡ Err fault

-- an item gave at most so many bytes from the front of what was left of it
abbrev pub TakesAtMost : ℕ → Option (List ℕ) → Option (List ℕ) → Type 0
TakesAtMost most old new = length (bytes_left old) ≤ most + length (bytes_left new)

-- the next header is taken with its magic, and what follows it is left; at the end nothing is taken
abbrev pub AnswersNext : Option (List ℕ) → Option (List ℕ) → Result (Option (Vec ℕ Global)) ListFault → Type 0
AnswersNext old new (Ok None) = (list_head (bytes_left old) ≡ Ok None) × (new ≡ old)
AnswersNext old new (Ok (Some blob)) =
    list_head (bytes_left old) ≡ Ok (Some (record { blob = blob.items; rest = bytes_left new }))
AnswersNext old new (Err fault) = IsListFault (list_head (bytes_left old)) fault

-- a list's next header comes into the front of a row that may be longer
abbrev pub AnswersNextIn : Option (List ℕ) → Option (List ℕ) → List ℕ → Result (Option ℕ) ListFault → Type 0
AnswersNextIn old new room (Ok None) = (list_head (bytes_left old) ≡ Ok None) × (new ≡ old)
AnswersNextIn old new room (Ok (Some size)) =
    list_head (bytes_left old) ≡ Ok (Some (record { blob = take size room; rest = bytes_left new }))
AnswersNextIn old new room (Err fault) = IsListFault (list_head (bytes_left old)) fault

-- what follows the main header is left
abbrev pub AnswersBy : (List ℕ → Result HeaderAndRest FileFault) → Option (List ℕ) → Option (List ℕ)
    → Result Header FileFault
    → Type 0
AnswersBy found old new (Ok h) = found (bytes_left old) ≡ Ok (record { header = h; rest = bytes_left new })
AnswersBy found old new (Err fault) = IsFileFault (found (bytes_left old)) fault
