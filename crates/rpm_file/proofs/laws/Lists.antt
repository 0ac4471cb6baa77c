-- The steps by which the next header of a list is found.
use Rattle.std.specs.Prelude.{ℕ, ◌+◌, List, length, take, drop, nat_lt, if◌then◌else◌, Option, Some, Result, Ok, Err}
use Rattle.rpm_file.specs.declared.fault.ListFault.{ListFault}
use Rattle.rpm_file.specs.declared.fault.ListFault.TheVariants.{Short}
use Rattle.rpm_file.specs.List.{BlobAndRest}

-- a header of this length after its magic
abbrev pub found_of_size : List ℕ → Result ℕ ListFault → Result BlobAndRest ListFault
found_of_size bytes (Err fault) = Err fault
found_of_size bytes (Ok size) =
    if nat_lt (length bytes) (8 + size) then Err Short
    else Ok (record { blob = take size (drop 8 bytes); rest = drop (8 + size) bytes })

-- what was found is one more header of the list
abbrev pub some_found : Result BlobAndRest ListFault → Result (Option BlobAndRest) ListFault
some_found (Ok found) = Ok (Some found)
some_found (Err fault) = Err fault
