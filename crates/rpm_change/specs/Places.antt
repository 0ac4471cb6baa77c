-- What is told of lists of headers.
use Rattle.std.specs.Prelude.{ℕ, List, [], ◌++◌, codes, decimal}
use Rattle.rpm_file.specs.declared.fault.ListFault.{ListFault}
use Rattle.rpm_file.specs.declared.fault.ListFault.TheVariants as list

-- a fault of a list has this text; the last two are of no list
unfoldable pub list_text : ListFault → List ℕ
list_text list.Short = codes "list is cut short"
list_text list.BadMagic = codes "bad header magic"
list_text list.TooManyEntries = codes "too many entries"
list_text list.TooMuchData = codes "too much data"
list_text list.ReadFault = []
list_text list.NoMemory = []

-- a fault of the header at this place of a list, from 1, has this line
unfoldable pub place_line : ℕ → List ℕ → List ℕ
place_line k text = codes "error: header " ++ decimal k ++ codes ": " ++ text ++ codes "\n"
