-- What is told of package files that are refused, and of their headers.
use Rattle.std.specs.Prelude.{ℕ, List, [], ◌++◌, codes, decimal}
use Rattle.rpm_header.specs.declared.form.HeaderFault.{HeaderFault}
use Rattle.rpm_header.specs.declared.form.HeaderFault.TheVariants as header
use Rattle.rpm_file.specs.declared.fault.FileFault.{FileFault}
use Rattle.rpm_file.specs.declared.fault.FileFault.TheVariants as file

-- a text that names an entry of a header
abbrev pub at_entry : ℕ → List ℕ → List ℕ
at_entry i text = codes "entry " ++ decimal i ++ codes ": " ++ text

-- the words of each fault of a header
unfoldable pub header_text : HeaderFault → List ℕ
header_text header.Short = codes "header is cut short"
header_text header.TooManyEntries = codes "too many entries"
header_text header.TooMuchData = codes "too much data"
header_text (header.BadType i) = at_entry i (codes "bad type")
header_text (header.BadOffset i) = at_entry i (codes "bad offset")
header_text (header.BadCount i) = at_entry i (codes "bad count")
header_text (header.NoEnd i) = at_entry i (codes "text has no end")
header_text header.BadRegion = codes "bad region"

-- a fault of a package file has this text; the others are of no file
unfoldable pub file_text : FileFault → List ℕ
file_text file.Short = codes "file is cut short"
file_text file.NotAPackage = codes "not an rpm package"
file_text file.BadMagic = codes "bad header magic"
file_text (file.Signature fault) = codes "signature header: " ++ header_text fault
file_text (file.Main fault) = codes "header: " ++ header_text fault
file_text file.TooLarge = codes "header too large"
file_text others = []

-- the line that reports a package file that is refused
abbrev pub refused_line : List ℕ → FileFault → List ℕ
refused_line path fault = codes "error: " ++ path ++ codes ": " ++ file_text fault ++ codes "\n"

-- the line that reports a path that isn't there
abbrev pub absent_line : List ℕ → List ℕ
absent_line path = codes "error: open of " ++ path ++ codes " failed\n"
