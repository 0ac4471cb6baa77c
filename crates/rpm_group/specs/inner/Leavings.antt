-- What a crash may leave while entries are written.
use Rattle.std.specs.Prelude.{List}
use Rattle.rpm_outside.specs.Files.{Files}
use Rattle.rpm_outside.specs.Logs.{Entry}
use Rattle.rpm_outside.specs.Entries.{Within}

-- one of these images became this one by a write of some of the entries
abbrev pub WasWithin : List Entry → (Files → Type 0) → Files → Type 0
WasWithin entries images image = (from : Files) × images from × Within entries from image
