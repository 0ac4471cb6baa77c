-- The header of a package.
use Rattle.std.specs.Prelude.{Option, Some, None, Result, Ok, Err}
use Rattle.rpm_header.specs.declared.form.HeaderFault.{HeaderFault}
use Rattle.rpm_header.specs.Header.{Header, header}
use Rattle.rpm_db.specs.State.{Package, Good, Bad}

-- the header of bytes, if they are one
abbrev pub header_read : Result Header HeaderFault → Option Header
header_read (Ok h) = Some h
header_read (Err fault) = None

-- the header of a number's package, if that can be read
abbrev pub header_at : Option Package → Option Header
header_at None = None
header_at (Some (Good bytes)) = header_read (header bytes)
header_at (Some Bad) = None
