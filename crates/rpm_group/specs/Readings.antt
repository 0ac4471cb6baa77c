-- What was read of a log.
use Rattle.std.specs.Prelude.{◌≡◌, List, []}
use Rattle.rpm_outside.specs.Logs.{Entry, LogState, Closed, Malformed, Open}

-- the entries of an open log
abbrev pub entries_of : LogState → List Entry
entries_of Closed = []
entries_of (Malformed unit) = []
entries_of (Open entries) = entries

-- a log holds a whole transaction
abbrev pub IsOpen : LogState → Type 0
IsOpen state = state ≡ Open (entries_of state)
