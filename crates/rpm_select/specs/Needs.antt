-- What a reader of a header gives.
use Rattle.rpm_tags.specs.declared.needed.Dependency.{Dependency}
use Rattle.rpm_tags.specs.Wanted.{Need}

-- the name, flags and version of an element that was read
abbrev pub needed_in : Dependency → Need
needed_in e = record { name = e.name.now; flags = e.flags; version = e.version.now }
