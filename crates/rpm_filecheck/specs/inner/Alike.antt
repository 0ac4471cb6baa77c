-- Owners that say the same of a path.
use Rattle.std.specs.Prelude.{Bool, ◌&&◌, ◌||◌, ◌==◌}
use Rattle.std.specs.Str.{bytes_eq}
use Rattle.rpm_filecheck.specs.Owners.{Owner, is_directory}

-- mode, digest and link are the same
abbrev pub is_alike : Owner → Owner → Bool
is_alike a b =
    (a.facts.mode == b.facts.mode) && (bytes_eq a.facts.digest b.facts.digest && bytes_eq a.facts.link b.facts.link)

-- two owners agree when they say the same of the file, or both are of directories
abbrev pub agrees : Owner → Owner → Bool
agrees a b = is_alike a b || (is_directory a.facts && is_directory b.facts)
