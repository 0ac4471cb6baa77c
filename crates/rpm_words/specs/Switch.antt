-- How each option is spelled.
use Rattle.std.specs.Prelude.{ℕ, List, [], ◌∷◌, Option, Some, None, ◌==◌, if◌then◌else◌, codes}
use Rattle.std.specs.Map.{lookup}
use Rattle.std.specs.Str.{bytes_eq}
use Rattle.rpm_words.specs.declared.switch.Program.{Program}
use Rattle.rpm_words.specs.declared.switch.Program.TheVariants.{Rpm, Rpmdb}
use Rattle.rpm_words.specs.declared.switch.Command.TheVariants.{Query, Addpkg, Replacepkg, Erasepkg, Verify, Initdb}
use Rattle.rpm_words.specs.declared.switch.Command.TheVariants.{Rebuilddb, Verifydb, Exportdb, Importdb, Exercise}
use Rattle.rpm_words.specs.declared.switch.Command.TheVariants.{Order, Checkfiles, Help, Version}
use Rattle.rpm_words.specs.declared.switch.Chosen.TheVariants.{All, Path, Group, Package, Provides, Requires, Conflicts}
use Rattle.rpm_words.specs.declared.switch.Chosen.TheVariants.{Obsoletes, Trigger, Number, Directory, Tid, Recommends}
use Rattle.rpm_words.specs.declared.switch.Switch.{Switch}
use Rattle.rpm_words.specs.declared.switch.Switch.TheVariants.{Mode, Choose, Lists, Format, After, Noindex, Nofiles}
use Rattle.rpm_words.specs.declared.switch.Switch.TheVariants.{Folder}

-- the long options of `rpm`
unfoldable pub rpm_options : List (List ℕ × Switch)
rpm_options =
    (codes "--query", Mode Query) ∷ (codes "--addpkg", Mode Addpkg) ∷ (codes "--replacepkg", Mode Replacepkg)
    ∷ (codes "--erasepkg", Mode Erasepkg) ∷ (codes "--verify", Mode Verify) ∷ (codes "--all", Choose All)
    ∷ (codes "--file", Choose Path) ∷ (codes "--group", Choose Group) ∷ (codes "--package", Choose Package)
    ∷ (codes "--whatprovides", Choose Provides) ∷ (codes "--whatrequires", Choose Requires)
    ∷ (codes "--whatconflicts", Choose Conflicts) ∷ (codes "--whatobsoletes", Choose Obsoletes)
    ∷ (codes "--triggeredby", Choose Trigger) ∷ (codes "--querybynumber", Choose Number)
    ∷ (codes "--whatdir", Choose Directory) ∷ (codes "--tid", Choose Tid)
    ∷ (codes "--whatrecommends", Choose Recommends) ∷ (codes "--list", Lists) ∷ (codes "--qf", Format)
    ∷ (codes "--queryformat", Format) ∷ (codes "--after", After) ∷ (codes "--noindex", Noindex)
    ∷ (codes "--nofiles", Nofiles) ∷ (codes "--help", Mode Help) ∷ (codes "--version", Mode Version)
    ∷ (codes "--dbpath", Folder) ∷ []

-- the long options of `rpmdb`
unfoldable pub rpmdb_options : List (List ℕ × Switch)
rpmdb_options =
    (codes "--initdb", Mode Initdb) ∷ (codes "--rebuilddb", Mode Rebuilddb) ∷ (codes "--verifydb", Mode Verifydb)
    ∷ (codes "--exportdb", Mode Exportdb) ∷ (codes "--importdb", Mode Importdb) ∷ (codes "--exercise", Mode Exercise)
    ∷ (codes "--order", Mode Order) ∷ (codes "--checkfiles", Mode Checkfiles) ∷ (codes "--help", Mode Help)
    ∷ (codes "--version", Mode Version) ∷ (codes "--dbpath", Folder) ∷ []

-- the option of a program that a long word spells
unfoldable pub long_switch : Program → List ℕ → Option Switch
long_switch Rpm text = lookup (bytes_eq text) rpm_options
long_switch Rpmdb text = lookup (bytes_eq text) rpmdb_options

-- the short options, all of `rpm`: q V a f g p l
unfoldable pub short_switch : ℕ → Option Switch
short_switch byte =
    if byte == 113 then Some (Mode Query) else if byte == 86 then Some (Mode Verify)
    else if byte == 97 then Some (Choose All) else if byte == 102 then Some (Choose Path)
    else if byte == 103 then Some (Choose Group) else if byte == 112 then Some (Choose Package)
    else if byte == 108 then Some Lists else None
