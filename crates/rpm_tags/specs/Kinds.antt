-- The kinds of keys.
use Rattle.std.specs.Prelude.{ℕ}
use Rattle.rpm_tags.specs.declared.kind.Kind.{Kind}
use Rattle.rpm_tags.specs.declared.kind.Kind.TheVariants as kind
use Rattle.rpm_tags.specs.Numbers.{NAME, GROUP, PROVIDENAME, REQUIRENAME, CONFLICTNAME, TRIGGERNAME, OBSOLETENAME}
use Rattle.rpm_tags.specs.Numbers.{BASENAMES, DIRNAMES, INSTALLTID, RECOMMENDNAME}

-- the number that the index stores for a kind, and the tag whose elements are its keys
abbrev pub code_and_tag : Kind → ℕ × ℕ
code_and_tag kind.Name = (1, NAME)
code_and_tag kind.Basenames = (2, BASENAMES)
code_and_tag kind.Group = (3, GROUP)
code_and_tag kind.Providename = (4, PROVIDENAME)
code_and_tag kind.Requirename = (5, REQUIRENAME)
code_and_tag kind.Conflictname = (6, CONFLICTNAME)
code_and_tag kind.Obsoletename = (7, OBSOLETENAME)
code_and_tag kind.Triggername = (8, TRIGGERNAME)
code_and_tag kind.Dirnames = (9, DIRNAMES)
code_and_tag kind.Installtid = (10, INSTALLTID)
code_and_tag kind.Recommendname = (11, RECOMMENDNAME)

-- the number that the index stores for a kind
abbrev pub code_of : Kind → ℕ
code_of k = (code_and_tag k).0
