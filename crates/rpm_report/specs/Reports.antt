-- What the commands do that go over all packages of the database: courses of `plain` on the page (`rpm_tool`,
-- Theorem.antt).
use Rattle.std.specs.Prelude.{ℕ, List, [], ◌∷◌, map, codes, decimal, Option, Some}
use Rattle.std.specs.List.{concat}
use Rattle.std.specs.FinMap.{entries}
use Rattle.rpm_outside.specs.Files.{Units}
use Rattle.rpm_pkgdb.specs.Store.{Store}
use Rattle.rpm_db.specs.State.{packages}
use Rattle.rpm_db.specs.Database.{without_index}
use Rattle.rpm_db.specs.declared.verify.Verdict.{Verdict}
use Rattle.rpm_db.specs.declared.verify.Verdict.TheVariants.{BadHeader, BadChecksum, BadDigest}
use Rattle.rpm_db.specs.Verdicts.{verdict}
use Rattle.rpm_effects.specs.Steps.{bearer, ToOut, Course, idle}
use Rattle.rpm_effects.specs.Portions.{Portion, nothing, fails, together, before_others}

-- a package that fails the check, as a line
abbrev pub unsound : ℕ → List ℕ → Portion
unsound n text =
    fails (ToOut (bearer 0 n) (concat (codes "package " ∷ decimal n ∷ codes ": " ∷ text ∷ codes "\n" ∷ [])))

-- a package that isn't sound has a line, for which the one argument fails
abbrev pub verdict_part : ℕ → Option Verdict → Portion
verdict_part n (Some BadHeader) = unsound n (codes "header cannot be read")
verdict_part n (Some BadChecksum) = unsound n (codes "checksum differs")
verdict_part n (Some BadDigest) = unsound n (codes "header digest differs")
verdict_part n others = nothing

-- the verdicts of all packages, each by its number, in rising order
abbrev pub verify : Units → Store → Course
verify file store = before_others (together (map (λ e. verdict_part e.0 (verdict file (without_index store) e.0))
    (entries (packages file store)))) idle
