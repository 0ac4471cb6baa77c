use Rattle.std.proofs.Common.{◌≡◌, ℕ, ◌∷◌, [], List, sym, ◌∙◌}
use Rattle.rpm_pkgdb.proofs.Vocabulary.{cut_up_one}
use Rattle.rpm_pkgdb.proofs.Kept.{take_one}
use Rattle.rpm_pkgdb.proofs.units.read_unit.Goals as goal

one_same : (u v : List ℕ) → u ∷ [] ≡ v ∷ [] → u ≡ v
one_same u v e = cc

pub returns-clause-unit : goal.returns-clause-unit
returns-clause-unit g c = λ told.
    one_same _ _ (sym (cut_up_one c.read_units.new.into c.read_units.auto.into) ∙ c.in_ok-read_units.ensures.units told
    ∙ take_one _ c.args.at (c.requires told))
