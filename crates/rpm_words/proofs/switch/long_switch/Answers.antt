use Rattle.std.proofs.Common.{refl, subst}
use Rattle.std.specs.Prelude.{IsSome}
use Rattle.rpm_words.proofs.Vocabulary.{long_switch, rpm_options, rpmdb_options, switch_in}
use Rattle.rpm_words.proofs.Spellings.{found_is_short}
use Rattle.rpm_words.proofs.switch.long_switch.Goals as goal

-- the rows of the code are those of the definition

pub returns-in-Rpm-clause-value : goal.returns-in-Rpm-clause-value
unfolding long_switch rpm_options switch_in
returns-in-Rpm-clause-value c = rw c.in-Rpm.is c.switch_in.ensures

pub returns-in-Rpm-clause-short : goal.returns-in-Rpm-clause-short
returns-in-Rpm-clause-short c = λ some. found_is_short _ c.args.text.now refl (subst IsSome c.switch_in.ensures some)

pub returns-in-Rpmdb-clause-value : goal.returns-in-Rpmdb-clause-value
unfolding long_switch rpmdb_options switch_in
returns-in-Rpmdb-clause-value c = rw c.in-Rpmdb.is c.switch_in-in-Rpmdb.ensures

pub returns-in-Rpmdb-clause-short : goal.returns-in-Rpmdb-clause-short
returns-in-Rpmdb-clause-short c = λ some. found_is_short _ c.args.text.now refl (subst IsSome c.switch_in-in-Rpmdb.ensures some)
