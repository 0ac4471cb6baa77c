use Rattle.std.proofs.Common.{◌∙◌, ◌+◌}
use Rattle.std.proofs.lemmas.List.{take_rest}
use Rattle.rpm_version.proofs.Dashes.{version_of-whole, release_of-none, version_of-at, release_of-at}
use Rattle.rpm_version.proofs.evr.split_release.Goals as goal

pub returns-in-None-clause-version : goal.returns-in-None-clause-version
returns-in-None-clause-version c = version_of-whole _ c.in-None.ensures

pub returns-in-None-clause-release : goal.returns-in-None-clause-release
returns-in-None-clause-release c = release_of-none _ c.in-None.ensures

pub returns-in-Some-clause-version : goal.returns-in-Some-clause-version
returns-in-Some-clause-version c = version_of-at _ _ c.in-Some.ensures

pub returns-in-Some-clause-release : goal.returns-in-Some-clause-release
returns-in-Some-clause-release c =
    let rest = take_rest c.args.text.now (c.in-Some.dash + 1) in
    rw rest at c.unless_empty.ensures ∙ release_of-at _ _ c.in-Some.ensures
