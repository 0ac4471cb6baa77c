-- A text of an epoch, a version and a release, by the parts that the code cuts.
use Rattle.std.proofs.Common.{◌≡◌, ℕ, List, refl}
use Rattle.rpm_version.specs.Evr.{evr}
use Rattle.rpm_version.specs.inner.Cuts.{behind_epoch, epoch_of, has_epoch, release_of, version_of}

pub evr_by_cuts : (text : List ℕ) → evr text ≡
    record { epoch = epoch_of text; version = version_of (behind_epoch text); release = release_of (behind_epoch text) }
unfolding evr has_epoch epoch_of behind_epoch version_of release_of
evr_by_cuts text = refl
