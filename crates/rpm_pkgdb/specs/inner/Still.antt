-- What a crash leaves where no package changes.
use Rattle.rpm_outside.specs.Files.{Units}
use Rattle.rpm_pkgdb.specs.Store.{Store}
use Rattle.rpm_pkgdb.specs.Blobs.{blobs}
use Rattle.rpm_pkgdb.specs.Stays.{AllStay}
use Rattle.rpm_pkgdb.specs.Quiet.{Represents}

-- an image represents the blobs from before, and each package's blocks have the bytes from before
pub record RepresentsBlobs (value : Store) (file image : Units) : Type 0 where
  pub stands : Represents value.generation value.field (blobs file value) image
  pub stay : AllStay value file stands.value image
