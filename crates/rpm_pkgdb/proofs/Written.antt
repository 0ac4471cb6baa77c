-- A value that is written on a disk.
use Rattle.std.proofs.Common.{◌≡◌, ℕ, ◌≤◌, List}
use Rattle.rpm_outside.specs.declared.disk.Disk as disk
use Rattle.rpm_pkgdb.proofs.Vocabulary.{BlobMap, blobs, IsPut, IsWritten, KeepsStore, pkg, Quiet, Store, Target, with_spare}
use Rattle.rpm_pkgdb.proofs.ErasesTo.{stands_for}

module _ {D : Type 0} (d : disk.Ghosts D) where
  pub written : (at : D) (value : Store) (map : BlobMap) → 1 ≤ value.pages → KeepsStore (pkg d at) value → Quiet d at value → blobs (pkg d at) value ≡ map
      → IsWritten d at value map
  written at value map some kept quiet is = record {
    kept = kept;
    quiet = quiet;
    stands = λ image here. stands_for value (pkg d at) image.pkg some kept (quiet image here);
    blobs_are = is;
  }

  -- whatever room the value has
  pub put_spare : (old new : D) (before after : Store) (spare : ℕ) (target : Target) (blob : List ℕ) → IsPut d old new before after target blob
      → IsPut d old new before (with_spare spare after) target blob
  unfolding blobs
  put_spare old new before after spare target blob p = record {
    written = record {
      kept = p.written.kept;
      quiet = λ image here. let s = p.written.quiet image here in record { keeps = s.keeps; blocks = s.blocks };
      stands = p.written.stands;
      blobs_are = p.written.blobs_are;
    };
    others = p.others;
    framed_in = p.framed_in;
    next = p.next;
    stays = p.stays;
    zeros = p.zeros;
    freed = p.freed;
    reach = p.reach;
  }
