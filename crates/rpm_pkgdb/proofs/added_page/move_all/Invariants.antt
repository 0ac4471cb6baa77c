use Rattle.rpm_pkgdb.proofs.Vocabulary.{AreMoved, CanMoveAll, moving_cost, NoShorter, Pkg, pkg, Quiet, RepresentsBlobs, CrashLeavesFile, Store, Writes}
use Rattle.std.proofs.Common.{IsTrue, take, Some}
use Rattle.rpm_pkgdb.proofs.Changing.{done}
use Rattle.rpm_pkgdb.proofs.added_page.move_all.Given as goal

abbrev pub invariant-loop-k : goal.invariant-loop-k
invariant-loop-k g l =
    let D = g.D.Disk in
    let old = l.initial.disk in
    record {
      moved : IsTrue D.tells → AreMoved D old l.disk l.slots l.moves (take l.k l.moves) l.zeros_from;
      images : IsTrue D.tells → (value : Store) → CanMoveAll l.slots l.moves value → Quiet D old value
          → CrashLeavesFile D old l.disk (RepresentsBlobs value (pkg D old));
      writes : Writes D Pkg NoShorter (moving_cost l.slots (Some (take l.k l.moves))) done old l.disk;
    }
