use Rattle.rpm_check.proofs.Vocabulary.{HasIndexRows, offer_in, packages, store_of, Serves}
use Rattle.std.proofs.Common.{◌≡◌, ◌-◌, ◌^◌, ◌++◌, map}
use Rattle.std.specs.Prelude.{IsTrue}
use Rattle.rpm_check.proofs.Offering.{offers_above}
use Rattle.rpm_check.proofs.offers.offers_picked.Given as goal
use Rattle.rpm_check.proofs.Asking.{Asking}

abbrev pub invariant-loop-found : goal.invariant-loop-found
invariant-loop-found g l = record {
  asking : Asking g.D.Disk l.fn.disk l.disk l.db;
  serves : IsTrue g.D.Disk.tells → HasIndexRows l.db (g.D.Disk.files l.fn.disk).pkg (g.D.Disk.files l.fn.disk).idx
      → Serves l.picker (packages (g.D.Disk.files l.fn.disk).pkg (store_of l.db)) l.selection;
  told : IsTrue g.D.Disk.tells → HasIndexRows l.db (g.D.Disk.files l.fn.disk).pkg (g.D.Disk.files l.fn.disk).idx
      → map offer_in l.found.items ++ offers_above (packages (g.D.Disk.files l.fn.disk).pkg (store_of l.db)) l.selection l.name l.passed
      ≡ offers_above (packages (g.D.Disk.files l.fn.disk).pkg (store_of l.db)) l.selection l.name 0;
}

abbrev pub decreases-loop-found : goal.decreases-loop-found
decreases-loop-found g l = 2 ^ 32 - l.passed
