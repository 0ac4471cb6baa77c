use Rattle.std.proofs.Common.{◌≡◌, ◌-◌, ◌<◌, ◌≤◌, false, List, IsTrue}
use Rattle.rpm_group.proofs.Vocabulary.{CoversHeld, Entry, is_held, CrashLeavesOnly, EntriesOfTable, ReadsNothing, WasWithin, with_entries}
use Rattle.rpm_group.proofs.transaction.apply_runs.Given as goal

abbrev pub invariant-loop-at : goal.invariant-loop-at
invariant-loop-at g l =
    let D = g.D.Disk in
    let table = l.pages.table.items in
    let old = l.initial.disk in
    record {
      end : l.at ≤ l.end;
      starts : 0 < l.at → l.at < l.end → is_held table l.at ≡ false;
      written : IsTrue D.tells → (entries : List Entry) × EntriesOfTable entries l.file table l.at × (D.files l.disk ≡ with_entries entries (D.files old));
      images : IsTrue D.tells → (entries : List Entry) → CoversHeld entries l.file table l.end
          → CrashLeavesOnly D old l.disk (WasWithin entries (D.left_since old (D.moment old)));
      reads : ReadsNothing D old l.disk;
      faults : D.faults old ≤ D.faults l.disk;
    }

abbrev pub decreases-loop-at : goal.decreases-loop-at
decreases-loop-at g l = l.end - l.at
