use Rattle.std.proofs.Common.{◌≡◌, ◌+◌, ◌-◌, ◌<◌, ◌≤◌, false, List, IsTrue}
use Rattle.rpm_group.proofs.Vocabulary.{begins_run, IsChangedInRange, count_below, EntriesIn, Entry, HeadsEndInZeros, is_held, CrashChanges, Log, log_units, EntriesOfTable}
use Rattle.rpm_group.proofs.Vocabulary.{ReadsNothing}
use Rattle.rpm_group.proofs.transaction.log_runs.Given as goal

abbrev pub invariant-loop-at : goal.invariant-loop-at
invariant-loop-at g l =
    let D = g.D.Disk in
    let table = l.pages.table.items in
    record {
      end : l.at ≤ l.end;
      starts : 0 < l.at → l.at < l.end → is_held table l.at ≡ false;
      place : l.next.at ≡ l.fn.tail.at + log_units table l.at;
      count : l.next.entries ≡ l.fn.tail.entries + count_below (begins_run table) l.at;
      logged : IsTrue D.tells → (entries : List Entry) × EntriesOfTable entries l.file table l.at
          × EntriesIn entries l.fn.tail.at l.next.at (D.files l.disk).log
          × HeadsEndInZeros entries l.fn.tail.at (D.files l.disk).log;
      changed : IsTrue D.tells → IsChangedInRange Log l.fn.tail.at (l.fn.tail.at + log_units table l.pages.end) (D.files l.initial.disk) (D.files l.disk);
      images : IsTrue D.tells → CrashChanges D Log l.fn.tail.at (l.fn.tail.at + log_units table l.pages.end) l.initial.disk l.disk;
      reads : ReadsNothing D l.initial.disk l.disk;
      faults : D.faults l.initial.disk ≤ D.faults l.disk;
    }

abbrev pub decreases-loop-at : goal.decreases-loop-at
decreases-loop-at g l = l.end - l.at
