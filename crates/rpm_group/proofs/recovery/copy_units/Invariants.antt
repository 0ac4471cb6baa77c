use Rattle.std.proofs.Common.{◌≡◌, ◌+◌, ◌-◌, ◌≤◌, take, drop, IsTrue}
use Rattle.rpm_group.proofs.Vocabulary.{file_of, CrashChanges, put_some, ReadsLog, with_file}
use Rattle.rpm_group.proofs.recovery.copy_units.Given as goal

abbrev pub invariant-loop-done : goal.invariant-loop-done
invariant-loop-done g l =
    let D = g.D.Disk in
    let first = D.files l.initial.disk in
    record {
      place : l.done ≤ l.count;
      files : IsTrue D.tells → D.files l.disk ≡ with_file l.file (put_some l.at (take l.done (drop l.from first.log)) (file_of l.file first)) first;
      log : IsTrue D.tells → (D.files l.disk).log ≡ first.log;
      images : IsTrue D.tells → CrashChanges D l.file l.at (l.at + l.count) l.initial.disk l.disk;
      reads : ReadsLog D l.initial.disk l.disk;
      faults : D.faults l.initial.disk ≤ D.faults l.disk;
    }

abbrev pub decreases-loop-done : goal.decreases-loop-done
decreases-loop-done g l = l.count - l.done
