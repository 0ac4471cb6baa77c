use Rattle.std.proofs.Common.{◌≡◌, ◌+◌, ◌-◌, ◌≤◌, length, IsTrue}
use Rattle.rpm_group.proofs.Vocabulary.{file_of, CrashChanges, put_some, ReadsNothing, units_held, with_file}
use Rattle.rpm_group.proofs.writes.write_run.Given as goal

abbrev pub invariant-loop-done : goal.invariant-loop-done
invariant-loop-done g l =
    let D = g.D.Disk in
    let first = D.files l.initial.disk in
    record {
      long : length l.buffer ≡ 65536;
      from : l.from ≤ l.done;
      end : l.done ≤ l.end;
      files : IsTrue D.tells → D.files l.disk
          ≡ with_file l.file (put_some l.at (units_held l.table.items l.from (l.done - l.from)) (file_of l.file first)) first;
      images : IsTrue D.tells → CrashChanges D l.file l.at (l.at + (l.end - l.from)) l.initial.disk l.disk;
      reads : ReadsNothing D l.initial.disk l.disk;
      faults : D.faults l.initial.disk ≤ D.faults l.disk;
    }

abbrev pub decreases-loop-done : goal.decreases-loop-done
decreases-loop-done g l = l.end - l.done
