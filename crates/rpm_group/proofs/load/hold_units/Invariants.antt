use Rattle.std.proofs.Common.{◌≡◌, ◌-◌, ◌≤◌, take, drop, IsTrue}
use Rattle.rpm_group.proofs.Vocabulary.{file_of, Files, laid_files, Log, OnlyReadsFile, put_some, with_file}
use Rattle.rpm_group.proofs.load.hold_units.Given as goal

abbrev pub invariant-loop-done : goal.invariant-loop-done
invariant-loop-done g l =
    let D = g.D.Disk in
    record {
      place : l.done ≤ l.count;
      held : IsTrue D.tells → (files : Files)
          → laid_files l.held files ≡ with_file l.file (put_some l.at (take l.done (drop l.from (D.files l.initial.disk).log))
          (file_of l.file (laid_files l.initial.held files))) (laid_files l.initial.held files);
      looks : OnlyReadsFile D Log l.initial.disk l.disk;
      faults : D.faults l.initial.disk ≤ D.faults l.disk;
    }

abbrev pub decreases-loop-done : goal.decreases-loop-done
decreases-loop-done g l = l.count - l.done
