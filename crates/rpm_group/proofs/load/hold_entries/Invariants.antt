use Rattle.std.proofs.Common.{◌+◌, ◌-◌, ◌≤◌, IsTrue}
use Rattle.rpm_group.proofs.Vocabulary.{entries_of, Files, heads_behind, laid_files, Log, OnlyReadsFile}
use Rattle.rpm_group.proofs.Applied.{Done}
use Rattle.rpm_group.proofs.load.hold_entries.Given as goal

abbrev pub invariant-loop-k : goal.invariant-loop-k
invariant-loop-k g l =
    let D = g.D.Disk in
    let log = (D.files l.initial.disk).log in
    record {
      place : l.p ≤ l.commit_record.last + 1;
      so_far : IsTrue D.tells → (files : Files) → Done (entries_of (heads_behind l.commit_record log))
          (l.commit_record.entries - l._k) l.p l.commit_record.last log
          (laid_files l.initial.held files) (laid_files l.held files);
      looks : OnlyReadsFile D Log l.initial.disk l.disk;
      faults : D.faults l.initial.disk ≤ D.faults l.disk;
    }
