use Rattle.std.proofs.Common.{◌≡◌, ◌+◌, ◌-◌, ◌≤◌, IsTrue}
use Rattle.rpm_group.proofs.Vocabulary.{entries_of, heads_behind, CrashLeavesOnly, ReadsLog, WasWithin}
use Rattle.rpm_group.proofs.Applied.{Done}
use Rattle.rpm_group.proofs.recovery.copy_entries.Given as goal

abbrev pub invariant-loop-k : goal.invariant-loop-k
invariant-loop-k g l =
    let D = g.D.Disk in
    let first = D.files l.initial.disk in
    let entries = entries_of (heads_behind l.commit_record first.log) in
    record {
      place : l.p ≤ l.commit_record.last + 1;
      so_far : IsTrue D.tells → Done entries (l.commit_record.entries - l._k) l.p l.commit_record.last first.log first (D.files l.disk);
      log : IsTrue D.tells → (D.files l.disk).log ≡ first.log;
      images : IsTrue D.tells → CrashLeavesOnly D l.initial.disk l.disk
          (WasWithin entries (D.left_since l.initial.disk (D.moment l.initial.disk)));
      reads : ReadsLog D l.initial.disk l.disk;
      faults : D.faults l.initial.disk ≤ D.faults l.disk;
    }
