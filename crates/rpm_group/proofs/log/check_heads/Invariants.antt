use Rattle.std.proofs.Common.{◌≡◌, ◌+◌, ◌-◌, ◌≤◌, IsTrue, List}
use Rattle.rpm_group.proofs.Vocabulary.{log_after, Entry, heads, heads_behind, Log, OnlyReadsFile}
use Rattle.rpm_group.proofs.log.check_heads.Given as goal

abbrev pub invariant-loop-k : goal.invariant-loop-k
invariant-loop-k g l =
    let D = g.D.Disk in
    record {
      place : l.p ≤ l.commit_record.last + 1;
      so_far : IsTrue D.tells → (done : List Entry)
          × (heads_behind l.commit_record (D.files l.initial.disk).log
          ≡ log_after done (heads (l.commit_record.entries - l._k) l.p l.commit_record.last (D.files l.initial.disk).log));
      looks : OnlyReadsFile D Log l.initial.disk l.disk;
      faults : D.faults l.initial.disk ≤ D.faults l.disk;
    }
