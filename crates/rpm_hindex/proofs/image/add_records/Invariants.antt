use Rattle.std.proofs.Common.{◌≡◌, ◌+◌, ◌*◌, ◌++◌, List, length, take}
use Rattle.rpm_hindex.proofs.Vocabulary.{IsDraft, live_of, Row}
use Rattle.rpm_hindex.proofs.image.add_records.Given as goal

abbrev pub invariant-loop-i : goal.invariant-loop-i
invariant-loop-i l = record {
  long : length l.bytes.items ≡ length l.initial.bytes.items + 16 * live_of (take l.i l.rows);
  so_far : (before : List Row) → IsDraft before l.buckets l.initial.bytes.items
      → IsDraft (before ++ take l.i l.rows) l.buckets l.bytes.items;
}
