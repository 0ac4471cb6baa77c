use Rattle.std.proofs.Common.{◌≡◌, drop, map}
use Rattle.rpm_outside.proofs.Vocabulary.{entry_of_item, find, nat_cmp, slice_cmp}
use Rattle.rpm_outside.proofs.mem_shelf.place_of.Given as goal

abbrev pub invariant-loop-i : goal.invariant-loop-i
invariant-loop-i l = find (slice_cmp nat_cmp) l.path (map entry_of_item (drop l.i l.items)) ≡ find (slice_cmp nat_cmp) l.path (map entry_of_item l.items)
