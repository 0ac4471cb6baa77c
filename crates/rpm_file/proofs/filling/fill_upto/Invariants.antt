use Rattle.std.proofs.Common.{◌≤◌, ◌-◌, take, vec_len}
use Rattle.std.specs.Prelude.{IsTrue}
use Rattle.rpm_file.proofs.Vocabulary.{Browses, Extends, TakesAtMost}
use Rattle.rpm_file.proofs.filling.fill_upto.Given as goal

abbrev pub invariant-loop-done : goal.invariant-loop-done
invariant-loop-done g l = record {
  within : l.done ≤ l.size;
  long : l.done ≤ vec_len l.room;
  more : IsTrue g.S.Shelf.tells → Extends (g.S.Shelf.rest l.initial.shelf) (g.S.Shelf.rest l.shelf) (take l.from l.initial.room.items)
      (take l.done l.room.items);
  few : IsTrue g.S.Shelf.tells → TakesAtMost (l.done - l.from) (g.S.Shelf.rest l.initial.shelf) (g.S.Shelf.rest l.shelf);
  start : l.from ≤ l.done;
  browses : Browses g.S.Shelf l.initial.shelf l.shelf;
}

abbrev pub decreases-loop-done : goal.decreases-loop-done
decreases-loop-done g l = l.size - l.done
