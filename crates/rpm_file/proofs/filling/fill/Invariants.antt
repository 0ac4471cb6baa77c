use Rattle.std.proofs.Common.{length, ◌-◌, ◌≤◌, take}
use Rattle.std.specs.Prelude.{IsTrue}
use Rattle.rpm_file.proofs.Vocabulary.{Browses, Takes}
use Rattle.rpm_file.proofs.filling.fill.Given as goal

abbrev pub invariant-loop-done : goal.invariant-loop-done
invariant-loop-done g l = record {
  within : l.done ≤ length l.into;
  taken : IsTrue g.S.Shelf.tells → Takes (g.S.Shelf.rest l.initial.shelf) (g.S.Shelf.rest l.shelf) (take l.done l.into);
  browses : Browses g.S.Shelf l.initial.shelf l.shelf;
}

abbrev pub decreases-loop-done : goal.decreases-loop-done
decreases-loop-done g l = length l.into - l.done
