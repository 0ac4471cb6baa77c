use Rattle.std.proofs.Common.{◌≡◌, drop}
use Rattle.rpm_tags.proofs.dirs.nth_text.Given as goal

abbrev pub invariant-loop : goal.invariant-loop
invariant-loop l = l.texts ≡ drop l.counter l.initial.texts
