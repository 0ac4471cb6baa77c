use Rattle.std.proofs.Common.{◌≡◌, ◌++◌, map, take}
use Rattle.rpm_select.proofs.asking.push_numbers.Given as goal

abbrev pub invariant-loop-i : goal.invariant-loop-i
invariant-loop-i l = l.numbers.items ≡ l.initial.numbers.items ++ map (λ hit. hit.number) (take l.i l.hits)
