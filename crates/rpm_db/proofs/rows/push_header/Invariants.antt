use Rattle.std.proofs.Common.{◌≡◌, ◌++◌, take}
use Rattle.rpm_db.proofs.Vocabulary.{flat_map, kind_rows, kinds}
use Rattle.rpm_db.proofs.rows.push_header.Given as goal

abbrev pub invariant-loop-kind : goal.invariant-loop-kind
invariant-loop-kind l = l.rows ≡ l.fn.rows ++ flat_map (kind_rows l.number l.view) (take l.kind-index kinds)
