use Rattle.std.proofs.Common.{◌≡◌, ◌++◌, map}
use Rattle.rpm_db.proofs.Vocabulary.{key_row, kind_rows}
use Rattle.rpm_db.proofs.rows.push_kind.Given as goal

abbrev pub invariant-loop-key : goal.invariant-loop-key
invariant-loop-key l = l.rows ++ map (key_row l.number l.kind) l.key-iterator ≡ l.fn.rows ++ kind_rows l.number l.view l.kind
