-- What functions answer, without where it lies in memory.
use Rattle.std.specs.Prelude.{ℕ, List, map, Option, Result, Ok, Err}
use Rattle.std.specs.Borrow.{Bor}
use Rattle.std.specs.Option.{option_map}
use Rattle.rpm_qfparse.specs.declared.fault.Fault.{Fault}
use Rattle.rpm_qfparse.specs.declared.moves.Move.{Move}
use Rattle.rpm_qfparse.specs.declared.moves.Move.TheVariants as code
use Rattle.rpm_qfparse.specs.declared.tag.Row.{Row}
use Rattle.rpm_qfparse.specs.declared.tree.Show.{Show}
use Rattle.rpm_qfparse.specs.Tag.{Faulty, Reading}
use Rattle.rpm_qfparse.specs.Moves as moves

abbrev pub bare_fault : Fault → Faulty
bare_fault f = (f.kind, f.rest.now)

abbrev pub bare_part : {X : Type 0} → Result X Fault → Result X Faulty
bare_part (Ok x) = Ok x
bare_part (Err f) = Err (bare_fault f)

abbrev pub bare_reading : {X : Type 0} → Result (X × Bor (List ℕ)) Fault → Reading X
bare_reading (Ok x) = Ok (x.0, x.1.now)
bare_reading (Err f) = Err (bare_fault f)

abbrev pub bare_rest : Result (Bor (List ℕ)) Fault → Result (List ℕ) Faulty
bare_rest (Ok r) = Ok r.now
bare_rest (Err f) = Err (bare_fault f)

abbrev pub bare_name : Option (Bor (List ℕ)) → Option (List ℕ)
bare_name name = option_map (λ (n : Bor (List ℕ)). n.now) name

abbrev pub bare_cut : Bor (List ℕ) × Option (Bor (List ℕ)) → List ℕ × Option (List ℕ)
bare_cut cut = (cut.0.now, bare_name cut.1)

abbrev pub bare_move : Move → moves.Move
bare_move (code.Ends r) = moves.Ends r.now
bare_move (code.Stops f) = moves.Stops (bare_fault f)
bare_move (code.Literal b r) = moves.Literal b r.now
bare_move (code.Shows t r) = moves.Shows t r.now
bare_move (code.Opens r) = moves.Opens r.now
bare_move (code.Asks t r) = moves.Asks t r.now

abbrev pub bare_rows : List Row → List (List ℕ × Show)
bare_rows rows = map (λ (r : Row). (r.1.now, r.0)) rows
