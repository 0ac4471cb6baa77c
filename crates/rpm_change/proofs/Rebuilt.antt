-- Dropping the packages that are Bad once the index was made anew, of the database as it was.
use Rattle.std.proofs.Common.{◌≡◌, true, Result, Ok, Err}
use Rattle.std.specs.Prelude.{IsTrue, OnOk}
use Rattle.rpm_outside.specs.declared.disk.Disk as disk
use Rattle.rpm_change.proofs.Vocabulary.{Course, Database, Halt, IsIndexed, LimitsTurn, rebuild, Remade, store_of, State, state_in, Tally, ProgressInBoth}

pub told_ok : {Told X Y : Type 0} (r : Result Tally Halt) → (Told → X → Y) → (Told → OnOk r X) → OnOk r (Told → Y)
told_ok (Ok tally) f x = λ told. f told (x told)
told_ok (Err h) f x = tt

pub remade_limits : {D : Type 0} (d : disk.Ghosts D) {old mid new : D} (before : Database) {db after : Database} {r : Result Tally Halt}
    {E : Course → State → State → Result Tally Halt → Type 0} → (IsTrue d.tells → Remade (d.files old) (d.files mid)) → store_of db ≡ store_of before
    → (IsTrue d.tells → IsIndexed d mid db) → ProgressInBoth d (IsTrue d.tells) mid new db after r E (rebuild (state_in d mid db)) → IsTrue d.tells
    → LimitsTurn true (state_in d old before) (store_of before) (store_of after) (d.files mid) (d.files new) (rebuild (state_in d old before)).changes r
remade_limits d before made store indexed went told = rw (← (made told).pkg, ← store) ((went.limits told).indexed (indexed told))
