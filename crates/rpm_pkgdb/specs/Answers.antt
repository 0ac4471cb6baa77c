-- What the reading calls answer.
use Rattle.std.specs.Prelude.{◌≡◌, ℕ, List, Bool, false, Option, Some, None, Result, Ok, Err, Vec}
use Rattle.std.specs.declared.alloc.Global.{Global}
use Rattle.rpm_pkgdb.specs.declared.blob.Blocks.{Blocks}
use Rattle.rpm_pkgdb.specs.declared.blob.Checked.{Checked}
use Rattle.rpm_pkgdb.specs.declared.blob.GetFault.{GetFault}
use Rattle.rpm_pkgdb.specs.declared.blob.GetFault.TheVariants.{NoSuch, Bad, DiskFault, NoMemory}
use Rattle.rpm_pkgdb.specs.declared.slot.Slot.{Slot}
use Rattle.rpm_outside.specs.Files.{Units}
use Rattle.rpm_pkgdb.specs.Blobs.{Frame, blocks_at, is_head}

-- an answer shows what is said of a number: None is no such number, and Some None a broken framing
abbrev pub AnswerIs : {X Y : Type 0} → (Y → X) → Option (Option X) → Result Y GetFault → Type 0
AnswerIs shows said (Ok y) = said ≡ Some (Some (shows y))
AnswerIs shows said (Err NoSuch) = said ≡ None
AnswerIs shows said (Err Bad) = said ≡ Some None
AnswerIs shows said (Err DiskFault) = Unit {0}
AnswerIs shows said (Err NoMemory) = Unit {0}

-- the bytes that a call gave
abbrev pub given_bytes : Vec ℕ Global → List ℕ
given_bytes v = v.items

-- the bytes of a blob that was checked, and what the check says
abbrev pub given_blob : Checked → List ℕ
given_blob c = c.blob.items

-- whether a checksum holds, from what was checked
abbrev pub given_check : Checked → Bool
given_check c = c.holds

-- the blocks that were read, as head and rest
abbrev pub frame_in : Blocks → Frame
frame_in b = record { head = b.head; rest = b.rest.items }

-- the blocks that were read are this frame
abbrev pub IsFrame : Option Frame → Result Blocks GetFault → Type 0
IsFrame said (Ok b) = said ≡ Some (frame_in b)
IsFrame said (Err NoSuch) = ⊥
IsFrame said (Err Bad) = said ≡ None
IsFrame said (Err DiskFault) = Unit {0}
IsFrame said (Err NoMemory) = Unit {0}

-- the blocks that a slot names were read, and begin as those of this number; or they don't
abbrev pub AreParts : ℕ → Slot → Units → Result Blocks GetFault → Type 0
AreParts n s file (Ok b) = frame_in b ≡ blocks_at s file
AreParts n s file (Err NoSuch) = ⊥
AreParts n s file (Err Bad) = is_head n s.count (blocks_at s file).head ≡ false
AreParts n s file (Err DiskFault) = Unit {0}
AreParts n s file (Err NoMemory) = Unit {0}

-- the fault doesn't lie in the file
abbrev pub IsOutsideBlob : GetFault → Type 0
IsOutsideBlob NoSuch = ⊥
IsOutsideBlob Bad = ⊥
IsOutsideBlob DiskFault = Unit {0}
IsOutsideBlob NoMemory = Unit {0}
