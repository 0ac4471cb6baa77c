-- One run more in the log: its room, and what a crash leaves of it.
use Rattle.std.proofs.Common.{◌≡◌, ℕ, ◌+◌, ◌-◌, ◌≤◌, arith}
use Rattle.rpm_outside.specs.declared.disk.Disk as disk
use Rattle.rpm_group.proofs.Vocabulary.{changed_leaves_more, changed_leaves_then, Files, CrashChanges, Log, log_units, Table}
use Rattle.rpm_group.proofs.Countings.{log_units_later}

-- there is room for one more run
pub room_here : {most : ℕ} (table : Table) (place tail at first stop end : ℕ) → place ≡ tail + log_units table at
    → log_units table stop ≡ log_units table at + 1 + (stop - first) → stop ≤ end → tail + log_units table end ≤ most → place + 1 + (stop - first) ≤ most
room_here table place tail at first stop end is counted below room = omega (arith, is, counted, log_units_later table stop end below, room)

-- what a crash leaves of one run more
pub run_leaves : {D : Type 0} (g : disk.Ghosts D) (start place end upto : ℕ) (old mid new : D) → start ≤ place → end ≤ upto
    → ((image : Files) → g.left_since mid (g.moment mid) image → g.left_since mid (g.moment old) image)
    → CrashChanges g Log start upto old mid → CrashChanges g Log place end mid new
    → CrashChanges g Log start upto old new
run_leaves g start place end upto old mid new low high earlier one two =
    changed_leaves_then g Log start upto old mid new earlier one
    (changed_leaves_more g Log place end start upto mid new low high two)
