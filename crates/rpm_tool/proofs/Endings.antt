-- The endings of a database that is opened with its index, and then asked.
use Rattle.std.proofs.Common.{◌≡◌, ℕ, ◌^◌, ◌≤◌, Bool, true, false, refl}
use Rattle.rpm_tool.proofs.Vocabulary.{FullByUnits, is_of_opening, is_refusal, Outputs, UnlessFull, Why}
use Rattle.rpm_effects.specs.declared.answer.Why.TheVariants as why

-- what is done with a database that was opened is what the command does
pub went_by : (Do : Why → Outputs → Outputs → Type 0) (given : Why) (old new : Outputs) → is_of_opening given ≡ false → Do given old new
    → UnlessFull Do given old new
went_by Do (why.IndexFull needed) old new opened does = absurd cc
went_by Do others old new opened does = does

pub unrefused : (w : Why) → is_of_opening w ≡ false → is_refusal w ≡ false
unrefused (why.BadLog u) is = is
unrefused (why.Damaged d) is = is
unrefused others is = refl

-- an index that was opened isn't full
pub full_opened : (making : Bool) (needed : ℕ) (w : Why) → is_of_opening w ≡ false → (making ≡ true → needed ≤ 2 ^ 28) → FullByUnits making needed w
full_opened making needed (why.BadLog u) is room = tt
full_opened making needed (why.IndexFull u) is room = absurd cc
full_opened making needed why.DiskFault is room = tt
full_opened making needed why.NoMemory is room = tt
full_opened making needed others is room = room
