-- What holds of each ending of a kind, by what holds of those that are of it.
use Rattle.std.proofs.Common.{ℕ, Bool, true, false, Result, Ok, Err, inl, inr}
use Rattle.rpm_effects.specs.declared.tally.Tally.{Tally}
use Rattle.rpm_db.specs.State.{State}
use Rattle.rpm_outside.specs.Files.{Files}
use Rattle.rpm_effects.specs.Classes.{IsUncommitted}
use Rattle.rpm_effects.specs.Endings.{unless_starved}
use Rattle.rpm_commit.specs.Working.{done_why, TransactionCount, OpensIn}
use Rattle.rpm_effects.specs.declared.answer.Why.{Why}
use Rattle.rpm_effects.specs.declared.answer.Why.TheVariants as why

pub by_uncommitted : (P : Why → Type 0) → ((u : ℕ) → P (why.LogFull u)) → P why.DiskFault → P why.NoMemory → (w : Why)
    → IsUncommitted w → P w
by_uncommitted P full fault memory (why.LogFull u) un = full u
by_uncommitted P full fault memory why.DiskFault un = fault
by_uncommitted P full fault memory why.NoMemory un = memory
by_uncommitted P full fault memory others un = absurd cc

-- how a transaction ends: committed, not committed, or stopped before, where want of memory may be told in place of a
-- fault of the disk
pub by_ends : (P : Result Tally Why → Why → ℕ → Type 0)
    → ((tally : Tally) → P (Ok tally) (done_why tally.failed) tally.changes)
    → ((tally : Tally) (w : Why) → IsUncommitted w → P (Ok tally) w 0) → ((w : Why) → P (Err w) w 0)
    → P (Err why.DiskFault) why.NoMemory 0
    → (ended : Result Tally Why) (given : Why) (n : ℕ) → TransactionCount ended given n → P ended given n
by_ends P done un stopped starved (Ok tally) given n (inl both) = rw (both.0, both.1) (done tally)
by_ends P done un stopped starved (Ok tally) given n (inr both) = rw both.0 (un tally given both.1)
by_ends P done un stopped starved (Err was) given n (none, inl same) = rw (none, same) (stopped was)
by_ends P done un stopped starved (Err was) given n (none, inr both) = rw (none, both.0, both.1) starved

-- not opened to be changed, though its store could be read
pub by_opening : (making : Bool) (needed : ℕ) (s : State) (new : Files) (P : Why → Type 0)
    → ((u : ℕ) → OpensIn making needed s new (Err (why.IndexFull u)) → P (why.IndexFull u)) → P why.DiskFault
    → P why.NoMemory → (w : Why)
    → OpensIn making needed s new (Err w) → P w
by_opening making needed s new P full fault memory (why.IndexFull u) opens = full u opens
by_opening making needed s new P full fault memory why.DiskFault opens = fault
by_opening making needed s new P full fault memory why.NoMemory opens = memory
by_opening making needed s new P full fault memory others opens = absurd opens

-- the same ending, or want of memory in place of a fault of the disk
pub by_starved : (P : Why → Why → Type 0) → ((w : Why) → P w w) → P why.DiskFault why.NoMemory
    → (starved : Bool) (w : Why) → P w (unless_starved starved w)
by_starved P same fault false w = same w
by_starved P same fault true why.DiskFault = fault
by_starved P same fault true w = same w
