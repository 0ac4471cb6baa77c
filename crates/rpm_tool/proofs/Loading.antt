-- A command on the files that a disk's files represent.
use Rattle.std.proofs.Common.{ℕ, ◌+◌, ◌≤◌, true, false, [], Result, Ok, Err, arith}
use Rattle.rpm_tool.proofs.Vocabulary.{Bearer, Course, Damage, StoreAnswerBy, IsSound, LogAnswer, LogState, Malformed, StoreAnswer, Outputs, RefusalIs, Store, Through}
use Rattle.rpm_tool.proofs.Vocabulary.{CommandProgress, Why}
use Rattle.rpm_effects.specs.declared.answer.Why.TheVariants as why
use Rattle.rpm_effects.proofs.laws.Stopping.{within_reads}

module _ (Do : StoreAnswerBy) (s : Result Store Damage) where
  -- nothing was done, for a fault of the disk or for want of memory
  module _ (x : Outputs) (none : Through [] x x) where
    pub opened_fault : ((t : Store) → Do t why.DiskFault x x) → (r : Result Store Damage) → StoreAnswer Do r why.DiskFault x x
    opened_fault does (Ok t) = does t
    opened_fault does (Err damage) = (tt, none)

    pub opened_memory : ((t : Store) → Do t why.NoMemory x x) → (r : Result Store Damage) → StoreAnswer Do r why.NoMemory x x
    opened_memory does (Ok t) = does t
    opened_memory does (Err damage) = (tt, none)

    pub loaded_fault : ((t : Store) → Do t why.DiskFault x x) → (log : LogState) → LogAnswer Do s log why.DiskFault x x
    loaded_fault does (Malformed unit) = (tt, none)
    loaded_fault does others = opened_fault does s

    pub loaded_memory : ((t : Store) → Do t why.NoMemory x x) → (log : LogState) → LogAnswer Do s log why.NoMemory x x
    loaded_memory does (Malformed unit) = (tt, none)
    loaded_memory does others = opened_memory does s

  pub loaded_sound : (log : LogState) (w : Why) (old new : Outputs) → IsSound log → StoreAnswer Do s w old new → LogAnswer Do s log w old new
  loaded_sound (Malformed unit) w old new sound opened = absurd sound
  loaded_sound others w old new sound opened = opened

-- what the disk below read, by what the overlay did
pub below_reads : (before below now over over' most : ℕ) → below ≤ before → over' ≤ over + most → now + over ≤ below + over' → now ≤ before + most
below_reads before below now over over' most same le reads = omega arith

-- the same answers, with what was read put otherwise
pub went_reads : (c : Course) (w : Why) (old new : Outputs) (P Q : Bearer → Type 0) → ((b : Bearer) → P b → Q b) → CommandProgress c w old new P
    → CommandProgress c w old new Q
went_reads c why.OutFault old new P Q so went = within_reads c.steps true old new P Q so went
went_reads c why.ErrFault old new P Q so went = within_reads c.steps false old new P Q so went
went_reads c others old new P Q so went = went

-- the same of a store that was opened
pub opened_as : (Do Does : StoreAnswerBy) (r : Result Store Damage) (was given : Why) (old new : Outputs)
    → ((s : Store) → Do s was old new → Does s given old new)
    → ((damage : Damage) → RefusalIs damage was → RefusalIs damage given) → StoreAnswer Do r was old new → StoreAnswer Does r given old new
opened_as Do Does (Ok s) was given old new does refused opened = does s opened
opened_as Do Does (Err damage) was given old new does refused opened = (refused damage opened.0, opened.1)
