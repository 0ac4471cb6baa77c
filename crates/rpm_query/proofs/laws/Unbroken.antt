-- Answers that don't say that the index is malformed.
use Rattle.std.proofs.Common.{◌≡◌, ℕ, List, Bool, Result, Ok, Err, Option, Some, refl}
use Rattle.std.specs.Prelude.{slice_get, IfErr}
use Rattle.rpm_effects.specs.Progress.{Outputs}
use Rattle.rpm_effects.specs.Steps.{Bearer, Step}
use Rattle.rpm_effects.specs.declared.tally.Halt.{Halt}
use Rattle.rpm_outside.specs.Files.{Units}
use Rattle.rpm_select.specs.Candidates.{keys_asked}
use Rattle.rpm_select.specs.declared.picked.PickFault.{PickFault}
use Rattle.rpm_select.specs.declared.selection.Selection.{Selection}
use Rattle.rpm_effects.specs.Answers.{PartIs, PartProgress, StepIs}
use Rattle.rpm_effects.specs.Endings.{why_of_halt}
use Rattle.rpm_effects.specs.Endings.{halt_of_pick}
use Rattle.rpm_query.specs.Queries.{lent, question_of}
use Rattle.rpm_query.specs.Reach.{IsOfChain, IsOfChains}
use Rattle.rpm_effects.specs.Portions.{Portion}
use Rattle.rpm_effects.specs.declared.answer.Why.{Why}
use Rattle.rpm_words.specs.declared.switch.Chosen.{Chosen}
use Rattle.rpm_select.specs.declared.picked.PickFault.TheVariants as pick
use Rattle.rpm_select.specs.Reach.{IsBrokenChain}
use Rattle.rpm_effects.specs.declared.tally.Halt.TheVariants as halt
use Rattle.rpm_effects.specs.declared.answer.Why.TheVariants as why

pub step_unbroken : (step : Step) (r : Result Bool Halt) (old new : Outputs) → StepIs step r old new → (unit : ℕ)
    → r ≡ Err (halt.BadIndex unit) → ⊥
step_unbroken step (Ok o) old new one unit is = cc
step_unbroken step (Err (halt.BadIndex at)) old new one unit is = one
step_unbroken step (Err others) old new one unit is = cc

reached_unbroken : (all : List Step) (r : Result Bool Halt) (old new : Outputs) (reads_to : Bearer → Type 0)
    → PartProgress all r old new reads_to → (unit : ℕ)
    → r ≡ Err (halt.BadIndex unit) → ⊥
reached_unbroken all (Ok o) old new reads_to one unit is = cc
reached_unbroken all (Err (halt.BadIndex at)) old new reads_to one unit is = one
reached_unbroken all (Err others) old new reads_to one unit is = cc

pub part_unbroken : {part : Portion} {r : Result Bool Halt} {old new : Outputs} {reads_to : Bearer → Type 0}
    → PartIs part r old new reads_to → (unit : ℕ)
    → r ≡ Err (halt.BadIndex unit) → ⊥
part_unbroken {part = part} {r = r} {old = old} {new = new}
    {reads_to = reads_to} p unit is = reached_unbroken part.steps r old new reads_to p.steps unit is

-- and so it is the fault of no chain
pub chain_unbroken : (asked : Option Selection) (idx : Units) (r : Result Bool Halt)
    → ((unit : ℕ) → r ≡ Err (halt.BadIndex unit) → ⊥)
    → IfErr r (IsOfChain asked idx)
chain_unbroken asked idx (Ok o) never = tt
chain_unbroken asked idx (Err (halt.BadIndex at)) never = absurd (never at refl)
chain_unbroken asked idx (Err others) never = tt

-- a picker that isn't begun tells the fault of one
pub chain_of : (sel : Selection) (idx : Units) (fault : PickFault) → IsBrokenChain (keys_asked sel) idx fault
    → IsOfChain (Some sel) idx (halt_of_pick fault)
chain_of sel idx (pick.BadIndex unit) is = is
chain_of sel idx pick.DiskFault is = tt
chain_of sel idx pick.NoMemory is = tt

-- of a command that one of its arguments stopped
pub chains_of : (chosen : Chosen) (texts : List (List ℕ)) (idx : Units) (j : ℕ) (text : List ℕ) (what : Halt)
    → slice_get texts j ≡ Some text
    → IsOfChain (question_of chosen (lent text)) idx what → IsOfChains chosen texts idx (why_of_halt what)
chains_of chosen texts idx j text (halt.BadIndex unit) here is = (j, text, here, is)
chains_of chosen texts idx j text others here is = tt

pub chains_none : (chosen : Chosen) (texts : List (List ℕ)) (idx : Units) (w : Why)
    → ((unit : ℕ) → w ≡ why.BadIndex unit → ⊥)
    → IsOfChains chosen texts idx w
chains_none chosen texts idx (why.BadIndex unit) never = absurd (never unit refl)
chains_none chosen texts idx others never = tt
