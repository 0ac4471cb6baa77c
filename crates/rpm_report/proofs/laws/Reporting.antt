-- A report, and an order that was told.
use Rattle.std.proofs.Common.{Bool, true, false, List, Result, Ok, Err, sym, subst, ℕ, [], arith, ◌≡◌, refl}
use Rattle.std.proofs.lemmas.List.{append-nil}
use Rattle.rpm_effects.specs.Progress.{Outputs}
use Rattle.rpm_effects.specs.Steps.{Bearer, idle, Step, Course}
use Rattle.rpm_effects.specs.declared.tally.Halt.{Halt}
use Rattle.rpm_graph.specs.Networks.{Network}
use Rattle.rpm_graph.specs.Orders.{IsOrder}
use Rattle.rpm_outside.specs.Files.{Units}
use Rattle.rpm_effects.specs.Answers.{PartIs, PartProgress, CommandProgress}
use Rattle.rpm_report.specs.Requirements.{why_of_report, IsListed, IsOfSome}
use Rattle.rpm_effects.specs.Portions.{before_others, Portion}
use Rattle.rpm_effects.specs.declared.answer.Why.{Why}
use Rattle.rpm_print.proofs.laws.Verified.{went_failing, went_sound}
use Rattle.rpm_effects.proofs.laws.Parts.{went_stop}
use Rattle.rpm_effects.specs.declared.answer.Why.TheVariants as why

-- a report of one part
pub went_report : (p : Portion) (told : Result Bool Halt) (old new : Outputs) (reads_to : Bearer → Type 0)
    → PartIs p told old new reads_to
    → CommandProgress (before_others p idle) (why_of_report told) old new reads_to
went_report p (Ok true) old new reads_to part = went_failing p old new reads_to part
went_report p (Ok false) old new reads_to part = went_sound p old new reads_to part
went_report p (Err what) old new reads_to part = went_stop Bool (before_others p idle) what old new reads_to
    (subst (λ (ss : List Step). PartProgress {T = Bool} ss (Err what) old new reads_to)
    (sym (append-nil p.steps)) part.steps)

-- no class was told
pub none_listed : (g : Network) → IsListed g false []
none_listed g = record { each = λ k lt. absurd (omega (arith, lt)); all = λ is. absurd cc }

-- all of an order is told, or some of it
pub order_listed : (g : Network) (told : Bool) (classes : List (List ℕ)) → IsOrder g classes → IsListed g told classes
order_listed g told classes order = record { each = order.each; all = λ is. order.all }

-- nor of any chain
pub some_none : (idx : Units) (w : Why) → ((unit : ℕ) → w ≡ why.BadIndex unit → ⊥) → IsOfSome idx w
some_none idx (why.BadIndex unit) never = absurd (never unit refl)
some_none idx others never = tt

-- a command that goes through a course blames no index
pub some_went : (c : Course) (old new : Outputs) (reads_to : Bearer → Type 0) (idx : Units) (w : Why)
    → CommandProgress c w old new reads_to → IsOfSome idx w
some_went c old new reads_to idx (why.BadIndex unit) went = absurd went
some_went c old new reads_to idx others went = tt
