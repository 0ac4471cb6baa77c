-- Where a list of steps stops.
use Rattle.std.proofs.Common.{◌≡◌, ℕ, Bool, true, false, List, [], ◌∷◌, ◌++◌, Result, Ok, Err, take, refl, sym, ap, ◌∙◌}
use Rattle.std.proofs.Common.{subst}
use Rattle.std.proofs.lemmas.List.{append-nil}
use Rattle.rpm_effects.specs.Progress.{Outputs, outputs, Through, StopWithin}
use Rattle.rpm_effects.specs.Steps.{Bearer, Step, ToErr, ToOut, bearer_of}
use Rattle.rpm_effects.specs.declared.tally.Halt.{Halt}
use Rattle.rpm_outside.specs.Sinks.{GainedPart}
use Rattle.rpm_outside.specs.laws.Taken.{gained_none}
use Rattle.rpm_effects.specs.Answers.{PartProgress, StepIs}
use Rattle.rpm_effects.specs.Classes.{IsOfRead}
use Rattle.rpm_effects.specs.declared.tally.Halt.TheVariants as halt
use Rattle.rpm_effects.proofs.laws.Reaching.{not_begun, some_all, through_more, goes_stop}

-- one step that stops is the first of some
pub reached_first : (T : Type 0) (s : Step) (rest : List Step) (what : Halt) (old new : Outputs)
    (reads_to : Bearer → Type 0) → reads_to (bearer_of s)
    → StepIs s (Err what) old new → PartProgress {T = T} (s ∷ rest) (Err what) old new reads_to
reached_first T s rest halt.DiskFault old new reads_to reads step = not_begun step
reached_first T s rest halt.ShelfFault old new reads_to reads step = not_begun step
reached_first T s rest halt.OutFault old new reads_to reads step =
    record {
      done = [];
      step = s;
      rest = rest;
      all_is = refl;
      sink = step.0;
      bytes = step.1.0;
      through = step.1.1;
      reads = reads;
    }
reached_first T s rest halt.ErrFault old new reads_to reads step =
    record {
      done = [];
      step = s;
      rest = rest;
      all_is = refl;
      sink = step.0;
      bytes = step.1.0;
      through = step.1.1;
      reads = reads;
    }
reached_first T s rest halt.NoMemory old new reads_to reads step = not_begun step
reached_first T s rest others old new reads_to reads step = absurd step

pub within_reads : (all : List Step) (at : Bool) (old new : Outputs) (P Q : Bearer → Type 0)
    → ((b : Bearer) → P b → Q b) → StopWithin all at old new P
    → StopWithin all at old new Q
within_reads all at old new P Q so s = record {
  done = s.done;
  step = s.step;
  rest = s.rest;
  all_is = s.all_is;
  sink = s.sink;
  bytes = s.bytes;
  through = s.through;
  reads = so (bearer_of s.step) s.reads;
}

pub reached_reads : {T : Type 0} (all : List Step) (r : Result T Halt) (old new : Outputs) (P Q : Bearer → Type 0)
    → ((b : Bearer) → P b → Q b)
    → PartProgress all r old new P → PartProgress all r old new Q
reached_reads all (Ok t) old new P Q so s = s
reached_reads all (Err halt.OutFault) old new P Q so s = within_reads all true old new P Q so s
reached_reads all (Err halt.ErrFault) old new P Q so s = within_reads all false old new P Q so s
reached_reads all (Err others) old new P Q so s = s

-- a line of which a sink took the first bytes alone
pub out_cut : (ot et : Bool) (o o' e bytes : List ℕ) (for : Bearer) → GainedPart ot o o' bytes
    → StopWithin (ToOut for bytes ∷ []) true (outputs ot o et e) (outputs ot o' et e) (λ f. f ≡ for)
out_cut ot et o o' e bytes for p = record {
  done = [];
  step = ToOut for bytes;
  rest = [];
  all_is = refl;
  sink = refl;
  bytes = p.0;
  through =
      record {
        out = λ told. p.2 told ∙ ap (λ (b : List ℕ). o ++ b) (sym (append-nil (take p.0 bytes)));
        err = gained_none et e;
      };
  reads = refl;
}

pub err_cut : (ot et : Bool) (o e e' bytes : List ℕ) (for : Bearer) → GainedPart et e e' bytes
    → StopWithin (ToErr for bytes ∷ []) false (outputs ot o et e) (outputs ot o et e') (λ f. f ≡ for)
err_cut ot et o e e' bytes for p = record {
  done = [];
  step = ToErr for bytes;
  rest = [];
  all_is = refl;
  sink = refl;
  bytes = p.0;
  through = record {
    out = gained_none ot o;
    err = λ told. p.2 told
        ∙ ap (λ (b : List ℕ). e ++ b) (sym (append-nil (take p.0 bytes)));
  };
  reads = refl;
}

empty_done : (d r : List Step) → [] ≡ d ++ r → d ≡ []
empty_done [] r is = refl
empty_done (x ∷ d) r is = absurd cc

none_within : (d : List Step) (s : Step) (r : List Step) → [] ≡ d ++ s ∷ r → ⊥
none_within [] s r is = cc
none_within (x ∷ d) s r is = cc

-- where of no steps not all were gone through, none was
pub reached_empty : (T T' : Type 0) (all : List Step) (what : Halt) (old new : Outputs) (P Q : Bearer → Type 0)
    → PartProgress {T = T} [] (Err what) old new P
    → PartProgress {T = T'} all (Err what) old new Q
reached_empty T T' all halt.DiskFault old new P Q r =
    not_begun (subst (λ (d : List Step). Through d old new) (empty_done r.done r.rest r.all_is) r.through)
reached_empty T T' all halt.ShelfFault old new P Q r =
    not_begun (subst (λ (d : List Step). Through d old new) (empty_done r.done r.rest r.all_is) r.through)
reached_empty T T' all halt.OutFault old new P Q r = absurd (none_within r.done r.step r.rest r.all_is)
reached_empty T T' all halt.ErrFault old new P Q r = absurd (none_within r.done r.step r.rest r.all_is)
reached_empty T T' all halt.NoMemory old new P Q r =
    not_begun (subst (λ (d : List Step). Through d old new) (empty_done r.done r.rest r.all_is) r.through)
reached_empty T T' all others old new P Q r = absurd r

-- where only a read was halted
pub reached_unsunk : (T : Type 0) (all : List Step) (what : Halt) (old new : Outputs) (reads_to : Bearer → Type 0)
    → IsOfRead what → Through [] old new
    → PartProgress {T = T} all (Err what) old new reads_to
reached_unsunk T all halt.DiskFault old new reads_to is t = not_begun t
reached_unsunk T all halt.NoMemory old new reads_to is t = not_begun t
reached_unsunk T all others old new reads_to is t = absurd cc

-- or a read after all was gone through
pub reached_over : (T : Type 0) (all : List Step) (what : Halt) (old new : Outputs) (reads_to : Bearer → Type 0)
    → IsOfRead what → Through all old new
    → PartProgress {T = T} all (Err what) old new reads_to
reached_over T all halt.DiskFault old new reads_to is t = some_all t
reached_over T all halt.NoMemory old new reads_to is t = some_all t
reached_over T all others old new reads_to is t = absurd cc

-- where nothing was gone through before
pub reached_later : (T : Type 0) (ot et : Bool) (all : List Step) (r : Result T Halt) (o o' o'' e e' e'' : List ℕ)
    (reads_to : Bearer → Type 0)
    → Through [] (outputs ot o et e) (outputs ot o' et e')
    → PartProgress all r (outputs ot o' et e') (outputs ot o'' et e'') reads_to
    → PartProgress all r (outputs ot o et e) (outputs ot o'' et e'') reads_to
reached_later T ot et all (Ok t) o o' o'' e e' e'' reads_to none some =
    through_more {ot = ot} {et = et} [] all o o' o'' e e' e'' none some
reached_later T ot et all (Err what) o o' o'' e e' e'' reads_to none some =
    goes_stop ot et all all all [] o o' o'' e e' e'' (sym (append-nil all))
    (record { done = []; parts = refl; went = none }) T T what reads_to some
