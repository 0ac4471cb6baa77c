-- Lines of a report to both sinks, for each of which the argument fails: how far they were gone through.
use Rattle.std.proofs.Common.{◌≡◌, ◌≤◌, Bool, List, [], ◌∷◌, map, Ok, Err, refl, sym, ap, ◌∙◌, subst, arith}
use Rattle.rpm_outside.specs.declared.sink.Sink as sink
use Rattle.rpm_report.proofs.Vocabulary.{Bearer, Buffered, fails, Halt, Hand, inner, is_some_of, PartIs, PartProgress, shown_outputs, Step, Through, together}
use Rattle.rpm_effects.proofs.laws.Reaching.{StepsSoFar, goes_start, goes_more, goes_stop, goes_end}

failing_steps : (steps : List Step) → (together (map fails steps)).steps ≡ steps
failing_steps [] = refl
failing_steps (s ∷ steps) = ap (λ (rest : List Step). s ∷ rest) (failing_steps steps)

failing_any : (steps : List Step) → (together (map fails steps)).fails ≡ is_some_of steps
failing_any [] = refl
failing_any (s ∷ steps) = refl

module _ {O E : Type 0} (o : sink.Ghosts O) (e : sink.Ghosts E) where
  -- what was written so far of all lines, and those that are left
  pub record Written (all left : List Step) (out : Buffered O) (err : Buffered E) (out' : Buffered O) (err' : Buffered E) : Type 0 where
    pub out_later : o.faults (inner out) ≤ o.faults (inner out')
    pub out_rest : o.follows (inner out) (inner out')
    pub err_later : e.faults (inner err) ≤ e.faults (inner err')
    pub err_rest : e.follows (inner err) (inner err')
    pub goes : StepsSoFar o.tells e.tells all left (o.taken (inner out)) (e.taken (inner err)) (o.taken (inner out')) (e.taken (inner err'))

  pub written_none : ((x : O) → o.follows x x) → ((x : E) → e.follows x x) → {all left : List Step} → all ≡ left → (out : Buffered O) (err : Buffered E)
      → Written all left out err out err
  written_none keeps stays {all = all} {left = left} is out err = record {
    out_later = omega arith;
    out_rest = keeps (inner out);
    err_later = omega arith;
    err_rest = stays (inner err);
    goes = goes_start o.tells e.tells all left (o.taken (inner out)) (e.taken (inner err)) is;
  }

  module _ {all left rest : List Step} {s : Step} (is : left ≡ s ∷ rest) {out out' : Buffered O} {err err' : Buffered E}
      (w : Written all left out err out' err') where
    -- a line more on out, or on err
    pub written_out : ((x y z : O) → o.follows x y → o.follows y z → o.follows x z) → {Fails : Type 0} {to : Buffered O} → Hand o Fails out' to
        → Through (s ∷ []) (shown_outputs o e out' err') (shown_outputs o e to err') → Written all rest out err to err'
    written_out joins {to = to} hand one = record {
      out_later = omega (arith, w.out_later, hand.cause.later);
      out_rest = joins (inner out) (inner out') (inner to) w.out_rest hand.goes_on;
      err_later = w.err_later;
      err_rest = w.err_rest;
      goes = goes_more o.tells e.tells all left (s ∷ []) rest (o.taken (inner out)) (o.taken (inner out')) (o.taken (inner to)) (e.taken (inner err))
          (e.taken (inner err')) (e.taken (inner err')) is w.goes one;
    }

    pub written_err : ((x y z : E) → e.follows x y → e.follows y z → e.follows x z) → {Fails : Type 0} {to : Buffered E} → Hand e Fails err' to
        → Through (s ∷ []) (shown_outputs o e out' err') (shown_outputs o e out' to) → Written all rest out err out' to
    written_err joins {to = to} hand one = record {
      out_later = w.out_later;
      out_rest = w.out_rest;
      err_later = omega (arith, w.err_later, hand.cause.later);
      err_rest = joins (inner err) (inner err') (inner to) w.err_rest hand.goes_on;
      goes = goes_more o.tells e.tells all left (s ∷ []) rest (o.taken (inner out)) (o.taken (inner out')) (o.taken (inner out')) (e.taken (inner err))
          (e.taken (inner err')) (e.taken (inner to)) is w.goes one;
    }

    -- a line that stops
    pub written_stop : (to : Buffered O) (to_err : Buffered E) {what : Halt} {P : Bearer → Type 0}
        → PartProgress {T = Bool} (s ∷ []) (Err what) (shown_outputs o e out' err') (shown_outputs o e to to_err) P
        → PartIs (together (map fails all)) (Err what) (shown_outputs o e out err) (shown_outputs o e to to_err) P
    written_stop to to_err {what = what} {P = P} stop = record {
      steps = subst (λ (ss : List Step). PartProgress {T = Bool} ss (Err what) (shown_outputs o e out err) (shown_outputs o e to to_err) P)
          (sym (failing_steps all))
          (goes_stop o.tells e.tells all left (s ∷ []) rest (o.taken (inner out)) (o.taken (inner out')) (o.taken (inner to)) (e.taken (inner err))
          (e.taken (inner err')) (e.taken (inner to_err)) is w.goes Bool Bool what P stop);
      fails = tt;
    }

  -- all were written
  pub written_all : {all left : List Step} {out out' : Buffered O} {err err' : Buffered E} {any : Bool} {P : Bearer → Type 0} → left ≡ []
      → Written all left out err out' err' → is_some_of all ≡ any → PartIs (together (map fails all)) (Ok any) (shown_outputs o e out err)
      (shown_outputs o e out' err') P
  written_all {all = all} {left = left} {out = out} {out' = out'} {err = err} {err' = err'} none w any = record {
    steps = subst (λ (ss : List Step). Through ss (shown_outputs o e out err) (shown_outputs o e out' err')) (sym (failing_steps all))
        (goes_end o.tells e.tells all left (o.taken (inner out)) (o.taken (inner out')) (e.taken (inner err)) (e.taken (inner err')) none w.goes);
    fails = failing_any all ∙ any;
  }
