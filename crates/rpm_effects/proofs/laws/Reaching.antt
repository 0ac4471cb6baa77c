-- How far a list of steps was gone through.
use Rattle.std.proofs.Common.{◌≡◌, ℕ, Bool, true, false, List, [], ◌∷◌, ◌++◌, Err, refl, sym, ap, ◌∙◌, subst}
use Rattle.std.proofs.Common.{append_assoc}
use Rattle.std.proofs.lemmas.List.{append-nil}
use Rattle.std.specs.List.{flat_map}
use Rattle.std.proofs.lemmas.Grind.{flat_map-append}
use Rattle.rpm_effects.specs.Progress.{Outputs, outputs, Through, StopWithin, ThroughSome}
use Rattle.rpm_effects.specs.Steps.{Bearer, cut_step, err_bytes, out_bytes, Step}
use Rattle.rpm_effects.specs.declared.tally.Halt.{Halt}
use Rattle.rpm_outside.specs.laws.Taken.{gained_more, gained_none}
use Rattle.rpm_effects.specs.Answers.{PartProgress}
use Rattle.rpm_effects.specs.declared.tally.Halt.TheVariants as halt

module _ {ot et : Bool} where
  pub through_none : (o e : List ℕ) → Through [] (outputs ot o et e) (outputs ot o et e)
  through_none o e = record { out = gained_none ot o; err = gained_none et e }

  pub through_more : (done more : List Step) (o o' o'' e e' e'' : List ℕ)
      → Through done (outputs ot o et e) (outputs ot o' et e')
      → Through more (outputs ot o' et e') (outputs ot o'' et e'')
      → Through (done ++ more) (outputs ot o et e) (outputs ot o'' et e'')
  through_more done more o o' o'' e e' e'' p q = record {
    out = rw flat_map-append (gained_more ot o o' o'' (flat_map out_bytes done) (flat_map out_bytes more) p.out q.out);
    err = rw flat_map-append (gained_more et e e' e'' (flat_map err_bytes done) (flat_map err_bytes more) p.err q.err);
  }

-- nothing was gone through yet, or all was
pub not_begun : {all : List Step} {old new : Outputs} → Through [] old new → ThroughSome all old new
not_begun {all = all} none = record { done = []; rest = all; all_is = refl; through = none }

pub some_all : {all : List Step} {old new : Outputs} → Through all old new → ThroughSome all old new
some_all {all = all} through = record { done = all; rest = []; all_is = sym (append-nil all); through = through }

-- the steps so far, and those that are left
pub record StepsSoFar (ot et : Bool) (all left : List Step) (o e o' e' : List ℕ) : Type 0 where
  pub done : List Step
  pub parts : all ≡ done ++ left
  pub went : Through done (outputs ot o et e) (outputs ot o' et e')

pub goes_start : (ot et : Bool) (all left : List Step) (o e : List ℕ) → all ≡ left → StepsSoFar ot et all left o e o e
goes_start ot et all left o e is = record { done = []; parts = is; went = through_none {ot = ot} {et = et} o e }

module _ (ot et : Bool) (all left front rest : List Step) (o o' o'' e e' e'' : List ℕ) (is : left ≡ front ++ rest)
    (g : StepsSoFar ot et all left o e o' e') where
  pub goes_more : Through front (outputs ot o' et e') (outputs ot o'' et e'') → StepsSoFar ot et all rest o e o'' e''
  goes_more more = record {
    done = g.done ++ front;
    parts = g.parts ∙ ap (λ (l : List Step). g.done ++ l) is ∙ sym (append_assoc g.done front rest);
    went = through_more {ot = ot} {et = et} g.done front o o' o'' e e' e'' g.went more;
  }

  some_more : ThroughSome front (outputs ot o' et e') (outputs ot o'' et e'')
      → ThroughSome all (outputs ot o et e) (outputs ot o'' et e'')
  some_more some = record {
    done = g.done ++ some.done;
    rest = some.rest ++ rest;
    all_is = g.parts ∙ ap (λ (l : List Step). g.done ++ l)
        (is ∙ ap (λ (l : List Step). l ++ rest) some.all_is ∙ append_assoc some.done some.rest rest)
        ∙ sym (append_assoc g.done some.done (some.rest ++ rest));
    through = through_more {ot = ot} {et = et} g.done some.done o o' o'' e e' e'' g.went some.through;
  }

  within_more : (at : Bool) (reads_to : Bearer → Type 0)
      → StopWithin front at (outputs ot o' et e') (outputs ot o'' et e'') reads_to
      → StopWithin all at (outputs ot o et e) (outputs ot o'' et e'') reads_to
  within_more at reads_to s = record {
    done = g.done ++ s.done;
    step = s.step;
    rest = s.rest ++ rest;
    all_is = g.parts ∙ ap (λ (l : List Step). g.done ++ l)
        (is ∙ ap (λ (l : List Step). l ++ rest) s.all_is ∙ append_assoc s.done (s.step ∷ s.rest) rest)
        ∙ sym (append_assoc g.done s.done (s.step ∷ (s.rest ++ rest)));
    sink = s.sink;
    bytes = s.bytes;
    through = subst (λ (l : List Step). Through l (outputs ot o et e) (outputs ot o'' et e''))
        (sym (append_assoc g.done s.done (cut_step s.bytes s.step ∷ [])))
        (through_more {ot = ot} {et = et} g.done (s.done ++ cut_step s.bytes s.step ∷ []) o o' o'' e e' e'' g.went
        s.through);
    reads = s.reads;
  }

  -- where the next steps stop
  pub goes_stop : (T T' : Type 0) (what : Halt) (reads_to : Bearer → Type 0)
      → PartProgress {T = T} front (Err what) (outputs ot o' et e') (outputs ot o'' et e'') reads_to
      → PartProgress {T = T'} all (Err what) (outputs ot o et e) (outputs ot o'' et e'') reads_to
  goes_stop T T' halt.DiskFault reads_to r = some_more r
  goes_stop T T' halt.ShelfFault reads_to r = some_more r
  goes_stop T T' halt.OutFault reads_to r = within_more true reads_to r
  goes_stop T T' halt.ErrFault reads_to r = within_more false reads_to r
  goes_stop T T' halt.NoMemory reads_to r = some_more r
  goes_stop T T' others reads_to r = absurd r

pub goes_end : (ot et : Bool) (all left : List Step) (o o' e e' : List ℕ) → left ≡ []
    → StepsSoFar ot et all left o e o' e'
    → Through all (outputs ot o et e) (outputs ot o' et e')
goes_end ot et all left o o' e e' none g =
    let is : g.done ≡ all = sym (append-nil g.done) ∙ ap (λ (l : List Step). g.done ++ l) (sym none) ∙ sym g.parts in
    subst (λ (d : List Step). Through d (outputs ot o et e) (outputs ot o' et e')) is g.went
