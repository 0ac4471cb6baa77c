-- How far the packages of an argument were printed, one after the other.
use Rattle.std.proofs.Common.{◌≡◌, ℕ, ◌||◌, Bool, true, false, not, List, [], ◌∷◌, map, Option, Result, Ok, Err, refl, sym, ap, ◌∙◌, subst}
use Rattle.rpm_query.proofs.Vocabulary.{above, Bearer, bearer_of, Files, Halt, is_bad, is_some_of, list_any, NextNumberIs, outputs, Package, packages}
use Rattle.rpm_query.proofs.Vocabulary.{packages_part, PartIs, PickFault, picks, Reach, Recalls, Recent, Selection, Serves, Step, StepIs, Store}
use Rattle.rpm_print.proofs.laws.Printed.{fails_more, some_more, none_more}
use Rattle.rpm_effects.proofs.laws.Reaching.{StepsSoFar, goes_start, goes_more, goes_stop, goes_end}
use Rattle.rpm_effects.proofs.laws.Stopping.{reached_first}

module _ (sel : Selection) (s : Store) (n : ℕ) (p : Reach) {f f' : Files} (files : f ≡ f') where
  -- what is next of the files as they read is next of the files as they were
  pub next_here : (recent : Recent) (r : Result (Option ℕ) PickFault)
      → (Serves p (packages f.pkg s) sel → Recalls (packages f.pkg s) recent → NextNumberIs (above n (picks (packages f.pkg s) sel)) r)
      → Serves p (packages f'.pkg s) sel → Recalls (packages f'.pkg s) recent → NextNumberIs (above n (picks (packages f'.pkg s) sel)) r
  next_here recent r =
      subst (λ (g : Files). Serves p (packages g.pkg s) sel → Recalls (packages g.pkg s) recent → NextNumberIs (above n (picks (packages g.pkg s) sel)) r)
      files

  -- and so it is of whether there are any
  pub any_here : {some any : Bool} → (Serves p (packages f.pkg s) sel → some ≡ is_some_of (above n (picks (packages f.pkg s) sel))
      → any ≡ is_some_of (picks (packages f.pkg s) sel))
      → Serves p (packages f'.pkg s) sel → some ≡ is_some_of (above n (picks (packages f'.pkg s) sel)) → any ≡ is_some_of (picks (packages f'.pkg s) sel)
  any_here {some = some} {any = any} =
      subst (λ (g : Files). Serves p (packages g.pkg s) sel → some ≡ is_some_of (above n (picks (packages g.pkg s) sel))
      → any ≡ is_some_of (picks (packages g.pkg s) sel)) files

-- what is held of the files as they read is held of the files as they were
pub recalled_here : (s : Store) {f f' : Files} → f ≡ f' → (a b : Recent) → (Recalls (packages f.pkg s) a → Recalls (packages f.pkg s) b)
    → Recalls (packages f'.pkg s) a → Recalls (packages f'.pkg s) b
recalled_here s files a b = subst (λ (g : Files). Recalls (packages g.pkg s) a → Recalls (packages g.pkg s) b) files

pub held_still : (s : Store) {f f' : Files} → f ≡ f' → (recent : Recent) → Recalls (packages f'.pkg s) recent → Recalls (packages f.pkg s) recent
held_still s files recent = subst (λ (g : Files). Recalls (packages g.pkg s) recent) (sym files)

-- those up to a number were printed: the steps so far, whether there were some, and whether the argument fails for them
pub record PrintedTo (step : ℕ → ℕ × Package → Step) (es : List (ℕ × Package)) (after n : ℕ) (some fails ot et : Bool) (o e o' e' : List ℕ) : Type 0 where
  pub goes : (j : ℕ) → StepsSoFar ot et (map (step j) (above after es)) (map (step j) (above n es)) o e o' e'
  pub bad : (j : ℕ) → list_any is_bad (map (step j) (above after es)) ≡ (fails || list_any is_bad (map (step j) (above n es)))
  pub there : is_some_of (above after es) ≡ (some || is_some_of (above n es))

module _ {step : ℕ → ℕ × Package → Step} {es : List (ℕ × Package)} {after : ℕ} {ot et : Bool} {o e : List ℕ} where
  pub printed_none : PrintedTo step es after after false false ot et o e o e
  printed_none = record {
    goes = λ j. goes_start ot et (map (step j) (above after es)) (map (step j) (above after es)) o e refl;
    bad = λ j. refl;
    there = refl;
  }

  module _ {n : ℕ} {some fails : Bool} {o' e' : List ℕ} (printed : PrintedTo step es after n some fails ot et o e o' e') where
    -- one more
    pub printed_next : {entry : ℕ × Package} {m : ℕ} {to_out : Bool} {o'' e'' : List ℕ} → entry.0 ≡ m → above n es ≡ entry ∷ above entry.0 es
        → ((j : ℕ) → StepIs (step j entry) (Ok to_out) (outputs ot o' et e') (outputs ot o'' et e''))
        → PrintedTo step es after m true (fails || not to_out) ot et o e o'' e''
    printed_next {entry = entry} {to_out = to_out} {o'' = o''} {e'' = e''} same split one =
        subst (λ (k : ℕ). PrintedTo step es after k true (fails || not to_out) ot et o e o'' e'') same (record {
          goes = λ j. goes_more ot et (map (step j) (above after es)) (map (step j) (above n es)) (step j entry ∷ []) (map (step j) (above entry.0 es))
              o o' o'' e e' e'' (ap (λ (xs : List (ℕ × Package)). map (step j) xs) split) (printed.goes j) (one j).1;
          bad = λ j. fails_more fails to_out (step j entry) (map (step j) (above entry.0 es)) (list_any is_bad (map (step j) (above after es))) (one j).0
              (printed.bad j ∙ ap (λ (xs : List (ℕ × Package)). fails || list_any is_bad (map (step j) xs)) split);
          there = some_more some (is_some_of (above after es)) (printed.there ∙ ap (λ (xs : List (ℕ × Package)). some || is_some_of xs) split);
        })

    -- none is left
    pub printed_last : above n es ≡ [] → (j : ℕ) {reads_to : Bearer → Type 0}
        → PartIs (packages_part (step j) after es) (Ok fails) (outputs ot o et e) (outputs ot o' et e') reads_to
    printed_last none j = record {
      steps = goes_end ot et (map (step j) (above after es)) (map (step j) (above n es)) o o' e e'
          (ap (λ (xs : List (ℕ × Package)). map (step j) xs) none) (printed.goes j);
      fails = sym (none_more fails (list_any is_bad (map (step j) (above after es)))
          (printed.bad j ∙ ap (λ (xs : List (ℕ × Package)). fails || list_any is_bad (map (step j) xs)) none));
    }

    pub some_last : above n es ≡ [] → some ≡ is_some_of (above after es)
    some_last none = none_more some (is_some_of (above after es)) (printed.there ∙ ap (λ (xs : List (ℕ × Package)). some || is_some_of xs) none)

    -- or its step stops
    pub printed_stops : {entry : ℕ × Package} {what : Halt} {o'' e'' : List ℕ} → above n es ≡ entry ∷ above entry.0 es → (j : ℕ)
        {reads_to : Bearer → Type 0} → reads_to (bearer_of (step j entry))
        → StepIs (step j entry) (Err what) (outputs ot o' et e') (outputs ot o'' et e'')
        → PartIs (packages_part (step j) after es) (Err what) (outputs ot o et e) (outputs ot o'' et e'') reads_to
    printed_stops {entry = entry} {what = what} {o'' = o''} {e'' = e''} split j {reads_to = reads_to} reads one = record {
      steps = goes_stop ot et (map (step j) (above after es)) (map (step j) (above n es)) (step j entry ∷ []) (map (step j) (above entry.0 es))
          o o' o'' e e' e'' (ap (λ (xs : List (ℕ × Package)). map (step j) xs) split) (printed.goes j) Bool Bool what reads_to
          (reached_first Bool (step j entry) [] what (outputs ot o' et e') (outputs ot o'' et e'') reads_to reads one);
      fails = tt;
    }
