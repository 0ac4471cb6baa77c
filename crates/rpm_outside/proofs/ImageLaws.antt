-- Each image that is stated step by step is one unit by unit.
use Rattle.std.proofs.Common.{◌≡◌, ⊎_elim, ℕ, ◌+◌, ◌≤◌, List, [], ◌∷◌, ◌++◌, take, drop, length, sym, ◌∙◌, ap, subst}
use Rattle.std.proofs.Common.{arith, append_assoc}
use Rattle.std.proofs.lemmas.List.{take_all, take-append-le, drop-append-le, drop_all, length_push, append-nil}
use Rattle.std.specs.Prelude.{Vec}
use Rattle.std.specs.declared.alloc.Global.{Global}
use Rattle.rpm_outside.specs.declared.disk.File.{File}
use Rattle.rpm_outside.specs.declared.steps.Step.{Step}
use Rattle.rpm_outside.specs.declared.steps.Step.TheVariants.{Wrote, Synced}
use Rattle.rpm_outside.specs.Files.{cases_file, Units, Files, file_of, with_units, unit_at}
use Rattle.rpm_outside.specs.Crash.{TornFile}
use Rattle.rpm_outside.specs.laws.Puts.{length-put, put_cases, put_inside}
use Rattle.rpm_outside.specs.Past.{after_step, after_steps, LeftByStep, LeftBySteps, Images}
use Rattle.rpm_outside.specs.laws.History.{after_steps-push}
use Rattle.rpm_outside.specs.laws.FileLaws.{file_of-with, other_file}
use Rattle.rpm_outside.specs.Literal.{NotSynced, HadSince, IsImage}

not_synced-append : (file : File) (xs ys : List Step) → NotSynced file xs → NotSynced file ys
    → NotSynced file (xs ++ ys)
not_synced-append file [] ys one two = two
not_synced-append file (Wrote other at units ∷ xs) ys one two = not_synced-append file xs ys one two
not_synced-append file (Synced other ∷ xs) ys one two = (one.0, not_synced-append file xs ys one.1 two)

module _ (past : List Step) (first : Files) (step : Step) where
  -- what a file had before a step that doesn't sync it
  had_push : (file : File) (P Q : Units → Type 0) → NotSynced file (step ∷ []) → ((u : Units) → P u → Q u)
      → HadSince past first file P
      → HadSince (past ++ step ∷ []) first file Q
  had_push file P Q kept weaker had = record {
    k = had.k;
    passed = omega (arith, had.passed, length_push past step);
    not_synced = subst (λ (s : List Step). NotSynced file s) (sym (drop-append-le had.k past (step ∷ []) had.passed))
        (not_synced-append file (drop had.k past) (step ∷ []) had.not_synced kept);
    had = subst (λ (s : List Step). Q (file_of file (after_steps s first)))
        (sym (take-append-le had.k past (step ∷ []) had.passed))
        (weaker (file_of file (after_steps (take had.k past) first)) had.had);
  }

  -- what it has after the step
  had_now : (file : File) (Q : Units → Type 0) → Q (file_of file (after_step step (after_steps past first)))
      → HadSince (past ++ step ∷ []) first file Q
  had_now file Q here =
      let long = length_push past step in
      record {
        k = length past + 1;
        passed = omega (arith, long);
        not_synced = subst (λ (s : List Step). NotSynced file s)
            (sym (drop_all (length past + 1) (past ++ step ∷ []) (omega (arith, long)))) tt;
        had = subst (λ (s : List Step). Q (file_of file (after_steps s first)))
            (sym (take_all (length past + 1) (past ++ step ∷ []) (omega (arith, long))))
            (subst (λ (f : Files). Q (file_of file f)) (sym (after_steps-push past step first)) here);
      }

module _ (past : List Step) (first : Files) where
  abbrev now : Files
  now = after_steps past first

  module _ (g : File) (at : ℕ) (kept : Vec (List ℕ) Global) (from image : Files) (was : IsImage past first from)
      (torn : TornFile g at kept.items from image) where
    abbrev units : Units
    units = kept.items

    abbrev step : Step
    step = Wrote g at kept

    elsewhere : (f : File) → (f ≡ g → ⊥) → file_of f image ≡ file_of f from
    elsewhere f differ = ap (λ (i : Files). file_of f i) torn.others ∙ other_file f g (file_of g image) from differ

    now_written : file_of g (after_step step now) ≡ with_units at units (file_of g now)
    now_written = file_of-with g (with_units at units (file_of g now)) now

    unit_here : (i : ℕ) → HadSince (past ++ step ∷ []) first g (λ had. unit_at (file_of g image) i ≡ unit_at had i)
    unit_here i = ⊎_elim kept_unit new_unit (torn.torn.each i)
      where
        kept_unit : unit_at (file_of g image) i ≡ unit_at (file_of g from) i → HadSince (past ++ step ∷ []) first g
            (λ had. unit_at (file_of g image) i ≡ unit_at had i)
        kept_unit same =
            had_push past first step g (λ had. unit_at (file_of g from) i ≡ unit_at had i)
            (λ had. unit_at (file_of g image) i
            ≡ unit_at had i) tt (λ u p. same ∙ p) (was.units g i)

        new_unit : unit_at (file_of g image) i ≡ unit_at (with_units at units (file_of g from)) i
            → HadSince (past ++ step ∷ []) first g
            (λ had. unit_at (file_of g image) i ≡ unit_at had i)
        new_unit written = ⊎_elim (λ same. kept_unit (written ∙ same))
            (λ w. had_now past first step g (λ had. unit_at (file_of g image) i ≡ unit_at had i)
            (written ∙ w.3 ∙ sym (put_inside at units (file_of g now) w.0 w.1)
            ∙ ap (λ (j : ℕ). unit_at (with_units at units (file_of g now)) j) (sym w.2)
            ∙ ap (λ (u : Units). unit_at u i) (sym now_written)))
            (put_cases at units (file_of g from) i)

    shorter_here : HadSince (past ++ step ∷ []) first g (λ had. length had ≤ length (file_of g image))
    shorter_here = had_push past first step g (λ had. length had ≤ length (file_of g from))
        (λ had. length had ≤ length (file_of g image)) tt
        (λ u p. omega (arith, p, torn.torn.no_shorter)) (was.no_shorter g)

    longer_here : length (file_of g image) ≤ length (file_of g (after_step step now))
    longer_here = omega (
      arith,
      torn.torn.no_longer,
      length-put at units (file_of g from),
      length-put at units (file_of g now),
      was.no_longer g,
      ap length now_written,
    )

    write_is : IsImage (past ++ step ∷ []) first image
    write_is = record {
      units = λ f i. ⊎_elim
          (λ same. subst (λ (h : File). HadSince (past ++ step ∷ []) first h
          (λ had. unit_at (file_of h image) i ≡ unit_at had i)) (sym same) (unit_here i))
          (λ differ. had_push past first step f (λ had. unit_at (file_of f from) i ≡ unit_at had i)
          (λ had. unit_at (file_of f image) i ≡ unit_at had
          i) tt (λ u p. ap (λ (x : Units). unit_at x i) (elsewhere f differ) ∙ p) (was.units f i))
          (cases_file f g);
      no_shorter = λ f. ⊎_elim
          (λ same. subst (λ (h : File). HadSince (past ++ step ∷ []) first h
          (λ had. length had ≤ length (file_of h image))) (sym same) shorter_here)
          (λ differ. had_push past first step f (λ had. length had ≤ length (file_of f from))
          (λ had. length had ≤ length (file_of f image)) tt
          (λ u p. omega (arith, p, ap length (elsewhere f differ))) (was.no_shorter f))
          (cases_file f g);
      no_longer = λ f. subst (λ (x : Files). length (file_of f image) ≤ length (file_of f x))
          (sym (after_steps-push past step first)) (⊎_elim
          (λ same. subst (λ (h : File). length (file_of h image) ≤ length (file_of h (after_step step now)))
          (sym same) longer_here)
          (λ differ. omega (
            arith,
            was.no_longer f,
            ap length (elsewhere f differ),
            ap length
                (other_file f g (with_units at units (file_of g now)) now differ),
          ))
          (cases_file f g));
    }

  sync_is : (g : File) (image : Files) → IsImage past first image → file_of g image ≡ file_of g now
      → IsImage (past ++ Synced g ∷ []) first image
  sync_is g image was durable = record {
    units = λ f i. ⊎_elim
        (λ same. subst (λ (h : File). HadSince (past ++ Synced g ∷ []) first h
        (λ had. unit_at (file_of h image) i ≡ unit_at had i)) (sym same)
        (had_now past first (Synced g) g (λ had. unit_at (file_of g image) i ≡ unit_at had i)
        (ap (λ (x : Units). unit_at x i) durable)))
        (λ differ. had_push past first (Synced g) f (λ had. unit_at (file_of f image) i ≡ unit_at had i)
        (λ had. unit_at (file_of f image) i
        ≡ unit_at had i) (differ, tt) (λ u p. p) (was.units f i))
        (cases_file f g);
    no_shorter = λ f. ⊎_elim
        (λ same. subst (λ (h : File). HadSince (past ++ Synced g ∷ []) first h
        (λ had. length had ≤ length (file_of h image))) (sym same)
        (had_now past first (Synced g) g (λ had. length had ≤ length (file_of g image))
        (omega (arith, ap length durable))))
        (λ differ. had_push past first (Synced g) f (λ had. length had ≤ length (file_of f image))
        (λ had. length had ≤ length (file_of f image))
        (differ, tt) (λ u p. p) (was.no_shorter f))
        (cases_file f g);
    no_longer = λ f. subst (λ (x : Files). length (file_of f image) ≤ length (file_of f x))
        (sym (after_steps-push past (Synced g) first)) (was.no_longer f);
  }

step_is : (past : List Step) (first image : Files) (images : Files → Type 0) (step : Step)
    → ((x : Files) → images x → IsImage past first x)
    → LeftByStep step (after_steps past first) images image → IsImage (past ++ step ∷ []) first image
step_is past first image images (Wrote g at kept) bound (from, here, torn) =
    write_is past first g at kept from image (bound from here) torn
step_is past first image images (Synced g) bound (here, durable) = sync_is past first g image (bound image here) durable

steps_are : (past rest : List Step) (first image : Files) (images : Files → Type 0)
    → ((x : Files) → images x → IsImage past first x) → LeftBySteps
    rest (after_steps past first) images image → IsImage (past ++ rest) first image
steps_are past [] first image images bound left =
    subst (λ (s : List Step). IsImage s first image) (sym (append-nil past)) (bound image left)
steps_are past (step ∷ rest) first image images bound left =
    let here : LeftBySteps rest (after_steps (past ++ step ∷ []) first)
    (LeftByStep step (after_steps past first) images) image =
    subst (λ (f : Files). LeftBySteps rest f (LeftByStep step (after_steps past first) images) image)
    (sym (after_steps-push past step first)) left in
    subst (λ (s : List Step). IsImage s first image) (append_assoc past (step ∷ []) rest)
    (steps_are (past ++ step ∷ []) rest first image (LeftByStep step (after_steps past first) images)
    (λ x l. step_is past first x images step bound l) here)

-- each image that is stated step by step is one unit by unit
pub images_are : (steps : List Step) (first image : Files) → Images steps first image → IsImage steps first image
images_are steps first image left = steps_are [] steps first image (λ x. x ≡ first) start left
  where
    start : (x : Files) → x ≡ first → IsImage [] first x
    start x is = record {
      units =
          λ f i. record {
            k = 0;
            passed = omega arith;
            not_synced = tt;
            had = ap
                (λ (y : Files). unit_at (file_of f y) i) is;
          };
      no_shorter =
          λ f. record {
            k = 0;
            passed = omega arith;
            not_synced = tt;
            had = omega
                (arith, ap (λ (y : Files). length (file_of f y)) is);
          };
      no_longer = λ f. omega (arith, ap (λ (y : Files). length (file_of f y)) is);
    }
