-- What the calls of the disk in memory leave.
use Rattle.std.proofs.Common.{◌≡◌, ◌⊎◌, inl, inr, ⊎_elim, ℕ, ◌+◌, ◌<◌, ◌/◌, Bool, true, false, List, [], ◌∷◌, ◌++◌, take, length, sym, ◌∙◌, ap, subst, arith}
use Rattle.std.proofs.lemmas.List.{length-take, get_or-take, length_push}
use Rattle.rpm_outside.proofs.Vocabulary.{after_step, after_steps, after_steps-push, blank, Elapses, elapses_push, elapses_same, File, file_of, Files}
use Rattle.rpm_outside.proofs.Vocabulary.{follows_none, follows_write, ImagesSince, length-put, OnlyAfter, part_of, with_units, put_cases, put_inside, RisesOrStays}
use Rattle.rpm_outside.proofs.Vocabulary.{Rose, Step, Torn, torn_file_none, torn_file_whole, TornFile, unit_at, Units, with_file, Wrote, WroteAny, WroteOnce}

-- a write of some of the first units is one of all that was cut short
torn_take : (at n : ℕ) (units old new : Units) → Torn at (take n units) old new → Torn at units old new
torn_take at n units old new torn = record {
  each = λ i. ⊎_elim (λ same. inl same) (λ written. at_unit i written (put_cases at (take n units) old i)) (torn.each i);
  no_shorter = torn.no_shorter;
  no_longer = omega (arith, torn.no_longer, length-put at units old, length-put at (take n units) old, length-take n units);
}
  where
    at_unit : (i : ℕ) → unit_at new i ≡ unit_at (with_units at (take n units) old) i
        → (unit_at (with_units at (take n units) old) i ≡ unit_at old i) ⊎ ((k : ℕ) × (k < length (take n units)) × (i ≡ at + k)
        × (unit_at (with_units at (take n units) old) i ≡ unit_at (take n units) k))
        → (unit_at new i ≡ unit_at old i) ⊎ (unit_at new i ≡ unit_at (with_units at units old) i)
    at_unit i written (inl same) = inl (written ∙ same)
    at_unit i written (inr (k, below, place, is)) =
        let front : k < n = omega (arith, below, length-take n units) in
        let inside : k < length units = omega (arith, below, length-take n units) in
        inr (written ∙ is ∙ get_or-take n units k blank front ∙ sym (put_inside at units old k inside) ∙ ap (λ (j : ℕ). unit_at (with_units at units old) j)
        (sym place))

pub torn_part : (half : Bool) (file : File) (at : ℕ) (units : Units) (old new : Files) → TornFile file at (part_of half units) old new → TornFile file
    at units old new
torn_part false file at units old new torn = torn
torn_part true file at units old new torn = record {
  torn = torn_take at (length units / 2) units (file_of file old) (file_of file new) torn.torn;
  others = torn.others;
}

-- what is left of a write, whatever part of it was done
pub record LeavesWrite (first old new : Files) (past steps : List Step) (file : File) (at : ℕ) (units : Units) : Type 0 where
  pub replayed : old ≡ after_steps past first → new ≡ after_steps steps first
  pub torn : TornFile file at units old new
  pub images : OnlyAfter (TornFile file at units) (ImagesSince past first (length past)) (ImagesSince steps first (length steps))
  pub time : Elapses (length past) (length steps) (ImagesSince past first) (ImagesSince steps first)
  pub stays : RisesOrStays (length past) (length steps) old new (ImagesSince past first) (ImagesSince steps first)

pub nothing_left : (first old new : Files) (past steps : List Step) (file : File) (at : ℕ) (units : Units) → new ≡ old → steps ≡ past → LeavesWrite
    first old new past steps file at units
nothing_left first old new past steps file at units files none = record {
  replayed = λ is. files ∙ is ∙ ap (λ (s : List Step). after_steps s first) (sym none);
  torn = subst (λ (f : Files). TornFile file at units old f) (sym files) (torn_file_none file at units old);
  images = subst (λ (s : List Step). OnlyAfter (TornFile file at units) (ImagesSince past first (length past)) (ImagesSince s first (length s)))
      (sym none) (follows_none past file at units first);
  time = subst (λ (s : List Step). Elapses (length past) (length s) (ImagesSince past first) (ImagesSince s first)) (sym none) (elapses_same past first);
  stays = inr (
    ap length none,
    record {
      same = files;
      images = λ t image since. subst (λ (s : List Step). ImagesSince s first t image) none since;
      kept = λ t image since. subst (λ (s : List Step). ImagesSince s first t image) (sym none) since;
    },
  );
}

pub step_rose : (past steps : List Step) (step : Step) → steps ≡ past ++ step ∷ [] → Rose (length past) (length steps)
step_rose past steps step is = omega (arith, ap length is, length_push past step)

module _ (first old new : Files) (past steps : List Step) (file : File) (at : ℕ) (units part : Units) (weaker : (a b : Files) → TornFile file at part
    a b → TornFile file at units a b) where
  once_left : WroteOnce old new past steps file at part → LeavesWrite first old new past steps file at units
  once_left write = record {
    replayed = λ is.
        write.files
        ∙ ap (λ (us : Units). with_file file (with_units at us (file_of file old)) old) (sym write.is)
        ∙ ap (λ (f : Files). after_step (Wrote file at write.kept) f) is
        ∙ sym (after_steps-push past (Wrote file at write.kept) first)
        ∙ ap (λ (s : List Step). after_steps s first) (sym write.step);
    torn = weaker old new (subst (λ (f : Files). TornFile file at part old f) (sym write.files) (torn_file_whole file at part old));
    images = λ image since.
        let from = follows_write past steps file at write.kept first write.step image since in
        (from.0, from.1, weaker from.0 image (subst (λ (us : Units). TornFile file at us from.0 image) write.is from.2));
    time = elapses_push past steps (Wrote file at write.kept) first write.step;
    stays = inl (step_rose past steps (Wrote file at write.kept) write.step);
  }

any_once : (old new : Files) (past steps : List Step) (file : File) (at : ℕ) (part : Units) → 0 < length part → WroteAny old new past steps file at
    part → WroteOnce old new past steps file at part
any_once old new past steps file at [] some any = absurd (omega arith)
any_once old new past steps file at (unit ∷ units) some any = any

pub once_any : (old new : Files) (past steps : List Step) (file : File) (at : ℕ) (part : Units) → 0 < length part → WroteOnce old new past steps file
    at part → WroteAny old new past steps file at part
once_any old new past steps file at [] some once = absurd (omega arith)
once_any old new past steps file at (unit ∷ units) some once = once

any_left : (first old new : Files) (past steps : List Step) (file : File) (at : ℕ) (units part : Units) → ((a b : Files) → TornFile file at part a b
    → TornFile file at units a b)
    → WroteAny old new past steps file at part → LeavesWrite first old new past steps file at units
any_left first old new past steps file at units [] weaker any = nothing_left first old new past steps file at units any.files any.none
any_left first old new past steps file at units (unit ∷ rest) weaker any = once_left first old new past steps file at units (unit ∷ rest) weaker any

module _ (first old new : Files) (past steps : List Step) (file : File) (at : ℕ) (units : Units) where
  pub part_left : (half : Bool) → WroteAny old new past steps file at (part_of half units) → LeavesWrite first old new past steps file at units
  part_left half any = any_left first old new past steps file at units (part_of half units) (torn_part half file at units) any

  -- a write of some units that was done whole is kept
  pub whole_rose : 0 < length units → WroteAny old new past steps file at (part_of false units) → Rose (length past) (length steps)
  whole_rose some any =
      let once = any_once old new past steps file at units some any in
      step_rose past steps (Wrote file at once.kept) once.step
