-- What the reports tell, one thing after the other.
use Rattle.std.proofs.Common.{◌≡◌, ℕ, ◌+◌, ◌<◌, Bool, true, false, ◌==◌, List, [], ◌∷◌, ◌++◌, map, drop, length, get_or, Some, Result, Ok, Err, refl, sym, ap}
use Rattle.std.proofs.Common.{◌∙◌, subst, add-one, drop-cons, arith}
use Rattle.std.specs.Prelude.{codes, slice_index_or}
use Rattle.rpm_report.proofs.Vocabulary.{Anywhere, Bearer, class_steps, cycle_line, fails, flat_map, Halt, header, Header, header-own, HeaderFault, label_step}
use Rattle.rpm_report.proofs.Vocabulary.{nat_cmp, Outputs, Package, package_of, package_text, PartIs, PartProgress, read_as, read_text, Step, StepIs, ToOut}
use Rattle.rpm_report.proofs.Vocabulary.{whole_step}
use Rattle.std.proofs.lemmas.Bool.Decides.{nat_tests}
use Rattle.std.specs.FinMap as finite
use Rattle.rpm_effects.proofs.laws.Stopping.{reached_first, reached_reads}

-- ---- a package

read_from : (text : Header → List ℕ) (blob : List ℕ) (r : Result Header HeaderFault) → header blob ≡ r
    → package_text text (Some (read_as r)) ≡ read_text text r
read_from text blob (Ok h) is = ap (read_text text) (header-own blob h is)
read_from text blob (Err fault) is = refl

-- what is said of a package is said of the header that it is read from
pub package_read : (text : Header → List ℕ) (blob : List ℕ) → package_text text (Some (package_of (Some blob))) ≡ read_text text (header blob)
package_read text blob = read_from text blob (header blob) refl

-- no bytes are no header
pub nothing_read : (text : Header → List ℕ) → read_text text (header []) ≡ []
unfolding header
nothing_read text = refl

-- ---- a list

-- the element at a place, and those after it
pub rest_at : {X : Type 0} (xs : List X) (i : ℕ) (d : X) → i < length xs → drop i xs ≡ get_or xs i d ∷ drop (i + 1) xs
rest_at xs i d lt = drop-cons xs i d lt ∙ ap (λ (k : ℕ). get_or xs i d ∷ drop k xs) (sym (add-one i))

-- and of their steps
pub steps_at : {X : Type 0} (f : X → Step) (xs : List X) (i : ℕ) (d : X) → i < length xs → map f (drop i xs) ≡ (f (get_or xs i d) ∷ []) ++ map f
    (drop (i + 1) xs)
steps_at f xs i d lt = ap (map f) (rest_at xs i d lt)

pub classes_at : (f : List ℕ → List Step) (xs : List (List ℕ)) (k : ℕ) → k < length xs
    → flat_map f (drop k xs) ≡ f (slice_index_or xs k []) ++ flat_map f (drop (k + 1) xs)
classes_at f xs k lt = ap (flat_map f) (rest_at xs k [] lt)

-- a step that stops
pub step_stops : (s : Step) (what : Halt) (old new : Outputs) → StepIs s (Err what) old new → PartProgress {T = Bool} (s ∷ []) (Err what) old new Anywhere
step_stops s what old new step = reached_first Bool s [] what old new Anywhere tt step

-- a line that was written is one that says the same
pub line_told : {b : Bearer} {text said : List ℕ} {r : Result Bool Halt} {old new : Outputs} → text ≡ said
    → PartIs (fails (ToOut b text)) r old new (λ for. for ≡ b) → PartProgress (ToOut b said ∷ []) r old new Anywhere
line_told {b = b} {said = said} {r = r} {old = old} {new = new} is part =
    reached_reads (ToOut b said ∷ []) r old new (λ (for : Bearer). for ≡ b) Anywhere (λ f same. tt)
    (subst (λ (t : List ℕ). PartProgress (ToOut b t ∷ []) r old new (λ for. for ≡ b)) is part.steps)

-- ---- a class

module _ (packages : finite.FinMap nat_cmp Package) (class : List ℕ) where
  pub one_class : length class ≡ 1 → class_steps packages class ≡ map (label_step packages []) class
  one_class is =
      let test : (length class == 1) ≡ true = grind (arith, nat_tests) in
      rw test refl

  pub more_classes : (length class ≡ 1 → ⊥) → class_steps packages class
      ≡ ToOut (whole_step 0) (cycle_line (length class)) ∷ map (label_step packages (codes "  ")) class
  more_classes not =
      let test : (length class == 1) ≡ false = grind (arith, nat_tests) in
      rw test refl
