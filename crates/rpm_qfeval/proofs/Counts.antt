-- What a test gives of the parts from a place on.
use Rattle.std.proofs.Common.{◌≡◌, ℕ, ◌+◌, ◌≤◌, ◌==◌, not, List, [], ◌∷◌, length, drop, Option, Some, None, refl, sym, ap, ◌∙◌, arith, eq-eqb}
use Rattle.std.proofs.lemmas.Bool.{ne_eqb}
use Rattle.std.specs.Prelude.{slice_get, find, filter_map, unwrap_or}
use Rattle.rpm_qfeval.proofs.Vocabulary.{different, option_map}
use Rattle.rpm_qfeval.proofs.Steps.{drop_here, drop_all}

module _ {X Y : Type 0} (f : X → Option Y) (xs : List X) (i : ℕ) where
  gives_none : (x : X) → slice_get xs i ≡ Some x → None ≡ f x → filter_map f (drop i xs) ≡ filter_map f (drop (i + 1) xs)
  gives_none x at e = ap (filter_map f) (drop_here xs i x at) ∙ rw (sym e) refl

  gives_some : (x : X) (y : Y) → slice_get xs i ≡ Some x → Some y ≡ f x → filter_map f (drop i xs) ≡ y ∷ filter_map f (drop (i + 1) xs)
  gives_some x y at e = ap (filter_map f) (drop_here xs i x at) ∙ rw (sym e) refl

  -- a part gives one at most
  pub gives_few : (x : X) → slice_get xs i ≡ Some x → length (filter_map f (drop i xs)) ≤ length (filter_map f (drop (i + 1) xs)) + 1
  gives_few x at = by_case (f x) refl where
    by_case : (o : Option Y) → f x ≡ o → length (filter_map f (drop i xs)) ≤ length (filter_map f (drop (i + 1) xs)) + 1
    by_case None e = omega (arith, ap length (gives_none x at (sym e)))
    by_case (Some y) e = omega (arith, ap length (gives_some x y at (sym e)))

  pub gives_no_more : (x : X) → slice_get xs i ≡ Some x → f x ≡ None → length (filter_map f (drop i xs)) ≤ length (filter_map f (drop (i + 1) xs))
  gives_no_more x at e = omega (arith, ap length (gives_none x at (sym e)))

  -- a reading of the whole list goes on where it gives nothing
  pub passes : {Z : Type 0} (g : List Y → Z) (x : X) (r : Z) → slice_get xs i ≡ Some x → None ≡ f x → g (filter_map f (drop i xs)) ≡ r
      → g (filter_map f (drop (i + 1) xs)) ≡ r
  passes g x r at e h = ap g (sym (gives_none x at e)) ∙ h

  pub ends : {Z : Type 0} (g : List Y → Z) (r : Z) → length xs ≤ i → g (filter_map f (drop i xs)) ≡ r → g [] ≡ r
  ends g r le h = ap (λ ys. g (filter_map f ys)) (sym (drop_all xs i le)) ∙ h

  pub first : (x : X) (y : Y) (r : Option Y) → slice_get xs i ≡ Some x → Some y ≡ f x → slice_get (filter_map f (drop i xs)) 0 ≡ r → Some y ≡ r
  first x y r at e h = ap (λ ys. slice_get ys 0) (sym (gives_some x y at e)) ∙ h

-- the first count and the first other one, where a first one may have been seen
abbrev pub differs_from : Option ℕ → List ℕ → Option (ℕ × ℕ)
differs_from None ns = different ns
differs_from (Some n) ns = option_map (λ m. (n, m)) (find (λ m. not (m == n)) ns)

module _ {X : Type 0} (f : X → Option ℕ) (xs : List X) (i : ℕ) where
  pub same_count : (seen : Option ℕ) (x : X) (n : ℕ) (r : Option (ℕ × ℕ)) → slice_get xs i ≡ Some x → Some n ≡ f x → n ≡ unwrap_or seen n
      → differs_from seen (filter_map f (drop i xs)) ≡ r → differs_from (Some (unwrap_or seen n)) (filter_map f (drop (i + 1) xs)) ≡ r
  same_count None x n r at e same h = sym (ap different (gives_some f xs i x n at e)) ∙ h
  same_count (Some k) x n r at e same h = sym (ap (differs_from (Some k)) (gives_some f xs i x n at e) ∙ rw (eq-eqb n k same) refl) ∙ h

  pub other_count : (seen : Option ℕ) (x : X) (n : ℕ) (r : Option (ℕ × ℕ)) → slice_get xs i ≡ Some x → Some n ≡ f x → (n ≡ unwrap_or seen n → ⊥)
      → differs_from seen (filter_map f (drop i xs)) ≡ r → Some (unwrap_or seen n, n) ≡ r
  other_count None x n r at e differs h = absurd (differs refl)
  other_count (Some k) x n r at e differs h = sym (ap (differs_from (Some k)) (gives_some f xs i x n at e) ∙ rw (ne_eqb n k differs) refl) ∙ h

  pub all_same : (seen : Option ℕ) (r : Option (ℕ × ℕ)) → length xs ≤ i → differs_from seen (filter_map f (drop i xs)) ≡ r → None ≡ r
  all_same None r le h = ends f xs i different r le h
  all_same (Some k) r le h = ends f xs i (differs_from (Some k)) r le h

-- one count differs from none
pub few : (ns : List ℕ) → length ns ≤ 1 → None ≡ different ns
few [] h = refl
few (n ∷ []) h = refl
few (n ∷ m ∷ ns) h = absurd (omega arith)
