-- What a filter keeps, and the least of a list.
use Rattle.std.proofs.Common.{◌≡◌, inl, inr, ℕ, zero, suc, ◌≤◌, List, [], ◌∷◌, min, true, Bool, MatchOption, refl, sym, ap, ◌∙◌, arith}
use Rattle.std.specs.Prelude.{Contains}
use Rattle.rpm_pkgdb.proofs.Vocabulary.{filter, fold, reduce}
use Rattle.std.proofs.lemmas.Bool.{cases_lt}
use Rattle.rpm_pkgdb.proofs.Facts.{cases_Bool}

pub behind : {X : Type 0} (y x : X) (l : List X) → Contains l x → Contains (y ∷ l) x
behind y x l h = (suc h.0, omega (arith, h.1), h.2)

pub filter_keeps : {X : Type 0} (p : X → Bool) (x : X) (l : List X) → Contains l x → p x ≡ true → Contains (filter p l) x
filter_keeps p x [] h passes = absurd (omega (arith, h.1))
filter_keeps p x (y ∷ l) (zero, lt, is) passes = let here : p y ≡ true = ap p is ∙ passes in rw here (0, omega arith, is)
filter_keeps p x (y ∷ l) (suc i, lt, is) passes = elim (cases_Bool (p y)) [
  | inl here ↦ rw here (behind y x (filter p l) (filter_keeps p x l (i, omega arith, is) passes))
  | inr other ↦ rw other (filter_keeps p x l (i, omega arith, is) passes)
]

pub record Passes {X : Type 0} (p : X → Bool) (x : X) (l : List X) : Type 0 where
  pub there : Contains l x
  pub passes : p x ≡ true

pub filter_only : {X : Type 0} (p : X → Bool) (x : X) (l : List X) → Contains (filter p l) x → Passes p x l
filter_only p x [] h = absurd (omega (arith, h.1))
filter_only p x (y ∷ l) h = elim (cases_Bool (p y)) [
  | inl here ↦ first here (filter_only p x l) (rw here at h)
  | inr other ↦ later (filter_only p x l (rw other at h))
]
  where
    later : Passes p x l → Passes p x (y ∷ l)
    later q = record { there = behind y x l q.there; passes = q.passes }

    first : p y ≡ true → (Contains (filter p l) x → Passes p x l) → Contains (y ∷ filter p l) x → Passes p x (y ∷ l)
    first here again (zero, lt, is) = record { there = (0, omega arith, is); passes = ap p (sym is) ∙ here }
    first here again (suc i, lt, is) = later (again (i, omega arith, is))

pub record IsMin (l : List ℕ) (m : ℕ) : Type 0 where
  pub there : Contains l m
  pub least : (x : ℕ) → Contains l x → m ≤ x

fold_min : (a : ℕ) (xs : List ℕ) → IsMin (a ∷ xs) (fold min a xs)
fold_min a [] = record { there = (0, omega arith, refl); least = one }
  where
    one : (x : ℕ) → Contains (a ∷ []) x → a ≤ x
    one x (zero, lt, is) = omega (arith, is)
    one x (suc i, lt, is) = absurd (omega arith)
fold_min a (b ∷ xs) =
    let again = fold_min (min a b) xs in
    record { there = from (fold min (min a b) xs) again.there; least = below (fold min (min a b) xs) again.least }
  where
    from : (m : ℕ) → Contains (min a b ∷ xs) m → Contains (a ∷ b ∷ xs) m
    from m (zero, lt, is) = elim (cases_lt a b) [
      | inl lower ↦ (0, omega arith, omega (arith, is))
      | inr higher ↦ (1, omega arith, omega (arith, is))
    ]
    from m (suc i, lt, is) = (suc (suc i), omega arith, is)

    below : (m : ℕ) → ((x : ℕ) → Contains (min a b ∷ xs) x → m ≤ x) → (x : ℕ) → Contains (a ∷ b ∷ xs) x → m ≤ x
    below m least x (zero, lt, is) = omega (arith, is, least (min a b) (0, omega arith, refl))
    below m least x (suc zero, lt, is) = omega (arith, is, least (min a b) (0, omega arith, refl))
    below m least x (suc (suc i), lt, is) = least x (suc i, omega arith, is)

pub reduce_min : (l : List ℕ) → MatchOption (reduce min l) (l ≡ []) (IsMin l)
reduce_min [] = refl
reduce_min (a ∷ xs) = fold_min a xs
