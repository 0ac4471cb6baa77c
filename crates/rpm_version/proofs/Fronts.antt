-- What a test takes from the front of a text, and what it leaves.
use Rattle.std.proofs.Common.{◌≡◌, ℕ, Bool, true, false, List, [], ◌∷◌, drop, arith}
use Rattle.rpm_version.proofs.Vocabulary.{prefix_len, take_while}
use Rattle.std.proofs.lemmas.Grind.{common_steps}
use Rattle.std.proofs.lemmas.List.Sums.{take_while-cons}

module _ (p : ℕ → Bool) where
  pub taken-yes : (b : ℕ) (rest : List ℕ) → p b ≡ true → take_while p (b ∷ rest) ≡ b ∷ take_while p rest
  taken-yes b rest h = rw (take_while-cons p b rest, h)

  pub taken-no : (b : ℕ) (rest : List ℕ) → p b ≡ false → take_while p (b ∷ rest) ≡ []
  taken-no b rest h = rw (take_while-cons p b rest, h)

  pub left-yes : (b : ℕ) (rest : List ℕ) → p b ≡ true → drop (prefix_len p (b ∷ rest)) (b ∷ rest) ≡ drop (prefix_len p rest) rest
  left-yes b rest h = grind (arith, common_steps, h)

  pub left-no : (b : ℕ) (rest : List ℕ) → p b ≡ false → drop (prefix_len p (b ∷ rest)) (b ∷ rest) ≡ b ∷ rest
  left-no b rest h = rw h
