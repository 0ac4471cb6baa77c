-- What the place of the last dash says of a version and a release.
use Rattle.std.proofs.Common.{◌≡◌, ◌≢◌, ℕ, ◌+◌, ◌-◌, true, false, not, List, take, drop, length, refl, sym, ap, subst, get_or, All, arith, None}
use Rattle.rpm_version.proofs.Vocabulary.{is_dash, IsLastDash, list_any, release_of, suffix_len, unless_empty, version_of}
use Rattle.std.proofs.lemmas.Bool.{ne_eqb, eq-eqb}
use Rattle.std.proofs.lemmas.List.Recursion.{or_at, or_from_places}
use Rattle.std.proofs.lemmas.List.Sums.{suffix_len_is}

no_dash : (text : List ℕ) → All (λ b. b ≢ 45) text → list_any is_dash text ≡ false
no_dash text none = or_from_places (list_any is_dash) is_dash refl (λ _ _. refl) text 0 (λ k h. ne_eqb _ 45 (none k 0 h))

pub version_of-whole : (text : List ℕ) → All (λ b. b ≢ 45) text → text ≡ version_of text
unfolding version_of
version_of-whole text none = rw (no_dash text none)

pub release_of-none : (text : List ℕ) → All (λ b. b ≢ 45) text → None ≡ release_of text
unfolding release_of
release_of-none text none = rw (no_dash text none)

module _ (i : ℕ) (text : List ℕ) (at : IsLastDash i text) where
  some_dash : list_any is_dash text ≡ true
  some_dash = or_at (list_any is_dash) is_dash refl (λ _ _. refl) text i 0 at.within (eq-eqb _ 45 at.dash)

  before : i + 1 - 1 ≡ i
  before = omega arith

  behind : suffix_len (λ b. not (is_dash b)) text ≡ length text - (i + 1)
  behind =
      suffix_len_is (λ b. not (is_dash b)) text (i + 1) 0 (omega (arith, at.within))
      (λ k h m. ap not (ne_eqb (get_or text k 0) 45 (at.last k (omega arith) m)))
      (λ _. ap not (subst (λ n. is_dash (get_or text n 0) ≡ true) (sym before) (eq-eqb _ 45 at.dash)))

  pub version_of-at : take i text ≡ version_of text
  unfolding version_of
  version_of-at =
      let place : length text - (length text - (i + 1)) - 1 ≡ i = omega (arith, at.within) in
      rw (some_dash, behind, place)

  pub release_of-at : unless_empty (drop (i + 1) text) ≡ release_of text
  unfolding release_of
  release_of-at =
      let place : length text - (length text - (i + 1)) ≡ i + 1 = omega (arith, at.within) in
      rw (some_dash, behind, place)
