-- A text that is cut before its last byte of a kind.
use Rattle.std.proofs.Common.{◌≡◌, ℕ, ◌-◌, ◌<◌, ◌≤◌, List, [], ◌∷◌, length, take, reverse, Bool, true, false, not, Some, None, refl, sym, ap, ◌∙◌, inl, inr, arith}
use Rattle.std.specs.Prelude.{if◌then◌else◌}
use Rattle.rpm_select.proofs.Vocabulary.{before_last, cut_text, list_any, or_left, or_right, prefix_len, suffix_len}
use Rattle.std.proofs.lemmas.Bool.{cases_Bool}
use Rattle.std.proofs.lemmas.List.{length-reverse}
use Rattle.std.proofs.lemmas.List.Sorted.{list_any-IsPermutation, IsPermutation-reverse}

module _ (p : ℕ → Bool) where
  met : (xs : List ℕ) → prefix_len (λ b. not (p b)) xs < length xs → list_any p xs ≡ true
  met [] short = absurd (omega (arith, short))
  met (x ∷ xs) short = elim (cases_Bool (p x)) [
    | inl is ↦ or_left (p x) (list_any p xs) is
    | inr other ↦ or_right (p x) (list_any p xs) (met xs (omega (arith, rw other at short)))
  ]

  unmet : (xs : List ℕ) → length xs ≤ prefix_len (λ b. not (p b)) xs → list_any p xs ≡ false
  unmet [] long = refl
  unmet (x ∷ xs) long = elim (cases_Bool (p x)) [
    | inl is ↦ (let none = rw is at long in absurd (omega (arith, none)))
    | inr other ↦ rw other (unmet xs (omega (arith, rw other at long)))
  ]

  turned : (xs : List ℕ) → list_any p xs ≡ list_any p (reverse xs)
  turned xs = list_any-IsPermutation p xs (reverse xs) (IsPermutation-reverse xs)

  pub cut_there : (text : List ℕ) (behind : ℕ) → behind ≡ suffix_len (λ b. not (p b)) text → behind < length text
      → Some (take (length text - behind - 1) text) ≡ cut_text p text
  cut_there text behind is within =
      let some : list_any p text ≡ true = turned text ∙ met (reverse text) (omega (arith, is, within, length-reverse text)) in
      ap (λ (k : ℕ). Some (take (length text - k - 1) text)) is
      ∙ sym (ap (λ (b : Bool). if b then Some (before_last p text) else None) some)

  pub cut_none : (text : List ℕ) (behind : ℕ) → behind ≡ suffix_len (λ b. not (p b)) text → length text ≤ behind → None ≡ cut_text p text
  cut_none text behind is beyond =
      let none : list_any p text ≡ false = turned text ∙ unmet (reverse text) (omega (arith, is, beyond, length-reverse text)) in
      sym (ap (λ (b : Bool). if b then Some (before_last p text) else None) none)
