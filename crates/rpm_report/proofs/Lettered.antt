-- The letters of a comparison.
use Rattle.std.proofs.Common.{◌≡◌, ℕ, [], ◌++◌, if◌then◌else◌, refl, inl, inr}
use Rattle.std.specs.Prelude.{codes}
use Rattle.std.proofs.lemmas.Bool.{cases_Bool}
use Rattle.rpm_report.proofs.Vocabulary.{depflags, has, bit_letters}

-- a letter for each bit
pub letters_are : (n : ℕ) → bit_letters depflags n
    ≡ (if has 2 n then codes "<" else []) ++ ((if has 4 n then codes ">" else []) ++ (if has 8 n then codes "=" else []))
letters_are n = elim (cases_Bool (has 2 n)) [
  | inl a ↦ elim (cases_Bool (has 4 n)) [
    | inl b ↦ elim (cases_Bool (has 8 n)) [ inl c ↦ rw (a, b, c) refl | inr c ↦ rw (a, b, c) refl ]
    | inr b ↦ elim (cases_Bool (has 8 n)) [ inl c ↦ rw (a, b, c) refl | inr c ↦ rw (a, b, c) refl ]
  ]
  | inr a ↦ elim (cases_Bool (has 4 n)) [
    | inl b ↦ elim (cases_Bool (has 8 n)) [ inl c ↦ rw (a, b, c) refl | inr c ↦ rw (a, b, c) refl ]
    | inr b ↦ elim (cases_Bool (has 8 n)) [ inl c ↦ rw (a, b, c) refl | inr c ↦ rw (a, b, c) refl ]
  ]
]
