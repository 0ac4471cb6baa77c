-- Units that a change writes anew.
use Rattle.std.proofs.Common.{◌≡◌, ℕ, zero, suc, ◌^◌, ◌<◌, List, cond, eqb, refl, ◌∙◌, arith}
use Rattle.std.specs.Prelude.{Option}
use Rattle.std.proofs.lemmas.Bool.{cond-true, cond-false, eq-eqb, ne_eqb}
use Rattle.rpm_hindex.proofs.Vocabulary.{HasWord, Head, Puts, SetsNext, unit_of_words, word, word_0, word_1, word_2, word_3}

-- a number of a unit, or another in place of number k
abbrev pub number_or : List ℕ → ℕ → ℕ → ℕ → ℕ
number_or words k n j = cond (eqb j k) n (word j words)

four_words : (f : ℕ → ℕ) (a b c d : ℕ) → a ≡ f 0 → b ≡ f 1 → c ≡ f 2 → d ≡ f 3 → a < 2 ^ 32 → b < 2 ^ 32 → c < 2 ^ 32 → d < 2 ^ 32 → (j : ℕ) → j < 4
    → word j (unit_of_words a b c d) ≡ f j
four_words f a b c d ea eb ec ed la lb lc ld zero lt = word_0 a b c d la ∙ ea
four_words f a b c d ea eb ec ed la lb lc ld (suc zero) lt = word_1 a b c d lb ∙ eb
four_words f a b c d ea eb ec ed la lb lc ld (suc (suc zero)) lt = word_2 a b c d lc ∙ ec
four_words f a b c d ea eb ec ed la lb lc ld (suc (suc (suc zero))) lt = word_3 a b c d ld ∙ ed
four_words f a b c d ea eb ec ed la lb lc ld (suc (suc (suc (suc j)))) lt = absurd (omega arith)

pub has_word : (words : List ℕ) (k n a b c d : ℕ) → k < 4 → a ≡ number_or words k n 0 → b ≡ number_or words k n 1 → c ≡ number_or words k n 2 → d
    ≡ number_or words k n 3
    → a < 2 ^ 32 → b < 2 ^ 32 → c < 2 ^ 32 → d < 2 ^ 32 → HasWord words (unit_of_words a b c d) k n
has_word words k n a b c d four ea eb ec ed la lb lc ld =
    let each = four_words (number_or words k n) a b c d ea eb ec ed la lb lc ld in
    record {
      here = each k four ∙ cond-true (eqb k k) n (word k words) (eq-eqb k k refl);
      others = λ j lt other. each j lt ∙ cond-false (eqb j k) n (word j words) (ne_eqb j k other);
    }

-- ---- the record before it

module _ (old new : ℕ → Option (List ℕ)) where
  pub sets_next : (h : Head) (n : ℕ) (w : List ℕ) → word 0 w ≡ n → word 1 w ≡ h.size → word 2 w ≡ h.number → word 3 w ≡ h.place → Puts old new h.at w
      → SetsNext old new h n
  sets_next h n w zero_is one two three put = record {
    words = w;
    put = put;
    next = zero_is;
    packed = one;
    number = two;
    «in» = three;
  }
