-- One word of some bytes that is written.
use Rattle.std.proofs.Common.{◌≡◌, ℕ, ◌+◌, ◌-◌, ◌*◌, ◌^◌, ◌<◌, ◌≤◌, List, [], ◌∷◌, ◌++◌, length, take, drop, get_or, replicate, refl, sym, ap, ◌∙◌, arith, inl, inr, length-append, length-drop}
use Rattle.rpm_hindex.proofs.Vocabulary.{bytes_of_word, from_le_bytes, w32, word}
use Rattle.std.proofs.lemmas.List.{drop-drop, drop_at, get_or_append_left, get_or-append_right, get_or-drop, get_or-replicate, get_or-take, length-take-le}
use Rattle.std.proofs.lemmas.Nat.{from_le_bytes-to_le_bytes_4}
use Rattle.std.proofs.lemmas.Bool.{cases_lt}

-- a number is that of its first four bytes
from_four : (l m : List ℕ) → ((i : ℕ) → i < 4 → get_or l i 0 ≡ get_or m i 0) → from_le_bytes w32 l ≡ from_le_bytes w32 m
from_four l m same =
    let f : ℕ → ℕ → ℕ → ℕ → ℕ = λ a b c d. from_le_bytes w32 (a ∷ b ∷ c ∷ d ∷ []) in
    let fl : from_le_bytes w32 l ≡ f (get_or l 0 0) (get_or l 1 0) (get_or l 2 0) (get_or l 3 0) = refl in
    let fm : from_le_bytes w32 m ≡ f (get_or m 0 0) (get_or m 1 0) (get_or m 2 0) (get_or m 3 0) = refl in
    fl
    ∙ ap (λ (a : ℕ). f a (get_or l 1 0) (get_or l 2 0) (get_or l 3 0)) (same 0 (omega arith))
    ∙ ap (λ (a : ℕ). f (get_or m 0 0) a (get_or l 2 0) (get_or l 3 0)) (same 1 (omega arith))
    ∙ ap (λ (a : ℕ). f (get_or m 0 0) (get_or m 1 0) a (get_or l 3 0)) (same 2 (omega arith))
    ∙ ap (λ (a : ℕ). f (get_or m 0 0) (get_or m 1 0) (get_or m 2 0) a) (same 3 (omega arith))
    ∙ sym fm

length_word : (n : ℕ) → length (bytes_of_word n) ≡ 4
unfolding bytes_of_word
length_word n = refl

word_back : (m : ℕ) → m < 2 ^ 32 → from_le_bytes w32 (bytes_of_word m) ≡ m
unfolding bytes_of_word
word_back m lt = from_le_bytes-to_le_bytes_4 m lt

-- words whose bytes are the same
pub word_same : (j k : ℕ) (l m : List ℕ) → ((i : ℕ) → i < 4 → get_or l (4 * j + i) 0 ≡ get_or m (4 * k + i) 0) → word j l ≡ word k m
unfolding word
word_same j k l m same = from_four (drop (4 * j) l) (drop (4 * k) m) (λ i lt. get_or-drop (4 * j) l i 0 ∙ same i lt ∙ sym (get_or-drop (4 * k) m i 0))

-- a word of zeros
pub word_zero : (n j : ℕ) → 4 * j + 4 ≤ n → word j (replicate n 0) ≡ 0
unfolding word
word_zero n j within =
    let zeros : from_le_bytes w32 (replicate 4 0) ≡ 0 = refl in
    from_four (drop (4 * j) (replicate n 0)) (replicate 4 0) (λ i lt. get_or-drop (4 * j) (replicate n 0) i 0
    ∙ get_or-replicate n (4 * j + i) 0 0 (omega (arith, within, lt)) ∙ sym (get_or-replicate 4 i 0 0 lt)) ∙ zeros

-- a word stays when bytes are added
pub word_before : (bytes more : List ℕ) (j : ℕ) → 4 * j + 4 ≤ length bytes → word j (bytes ++ more) ≡ word j bytes
word_before bytes more j within = word_same j j (bytes ++ more) bytes (λ i lt. get_or_append_left bytes more 0 (4 * j + i) (omega (arith, within, lt)))

module _ (bytes later : List ℕ) (k n : ℕ) (within : 4 * k + 4 ≤ length bytes)
    (is : later ≡ take (4 * k) bytes ++ bytes_of_word n ++ drop (4 * k + 4) bytes) where
  front : length (take (4 * k) bytes) ≡ 4 * k
  front = length-take-le (4 * k) bytes (omega (arith, within))

  both : length (take (4 * k) bytes ++ bytes_of_word n) ≡ 4 * k + 4
  both = omega (arith, length-append (take (4 * k) bytes) (bytes_of_word n), front, length_word n)

  pub length_set : length later ≡ length bytes
  length_set =
      omega (
        arith,
        ap length is,
        length-append (take (4 * k) bytes ++ bytes_of_word n) (drop (4 * k + 4) bytes),
        both,
        length-drop (4 * k + 4) bytes,
        within,
      )

  -- what stands behind the word
  pub drop_set : (p : ℕ) → 4 * k + 4 ≤ p → drop p later ≡ drop p bytes
  drop_set p from =
      let step = p - (4 * k + 4) in
      let at : 4 * k + 4 + step ≡ p = omega (arith, from) in
      ap (λ (j : ℕ). drop j later) (sym at)
      ∙ sym (drop-drop step (4 * k + 4) later)
      ∙ ap (drop step) (ap (drop (4 * k + 4)) is ∙ drop_at (take (4 * k) bytes ++ bytes_of_word n) (drop (4 * k + 4) bytes) (4 * k + 4) both)
      ∙ drop-drop step (4 * k + 4) bytes
      ∙ ap (λ (j : ℕ). drop j bytes) at

  in_both : (p : ℕ) → p < 4 * k + 4 → get_or later p 0 ≡ get_or (take (4 * k) bytes ++ bytes_of_word n) p 0
  in_both p lt =
      ap (λ (bs : List ℕ). get_or bs p 0) is
      ∙ get_or_append_left (take (4 * k) bytes ++ bytes_of_word n) (drop (4 * k + 4) bytes) 0 p (omega (arith, both, lt))

  pub word_set : n < 2 ^ 32 → word k later ≡ n
  unfolding word
  word_set small = from_four (drop (4 * k) later) (bytes_of_word n) (λ i lt.
      let at : 4 * k + i - 4 * k ≡ i = omega arith in
      get_or-drop (4 * k) later i 0
      ∙ in_both (4 * k + i) (omega (arith, lt))
      ∙ get_or-append_right (take (4 * k) bytes) (bytes_of_word n) (4 * k) (4 * k + i) 0 front (omega arith)
      ∙ ap (λ (j : ℕ). get_or (bytes_of_word n) j 0) at) ∙ word_back n small

  word_below : (j : ℕ) → j < k → word j later ≡ word j bytes
  word_below j lt = word_same j j later bytes (λ i small.
      let here : 4 * j + i < 4 * k = omega (arith, lt, small) in
      in_both (4 * j + i) (omega (arith, here))
      ∙ get_or_append_left (take (4 * k) bytes) (bytes_of_word n) 0 (4 * j + i) (omega (arith, front, here))
      ∙ get_or-take (4 * k) bytes (4 * j + i) 0 here)

  word_above : (j : ℕ) → k < j → word j later ≡ word j bytes
  unfolding word
  word_above j lt = ap (from_le_bytes w32) (drop_set (4 * j) (omega (arith, lt)))

  -- each other word stays
  pub word_kept : (j : ℕ) → (j ≡ k → ⊥) → word j later ≡ word j bytes
  word_kept j other = elim (cases_lt j k) [
    | inl lt ↦ word_below j lt
    | inr ge ↦ elim (cases_lt k j) [
      | inl lt ↦ word_above j lt
      | inr le ↦ absurd (other (omega (arith, ge, le)))
    ]
  ]
