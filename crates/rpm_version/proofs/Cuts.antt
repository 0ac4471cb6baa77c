-- The first segment of a text, by its first byte.
use Rattle.std.proofs.Common.{◌≡◌, ◌≢◌, ℕ, ◌<◌, Bool, true, false, ◌||◌, List, [], ◌∷◌, drop, refl, sym, ap, ◌∙◌, subst, arith}
use Rattle.rpm_version.proofs.Vocabulary.{AllDigits, Caret, digit_value, Digits, digits_value, End, is_ascii_alphabetic, is_ascii_digit, Letters, onto_first}
use Rattle.rpm_version.proofs.Vocabulary.{prefix_len, runs, runs_on, segment_of, segments, take_while, Tilde}
use Rattle.std.proofs.lemmas.Bool.Decides.{nat_tests}
use Rattle.std.proofs.lemmas.Bool.{ne_eqb}
use Rattle.rpm_version.proofs.Fronts.{taken-yes, taken-no, left-yes, left-no}

pub segments-nil : segments [] ≡ End ∷ []
unfolding segments runs
segments-nil = refl

pub segments-tilde : (rest : List ℕ) → segments (126 ∷ rest) ≡ Tilde ∷ segments rest
unfolding segments runs runs_on segment_of
segments-tilde [] = refl
segments-tilde (c ∷ rest) = refl

pub segments-caret : (rest : List ℕ) → segments (94 ∷ rest) ≡ Caret ∷ segments rest
unfolding segments runs runs_on segment_of
segments-caret [] = refl
segments-caret (c ∷ rest) = refl

-- a digit is no letter
no_letter : (b : ℕ) → is_ascii_digit b ≡ true → is_ascii_alphabetic b ≡ false
no_letter b h = grind (arith, nat_tests)

no_digit : (b : ℕ) → is_ascii_alphabetic b ≡ true → is_ascii_digit b ≡ false
no_digit b h = grind (arith, nat_tests)

or_false : (v : Bool) → (v || false) ≡ v
or_false true = refl
or_false false = refl

alone-end : (b : ℕ) → runs_on b [] ≡ false
unfolding runs_on
alone-end b = refl

-- a byte that is neither digit nor letter is a run alone
alone : (b : ℕ) (rest : List ℕ) → is_ascii_digit b ≡ false → is_ascii_alphabetic b ≡ false → runs_on b rest ≡ false
unfolding runs_on
alone b [] h k = refl
alone b (c ∷ rest) h k = rw (h, k)

runs-alone : (b : ℕ) (rest : List ℕ) → is_ascii_digit b ≡ false → is_ascii_alphabetic b ≡ false → runs (b ∷ rest) ≡ (b ∷ []) ∷ runs rest
unfolding runs
runs-alone b rest h k = rw (alone b rest h k)

pub segments-separator : (b : ℕ) (rest : List ℕ) → is_ascii_digit b ≡ false → is_ascii_alphabetic b ≡ false → b ≢ 126 → b ≢ 94 →
    segments (b ∷ rest) ≡ segments rest
unfolding segments segment_of
segments-separator b rest h k m n = rw (runs-alone b rest h k, h, k, ne_eqb b 126 m, ne_eqb b 94 n)

runs-joined : (b : ℕ) (rest : List ℕ) → runs_on b rest ≡ true → runs (b ∷ rest) ≡ onto_first b (runs rest)
unfolding runs
runs-joined b rest h = rw h

runs-apart : (b : ℕ) (rest : List ℕ) → runs_on b rest ≡ false → runs (b ∷ rest) ≡ (b ∷ []) ∷ runs rest
unfolding runs
runs-apart b rest h = rw h

-- bytes that pass a test run on
module _ (p : ℕ → Bool) (joins : (b c : ℕ) (rest : List ℕ) → p b ≡ true → runs_on b (c ∷ rest) ≡ p c) where
  longest-by : (b c : ℕ) (rest : List ℕ) (v : Bool) → p b ≡ true → p c ≡ v →
      (p c ≡ true → runs (c ∷ rest) ≡ take_while p (c ∷ rest) ∷ runs (drop (prefix_len p (c ∷ rest)) (c ∷ rest))) →
      runs (b ∷ c ∷ rest) ≡ take_while p (b ∷ c ∷ rest) ∷ runs (drop (prefix_len p (b ∷ c ∷ rest)) (b ∷ c ∷ rest))
  longest-by b c rest true h k more =
      runs-joined b (c ∷ rest) (joins b c rest h ∙ k) ∙ ap (onto_first b) (more k)
      ∙ rw (taken-yes p b (c ∷ rest) h, left-yes p b (c ∷ rest) h)
  longest-by b c rest false h k more =
      runs-apart b (c ∷ rest) (joins b c rest h ∙ k)
      ∙ rw (taken-yes p b (c ∷ rest) h, left-yes p b (c ∷ rest) h, taken-no p c rest k, left-no p c rest k)

  pub runs-longest : (b : ℕ) (rest : List ℕ) → p b ≡ true → runs (b ∷ rest) ≡ take_while p (b ∷ rest) ∷ runs (drop (prefix_len p (b ∷ rest)) (b ∷ rest))
  runs-longest b [] h = runs-apart b [] (alone-end b) ∙ rw h
  runs-longest b (c ∷ rest) h = longest-by b c rest (p c) h refl (runs-longest c rest)

digits_join : (b c : ℕ) (rest : List ℕ) → is_ascii_digit b ≡ true → runs_on b (c ∷ rest) ≡ is_ascii_digit c
unfolding runs_on
digits_join b c rest h = rw (h, no_letter b h, or_false (is_ascii_digit c))

letters_join : (b c : ℕ) (rest : List ℕ) → is_ascii_alphabetic b ≡ true → runs_on b (c ∷ rest) ≡ is_ascii_alphabetic c
unfolding runs_on
letters_join b c rest h = rw (h, no_digit b h)

segments-digits-cons : (b : ℕ) (rest : List ℕ) → is_ascii_digit b ≡ true →
    segments (b ∷ rest) ≡ Digits (digits_value 10 (take_while is_ascii_digit (b ∷ rest))) ∷ segments (drop (prefix_len is_ascii_digit (b ∷ rest)) (b ∷ rest))
unfolding segments segment_of
segments-digits-cons b rest h = rw (runs-longest is_ascii_digit digits_join b rest h, taken-yes is_ascii_digit b rest h, h)

segments-letters-cons : (b : ℕ) (rest : List ℕ) → is_ascii_alphabetic b ≡ true →
    segments (b ∷ rest) ≡ Letters (take_while is_ascii_alphabetic (b ∷ rest)) ∷ segments (drop (prefix_len is_ascii_alphabetic (b ∷ rest)) (b ∷ rest))
unfolding segments segment_of
segments-letters-cons b rest h = rw (runs-longest is_ascii_alphabetic letters_join b rest h, taken-yes is_ascii_alphabetic b rest h, no_digit b h, h)

-- the same of a text that is seen to begin with a byte
pub segments-digits : (text rest : List ℕ) (b : ℕ) → text ≡ b ∷ rest → is_ascii_digit b ≡ true →
    segments text ≡ Digits (digits_value 10 (take_while is_ascii_digit text)) ∷ segments (drop (prefix_len is_ascii_digit text) text)
segments-digits text rest b e h =
    subst (λ t. segments t ≡ Digits (digits_value 10 (take_while is_ascii_digit t)) ∷ segments (drop (prefix_len is_ascii_digit t) t))
    (sym e) (segments-digits-cons b rest h)

pub segments-letters : (text rest : List ℕ) (b : ℕ) → text ≡ b ∷ rest → is_ascii_alphabetic b ≡ true →
    segments text ≡ Letters (take_while is_ascii_alphabetic text) ∷ segments (drop (prefix_len is_ascii_alphabetic text) text)
segments-letters text rest b e h =
    subst (λ t. segments t ≡ Letters (take_while is_ascii_alphabetic t) ∷ segments (drop (prefix_len is_ascii_alphabetic t) t))
    (sym e) (segments-letters-cons b rest h)

digit_below : (b : ℕ) → is_ascii_digit b ≡ true → digit_value b < 10
digit_below b h = grind (arith, nat_tests)

-- what the longest run of digits has is digits
digits_by : (b : ℕ) (rest : List ℕ) (v : Bool) → is_ascii_digit b ≡ v → AllDigits 10 (take_while is_ascii_digit rest) →
    AllDigits 10 (take_while is_ascii_digit (b ∷ rest))
digits_by b rest true h more = rw (taken-yes is_ascii_digit b rest h) (digit_below b h, more)
digits_by b rest false h more = rw (taken-no is_ascii_digit b rest h) tt

pub taken_digits : (text : List ℕ) → AllDigits 10 (take_while is_ascii_digit text)
taken_digits [] = tt
taken_digits (b ∷ rest) = digits_by b rest (is_ascii_digit b) refl (taken_digits rest)
