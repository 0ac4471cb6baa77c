-- What `parse` reads of digits.
use Rattle.std.proofs.Common.{◌≡◌, ℕ, ◌<◌, ◌≤◌, ◌^◌, zero, suc, Bool, true, false, List, [], ◌∷◌, length, get_or, refl, ap, ◌∙◌, ◌&&◌, Result, Ok, Err, None, lit<, arith}
use Rattle.rpm_words.proofs.Vocabulary.{all_ascii_digits, digits_value, is_ascii_digit, IsUtf8, list_all, number, OkIff, ParsesUnsigned, result_ok}
use Rattle.std.proofs.lemmas.Str.Parse.{IsNumeralModel, numerals_by_value, tells_all_ascii_digits, parse_digits}
use Rattle.std.proofs.lemmas.Str.{IsUtf8-from_ascii}
use Rattle.std.proofs.lemmas.Grind.{common_steps}

pub digits_all : (text : List ℕ) → list_all is_ascii_digit text ≡ all_ascii_digits text
digits_all [] = refl
digits_all (c ∷ cs) = ap (λ b. is_ascii_digit c && b) (digits_all cs)

own : IsNumeralModel (λ ds. all_ascii_digits ds ≡ true) (digits_value 10)
own = numerals_by_value _ tells_all_ascii_digits

by_result : {E : Type 0} (text : List ℕ) (r : Result ℕ E) → OkIff r ((0 < length text) × (digits_value 10 text < 2 ^ 32)) (digits_value 10 text) →
    all_ascii_digits text ≡ true → 1 ≤ length text → length text ≤ 10 → result_ok r ≡ number text
unfolding number
by_result text (Ok x) h digits some few = grind (arith, common_steps, h)
by_result text (Err e) h digits some few = grind (arith, common_steps, h)

pub number_parsed : {E : Type 0} (text : List ℕ) (r : Result ℕ E) → ParsesUnsigned 32 10 text r → list_all is_ascii_digit text ≡ true →
    1 ≤ length text → length text ≤ 10 → result_ok r ≡ number text
number_parsed text r h digits some few =
    let all : all_ascii_digits text ≡ true = cc (digits_all text) in
    by_result text r (parse_digits own 32 text r h all) all some few

pub number_other : (text : List ℕ) → list_all is_ascii_digit text ≡ false → number text ≡ None
unfolding number
number_other text h =
    let all : all_ascii_digits text ≡ false = cc (digits_all text) in
    grind (arith, common_steps)

digits_low : (text : List ℕ) → all_ascii_digits text ≡ true → (i : ℕ) → get_or text i 0 < 128
digits_low [] h i = lit< tt
digits_low (c ∷ cs) h zero = grind (arith, common_steps, h)
digits_low (c ∷ cs) h (suc i) = let rest : all_ascii_digits cs ≡ true = grind (arith, common_steps, h) in digits_low cs rest i

text_by : (bytes : List ℕ) (b : Bool) → all_ascii_digits bytes ≡ b → (IsUtf8 bytes → ⊥) → number bytes ≡ None
text_by bytes true e h = absurd (h (IsUtf8-from_ascii bytes (digits_low bytes e)))
text_by bytes false e h = number_other bytes (digits_all bytes ∙ e)

-- what is no text is no number
pub number_text : (bytes : List ℕ) → (IsUtf8 bytes → ⊥) → number bytes ≡ None
number_text bytes h = text_by bytes (all_ascii_digits bytes) refl h
