-- Names, versions and capabilities have no zero byte.
use Rattle.std.proofs.Common.{◌≡◌, ℕ, ◌%◌, ◌^◌, ◌<◌, List, [], ◌∷◌, ◌++◌, codes, refl, sym, subst, arith}
use Rattle.rpm_exercise.proofs.Vocabulary.{AllDigits, decimal, IsText, numbered_word, version}
use Rattle.std.proofs.lemmas.Fmt.{decimal_is_IsNumeral}
use Rattle.std.proofs.lemmas.List.Folds.{list_any-append}
use Rattle.std.proofs.lemmas.Str.Parse.{digit_from_value}

digits_text : (ds : List ℕ) → AllDigits 10 ds → IsText ds
digits_text [] h = refl
digits_text (c ∷ cs) h = let digit = digit_from_value c h.0 in grind (arith, digit, digits_text cs h.1)

decimal_text : (n : ℕ) → n < 2 ^ 64 → IsText (decimal n)
decimal_text n small = digits_text (decimal n) (decimal_is_IsNumeral n small).0.1

append_text : (s t : List ℕ) → IsText s → IsText t → IsText (s ++ t)
append_text s t first second = rw (list_any-append, first, second)

pub numbered_text : (word : List ℕ) (n : ℕ) (text : List ℕ) → IsText word → n < 2 ^ 64 → text ≡ numbered_word word n → IsText text
numbered_text word n text is small same = subst IsText (sym same) (append_text word (decimal n) is (decimal_text n small))

pub version_text : (i m : ℕ) (text : List ℕ) → i < 2 ^ 64 → m < 2 ^ 64 → text ≡ version i m → IsText text
version_text i m text small_i small_m same =
    subst IsText (sym same)
    (append_text (decimal m ++ codes ".") (decimal (i % 10)) (append_text (decimal m) (codes ".") (decimal_text m small_m) refl)
    (decimal_text (i % 10) (omega arith)))
