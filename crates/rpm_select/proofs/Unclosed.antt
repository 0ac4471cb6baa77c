-- The part of a glob in which no set ends.
use Rattle.std.proofs.Common.{◌≡◌, ◌≢◌, ℕ, suc, ◌+◌, ◌-◌, ◌<◌, ◌≤◌, List, [], ◌∷◌, length, take, drop, get_or, false, ◌==◌, refl, sym, ap, ◌∙◌, subst, arith}
use Rattle.rpm_select.proofs.Vocabulary.{is_close, IsUnclosed, position_or_len}
use Rattle.std.proofs.lemmas.Bool.Decides.{nat_tests}
use Rattle.std.proofs.lemmas.List.{get_or-drop, length-drop}
use Rattle.rpm_select.proofs.Members.{rest_is}

-- what follows so many bytes
unclosed_drop : (unclosed n : ℕ) (xs : List ℕ) → IsUnclosed unclosed xs → IsUnclosed unclosed (drop n xs)
unclosed_drop unclosed n xs is = record {
  none = λ k below last.
      let size = length-drop n xs in
      subst (λ (b : ℕ). b ≢ 93) (sym (get_or-drop n xs k 0)) (is.none (n + k) (omega (arith, size)) (omega (arith, size)));
}

pub unclosed_behind : (unclosed n : ℕ) (xs : List ℕ) → IsUnclosed unclosed xs → IsUnclosed unclosed (take (length xs - n) (drop n xs))
unclosed_behind unclosed n xs is = subst (IsUnclosed unclosed) (sym (rest_is n xs)) (unclosed_drop unclosed n xs is)

no_close : (xs : List ℕ) → ((k : ℕ) → k < length xs → get_or xs k 0 ≢ 93) → position_or_len is_close xs ≡ length xs
no_close [] none = refl
no_close (x ∷ xs) none =
    let first = none 0 (omega arith) in
    let other : (x == 93) ≡ false = grind (arith, nat_tests) in
    let one_more : 1 + length xs ≡ suc (length xs) = omega arith in
    rw other (ap (λ (n : ℕ). 1 + n) (no_close xs (λ k below. none (suc k) (omega arith))) ∙ one_more)

pub none_close : (unclosed : ℕ) (xs : List ℕ) → IsUnclosed unclosed xs → length xs ≤ unclosed → position_or_len is_close xs ≡ length xs
none_close unclosed xs is within = no_close xs (λ k below. is.none k below (omega arith))
