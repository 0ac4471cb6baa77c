-- The names of capabilities are capabilities.
use Rattle.std.proofs.Common.{◌≡◌, ℕ, ◌+◌, ◌<◌, zero, suc, List, [], ◌∷◌, ◌++◌, Result, Ok, Err, refl, sym, subst, arith}
use Rattle.std.specs.Prelude.{codes, IfOk}
use Rattle.std.proofs.lemmas.Fmt.{decimal_digit}
use Rattle.rpm_exercise.proofs.Vocabulary.{capability, capability_named, numbered_word, words}

digit_named : (c : ℕ) → c < 7 → capability (codes "cap" ++ (48 + c) ∷ []) ≡ Ok (capability_named (codes "cap" ++ (48 + c) ∷ []))
unfolding capability words
digit_named zero few = refl
digit_named (suc zero) few = refl
digit_named (suc (suc zero)) few = refl
digit_named (suc (suc (suc zero))) few = refl
digit_named (suc (suc (suc (suc zero)))) few = refl
digit_named (suc (suc (suc (suc (suc zero))))) few = refl
digit_named (suc (suc (suc (suc (suc (suc zero)))))) few = refl
digit_named (suc (suc (suc (suc (suc (suc (suc c))))))) few = absurd (omega arith)

pub cap_named : (c : ℕ) (name : List ℕ) → c < 7 → name ≡ numbered_word (codes "cap") c → capability name ≡ Ok (capability_named name)
cap_named c name few is =
    subst (λ (t : List ℕ). capability t ≡ Ok (capability_named t)) (sym is)
    (subst (λ (digits : List ℕ). capability (codes "cap" ++ digits) ≡ Ok (capability_named (codes "cap" ++ digits))) (sym (decimal_digit c (omega arith)))
    (digit_named c few))

pub all_named : {X E : Type 0} (bytes : X → List ℕ) (c : ℕ) (r : Result X E) → c < 7 → IfOk r (λ x. bytes x ≡ numbered_word (codes "cap") c)
    → IfOk r (λ x. capability (bytes x) ≡ Ok (capability_named (bytes x)))
all_named bytes c (Ok x) few is = cap_named c (bytes x) few is
all_named bytes c (Err e) few is = tt
