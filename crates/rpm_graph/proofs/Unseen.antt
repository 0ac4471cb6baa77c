-- What a place that is entered takes from the sum over those that were not.
use Rattle.std.proofs.Common.{◌≡◌, ℕ, ◌+◌, ◌<◌, List, [], ◌∷◌, zero, suc, length, get_or, set, refl, ap, arith}
use Rattle.rpm_graph.proofs.Vocabulary.{unseen}

pub unseen-set : (f : ℕ → ℕ) (ranks : List ℕ) (v x : ℕ) → v < length ranks → get_or ranks v 0 ≡ 0 → 0 < x → unseen f (set ranks v x) + f v ≡ unseen f ranks
unseen-set f [] v x lt is some = absurd (omega arith)
unseen-set f (zero ∷ ranks) zero zero lt is some = absurd (omega arith)
unseen-set f (zero ∷ ranks) zero (suc x) lt is some = omega arith
unseen-set f (suc rank ∷ ranks) zero x lt is some = absurd (omega arith)
unseen-set f (zero ∷ ranks) (suc v) x lt is some =
    let again = unseen-set (λ i. f (suc i)) ranks v x (omega arith) is some in omega (arith, again)
unseen-set f (suc rank ∷ ranks) (suc v) x lt is some =
    let again = unseen-set (λ i. f (suc i)) ranks v x (omega arith) is some in omega (arith, again)

-- two lists with zeros at the same places have the same sum
pub unseen-same : (f : ℕ → ℕ) (xs ys : List ℕ) → length xs ≡ length ys → ((v : ℕ) → v < length xs → get_or xs v 0 ≡ 0 → get_or ys v 0 ≡ 0)
    → ((v : ℕ) → v < length xs → get_or ys v 0 ≡ 0 → get_or xs v 0 ≡ 0) → unseen f xs ≡ unseen f ys
unseen-same f [] [] long there back = refl
unseen-same f [] (y ∷ ys) long there back = absurd (omega arith)
unseen-same f (x ∷ xs) [] long there back = absurd (omega arith)
unseen-same f (zero ∷ xs) (zero ∷ ys) long there back =
    ap (λ n. f 0 + n) (unseen-same (λ i. f (suc i)) xs ys (omega arith) (λ v lt. there (suc v) (omega arith)) (λ v lt. back (suc v) (omega arith)))
unseen-same f (zero ∷ xs) (suc y ∷ ys) long there back = let no = there 0 (omega arith) refl in absurd (omega (arith, no))
unseen-same f (suc x ∷ xs) (zero ∷ ys) long there back = let no = back 0 (omega arith) refl in absurd (omega (arith, no))
unseen-same f (suc x ∷ xs) (suc y ∷ ys) long there back =
    unseen-same (λ i. f (suc i)) xs ys (omega arith) (λ v lt. there (suc v) (omega arith)) (λ v lt. back (suc v) (omega arith))
