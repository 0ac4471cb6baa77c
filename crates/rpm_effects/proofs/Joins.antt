-- Pieces of a text, one after the other.
use Rattle.std.proofs.Common.{◌≡◌, ℕ, ◌+◌, ◌<◌, List, ◌++◌, length, get_or, map, drop, ap, ◌∙◌, sym, add-one, drop-cons}
use Rattle.rpm_effects.proofs.Vocabulary.{concat}

pub concat_at : {A : Type 0} (f : A → List ℕ) (xs : List A) (i : ℕ) (d : A) → i < length xs → concat (map f (drop i xs)) ≡ f (get_or xs i d)
    ++ concat (map f (drop (i + 1) xs))
concat_at f xs i d below =
    ap (λ ys. concat (map f ys)) (drop-cons xs i d below) ∙ ap (λ (k : ℕ). f (get_or xs i d) ++ concat (map f (drop k xs))) (sym (add-one i))
