-- The unit that seals an index.
use Rattle.std.proofs.Common.{◌≡◌, ℕ, ◌^◌, ◌<◌, List, true, ap, ◌∙◌, arith}
use Rattle.std.proofs.lemmas.Bool.{and_from, eq-eqb, cond-true}
use Rattle.rpm_hindex.proofs.Vocabulary.{is_current, is_headed, is_in_order, is_ordered, index_magic, seal_unit, sealed_generation, word, word_0, word_1, word_2, word_3}

pub headed : (g buckets : ℕ) → is_headed (seal_unit g buckets) ≡ true
headed g buckets =
    and_from _ _ (eq-eqb _ index_magic (word_0 index_magic 2 g buckets (omega arith))) (eq-eqb _ 2 (word_1 index_magic 2 g buckets (omega arith)))

pub current : (g buckets units : ℕ) (second : List ℕ) → g < 2 ^ 32 → buckets < 2 ^ 32 → is_ordered buckets second units ≡ true → is_current g
    (record { first = seal_unit g buckets; second = second; units = units; pending = 0 }) ≡ true
unfolding is_current is_in_order
current g buckets units second glt blt ordered =
    let h = headed g buckets in
    let s : sealed_generation (seal_unit g buckets) ≡ g = cond-true (is_headed (seal_unit g buckets)) (word 2 (seal_unit g buckets)) 0 h
    ∙ word_2 index_magic 2 g buckets glt in
    and_from _ _ (eq-eqb _ g s) (and_from _ _ h (ap (λ (n : ℕ). is_ordered n second units) (word_3 index_magic 2 g buckets blt) ∙ ordered))
