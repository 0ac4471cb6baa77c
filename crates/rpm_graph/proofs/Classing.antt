-- The rows of classes, one more place at a time, and that each end is lower.
use Rattle.std.proofs.Common.{◌≡◌, ℕ, ◌+◌, ◌<◌, ◌⊎◌, List, [], length, get_or, inl, inr, sym, subst, ◌∙◌, arith}
use Rattle.std.proofs.lemmas.Bool.{cases_lt}
use Rattle.std.proofs.lemmas.List.{get_or_default}
use Rattle.rpm_graph.proofs.Vocabulary.{AreFalling, GainEnds, IsEdge, HaveEnds, IsSplit}

module _ (rows : List (List ℕ)) (classes : List ℕ) (k : ℕ) (before after : List (List ℕ)) (have : HaveEnds rows classes k before)
    (gain : GainEnds classes (get_or classes k 0) (get_or rows k []) (length (get_or rows k [])) before after) where
  abbrev row : List ℕ
  row = get_or rows k []

  there_then : (v w : ℕ) → v < k + 1 → IsEdge rows v w → (get_or classes w 0 ≡ get_or classes v 0) ⊎ IsEdge after (get_or classes v 0) (get_or classes w 0)
  there_then v w lt goes = elim (cases_lt v k) [
    | inl less ↦ elim (have.there v w less goes) [
      | inl own ↦ inl own
      | inr old ↦ inr (gain.keeps (get_or classes v 0) (get_or classes w 0) old)
    ]
    | inr end ↦
        let here : v ≡ k = omega (arith, lt, end) in
        let at : IsEdge rows k w = subst (λ x. IsEdge rows x w) here goes in
        let is : get_or row at.0 0 ≡ w = get_or_default row at.0 0 w at.1 ∙ at.2 in
        let found : (get_or classes w 0 ≡ get_or classes k 0) ⊎ IsEdge after (get_or classes k 0) (get_or classes w 0)
        = subst (λ x. (get_or classes x 0 ≡ get_or classes k 0) ⊎ IsEdge after (get_or classes k 0) (get_or classes x 0)) is (gain.there at.0 at.1) in
        subst (λ x. (get_or classes w 0 ≡ get_or classes x 0) ⊎ IsEdge after (get_or classes x 0) (get_or classes w 0)) (sym here) found
  ]

  back_then : (c d : ℕ) → IsEdge after c d
      → (v : ℕ) × (w : ℕ) × (v < k + 1) × IsEdge rows v w × (get_or classes v 0 ≡ c) × (get_or classes w 0 ≡ d) × (d ≡ c → ⊥)
  back_then c d goes = elim (gain.only c d goes) [
    | inl old ↦ let was = have.back c d old in (was.0, was.1, omega (arith, was.2), was.3, was.4, was.5, was.6)
    | inr new ↦
        let i = new.1.0 in
        let lt : i < length row = new.1.1 in
        (k, get_or row i 0, omega arith, (i, lt, get_or_default row i (get_or row i 0) 0 lt), sym new.0, new.1.2, λ same. new.2 (same ∙ new.0))
  ]

  pub ends_row : HaveEnds rows classes (k + 1) after
  ends_row = record { there = there_then; back = back_then }

pub ends_fall : (rows : List (List ℕ)) (classes : List ℕ) (count : ℕ) (ends : List (List ℕ)) → IsSplit rows classes count
    → HaveEnds rows classes (length rows) ends → AreFalling ends
ends_fall rows classes count ends split have c d goes =
    let at = have.back c d goes in
    let down = split.falls at.0 at.1 at.2 at.3 in
    elim (cases_lt d c) [
      | inl less ↦ less
      | inr behind ↦ absurd (at.6 (omega (arith, behind, down, at.4, at.5)))
    ]
