-- One more number in the list of its class, and one more end in the row of a class.
use Rattle.std.proofs.Common.{◌≡◌, ℕ, ◌+◌, ◌<◌, ◌++◌, ◌⊎◌, List, [], ◌∷◌, length, get_or, inl, inr, sym, ap, subst, ◌∙◌, arith}
use Rattle.rpm_graph.proofs.Vocabulary.{Contains, GainEnds, IsEdge, HaveMembers, IsNumberRising, with_link}
use Rattle.std.proofs.lemmas.Bool.{cases_lt, cases_eq}
use Rattle.std.proofs.lemmas.List.{length-set}
use Rattle.std.proofs.lemmas.List.Elements.{Contains-get_or}
use Rattle.rpm_graph.proofs.Pushes.{IsRising-push}
use Rattle.rpm_graph.proofs.Rowing.{goes_new, goes_kept, goes_only, row_here, row_other}

module _ (numbers classes : List ℕ) (rises : IsNumberRising numbers) (k : ℕ) (members : List (List ℕ)) (have : HaveMembers numbers classes k members)
    (k_in : k < length numbers) (class_in : get_or classes k 0 < length members) where
  there_then : (v : ℕ) → v < k + 1
      → Contains (get_or (with_link members (get_or classes k 0) (get_or numbers k 0)) (get_or classes v 0) []) (get_or numbers v 0)
  there_then v lt = elim (cases_lt v k) [
    | inl less ↦ goes_kept members (get_or classes k 0) (get_or numbers k 0) class_in (get_or classes v 0) (get_or numbers v 0) (have.there v less)
    | inr end ↦ let here : k ≡ v = omega arith in
        subst (λ x. Contains (get_or (with_link members (get_or classes k 0) (get_or numbers k 0)) (get_or classes x 0) []) (get_or numbers x 0)) here
        (goes_new members (get_or classes k 0) (get_or numbers k 0) class_in)
  ]

  rises_then : (c : ℕ) → IsNumberRising (get_or (with_link members (get_or classes k 0) (get_or numbers k 0)) c [])
  rises_then c = elim (cases_eq c (get_or classes k 0)) [
    | inl is ↦ subst (λ x. IsNumberRising (get_or (with_link members (get_or classes k 0) (get_or numbers k 0)) x [])) (sym is)
        (subst IsNumberRising (sym (row_here members (get_or classes k 0) (get_or numbers k 0) class_in))
        (IsRising-push (get_or members (get_or classes k 0) []) (get_or numbers k 0) (have.rises (get_or classes k 0))
        (λ i d lt.
        let n = get_or (get_or members (get_or classes k 0) []) i d in
        let at = have.only (get_or classes k 0) n (Contains-get_or (get_or members (get_or classes k 0) []) i d lt) in
        omega (arith, rises at.0 k at.1 k_in, at.3))))
    | inr differs ↦ subst IsNumberRising (sym (row_other members (get_or classes k 0) (get_or numbers k 0) class_in c differs)) (have.rises c)
  ]

  pub members_more : HaveMembers numbers classes (k + 1) (with_link members (get_or classes k 0) (get_or numbers k 0))
  members_more = record {
    there = there_then;
    only = λ c n has. elim (goes_only members (get_or classes k 0) (get_or numbers k 0) class_in c n has) [
      | inl old ↦ let was = have.only c n old in (was.0, omega (arith, was.1), was.2, was.3)
      | inr is ↦ (k, omega arith, sym is.0, sym is.1)
    ];
    rises = rises_then;
  }

module _ (classes : List ℕ) (class : ℕ) (row : List ℕ) (k : ℕ) (before after : List (List ℕ)) (gain : GainEnds classes class row k before after) where
  more_only : (c d : ℕ) → IsEdge after c d → IsEdge before c d
      ⊎ ((c ≡ class) × ((i : ℕ) × (i < k + 1) × (get_or classes (get_or row i 0) 0 ≡ d)) × (d ≡ class → ⊥))
  more_only c d goes = elim (gain.only c d goes) [
    | inl old ↦ inl old
    | inr is ↦ inr (is.0, (is.1.0, omega (arith, is.1.1), is.1.2), is.2)
  ]

  -- an end in the class itself adds nothing
  pub ends_skip : get_or classes (get_or row k 0) 0 ≡ class → GainEnds classes class row (k + 1) before after
  ends_skip is = record {
    sized = gain.sized;
    keeps = gain.keeps;
    there = λ i lt. elim (cases_lt i k) [
      | inl less ↦ gain.there i less
      | inr end ↦ let here : i ≡ k = omega arith in inl (ap (λ j. get_or classes (get_or row j 0) 0) here ∙ is)
    ];
    only = more_only;
  }

  -- another one does
  pub ends_more : class < length before → (d : ℕ) → get_or classes (get_or row k 0) 0 ≡ d → (d ≡ class → ⊥)
      → GainEnds classes class row (k + 1) before (with_link after class d)
  ends_more inside d is differs =
      let lt : class < length after = omega (arith, inside, gain.sized) in
      record {
        sized = length-set after class (get_or after class [] ++ d ∷ []) ∙ gain.sized;
        keeps = λ c e goes. goes_kept after class d lt c e (gain.keeps c e goes);
        there = λ i less. elim (cases_lt i k) [
          | inl sooner ↦ elim (gain.there i sooner) [
            | inl own ↦ inl own
            | inr goes ↦ inr (goes_kept after class d lt class (get_or classes (get_or row i 0) 0) goes)
          ]
          | inr end ↦ let here : k ≡ i = omega arith in
              inr (subst (λ j. IsEdge (with_link after class d) class (get_or classes (get_or row j 0) 0)) here
              (subst (λ e. IsEdge (with_link after class d) class e) (sym is) (goes_new after class d lt)))
        ];
        only = λ c e goes. elim (goes_only after class d lt c e goes) [
          | inl old ↦ more_only c e old
          | inr new ↦ inr (new.0, (k, omega arith, is ∙ sym new.1), λ own. differs (sym new.1 ∙ own))
        ];
      }
