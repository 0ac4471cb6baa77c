-- What follows of a list from its being the order.
use Rattle.std.proofs.Common.{◌≡◌, ℕ, ◌<◌, List, [], get_or, take, inl, inr, sym, subst, arith}
use Rattle.rpm_graph.proofs.Vocabulary.{Contains, EdgesGoBack, IsOrder, Lists, Network, StandOnce, StandsAt}
use Rattle.std.proofs.lemmas.Bool.{cases_lt}
use Rattle.std.proofs.lemmas.List.{get_or-take, length-take-le}

module _ (g : Network) (classes : List (List ℕ)) (order : IsOrder g classes) where
  -- a class holds no number of an earlier one
  not_before : (n i j : ℕ) → i < j → StandsAt classes n i → StandsAt classes n j → ⊥
  not_before n i j less first second =
      let listed : Lists (take j classes) n
      = (
        i,
        omega (arith, less, length-take-le j classes (omega (arith, second.0))),
        subst (λ l. Contains l n) (sym (get_or-take j classes i [] less)) first.1,
      ) in
      (order.each j second.0).available.unlisted n second.1 listed

  stands_one : (n i j : ℕ) → StandsAt classes n i → StandsAt classes n j → j ≡ i
  stands_one n i j first second = elim (cases_lt i j) [
    | inl less ↦ absurd (not_before n i j less first second)
    | inr behind ↦ elim (cases_lt j i) [
      | inl less ↦ absurd (not_before n j i less second first)
      | inr same ↦ omega (arith, behind, same)
    ]
  ]

  pub stand_once : StandOnce g classes
  stand_once n has =
      let at = order.all n has in
      (at.0, (at.1, at.2), λ j there. stands_one n at.0 j (at.1, at.2) there)

  pub edges_go_back : EdgesGoBack g classes
  edges_go_back n m k j edge first second = elim ((order.each k first.0).available.ends n m first.1 edge) [
    | inl own ↦ let same = stands_one m k j (first.0, own) second in omega (arith, same)
    | inr before ↦
        let less : before.0 < k = omega (arith, before.1, length-take-le k classes (omega (arith, first.0))) in
        let there : Contains (get_or classes before.0 []) m = subst (λ l. Contains l m) (get_or-take k classes before.0 [] less) before.2 in
        let same = stands_one m before.0 j (omega (arith, less, first.0), there) second in
        omega (arith, same, less)
  ]
