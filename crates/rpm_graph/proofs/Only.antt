-- A graph has only one order.
use Rattle.std.proofs.Common.{◌≡◌, ℕ, zero, suc, ◌<◌, ◌≤◌, ◌++◌, List, [], ◌∷◌, length, get_or, take, inl, inr, refl, sym, ap, ◌∙◌, subst, arith}
use Rattle.rpm_graph.proofs.Vocabulary.{Contains, IsClass, IsNextClass, IsOrder, IsNumberRising, least, Lists, Network}
use Rattle.std.proofs.Math.Seq.{take-suc}
use Rattle.std.proofs.lemmas.Bool.{cases_lt}
use Rattle.std.proofs.lemmas.List.{ext_get_or, get_or_default, take_all}
use Rattle.rpm_graph.proofs.Orderly.{le_of_rising}

-- ---- rising numbers are told by which numbers they are

module _ (xs ys : List ℕ) (rises : IsNumberRising xs) (rising : IsNumberRising ys) (inside : (n : ℕ) → Contains xs n → Contains ys n) where
  reach : (k i : ℕ) → k ≤ i → i < length ys → get_or ys i 0 ≡ get_or xs k 0 → (k < length ys) × (get_or ys k 0 ≤ get_or xs k 0)
  reach k i le lt is = (omega (arith, le, lt), omega (arith, le_of_rising ys rising k i le lt, is))

  place : (k : ℕ) → k < length xs → (i : ℕ) × (i < length ys) × (get_or ys i 0 ≡ get_or xs k 0)
  place k lt =
      let at = inside (get_or xs k 0) (k, lt, get_or_default xs k (get_or xs k 0) 0 lt) in
      (at.0, at.1, get_or_default ys at.0 0 (get_or xs k 0) at.1 ∙ at.2)

  -- what has more numbers is no higher at any place
  no_higher : (k : ℕ) → k < length xs → (k < length ys) × (get_or ys k 0 ≤ get_or xs k 0)
  no_higher zero lt =
      let at = place 0 lt in
      reach 0 at.0 (omega arith) at.1 at.2
  no_higher (suc j) lt =
      let at = place (suc j) lt in
      let before = no_higher j (omega (arith, lt)) in
      let more = rises j (suc j) (omega arith) lt in
      elim (cases_lt j at.0) [
        | inl less ↦ reach (suc j) at.0 (omega (arith, less)) at.1 at.2
        | inr back ↦ (let low = le_of_rising ys rising at.0 j (omega (arith, back)) before.0 in absurd (omega (arith, low, at.2, before.1, more)))
      ]

  no_shorter : length xs ≤ length ys
  no_shorter = elim (cases_lt (length ys) (length xs)) [
    | inl less ↦ (let at = no_higher (length ys) less in absurd (omega (arith, at.0)))
    | inr enough ↦ omega (arith, enough)
  ]

same_rising : (xs ys : List ℕ) → IsNumberRising xs → IsNumberRising ys → ((n : ℕ) → Contains xs n → Contains ys n)
    → ((n : ℕ) → Contains ys n → Contains xs n) → xs ≡ ys
same_rising xs ys rises rising there back =
    let long = no_shorter xs ys rises rising there in
    let short = no_shorter ys xs rising rises back in
    ext_get_or 0 xs ys (omega (arith, long, short)) (λ i lt.
    let low = no_higher xs ys rises rising there i lt in
    let high = no_higher ys xs rising rises back i low.0 in
    omega (arith, low.1, high.1))

-- ---- the classes one after the other

module _ (g : Network) where
  has_least : (class : List ℕ) → IsClass g class → Contains class (least class)
  has_least class is = (0, is.some, get_or_default class 0 (least class) 0 is.some)

  same_next : (listed : List (List ℕ)) (a b : List ℕ) → IsNextClass g listed a → IsNextClass g listed b → a ≡ b
  same_next listed a b first second =
      let of_a = first.available.is_class in
      let of_b = second.available.is_class in
      let n = least a in
      let same : n ≡ least b = omega (arith, first.first b second.available, second.first a first.available) in
      let in_a = has_least a of_a in
      let in_b = subst (λ x. Contains b x) (sym same) (has_least b of_b) in
      same_rising a b of_a.rises of_b.rises (λ m is. (of_b.whole n m in_b).1 ((of_a.whole n m in_a).0 is))
      (λ m is. (of_a.whole n m in_a).1 ((of_b.whole n m in_b).0 is))

  -- an order is no front of a longer one
  not_longer : (xs ys : List (List ℕ)) → IsOrder g xs → IsOrder g ys → (k : ℕ) → length xs ≤ k → k < length ys → take k xs ≡ take k ys → ⊥
  not_longer xs ys first second k over lt same =
      let next = (second.each k lt).available in
      let class = get_or ys k [] in
      let has = has_least class next.is_class in
      let lists = first.all (least class) ((next.is_class.whole (least class) (least class) has).0 has).0 in
      next.unlisted (least class) has (subst (λ l. Lists l (least class)) (sym (take_all k xs over) ∙ same) lists)

  same_front : (xs ys : List (List ℕ)) → IsOrder g xs → IsOrder g ys → (k : ℕ) → k ≤ length xs → (k ≤ length ys) × (take k xs ≡ take k ys)
  same_front xs ys first second zero le = (omega arith, refl)
  same_front xs ys first second (suc k) le =
      let before = same_front xs ys first second k (omega (arith, le)) in
      let lt : k < length xs = omega (arith, le) in
      elim (cases_lt k (length ys)) [
        | inl less ↦
            (let next = subst (λ l. IsNextClass g l (get_or xs k [])) before.1 (first.each k lt) in
            let class = same_next (take k ys) (get_or xs k []) (get_or ys k []) next (second.each k less) in (
              omega (arith, less),
              take-suc xs k [] lt ∙ ap (λ l. l ++ get_or xs k [] ∷ []) before.1 ∙ ap (λ c. take k ys ++ c ∷ []) class ∙ sym (take-suc ys k [] less),
            ))
        | inr short ↦ absurd (not_longer ys xs second first k (omega (arith, short)) lt (sym before.1))
      ]

  pub only_order : (xs ys : List (List ℕ)) → IsOrder g xs → IsOrder g ys → ys ≡ xs
  only_order xs ys first second =
      let less = same_front xs ys first second (length xs) (omega arith) in
      let more = same_front ys xs second first (length ys) (omega arith) in
      sym (take_all (length xs) ys (omega (arith, more.0))) ∙ sym less.1 ∙ take_all (length xs) xs (omega arith)
