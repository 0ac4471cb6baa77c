-- The runs of what is provided under a name.
use Rattle.std.proofs.Common.{◌≡◌, ℕ, ◌+◌, ◌<◌, ◌≤◌, ◌==◌, ◌||◌, List, [], ◌∷◌, ◌++◌, suc, length, get_or, take, map, Bool, true, false, cond, Option, Some, None, refl, sym, ap, ◌∙◌, subst, arith}
use Rattle.std.specs.Prelude.{◌&&◌, is_some}
use Rattle.std.specs.List.{All, AllWithin, list_any}
use Rattle.std.specs.List.Sorted.{IsPartitionedBy}
use Rattle.std.specs.Ordering.{ordering_index}
use Rattle.std.specs.declared.cmp.Ordering.TheVariants.{Equal, Greater, Less}
use Rattle.std.proofs.lemmas.Bool.{and_parts, eq-eqb, eqb-true}
use Rattle.std.proofs.lemmas.List.{get_or-take, length-take-le}
use Rattle.std.proofs.lemmas.List.Elements.{All-cons}
use Rattle.std.proofs.lemmas.List.Folds.{list_any-append, list_any_none}
use Rattle.rpm_version.specs.Evr.{evr, evr_order, EvrParts}
use Rattle.rpm_version.specs.Range.{equal_but_release, is_open, overlaps, share_sense}
use Rattle.rpm_version.specs.laws.Senses.{has_equal, has_greater, has_less, ranges_meet}
use Rattle.rpm_check.specs.inner.Kinds.{offer_kind}
use Rattle.rpm_check.proofs.Vocabulary.{is_of_standing, is_hit, is_in, IsRunOf, IsSorted, Offer, offer_order, Ordering, range_in}
use Rattle.rpm_check.proofs.Ranking.{kinds_rise, says_same, SaysSame, stands_up, versions_up}

-- ---- what decides whether a range overlaps

but_release : (f g : ℕ) (r s : Option (List ℕ)) (flags : ℕ) (t : Option (List ℕ)) → has_equal f ≡ has_equal g → is_some r ≡ is_some s
    → equal_but_release f r flags t ≡ equal_but_release g s flags t
unfolding equal_but_release
but_release f g (Some a) (Some b) flags (Some c) equal same = refl
but_release f g (Some a) (Some b) flags None equal same = refl
but_release f g (Some a) None flags t equal same = absurd cc
but_release f g None (Some b) flags t equal same = absurd cc
but_release f g None None flags (Some c) equal same = equal
but_release f g None None flags None equal same = refl

module _ (a b : Offer) (says : SaysSame a b) (flags : ℕ) (version : List ℕ) where
  shared : share_sense a.flags flags ≡ share_sense b.flags flags
  unfolding share_sense
  shared = λ i. (says.equal i && has_equal flags) || (says.less i && has_less flags) || (says.greater i && has_greater flags)

  met_alike : (o : Ordering) → ranges_meet o a.flags (evr a.version.items) flags (evr version) ≡ ranges_meet o b.flags (evr b.version.items) flags (evr version)
  met_alike Less = λ i. says.greater i || has_less flags
  met_alike Greater = λ i. says.less i || has_greater flags
  met_alike Equal = λ i. shared i
      || but_release a.flags b.flags (evr a.version.items).release (evr b.version.items).release flags (evr version).release says.equal says.released i

  hit_alike : evr_order (evr a.version.items) (evr version) ≡ evr_order (evr b.version.items) (evr version)
      → is_hit flags version (range_in a) ≡ is_hit flags version (range_in b)
  unfolding overlaps
  hit_alike same =
      ap (λ (o : Ordering). is_open a.flags a.version.items || is_open flags version || ranges_meet o a.flags (evr a.version.items) flags (evr version)) same
      ∙ (λ i. says.any i || is_open flags version || met_alike (evr_order (evr b.version.items) (evr version)) i)

-- ---- those that are alike stand together

same_order : (o p : Ordering) → ordering_index o ≡ ordering_index p → o ≡ p
same_order Less Less is = refl
same_order Less Equal is = absurd (omega (arith, is))
same_order Less Greater is = absurd (omega (arith, is))
same_order Equal Less is = absurd (omega (arith, is))
same_order Equal Equal is = refl
same_order Equal Greater is = absurd (omega (arith, is))
same_order Greater Less is = absurd (omega (arith, is))
same_order Greater Equal is = absurd (omega (arith, is))
same_order Greater Greater is = refl

both_made : (a b : Bool) → a ≡ true → b ≡ true → (a && b) ≡ true
both_made true b is also = also
both_made false b is also = absurd cc

module _ (x : Offer) (xs : List Offer) where
  -- those that are alike to the first come before the others
  pub alike_parted : (n : EvrParts) → IsSorted offer_order (x ∷ xs) → IsPartitionedBy (is_of_standing (offer_kind x) (evr_order (evr x.version.items) n) n) xs
  alike_parted n sorted i j d le lt is =
      let a = get_or xs i d in
      let b = get_or xs j d in
      let index : Offer → ℕ = λ o. ordering_index (evr_order (evr o.version.items) n) in
      let there = and_parts (offer_kind b == offer_kind x) (index b == index x) is in
      let kind_b : offer_kind b ≡ offer_kind x = eqb-true (offer_kind b) (offer_kind x) there.0 in
      let index_b : index b ≡ index x = eqb-true (index b) (index x) there.1 in
      let above : offer_kind x ≤ offer_kind a = kinds_rise (x ∷ xs) sorted 0 (suc i) d (omega arith) (omega (arith, le, lt)) in
      let below : offer_kind a ≤ offer_kind b = kinds_rise (x ∷ xs) sorted (suc i) (suc j) d (omega (arith, le)) (omega (arith, lt)) in
      let kind_a : offer_kind a ≡ offer_kind x = omega (arith, above, below, kind_b) in
      let low : index x ≤ index a = versions_up x a n (sym kind_a) (stands_up (x ∷ xs) sorted 0 (suc i) d (omega arith) (omega (arith, le, lt))) in
      let high : index a ≤ index b =
      versions_up a b n (kind_a ∙ sym kind_b) (stands_up (x ∷ xs) sorted (suc i) (suc j) d (omega (arith, le)) (omega (arith, lt))) in
      let index_a : index a ≡ index x = omega (arith, low, high, index_b) in
      both_made (offer_kind a == offer_kind x) (index a == index x) (eq-eqb (offer_kind a) (offer_kind x) kind_a) (eq-eqb (index a) (index x) index_a)

  -- and are a run
  pub alike_run : (flags : ℕ) (version : List ℕ) (n : ℕ) → n ≤ length xs
      → AllWithin (λ o. is_of_standing (offer_kind x) (evr_order (evr x.version.items) (evr version)) (evr version) o ≡ true) xs 0 n
      → IsRunOf flags version (take (1 + n) (x ∷ xs))
  alike_run flags version n within alike =
      let front : 1 + n ≡ suc n = omega arith in
      rw front (λ k d lt.
      (let less : k < n = omega (arith, lt, length-take-le n xs within) in
      let o = get_or xs k d in
      let index : Offer → ℕ = λ q. ordering_index (evr_order (evr q.version.items) (evr version)) in
      let there = and_parts (offer_kind o == offer_kind x) (index o == index x) (alike k d (omega arith) less) in
      rw (get_or-take n xs k d less) (hit_alike o x (says_same o x (eqb-true (offer_kind o) (offer_kind x) there.0)) flags version
      (same_order _ _ (eqb-true (index o) (index x) there.1)))))

-- ---- the first of a run speaks for all of it

and_nothing : (b : Bool) → false ≡ (b && false)
and_nothing true = refl
and_nothing false = refl

both_or : (a b c : Bool) → ((a && b) || (b && c)) ≡ (b && (a || c))
both_or true true c = refl
both_or false true c = refl
both_or true false c = refl
both_or false false c = refl

kept_in : (n : ℕ) (b : Bool) (ns : List ℕ) → is_in n (cond b ns []) ≡ (b && is_in n ns)
kept_in n true ns = refl
kept_in n false ns = refl

module _ (flags : ℕ) (version : List ℕ) where
  abbrev is_one : Offer → Bool
  is_one o = is_hit flags version (range_in o)

  any_alike : (b : Bool) (os : List Offer) → All (λ p. is_one p ≡ b) os → b ≡ (b || list_any is_one os)
  any_alike true os alike = refl
  any_alike false os alike = sym (list_any_none is_one os alike)

  pub first_decides : (run : List Offer) (first : Offer) → 0 < length run → first ≡ get_or run 0 first → IsRunOf flags version run
      → is_one first ≡ list_any is_one run
  first_decides [] first some is run = absurd (omega (arith, some))
  first_decides (o ∷ os) first some is run = ap is_one is ∙ any_alike (is_one o) os run

  numbers_alike : (n : ℕ) (b : Bool) (os : List Offer) → All (λ p. is_one p ≡ b) os
      → list_any (λ o. (o.number == n) && is_one o) os ≡ (b && is_in n (map (λ o. o.number) os))
  numbers_alike n b [] alike = and_nothing b
  numbers_alike n b (o ∷ os) alike =
      (λ i. ((o.number == n) && alike 0 o (omega arith) i) || numbers_alike n b os (λ k d lt. alike (suc k) d (omega (arith, lt))) i)
      ∙ both_or (o.number == n) b (is_in n (map (λ p. p.number) os))

  run_numbers : (n : ℕ) (run : List Offer) (b : Bool) → IsRunOf flags version run → b ≡ list_any is_one run
      → list_any (λ o. (o.number == n) && is_one o) run ≡ (b && is_in n (map (λ o. o.number) run))
  run_numbers n [] b run is = and_nothing b
  run_numbers n (o ∷ os) b run is =
      let same : b ≡ is_one o = is ∙ sym (any_alike (is_one o) os run) in
      subst (λ (a : Bool). list_any (λ p. (p.number == n) && is_one p) (o ∷ os) ≡ (a && is_in n (map (λ p. p.number) (o ∷ os)))) (sym same)
      (numbers_alike n (is_one o) (o ∷ os) (All-cons (λ p. is_one p ≡ is_one o) o os refl run))

  -- the numbers of a run that hits are among those that are found
  pub run_pushed : (run : List Offer) (b : Bool) (old new : List ℕ) → IsRunOf flags version run → b ≡ list_any is_one run
      → new ≡ old ++ cond b (map (λ o. o.number) run) [] → (n : ℕ) → is_in n new ≡ (is_in n old || list_any (λ o. (o.number == n) && is_one o) run)
  run_pushed run b old new is_run is added n =
      let numbers = map (λ (o : Offer). o.number) run in
      ap (is_in n) added ∙ list_any-append (λ m. m == n) old (cond b numbers [])
      ∙ ap (λ (a : Bool). is_in n old || a) (kept_in n b numbers ∙ sym (run_numbers n run b is_run is))
