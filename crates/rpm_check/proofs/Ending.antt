-- Where the edges from one package end.
use Rattle.std.proofs.Common.{◌≡◌, ℕ, ◌==◌, List, [], ◌∷◌, map, Bool, true, false, not, ◌||◌, Option, Some, None, refl, sym, ap, ◌∙◌}
use Rattle.std.specs.Prelude.{◌&&◌, filter}
use Rattle.rpm_check.proofs.Vocabulary.{Bad, edge, edges_from, flat_map, givers, Good, good_numbers, is_edge, is_edge_between, is_end, is_good, is_good_at}
use Rattle.rpm_check.proofs.Vocabulary.{is_in, IsStrictlyIncreasing, list_any, package_meets, nat_cmp, Need, needs_at, needs_of, Package, Rises, rises}
use Rattle.rpm_check.proofs.Vocabulary.{same_members}
use Rattle.std.specs.FinMap as finite
use Rattle.std.proofs.lemmas.List.Folds.{list_any-append}
use Rattle.rpm_check.proofs.Members.{in_filter, rises_filter}
use Rattle.rpm_check.proofs.Numbering.{holds_at, in_numbers, numbers_rise}
use Rattle.rpm_check.proofs.Picking.{list_any_same}

-- ---- tests

both_false : (a x b : Bool) → ((a && false) && x) ≡ (b && false)
both_false true x true = refl
both_false true x false = refl
both_false false x true = refl
both_false false x false = refl

and_false : (a : Bool) → (a && false) ≡ false
and_false true = refl
and_false false = refl

and_turned : (a x : Bool) → ((a && true) && x) ≡ ((a && x) && true)
and_turned true true = refl
and_turned true false = refl
and_turned false x = refl

-- an end is another package that can be read and meets a requirement
agree : (n m : ℕ) (o p : Option Package)
    → ((not (n == m) && is_good_at p) && list_any (λ need. holds_at (package_meets need) m p) (needs_at o))
    ≡ (is_edge_between n o m p && is_good_at p)
agree n m o None = both_false (not (n == m)) (list_any (λ need. false) (needs_at o)) (is_edge_between n o m None)
agree n m None (Some p) = and_false (not (n == m) && is_good p)
agree n m (Some o) (Some Bad) =
    both_false (not (n == m)) (list_any (λ need. false) (needs_at (Some o))) (is_edge_between n (Some o) m (Some Bad))
agree n m (Some o) (Some (Good bytes)) = and_turned (not (n == m)) (list_any (λ need. package_meets need (m, Good bytes)) (needs_at (Some o)))

no_edge : (n m : ℕ) (o p : Option Package) → is_good_at o ≡ false → is_edge_between n o m p ≡ false
no_edge n m None None bad = refl
no_edge n m None (Some p) bad = refl
no_edge n m (Some (Good bytes)) p bad = absurd cc
no_edge n m (Some Bad) None bad = refl
no_edge n m (Some Bad) (Some p) bad = and_false (not (n == m))

never : (needs : List Need) → list_any (λ need. false) needs ≡ false
never [] = refl
never (need ∷ needs) = never needs

no_end : (n m : ℕ) (o p : Option Package) → is_good_at p ≡ false → is_edge_between n o m p ≡ false
no_end n m None None bad = refl
no_end n m None (Some p) bad = refl
no_end n m (Some o) None bad = refl
no_end n m (Some o) (Some (Good bytes)) bad = absurd cc
no_end n m (Some o) (Some Bad) bad = ap (λ (b : Bool). not (n == m) && b) (never (needs_of o)) ∙ and_false (not (n == m))

good_at : (m : ℕ) (o : Option Package) → holds_at (λ e. is_good e.1) m o ≡ is_good_at o
good_at m None = refl
good_at m (Some p) = refl

filter_none : (p : ℕ → Bool) (xs : List ℕ) → ((x : ℕ) → p x ≡ false) → filter p xs ≡ []
filter_none p [] none = refl
filter_none p (x ∷ xs) none = rw (none x) (filter_none p xs none)

-- ---- which numbers they are

in_flat : {X : Type 0} (m : ℕ) (f : X → List ℕ) (xs : List X) → is_in m (flat_map f xs) ≡ list_any (λ x. is_in m (f x)) xs
in_flat m f [] = refl
in_flat m f (x ∷ xs) = list_any-append (λ k. k == m) (f x) (flat_map f xs) ∙ ap (λ (b : Bool). is_in m (f x) || b) (in_flat m f xs)

module _ (all : finite.FinMap nat_cmp Package) where
  giver_in : (m : ℕ) (need : Need) → is_in m (givers all need) ≡ holds_at (package_meets need) m (finite.get all m)
  unfolding givers
  giver_in m need =
      in_numbers (package_meets need) m (finite.entries all) (finite.entries_sorted all) ∙ ap (holds_at (package_meets need) m) (sym (finite.get-entries all m))

  pub good_in : (m : ℕ) → is_in m (good_numbers all) ≡ is_good_at (finite.get all m)
  unfolding good_numbers
  good_in m =
      in_numbers (λ e. is_good e.1) m (finite.entries all) (finite.entries_sorted all)
      ∙ good_at m (finite.find nat_cmp m (finite.entries all)) ∙ ap is_good_at (sym (finite.get-entries all m))

  goods_rise : Rises (good_numbers all)
  unfolding good_numbers
  goods_rise = numbers_rise (λ e. is_good e.1) (finite.entries all) (finite.entries_sorted all)

  end_in : (m : ℕ) (needs : List Need)
      → is_in m (flat_map (givers all) needs) ≡ list_any (λ need. holds_at (package_meets need) m (finite.get all m)) needs
  end_in m needs =
      in_flat m (givers all) needs
      ∙ list_any_same (λ need. is_in m (givers all need)) (λ need. holds_at (package_meets need) m (finite.get all m)) (giver_in m) needs

  same_end : (n m : ℕ) (ends : List ℕ) → is_in m ends ≡ is_in m (flat_map (givers all) (needs_at (finite.get all n)))
      → (is_end (good_numbers all) n m && is_in m ends) ≡ (is_edge all n m && is_in m (good_numbers all))
  unfolding is_edge
  same_end n m ends same =
      (λ i. (not (n == m) && good_in m i) && (same ∙ end_in m (needs_at (finite.get all n))) i)
      ∙ agree n m (finite.get all n) (finite.get all m)
      ∙ ap (λ (b : Bool). is_edge_between n (finite.get all n) m (finite.get all m) && b) (sym (good_in m))

  -- rising ends of a package, where they are those that its requirements give
  pub same_ends : (n : ℕ) (numbers ends : List ℕ) → numbers ≡ good_numbers all → IsStrictlyIncreasing ends
      → ((m : ℕ) → is_in m ends ≡ is_in m (flat_map (givers all) (needs_at (finite.get all n))))
      → map (edge n) (filter (is_end numbers n) ends) ≡ edges_from all n
  same_ends n numbers ends are rising same =
      let good = good_numbers all in
      ap (λ (ns : List ℕ). map (edge n) (filter (is_end ns n) ends)) are
      ∙ ap (map (edge n)) (same_members (filter (is_end good n) ends) (filter (is_edge all n) good)
      (rises_filter (is_end good n) ends (rises ends rising)) (rises_filter (is_edge all n) good goods_rise)
      (λ m. in_filter (is_end good n) m ends ∙ same_end n m ends (same m) ∙ sym (in_filter (is_edge all n) m good)))

  pub edgeless : (n m : ℕ) → is_in n (good_numbers all) ≡ false → is_edge all n m ≡ false
  unfolding is_edge
  edgeless n m bad = no_edge n m (finite.get all n) (finite.get all m) (sym (good_in n) ∙ bad)

  pub endless : (n m : ℕ) → is_in m (good_numbers all) ≡ false → is_edge all n m ≡ false
  unfolding is_edge
  endless n m bad = no_end n m (finite.get all n) (finite.get all m) (sym (good_in m) ∙ bad)

  -- none from a package that can't be read
  pub no_edges : (n : ℕ) (numbers : List ℕ) → numbers ≡ good_numbers all → is_in n numbers ≡ false → edges_from all n ≡ []
  no_edges n numbers are bad =
      ap (map (edge n)) (filter_none (is_edge all n) (good_numbers all) (λ m. edgeless n m (sym (ap (is_in n) are) ∙ bad)))
