-- Keys of a set that are put in and taken out, by `Contains`.
use Rattle.std.proofs.Common.{◌≡◌, ℕ, ◌≤◌, ◌<◌, ◌⊎◌, Bool, true, false, cond, List, ◌∷◌, zero, suc, inl, inr, refl, sym, ap, ◌∙◌, arith}
use Rattle.rpm_graph.proofs.Vocabulary.{BTreeSet, Contains, contains, Equal, Greater, is_at, IsTotalOrder, Less, nat_cmp, nat_cmp_total, on_total, Ordering}
use Rattle.rpm_graph.proofs.Vocabulary.{ordering_then, then_total, Updates}
use Rattle.std.proofs.lemmas.Bool.{cases_Bool}
use Rattle.std.proofs.lemmas.Cmp.{ranked, tied_itself}
use Rattle.std.proofs.lemmas.Map.Lookups.{CmpEqualImpliesEq, exact_pairs, exact_unsigned}
use Rattle.std.proofs.lemmas.Map.Views.{btree_set_contains_iff, tells_apart}

always : (b : Bool) → cond b true true ≡ true
always true = refl
always false = refl

module _ {K : Type 0} {R : K → K → Ordering} (o : IsTotalOrder R) (exact : CmpEqualImpliesEq R) (s n : BTreeSet K) (key : K) (up : Updates R s n key true) where
  pub insert_kept : (q : K) → Contains s.keys q → Contains n.keys q
  insert_kept q has =
      let was : contains R s q ≡ true = (btree_set_contains_iff o exact s q).1 has in
      (btree_set_contains_iff o exact n q).0 (up.0 q ∙ ap (λ b. cond (is_at (R key) q) true b) was ∙ always (is_at (R key) q))

  pub insert_only : (q : K) → Contains n.keys q → Contains s.keys q ⊎ (q ≡ key)
  insert_only q has =
      let now : contains R n q ≡ true = (btree_set_contains_iff o exact n q).1 has in
      elim (cases_Bool (is_at (R key) q)) [
        | inl same ↦ inr (sym (tells_apart exact key q same))
        | inr apart ↦ inl ((btree_set_contains_iff o exact s q).0 (sym (up.2 q apart) ∙ now))
      ]

  pub insert_there : Contains n.keys key
  insert_there = (btree_set_contains_iff o exact n key).0 up.1

pub first_or_rest : {K : Type 0} (k : K) (ks : List K) (q : K) → Contains (k ∷ ks) q → (k ≡ q) ⊎ Contains ks q
first_or_rest k ks q (zero, lt, is) = inl is
first_or_rest k ks q (suc i, lt, is) = inr (i, omega (arith, lt), is)

pub rest_of : {K : Type 0} (k : K) (ks : List K) (q : K) → Contains ks q → Contains (k ∷ ks) q
rest_of k ks q (i, lt, is) = (suc i, omega (arith, lt), is)

-- the order of a number with the number of a class after it
abbrev pub pair_cmp : ℕ × ℕ → ℕ × ℕ → Ordering
pair_cmp a b = ordering_then (nat_cmp a.0 b.0) (nat_cmp a.1 b.1)

pub pair_total : IsTotalOrder pair_cmp
pair_total = then_total (on_total (λ (p : ℕ × ℕ). p.0) nat_cmp_total) (on_total (λ (p : ℕ × ℕ). p.1) nat_cmp_total)

pub pair_exact : CmpEqualImpliesEq pair_cmp
pair_exact = exact_pairs nat_cmp nat_cmp exact_unsigned exact_unsigned

first_le : (x y : ℕ) (o rest : Ordering) → o ≡ nat_cmp x y → ordering_then o rest ≡ Less → x ≤ y
first_le x y Less rest is less = let lt : x < y = ranked x y Less is in omega arith
first_le x y Equal rest is less = let same : x ≡ y = ranked x y Equal is in omega arith
first_le x y Greater rest is less = absurd (cc)

pub le_of_less : (a b : ℕ × ℕ) → pair_cmp a b ≡ Less → a.0 ≤ b.0
le_of_less a b less = first_le a.0 b.0 (nat_cmp a.0 b.0) (nat_cmp a.1 b.1) refl less

pub not_below_itself : (a : ℕ × ℕ) → pair_cmp a a ≡ Less → ⊥
not_below_itself a less = let tied : pair_cmp a a ≡ Equal = tied_itself pair_total a in cc
